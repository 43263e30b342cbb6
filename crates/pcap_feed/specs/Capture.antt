-- Classic capture files: a header of 24 bytes, and records.
-- Standard: "PCAP Capture File Format" (IETF draft-ietf-opsawg-pcap), sections 4 "File Header" and
-- 5 "Packet Record".
use Rattle.std.specs.Prelude.{ℕ, ◌+◌, ◌-◌, ◌%◌, Bool, true, false, ◌||◌, ◌==◌, nat_lt, List, []}
use Rattle.std.specs.Prelude.{◌∷◌, length, take, drop, Option, None, Some, Result, Ok, Err}
use Rattle.std.specs.Prelude.{if◌then◌else◌}
use Rattle.byteorder.specs.Endian.{little_number, big_number}
use Rattle.unit_packets.specs.Causes.{counted}
use Rattle.pcap_feed.specs.Stream.{Front, items_within, left_over}
use Rattle.pcap_feed.specs.declared.fault.ByteOrder.{ByteOrder}
use Rattle.pcap_feed.specs.declared.fault.ByteOrder.TheVariants.{Little, Big}
use Rattle.pcap_feed.specs.declared.fault.CaptureError.{CaptureError}
use Rattle.pcap_feed.specs.declared.fault.CaptureError.TheVariants.{Truncated, BadMagic, BadVersion}
use Rattle.pcap_feed.specs.declared.fault.CaptureError.TheVariants.{BadLink, LongRecord}
use Rattle.pcap_feed.specs.declared.fault.CaptureFault.{CaptureFault}

-- what a record says
pub record Packet : Type 0 where
  pub seconds : ℕ
  pub fraction : ℕ
  pub original : ℕ
  pub bytes : List ℕ

-- the number in the n bytes from a place, in the file's byte order
abbrev pub number_in : ByteOrder → ℕ → ℕ → List ℕ → ℕ
number_in Little n at bytes = little_number n (drop at bytes)
number_in Big n at bytes = big_number n (drop at bytes)

-- the magic of a file with microseconds, or with nanoseconds
abbrev pub is_magic : ℕ → Bool
is_magic n = n == 0xa1b2c3d4 || n == 0xa1b23c4d

-- the byte order in which the first four bytes are a magic
abbrev pub order_named : List ℕ → Option ByteOrder
order_named bytes = if is_magic (little_number 4 bytes)
    then Some Little else if is_magic (big_number 4 bytes) then Some Big else None

-- ---- Judgements
abbrev pub judge_named : List ℕ → Option ByteOrder → Result ByteOrder CaptureError
judge_named bytes None = Err (BadMagic (take 4 bytes))
judge_named bytes (Some order) =
    let major = number_in order 2 4 bytes in
    let link = number_in order 4 20 bytes % 65536 in
    if major == 2 then (if link == 1 then Ok order else Err (BadLink link))
    else Err (BadVersion major)

-- the byte order that the file's header tells, or the first fault
unfoldable pub judge_head : List ℕ → Result ByteOrder CaptureError
judge_head bytes = if nat_lt (length bytes) 24
    then Err (Truncated (length bytes) 24) else judge_named bytes (order_named bytes)

-- how many bytes the record at the front has captured, or the first fault
unfoldable pub judge_record : ByteOrder → List ℕ → Result ℕ CaptureError
judge_record order bytes =
    let captured = number_in order 4 8 bytes in
    if nat_lt (length bytes) 16 then Err (Truncated (length bytes) 16)
    else if nat_lt 262144 captured then Err (LongRecord captured)
    else if nat_lt (length bytes) (16 + captured)
    then Err (Truncated (length bytes) (16 + captured))
    else Ok captured

-- the packet of a record that has captured so many bytes
abbrev pub packet_at : ByteOrder → ℕ → List ℕ → Packet
packet_at order captured bytes = record {
  seconds = number_in order 4 0 bytes;
  fraction = number_in order 4 4 bytes;
  original = number_in order 4 12 bytes;
  bytes = take captured (drop 16 bytes);
}

abbrev pub front_on : ByteOrder → List ℕ → Result ℕ CaptureError → Result (Packet × ℕ) CaptureError
front_on order bytes (Ok captured) = Ok (packet_at order captured bytes, 16 + captured)
front_on order bytes (Err e) = Err e

-- the packet of the record at the front, with the record's size, or the first fault
unfoldable pub front_of : ByteOrder → Front Packet CaptureError
front_of order bytes = front_on order bytes (judge_record order bytes)

-- ---- A file, or what of it has come. Where its header's byte order is not told yet, the header
-- comes first
abbrev pub ordered : Option ByteOrder → List ℕ → Result ByteOrder CaptureError
ordered None bytes = judge_head bytes
ordered (Some order) bytes = Ok order

-- where the records begin
abbrev pub begin_of : Option ByteOrder → ℕ
begin_of None = 24
begin_of (Some order) = 0

abbrev pub packets_on : List ℕ → Result ByteOrder CaptureError → List Packet
packets_on bytes (Ok order) = items_within (front_of order) bytes
packets_on bytes (Err e) = []

-- the records, longest list
unfoldable pub packets_from : Option ByteOrder → List ℕ → List Packet
packets_from told bytes = packets_on (drop (begin_of told) bytes) (ordered told bytes)

abbrev pub left_on : List ℕ → List ℕ → Result ByteOrder CaptureError → List ℕ
left_on bytes behind (Ok order) = left_over (front_of order) behind
left_on bytes behind (Err e) = bytes

-- what follows them
unfoldable pub left_from : Option ByteOrder → List ℕ → List ℕ
left_from told bytes = left_on bytes (drop (begin_of told) bytes) (ordered told bytes)

abbrev pub order_told_on : Result ByteOrder CaptureError → Option ByteOrder
order_told_on (Ok order) = Some order
order_told_on (Err e) = None

-- the byte order that is told by then
unfoldable pub order_told_from : Option ByteOrder → List ℕ → Option ByteOrder
order_told_from told bytes = order_told_on (ordered told bytes)

-- ---- The whole file
abbrev pub packets_of : List ℕ → List Packet
packets_of bytes = packets_from None bytes

abbrev pub left_of : List ℕ → List ℕ
left_of bytes = left_from None bytes

abbrev pub order_told : List ℕ → Option ByteOrder
order_told bytes = order_told_from None bytes

-- the place of the rest; it is 0 where the header is faulty
abbrev pub capture_place : List ℕ → ℕ
capture_place bytes = length bytes - length (left_of bytes)

-- ---- Faults
-- more bytes may mend it
abbrev pub is_cut_off : CaptureError → Bool
is_cut_off (Truncated has needs) = true
is_cut_off (BadMagic magic) = false
is_cut_off (BadVersion major) = false
is_cut_off (BadLink link) = false
is_cut_off (LongRecord length) = false

abbrev pub error_in : {A : Type 0} → Result A CaptureError → Option CaptureError
error_in (Ok found) = None
error_in (Err e) = Some e

-- what is wrong with a rest: a file has a header, and then no further record is needed
abbrev pub left_error : Option ByteOrder → List ℕ → Option CaptureError
left_error None rest = error_in (judge_head rest)
left_error (Some order) [] = None
left_error (Some order) (byte ∷ rest) = error_in (judge_record order (byte ∷ rest))

-- bytes that are missing are a fault only where the file has ended
abbrev pub capture_fault_from : Bool → ℕ → Option CaptureError → Option CaptureFault
capture_fault_from ended place None = None
capture_fault_from ended place (Some e) =
    if is_cut_off e then (if ended then Some (record { place = place; error = e }) else None)
    else Some (record { place = place; error = e })

-- the fault of the bytes so far, which more bytes do not mend
abbrev pub capture_fault : List ℕ → Option CaptureFault
capture_fault bytes = capture_fault_from false
    (counted (capture_place bytes)) (left_error (order_told bytes) (left_of bytes))

-- the fault of a file that ends here
abbrev pub capture_end_fault : List ℕ → Option CaptureFault
capture_end_fault bytes =
    capture_fault_from true (counted (capture_place bytes))
    (left_error (order_told bytes) (left_of bytes))
