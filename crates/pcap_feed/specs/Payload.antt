-- The UDP datagram in a captured Ethernet frame. Numbers in a frame are big endian; checksums are
-- not checked.
-- Standard: RFC 894 (Ethernet), IEEE 802.1Q (the tag 0x8100), RFC 791 section 3.1 (IPv4), RFC 768
-- (UDP).
use Rattle.std.specs.Prelude.{ℕ, ◌+◌, ◌-◌, ◌*◌, ◌/◌, ◌%◌, Bool, false, not, ◌==◌, nat_lt, List}
use Rattle.std.specs.Prelude.{length, take, drop, slice_index, Option, None, Some, if◌then◌else◌}
use Rattle.byteorder.specs.Endian.{big_number}
use Rattle.pcap_feed.specs.Capture.{Packet}

-- the number in the n bytes from a place
abbrev pub big_at : ℕ → ℕ → List ℕ → ℕ
big_at n at bytes = big_number n (drop at bytes)

-- a port was given, and this is another one
abbrev pub is_other : Option ℕ → ℕ → Bool
is_other None port = false
is_other (Some wanted) port = not (port == wanted)

-- the place and the length of the bytes behind the header of a UDP datagram, which stands at a
-- place
unfoldable pub in_udp : Option ℕ → ℕ → List ℕ → Option (ℕ × ℕ)
in_udp port at udp =
    let size = big_at 2 4 udp in
    if nat_lt (length udp) 8 then None
    else if nat_lt size 8 then None
    else if nat_lt (length udp) size then None
    else if is_other port (big_at 2 2 udp) then None
    else Some (at + 8, size - 8)

-- likewise for what follows the frame's type: an IPv4 packet that is no fragment and holds a UDP
-- datagram
unfoldable pub in_ip : Option ℕ → ℕ → List ℕ → Option (ℕ × ℕ)
in_ip port at ip =
    let header = 4 * (slice_index ip 0 % 16) in
    let total = big_at 2 2 ip in
    if nat_lt (length ip) 20 then None
    else if not (slice_index ip 0 / 16 == 4) then None
    else if nat_lt header 20 then None
    else if nat_lt total header then None
    else if nat_lt (length ip) total then None
    else if not (big_at 2 6 ip % 0x4000 == 0) then None
    else if not (slice_index ip 9 == 17) then None
    else in_udp port (at + header) (take (total - header) (drop header ip))

-- the place of a frame's type: behind the tag, where there is one
abbrev pub type_place : List ℕ → ℕ
type_place frame = if big_at 2 12 frame == 0x8100 then 16 else 12

unfoldable pub in_frame : Option ℕ → List ℕ → Option (ℕ × ℕ)
in_frame port frame =
    let at = type_place frame in
    if nat_lt (length frame) 14 then None
    else if nat_lt (length frame) (at + 2) then None
    else if not (big_at 2 at frame == 0x0800) then None
    else in_ip port (at + 2) (drop (at + 2) frame)

-- none where the frame was cut off by the capture
unfoldable pub payload : Packet → Option ℕ → Option (ℕ × ℕ)
payload packet port =
    if nat_lt (length packet.bytes) packet.original then None else in_frame port packet.bytes
