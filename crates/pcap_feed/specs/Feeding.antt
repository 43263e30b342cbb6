-- A capture file that is fed in pieces.
use Rattle.std.specs.Prelude.{◌≡◌, ℕ, ◌+◌, ◌≤◌, Bool, List, [], ◌++◌, length, drop, Option}
use Rattle.std.specs.Prelude.{None, Some, Result, Ok, Err}
use Rattle.std.specs.List.{concat}
use Rattle.unit_packets.specs.Causes.{counted}
use Rattle.unit_packets.specs.Pieces.{FeedsEach}
use Rattle.pcap_feed.specs.Stream.{items_within, left_over}
use Rattle.pcap_feed.specs.Capture.{Packet, judge_head, judge_record, front_of, packets_from}
use Rattle.pcap_feed.specs.Capture.{left_from, order_told_from, packets_of, left_of, order_told}
use Rattle.pcap_feed.specs.Capture.{capture_place, capture_fault_from, capture_fault, left_error}
use Rattle.pcap_feed.specs.declared.fault.ByteOrder.{ByteOrder}
use Rattle.pcap_feed.specs.declared.fault.CaptureError.{CaptureError}
use Rattle.pcap_feed.specs.declared.fault.CaptureFault.{CaptureFault}
use Rattle.pcap_feed.specs.declared.fault.CaptureFeedError.{CaptureFeedError}
use Rattle.pcap_feed.specs.declared.fault.CaptureFeedError.TheVariants.{Fault, OutOfMemory}

-- what a reader knows: the byte order once it is told, the place and the bytes that are not behind,
-- and the fault if there was one
pub record Capturing : Type 0 where
  pub told : Option ByteOrder
  pub place : ℕ
  pub rest : List ℕ
  pub fault : Option CaptureFault

-- nothing was fed yet
abbrev pub unfed : Capturing
unfed = record { told = None; place = 0; rest = []; fault = None }

pub record GoesOn (reading : Capturing) (fed : List ℕ) : Type 0 where
  pub told_is : reading.told ≡ order_told fed
  pub place_is : reading.place ≡ counted (capture_place fed)
  pub rest_is : reading.rest ≡ left_of fed

-- the reader keeps the fault of the bytes that were fed; where there is none it is behind their
-- whole records, and keeps what follows
pub record HoldsCapture (reading : Capturing) (fed : List ℕ) : Type 0 where
  pub fault_is : reading.fault ≡ capture_fault fed
  pub goes_on : reading.fault ≡ None → GoesOn reading fed

-- ---- For who reads records where they stand
-- one more piece of the file is there
abbrev pub more_loaded : Capturing → List ℕ → Capturing
more_loaded reading piece =
    record {
      told = reading.told;
      place = reading.place;
      rest = reading.rest ++ piece;
      fault = reading.fault;
    }

-- the first n bytes of the rest are behind
abbrev pub put_behind : Capturing → ℕ → Capturing
put_behind reading n = record {
  told = reading.told;
  place = counted (reading.place + n);
  rest = drop n reading.rest;
  fault = reading.fault;
}

-- the header is behind, where it stood there
abbrev pub headed : Capturing → Result ByteOrder CaptureError → Capturing
headed reading (Ok order) =
    record {
      told = Some order;
      place = counted (reading.place + 24);
      rest = drop 24 reading.rest;
      fault = reading.fault;
    }
headed reading (Err e) = reading

abbrev pub past_head_by : Capturing → Option ByteOrder → Capturing
past_head_by reading None = headed reading (judge_head reading.rest)
past_head_by reading (Some order) = reading

-- the header is behind, if it was not before
abbrev pub past_head : Capturing → Capturing
past_head reading = past_head_by reading reading.told

-- ---- Pieces
-- what feeding answers, and what ending does
abbrev pub capture_answer : Option CaptureFault → Result (Unit {0}) CaptureFeedError
capture_answer None = Ok tt
capture_answer (Some fault) = Err (Fault fault)

abbrev pub capture_end_answer : Option CaptureFault → Result (Unit {0}) CaptureFault
capture_end_answer None = Ok tt
capture_end_answer (Some fault) = Err fault

-- the fault of what a reader knows: the one that it keeps, or that of its rest, where bytes that
-- are missing are a fault only if the file has ended
abbrev pub held_fault_on : Bool → Capturing → Option CaptureFault → Option CaptureFault
held_fault_on ended reading None =
    capture_fault_from ended reading.place (left_error reading.told reading.rest)
held_fault_on ended reading (Some fault) = Some fault

abbrev pub held_fault : Bool → Capturing → Option CaptureFault
held_fault ended reading = held_fault_on ended reading reading.fault

-- one piece more was fed: the reader stands for all bytes, the records that became whole were put
-- out, and the answer is the fault of all bytes
pub record FeedsCapture (fed piece : List ℕ) (new : Capturing)
    (before after : List Packet) (answer : Result (Unit {0}) CaptureFeedError) : Type 0 where
  pub stands : HoldsCapture new (fed ++ piece)
  pub added : List Packet
  pub given : after ≡ before ++ added
  pub packets : packets_of (fed ++ piece) ≡ packets_of fed ++ added
  pub fault : answer ≡ capture_answer (capture_fault (fed ++ piece))

-- unless there was no memory
abbrev pub WithRoomFor : Result (Unit {0}) CaptureFeedError → Type 0 → Type 0
WithRoomFor (Ok done) P = P
WithRoomFor (Err (Fault fault)) P = P
WithRoomFor (Err OutOfMemory) P = Unit {0}

-- a fault that was kept is answered again, and nothing else happens
abbrev pub IsFaultRepeated : Option CaptureFault
    → Result (Unit {0}) CaptureFeedError → Type 0 → Type 0
IsFaultRepeated None answer P = Unit {0}
IsFaultRepeated (Some fault) answer P = (answer ≡ Err (Fault fault)) × P

-- ---- A piece
-- no record, or no header, stands in what is left
abbrev pub Stops : Option ByteOrder → List ℕ → CaptureError → Type 0
Stops None rest e = judge_head rest ≡ Err e
Stops (Some order) rest e = judge_record order rest ≡ Err e

-- the records from a place on were put out up to another place, and no record stands there
pub record CutsRecords (order : ByteOrder) (bytes : List ℕ)
    (start put_behind : ℕ) (error : CaptureError) (before after : List Packet) : Type 0 where
  pub within : put_behind ≤ length bytes
  pub rest_is : left_over (front_of order) (drop start bytes) ≡ drop put_behind bytes
  pub packets : after ≡ before ++ items_within (front_of order) (drop start bytes)
  pub stop : judge_record order (drop put_behind bytes) ≡ Err error

-- likewise where the header may come first
pub record CutsCapture (told : Option ByteOrder) (bytes : List ℕ) (told_then : Option ByteOrder)
    (put_behind : ℕ) (error : CaptureError) (before after : List Packet) : Type 0 where
  pub within : put_behind ≤ length bytes
  pub told_is : told_then ≡ order_told_from told bytes
  pub left_is : left_from told bytes ≡ drop put_behind bytes
  pub packets : after ≡ before ++ packets_from told bytes
  pub stop : Stops told_then (drop put_behind bytes) error

-- ---- Laws
-- a reader of records was fed these pieces, with memory for each
abbrev pub FeedsPieces :
    List (List ℕ) → Capturing → Capturing → List Packet → List Packet → Type 0
FeedsPieces = FeedsEach (λ old piece new before after answer.
    (fed : List ℕ) → HoldsCapture old fed → FeedsCapture fed piece new before after answer)

-- what was fed in pieces is cut as all bytes in one are
abbrev pub CapturePiecesAreCut : Type 0
CapturePiecesAreCut = (pieces : List (List ℕ)) (reading : Capturing) (packets : List Packet)
    → FeedsPieces pieces unfed reading [] packets
    → (packets ≡ packets_of (concat pieces))
    × (reading.fault ≡ capture_fault (concat pieces)) × HoldsCapture reading (concat pieces)

-- so other pieces of the same bytes give the same records and the same fault
abbrev pub CapturePiecesDoNotMatter : Type 0
CapturePiecesDoNotMatter =
    (pieces others : List (List ℕ)) (reading left : Capturing) (packets some : List Packet)
    → concat pieces ≡ concat others
    → FeedsPieces pieces unfed reading [] packets
    → FeedsPieces others unfed left [] some → (packets ≡ some) × (reading.fault ≡ left.fault)
