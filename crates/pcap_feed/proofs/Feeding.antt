-- What a reader of a capture file stands for after a piece.
use Rattle.std.proofs.Common.{◌≡◌, ℕ, ◌+◌, true, false, Bool, List, [], ◌∷◌, ◌++◌, length, drop, refl, sym, ap, ◌∙◌, arith, Option, Some, None, Ok, Err, Result, length-append}
use Rattle.std.proofs.lemmas.List.{append-nil, length-drop}
use Rattle.std.specs.List.{concat}
use Rattle.unit_packets.specs.Causes.{counted}
use Rattle.unit_packets.proofs.Feeds.{FedOn, all_fed, counted_on}
use Rattle.pcap_feed.specs.Capture.{Packet, judge_head, judge_record, front_of, is_cut_off, ordered, begin_of, packets_from, left_from, order_told_from, packets_of, left_of, order_told, capture_place, error_in, left_error, capture_fault_from, capture_fault, capture_end_fault}
use Rattle.pcap_feed.specs.layers.Lent.{StandsAtFront}
use Rattle.pcap_feed.specs.Feeding.{CutsRecords, CutsCapture, Stops, Capturing, unfed, HoldsCapture, FeedsCapture, FeedsPieces, CapturePiecesAreCut, CapturePiecesDoNotMatter, WithRoomFor, GoesOn, capture_answer, held_fault_on, held_fault}
use Rattle.pcap_feed.specs.declared.fault.ByteOrder.{ByteOrder}
use Rattle.pcap_feed.specs.declared.fault.CaptureError.{CaptureError}
use Rattle.pcap_feed.specs.declared.fault.CaptureError.TheVariants.{Truncated}
use Rattle.pcap_feed.specs.declared.fault.CaptureFault.{CaptureFault}
use Rattle.pcap_feed.specs.declared.fault.CaptureFeedError.{CaptureFeedError}
use Rattle.pcap_feed.specs.declared.fault.CaptureFeedError.TheVariants.{Fault, OutOfMemory}
use Rattle.pcap_feed.proofs.Streams.{Cutting, cutting_more, none_of}
use Rattle.pcap_feed.proofs.Fronts.{front_err, records_are_fronts}
use Rattle.pcap_feed.proofs.Files.{read_of, unread_of, grows, fault_lasts, fault_ended, judge_nothing}

pub records_more : (order : ByteOrder) (bytes rest : List ℕ) (start at n : ℕ) (before so_far longer : List Packet) (packet : Packet)
    → Cutting (front_of order) bytes start at before so_far → rest ≡ drop at bytes → StandsAtFront order rest packet → n ≡ 16 + length packet.bytes → longer ≡ so_far ++ packet ∷ []
    → Cutting (front_of order) bytes start (at + n) before longer
records_more order bytes rest start at n before so_far longer packet c is stands size more =
    cutting_more is_cut_off (front_of order) (records_are_fronts order) bytes rest start at n before so_far longer packet c is (stands.front ∙ ap (λ (k : ℕ). Ok (packet, k)) (sym size)) more

pub records_end : (order : ByteOrder) (bytes rest : List ℕ) (start at : ℕ) (before so_far : List Packet) (e : CaptureError)
    → Cutting (front_of order) bytes start at before so_far → rest ≡ drop at bytes → judge_record order rest ≡ Err e → CutsRecords order bytes start at e before so_far
records_end order bytes rest start at before so_far e c is stop =
    let there : judge_record order (drop at bytes) ≡ Err e = ap (judge_record order) (sym is) ∙ stop in
    let none = none_of (front_of order) (drop at bytes) e (front_err order (drop at bytes) e there) in
    record {
      within = c.within;
      rest_is = c.rest ∙ none.rest;
      packets = c.are ∙ ap (λ (ps : List Packet). before ++ ps) (sym (append-nil c.added) ∙ ap (λ (ps : List Packet). c.added ++ ps) (sym none.items) ∙ c.items);
      stop = there;
    }

-- ---- A piece
pub piece_read : (told : Option ByteOrder) (bytes : List ℕ) (order : ByteOrder) (count : ℕ) (error : CaptureError) (before after : List Packet)
    → ordered told bytes ≡ Ok order → CutsRecords order bytes (begin_of told) count error before after → CutsCapture told bytes (Some order) count error before after
piece_read told bytes order count error before after is c =
    let r = read_of told bytes order is in
    record {
      within = c.within;
      told_is = sym r.told_is;
      left_is = r.left ∙ c.rest_is;
      packets = c.packets ∙ ap (λ (ps : List Packet). before ++ ps) (sym r.packets);
      stop = c.stop;
    }

pub piece_unread : (bytes : List ℕ) (error : CaptureError) (before : List Packet) → judge_head bytes ≡ Err error → CutsCapture None bytes None 0 error before before
piece_unread bytes error before is =
    let u = unread_of bytes error is in
    record {
      within = omega arith;
      told_is = sym u.told_is;
      left_is = u.left;
      packets = sym (append-nil before) ∙ ap (λ (ps : List Packet). before ++ ps) (sym u.packets);
      stop = is;
    }

-- ---- Standing for bytes
stops_fault : (told : Option ByteOrder) (rest : List ℕ) (e : CaptureError) (place : ℕ) → Stops told rest e → capture_fault_from false place (left_error told rest) ≡ capture_fault_from false place (Some e)
stops_fault None rest e place is = ap (λ (o : Option CaptureError). capture_fault_from false place o) (ap error_in is)
stops_fault (Some order) [] e place is =
    let same : ◌≡◌ {A = Result ℕ CaptureError} (Err (Truncated 0 16)) (Err e) = sym (judge_nothing order) ∙ is in
    let t : Truncated 0 16 ≡ e = cc in
    ap (λ (d : CaptureError). capture_fault_from false place (Some d)) t
stops_fault (Some order) (byte ∷ rest) e place is = ap (λ (o : Option CaptureError). capture_fault_from false place o) (ap error_in is)

-- a piece was cut, behind no fault
pub fed_on : (fed piece all : List ℕ) (told_then : Option ByteOrder) (count : ℕ) (error : CaptureError) (old new : Capturing) (before after : List Packet) (answer : Result (Unit {0}) CaptureFeedError)
    → HoldsCapture old fed → old.fault ≡ None → all ≡ old.rest ++ piece → CutsCapture old.told all told_then count error before after
    → new.told ≡ told_then → new.place ≡ counted (old.place + count) → new.rest ≡ drop count all → new.fault ≡ capture_fault_from false new.place (Some error) → answer ≡ capture_answer new.fault
    → FeedsCapture fed piece new before after answer
fed_on fed piece all told_then count error old new before after answer stands none are c told place rest fault gives =
    let g = grows fed piece in
    let on = stands.goes_on none in
    let bytes : left_of fed ++ piece ≡ all = ap (λ (r : List ℕ). r ++ piece) (sym on.rest_is) ∙ sym are in
    let left : left_of (fed ++ piece) ≡ drop count all = g.left ∙ ap (λ (t : Option ByteOrder). left_from t (left_of fed ++ piece)) (sym on.told_is) ∙ ap (left_from old.told) bytes ∙ c.left_is in
    let tells : order_told (fed ++ piece) ≡ told_then = g.told ∙ ap (λ (t : Option ByteOrder). order_told_from t (left_of fed ++ piece)) (sym on.told_is) ∙ ap (order_told_from old.told) bytes ∙ sym c.told_is in
    let packets : packets_of (fed ++ piece) ≡ packets_of fed ++ packets_from old.told all =
    g.packets ∙ ap (λ (t : Option ByteOrder). packets_of fed ++ packets_from t (left_of fed ++ piece)) (sym on.told_is) ∙ ap (λ (b : List ℕ). packets_of fed ++ packets_from old.told b) bytes in
    let size : length all ≡ length (left_of fed) + length piece = sym (ap length bytes) ∙ length-append (left_of fed) piece in
    let further : capture_place fed + count ≡ capture_place (fed ++ piece) = omega (arith, g.short, c.within, size, ap length left, length-drop count all, length-append fed piece) in
    let here : new.place ≡ counted (capture_place (fed ++ piece)) = place ∙ ap (λ (p : ℕ). counted (p + count)) on.place_is ∙ counted_on (capture_place fed) count ∙ ap counted further in
    let faulty : new.fault ≡ capture_fault (fed ++ piece) =
    fault ∙ sym (stops_fault told_then (drop count all) error new.place c.stop)
    ∙ ap (λ (p : ℕ). capture_fault_from false p (left_error told_then (drop count all))) here
    ∙ ap (λ (t : Option ByteOrder). capture_fault_from false (counted (capture_place (fed ++ piece))) (left_error t (drop count all))) (sym tells)
    ∙ ap (λ (r : List ℕ). capture_fault_from false (counted (capture_place (fed ++ piece))) (left_error (order_told (fed ++ piece)) r)) (sym left) in
    record {
      stands = record { fault_is = faulty; goes_on = λ sound. record { told_is = told ∙ sym tells; place_is = here; rest_is = rest ∙ sym left } };
      added = packets_from old.told all;
      given = c.packets;
      packets = packets;
      fault = gives ∙ ap capture_answer faulty;
    }

none_some : (o : Option CaptureFault) (fault : CaptureFault) → o ≡ None → o ≡ Some fault → ⊥
none_some o fault a b = cc

-- behind a fault nothing becomes whole
pub fed_past : (fed piece : List ℕ) (reading : Capturing) (fault : CaptureFault) (before : List Packet) → HoldsCapture reading fed → reading.fault ≡ Some fault → FeedsCapture fed piece reading before before (Err (Fault fault))
fed_past fed piece reading fault before stands some =
    let l = fault_lasts fed piece fault (sym stands.fault_is ∙ some) in
    record {
      stands = record { fault_is = some ∙ sym l.fault_is; goes_on = λ none. absurd (none_some reading.fault fault none some) };
      added = [];
      given = sym (append-nil before);
      packets = l.packets ∙ sym (append-nil (packets_of fed));
      fault = ap capture_answer (sym l.fault_is);
    }

-- ---- The end
-- where no fault is kept
pub goes_on_fault : (ended : Bool) (reading : Capturing) (fed : List ℕ) → reading.fault ≡ None → GoesOn reading fed
    → held_fault ended reading ≡ capture_fault_from ended (counted (capture_place fed)) (left_error (order_told fed) (left_of fed))
goes_on_fault ended reading fed none on =
    ap (held_fault_on ended reading) none
    ∙ ap (λ (p : ℕ). capture_fault_from ended p (left_error reading.told reading.rest)) on.place_is
    ∙ ap (λ (t : Option ByteOrder). capture_fault_from ended (counted (capture_place fed)) (left_error t reading.rest)) on.told_is
    ∙ ap (λ (r : List ℕ). capture_fault_from ended (counted (capture_place fed)) (left_error (order_told fed) r)) on.rest_is

ended_by : (o : Option CaptureFault) (reading : Capturing) (fed : List ℕ) → reading.fault ≡ o → HoldsCapture reading fed → held_fault true reading ≡ capture_end_fault fed
ended_by None reading fed is stands = goes_on_fault true reading fed is (stands.goes_on is)
ended_by (Some fault) reading fed is stands =
    ap (held_fault_on true reading) is ∙ sym (fault_ended (counted (capture_place fed)) (left_error (order_told fed) (left_of fed)) fault (sym stands.fault_is ∙ is))

pub ended_is : (reading : Capturing) (fed : List ℕ) → HoldsCapture reading fed → held_fault true reading ≡ capture_end_fault fed
ended_is reading fed stands = ended_by reading.fault reading fed refl stands

pub with_memory : (answer : Result (Unit {0}) CaptureFeedError) (P : Type 0) → P → WithRoomFor answer P
with_memory (Ok done) P p = p
with_memory (Err (Fault fault)) P p = p
with_memory (Err OutOfMemory) P p = tt

-- ---- Pieces
nothing_unread : judge_head [] ≡ Err (Truncated 0 24)
unfolding judge_head
nothing_unread = refl

pub stands_unfed : HoldsCapture unfed []
stands_unfed =
    let u = unread_of [] (Truncated 0 24) nothing_unread in
    record {
      fault_is = sym (ap (λ (t : Option ByteOrder). capture_fault_from false (counted (capture_place [])) (left_error t (left_of []))) u.told_is
          ∙ ap (λ (r : List ℕ). capture_fault_from false (counted (capture_place [])) (left_error None r)) u.left
          ∙ ap (λ (r : Result ByteOrder CaptureError). capture_fault_from false (counted (capture_place [])) (error_in r)) nothing_unread);
      goes_on = λ none. record { told_is = sym u.told_is; place_is = omega (arith, ap length u.left); rest_is = sym u.left };
    }

pub no_packets : packets_of [] ≡ []
no_packets = (unread_of [] (Truncated 0 24) nothing_unread).packets

packets_fed : (pieces : List (List ℕ)) (old new : Capturing) (before after : List Packet) → HoldsCapture old [] → FeedsPieces pieces old new before after → FedOn HoldsCapture packets_of [] (concat pieces) new before after
packets_fed pieces = all_fed HoldsCapture packets_of _
    (λ old new fed piece before after answer stands feeds.
    let did = feeds fed stands in
    record { stands = did.stands; puts = λ was. did.given ∙ ap (λ (ps : List Packet). ps ++ did.added) was ∙ sym did.packets })
    pieces []

pub pieces_are_cut : CapturePiecesAreCut
pieces_are_cut pieces reading packets all =
    let a = packets_fed pieces unfed reading [] packets stands_unfed all in
    (a.puts (sym no_packets), a.stands.fault_is, a.stands)

pub pieces_do_not_matter : CapturePiecesDoNotMatter
pieces_do_not_matter pieces others reading left packets some same one other =
    let a = pieces_are_cut pieces reading packets one in
    let b = pieces_are_cut others left some other in
    (a.0 ∙ ap packets_of same ∙ sym b.0, a.1 ∙ ap capture_fault same ∙ sym b.1)
