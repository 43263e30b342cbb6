-- Packets of a capture that are printed one after another.
use Rattle.std.proofs.Common.{◌≡◌, ℕ, ◌+◌, ◌-◌, ◌*◌, ◌≤◌, ◌<◌, ◌⊎◌, inl, inr, Bool, true, false, ◌||◌, ◌==◌, cond, nat_lt, List, [], ◌∷◌, ◌++◌, length, take, drop, refl, sym, ap, ◌∙◌, subst, arith, append_assoc, Option, Some, None, Ok, Err, Result, length-append, length-drop}
use Rattle.std.specs.List.{flat_map, count_by}
use Rattle.std.proofs.lemmas.Grind.{flat_map-append}
use Rattle.std.proofs.lemmas.Bool.{cases_Bool, lt-ltb}
use Rattle.std.proofs.lemmas.List.{append-nil, drop-drop}
use Rattle.std.proofs.lemmas.List.Concat.{flat_map-cons}
use Rattle.std.proofs.lemmas.List.Sums.{sum_by_push}
use Rattle.std.proofs.Math.Bool.{or-true}
use Rattle.unit_packets.specs.Blocks.{Block}
use Rattle.unit_packets.specs.Causes.{counted}
use Rattle.unit_packets.specs.Cutting.{blocks_of, rest_of}
use Rattle.pcap_feed.specs.Capture.{Packet, is_cut_off, judge_head, judge_record, ordered, begin_of, front_of, packets_from, left_from, order_told_from}
use Rattle.pcap_feed.specs.Datagrams.{span_bytes, payloads_in, payloads_of}
use Rattle.pcap_feed.specs.Feeding.{Capturing, headed, past_head_by, past_head, put_behind}
use Rattle.pcap_feed.specs.layers.Lent.{StandsAtFront}
use Rattle.pcap_feed.specs.Payload.{payload}
use Rattle.pcap_feed.specs.Stream.{items_within, left_over}
use Rattle.pcap_feed.specs.declared.fault.ByteOrder.{ByteOrder}
use Rattle.pcap_feed.specs.declared.fault.CaptureError.{CaptureError}
use Rattle.pcap_feed.proofs.Files.{read_of, unread_of, head_final}
use Rattle.pcap_feed.proofs.Fronts.{IsFinal, front_err, records_are_fronts}
use Rattle.pcap_feed.proofs.Streams.{first_of, none_of}
use Rattle.stream_print.specs.Carriers.{blocks_in, is_faulty}
use Rattle.stream_print.specs.Counting.{IsCount, CountsMore, counts_with, use_of}
use Rattle.stream_print.specs.Printing.{PrintsBlocks, FailsBlocks, PrintsWhole, PrintsDatagrams, PrintsPackets, PrintsLoaded}
use Rattle.stream_print.specs.declared.counts.PacketCounts.{PacketCounts}
use Rattle.stream_print.specs.declared.counts.PacketUse.{PacketUse}
use Rattle.stream_print.specs.declared.counts.PacketUse.TheVariants.{PassedOver, Used, Faulty}
use Rattle.stream_print.specs.declared.failure.TaskError.{TaskError}
use Rattle.stream_print.specs.declared.packets.PacketReader.{PacketReader}
use Rattle.stream_print.specs.declared.printer.Printer.{Printer}
use Rattle.stream_print.proofs.Carriers.{blocks_append}
use Rattle.stream_print.proofs.Streaming.{prints_no_block, prints_blocks_more, fails_more}

-- ---- A datagram
pub none_printed : (p : Printer) (size : ℕ) (w : Option (List ℕ)) → PrintsDatagrams p p size [] PassedOver w w
none_printed p size w = record { prints = prints_no_block p w; use_is = refl; few = omega arith }

one_datagram : (d : List ℕ) → flat_map blocks_of (d ∷ []) ≡ blocks_of d
one_datagram d = flat_map-cons blocks_of d [] ∙ append-nil (blocks_of d)

use_is : (d : List ℕ) (b : Bool) → is_faulty d ≡ b → use_of (d ∷ []) ≡ cond b Faulty Used
use_is d b is = ap (λ (c : Bool). cond c Faulty Used) is

empty_is_faulty : (d : List ℕ) → length d ≡ 0 → is_faulty d ≡ true
empty_is_faulty d none = ap (λ (n : ℕ). n == 0 || nat_lt 0 (length (rest_of d))) none

rest_is_faulty : (d : List ℕ) → 0 < length (rest_of d) → is_faulty d ≡ true
rest_is_faulty d some = ap (λ (b : Bool). length d == 0 || b) (lt-ltb 0 (length (rest_of d)) some) ∙ or-true (length d == 0)

whole_is_sound : (d : List ℕ) → (length d == 0) ≡ false → length (rest_of d) ≡ 0 → is_faulty d ≡ false
whole_is_sound d some none = ap (λ (b : Bool). b || nat_lt 0 (length (rest_of d))) some ∙ ap (λ (n : ℕ). nat_lt 0 n) none

-- the datagram is empty, or has a rest behind its blocks
pub faulty_printed : (p p' : Printer) (d : List ℕ) (n size : ℕ) (w w' : Option (List ℕ)) → PrintsWhole p p' d n w w' → length d ≤ size → (length d ≡ 0) ⊎ (n < length d) → PrintsDatagrams p p' size (d ∷ []) Faulty w w'
faulty_printed p p' d n size w w' whole le why =
    let within = whole.within in
    let few = whole.few in
    record {
      prints = subst (PrintsBlocks p p' w w') (sym (one_datagram d)) whole.prints;
      use_is = sym (use_is d true (elim why [
        | inl none ↦ empty_is_faulty d none
        | inr more ↦ rest_is_faulty d (omega (arith, ap length whole.rest, length-drop n d, more))
      ]));
      few = omega (arith, few, within, le);
    }

-- it has blocks and nothing else
pub sound_printed : (p p' : Printer) (d : List ℕ) (n size : ℕ) (w w' : Option (List ℕ)) → PrintsWhole p p' d n w w' → length d ≤ size → (length d == 0) ≡ false → length d ≤ n → PrintsDatagrams p p' size (d ∷ []) Used w w'
sound_printed p p' d n size w w' whole le some all =
    let within = whole.within in
    let few = whole.few in
    record {
      prints = subst (PrintsBlocks p p' w w') (sym (one_datagram d)) whole.prints;
      use_is = sym (use_is d false (whole_is_sound d some (omega (arith, ap length whole.rest, length-drop n d, all))));
      few = omega (arith, few, within, le);
    }

pub datagram_fails : (p : Printer) (e : TaskError) (d : List ℕ) (w w' : Option (List ℕ)) → FailsBlocks e p w w' (blocks_of d) → FailsBlocks e p w w' (flat_map blocks_of (d ∷ []))
datagram_fails p e d w w' fails = subst (FailsBlocks e p w w') (sym (one_datagram d)) fails

-- ---- The counts
counted_more : (n m : ℕ) → n ≡ counted m → counted (n + 1) ≡ counted (m + 1)
counted_more n m is = omega (arith, is)

record CountsTo (before : List (List ℕ)) (n : ℕ) (counts : PacketCounts) : Type 0 where
  packets : counts.packets ≡ counted n
  used : counts.used ≡ counted (length before)
  faulty : counts.faulty ≡ counted (count_by is_faulty before)

faulty_more : (before : List (List ℕ)) (d : List ℕ) (b : Bool) → is_faulty d ≡ b → count_by is_faulty (before ++ d ∷ []) ≡ count_by is_faulty before + cond b 1 0
faulty_more before d b is =
    sum_by_push (λ (x : List ℕ). cond (is_faulty x) 1 0) before d ∙ ap (λ (c : Bool). count_by is_faulty before + cond c 1 0) is

count_datagram : (before : List (List ℕ)) (n : ℕ) (counts : PacketCounts) (d : List ℕ) (b : Bool) → is_faulty d ≡ b → CountsTo before n counts → CountsTo (before ++ d ∷ []) (n + 1) (counts_with (cond b Faulty Used) counts)
count_datagram before n counts d true is c =
    let used = c.used in
    let faulty = c.faulty in
    record {
      packets = counted_more counts.packets n c.packets;
      used = omega (arith, used, length-append before (d ∷ []));
      faulty = omega (arith, faulty, faulty_more before d true is);
    }
count_datagram before n counts d false is c =
    let used = c.used in
    let faulty = c.faulty in
    record {
      packets = counted_more counts.packets n c.packets;
      used = omega (arith, used, length-append before (d ∷ []));
      faulty = omega (arith, faulty, faulty_more before d false is);
    }

count_span : (bytes : List ℕ) (span : Option (ℕ × ℕ)) (before : List (List ℕ)) (n : ℕ) (counts : PacketCounts) → CountsTo before n counts
    → CountsTo (before ++ span_bytes bytes span) (n + 1) (counts_with (use_of (span_bytes bytes span)) counts)
count_span bytes None before n counts c =
    subst (λ (ds : List (List ℕ)). CountsTo ds (n + 1) (counts_with PassedOver counts)) (sym (append-nil before))
    (record { packets = counted_more counts.packets n c.packets; used = c.used; faulty = c.faulty })
count_span bytes (Some span) before n counts c =
    let d : List ℕ = take span.1 (drop span.0 bytes) in
    elim (cases_Bool (is_faulty d)) [
      | inl at ↦ subst (λ (u : PacketUse). CountsTo (before ++ d ∷ []) (n + 1) (counts_with u counts)) (sym (use_is d true at)) (count_datagram before n counts d true at c)
      | inr at ↦ subst (λ (u : PacketUse). CountsTo (before ++ d ∷ []) (n + 1) (counts_with u counts)) (sym (use_is d false at)) (count_datagram before n counts d false at c)
    ]

payloads_more : (port : Option ℕ) (packets : List Packet) (packet : Packet) → payloads_of port (packets ++ packet ∷ []) ≡ payloads_of port packets ++ payloads_in port packet
payloads_more port packets packet =
    flat_map-append (payloads_in port) packets (packet ∷ [])
    ∙ ap (λ (ds : List (List ℕ)). payloads_of port packets ++ ds) (flat_map-cons (payloads_in port) packet [] ∙ append-nil (payloads_in port packet))

-- one packet more was counted
count_packet : (port : Option ℕ) (packet : Packet) (is : PacketUse) (counts : PacketCounts) → is ≡ use_of (payloads_in port packet) → CountsMore port (packet ∷ []) counts (counts_with is counts)
count_packet port packet is counts same = λ packets count.
    let c = count_span packet.bytes (payload packet port) (payloads_of port packets) (length packets) counts (record { packets = count.packets_are; used = count.used_are; faulty = count.faulty_are }) in
    let all = payloads_more port packets packet in
    subst (λ (u : PacketUse). IsCount port (packets ++ packet ∷ []) (counts_with u counts)) (sym same) (record {
      packets_are = c.packets ∙ ap counted (sym (length-append packets (packet ∷ [])));
      used_are = c.used ∙ ap (λ (ds : List (List ℕ)). counted (length ds)) (sym all);
      faulty_are = c.faulty ∙ ap (λ (ds : List (List ℕ)). counted (count_by is_faulty ds)) (sym all);
    })

counts_then : (port : Option ℕ) (xs ys : List Packet) (a b c : PacketCounts) → CountsMore port xs a b → CountsMore port ys b c → CountsMore port (xs ++ ys) a c
counts_then port xs ys a b c one other = λ packets count.
    subst (λ (ps : List Packet). IsCount port ps c) (append_assoc packets xs ys) (other (packets ++ xs) (one packets count))

counts_none : (port : Option ℕ) (counts : PacketCounts) → CountsMore port [] counts counts
counts_none port counts = λ packets count. subst (λ (ps : List Packet). IsCount port ps counts) (sym (append-nil packets)) count

-- ---- The packets of some bytes
-- those in front of a place were printed, and the others follow from there on
pub record Passing (order : ByteOrder) (port : Option ℕ) (f f' : Printer) (counts counts' : PacketCounts) (bytes : List ℕ) (at : ℕ) (written written' : Option (List ℕ)) : Type 0 where
  pub seen : List Packet
  pub prints : PrintsBlocks f f' written written' (blocks_in port seen)
  pub counts_are : CountsMore port seen counts counts'
  pub packets : items_within (front_of order) bytes ≡ seen ++ items_within (front_of order) (drop at bytes)
  pub rest : left_over (front_of order) bytes ≡ left_over (front_of order) (drop at bytes)
  pub within : at ≤ length bytes
  pub few : 8 * f'.number ≤ 8 * f.number + at

pub passing_start : (order : ByteOrder) (port : Option ℕ) (f : Printer) (counts : PacketCounts) (bytes : List ℕ) (w : Option (List ℕ)) → Passing order port f f counts counts bytes 0 w w
passing_start order port f counts bytes w = record {
  seen = [];
  prints = prints_no_block f w;
  counts_are = counts_none port counts;
  packets = refl;
  rest = refl;
  within = omega arith;
  few = omega arith;
}

blocks_one : (port : Option ℕ) (packet : Packet) → blocks_in port (packet ∷ []) ≡ flat_map blocks_of (payloads_in port packet)
blocks_one port packet = ap (flat_map blocks_of) (flat_map-cons (payloads_in port) packet [] ∙ append-nil (payloads_in port packet))

pub passing_more : (order : ByteOrder) (port : Option ℕ) (f g h : Printer) (counts counts' counts'' : PacketCounts) (bytes rest : List ℕ) (at n : ℕ) (u v w : Option (List ℕ)) (packet : Packet) (is : PacketUse)
    → Passing order port f g counts counts' bytes at u v → rest ≡ drop at bytes → StandsAtFront order rest packet → n ≡ 16 + length packet.bytes
    → PrintsDatagrams g h (length packet.bytes) (payloads_in port packet) is v w → counts'' ≡ counts_with is counts' → Passing order port f h counts counts'' bytes (at + n) u w
passing_more order port f g h counts counts' counts'' bytes rest at n u v w packet is so_far here stands size prints counts_is =
    let first = first_of is_cut_off (front_of order) (records_are_fronts order) rest (packet, 16 + length packet.bytes) stands.front in
    let fits = (records_are_fronts order).fits rest (packet, 16 + length packet.bytes) stands.front in
    let left : drop (16 + length packet.bytes) rest ≡ drop (at + n) bytes = ap (λ (k : ℕ). drop k rest) (sym size) ∙ ap (drop n) here ∙ drop-drop n at bytes in
    let within = so_far.within in
    let few = so_far.few in
    let few' = prints.few in
    record {
      seen = so_far.seen ++ packet ∷ [];
      prints = subst (PrintsBlocks f h u w) (sym (blocks_append port so_far.seen (packet ∷ []) ∙ ap (λ (bs : List Block). blocks_in port so_far.seen ++ bs) (blocks_one port packet)))
          (prints_blocks_more f g h u v w (blocks_in port so_far.seen) (flat_map blocks_of (payloads_in port packet)) so_far.prints prints.prints);
      counts_are = subst (λ (c : PacketCounts). CountsMore port (so_far.seen ++ packet ∷ []) counts c) (sym counts_is)
          (counts_then port so_far.seen (packet ∷ []) counts counts' (counts_with is counts') so_far.counts_are (count_packet port packet is counts' prints.use_is));
      packets = so_far.packets ∙ ap (λ (l : List ℕ). so_far.seen ++ items_within (front_of order) l) (sym here)
          ∙ ap (λ (ps : List Packet). so_far.seen ++ ps) (first.items ∙ ap (λ (l : List ℕ). packet ∷ items_within (front_of order) l) left)
          ∙ sym (append_assoc so_far.seen (packet ∷ []) (items_within (front_of order) (drop (at + n) bytes)));
      rest = so_far.rest ∙ ap (left_over (front_of order)) (sym here) ∙ first.rest ∙ ap (left_over (front_of order)) left;
      within = omega (arith, within, fits.1, size, ap length here, length-drop at bytes);
      few = omega (arith, few, few', size);
    }

pub passing_end : (order : ByteOrder) (port : Option ℕ) (f g : Printer) (counts counts' : PacketCounts) (bytes rest : List ℕ) (at : ℕ) (u v : Option (List ℕ)) (e : CaptureError)
    → Passing order port f g counts counts' bytes at u v → rest ≡ drop at bytes → judge_record order rest ≡ Err e → PrintsPackets order port f g counts counts' bytes at u v
passing_end order port f g counts counts' bytes rest at u v e so_far here judged =
    let none = none_of (front_of order) (drop at bytes) e (front_err order (drop at bytes) e (ap (judge_record order) (sym here) ∙ judged)) in
    let all : items_within (front_of order) bytes ≡ so_far.seen = so_far.packets ∙ ap (λ (ps : List Packet). so_far.seen ++ ps) none.items ∙ append-nil so_far.seen in
    record {
      prints = subst (λ (ps : List Packet). PrintsBlocks f g u v (blocks_in port ps)) (sym all) so_far.prints;
      counts_are = subst (λ (ps : List Packet). CountsMore port ps counts counts') (sym all) so_far.counts_are;
      within = so_far.within;
      rest = so_far.rest ∙ none.rest;
      few = so_far.few;
    }

-- a packet lies within the bytes
pub packet_within : (order : ByteOrder) (bytes rest : List ℕ) (at : ℕ) (packet : Packet) → rest ≡ drop at bytes → StandsAtFront order rest packet → at ≤ length bytes → at + (16 + length packet.bytes) ≤ length bytes
packet_within order bytes rest at packet here stands within =
    let fits = (records_are_fronts order).fits rest (packet, 16 + length packet.bytes) stands.front in
    omega (arith, fits.1, ap length here, length-drop at bytes, within)

-- a packet that is not printed, behind others
pub passing_fails : (order : ByteOrder) (port : Option ℕ) (f g : Printer) (e : TaskError) (counts counts' : PacketCounts) (bytes rest : List ℕ) (at : ℕ) (u v w : Option (List ℕ)) (packet : Packet)
    → Passing order port f g counts counts' bytes at u v → rest ≡ drop at bytes → StandsAtFront order rest packet → FailsBlocks e g v w (flat_map blocks_of (payloads_in port packet))
    → FailsBlocks e f u w (blocks_in port (items_within (front_of order) bytes))
passing_fails order port f g e counts counts' bytes rest at u v w packet so_far here stands fails =
    let first = first_of is_cut_off (front_of order) (records_are_fronts order) rest (packet, 16 + length packet.bytes) stands.front in
    let left : List Packet = items_within (front_of order) (drop (16 + length packet.bytes) rest) in
    let all : items_within (front_of order) bytes ≡ so_far.seen ++ (packet ∷ [] ++ left) =
    so_far.packets ∙ ap (λ (l : List ℕ). so_far.seen ++ items_within (front_of order) l) (sym here) ∙ ap (λ (ps : List Packet). so_far.seen ++ ps) first.items in
    fails_more f g e u v w (blocks_in port (items_within (front_of order) bytes)) (blocks_in port so_far.seen) (flat_map blocks_of (payloads_in port packet)) (blocks_in port left)
    (ap (blocks_in port) all ∙ blocks_append port so_far.seen (packet ∷ [] ++ left)
    ∙ ap (λ (bs : List Block). blocks_in port so_far.seen ++ bs) (blocks_append port (packet ∷ []) left ∙ ap (λ (bs : List Block). bs ++ blocks_in port left) (blocks_one port packet)))
    so_far.prints fails

-- ---- Behind the header
-- the header is behind, now or from before
record Heads (r s : Capturing) (order : ByteOrder) : Type 0 where
  told : s.told ≡ Some order
  rest : s.rest ≡ drop (begin_of r.told) r.rest
  fault : s.fault ≡ r.fault
  within : begin_of r.told ≤ length r.rest
  place : (n : ℕ) → counted (s.place + n) ≡ counted (r.place + (begin_of r.told + n))

heads : (r s : Capturing) (order : ByteOrder) (told : Option ByteOrder) → r.told ≡ told → s ≡ past_head r → ordered told r.rest ≡ Ok order → Heads r s order
heads r s order None at is ok =
    let same : s ≡ record { told = Some order; place = counted (r.place + 24); rest = drop 24 r.rest; fault = r.fault } = is ∙ ap (past_head_by r) at ∙ ap (headed r) ok in
    let place = ap (λ (q : Capturing). q.place) same in
    let begin : begin_of r.told ≡ 24 = ap begin_of at in
    let long : 24 ≤ length r.rest = head_final r.rest (subst (λ x. IsFinal x) (sym ok) tt) in
    record {
      told = ap (λ (q : Capturing). q.told) same;
      rest = ap (λ (q : Capturing). q.rest) same ∙ ap (λ (n : ℕ). drop n r.rest) (sym begin);
      fault = ap (λ (q : Capturing). q.fault) same;
      within = omega (arith, begin, long);
      place = λ n. omega (arith, place, begin);
    }
heads r s order (Some o) at is ok =
    let same : s ≡ r = is ∙ ap (past_head_by r) at in
    let place = ap (λ (q : Capturing). q.place) same in
    let begin : begin_of r.told ≡ 0 = ap begin_of at in
    let one : o ≡ order = cc in
    record {
      told = ap (λ (q : Capturing). q.told) same ∙ at ∙ ap (λ (b : ByteOrder). Some b) one;
      rest = ap (λ (q : Capturing). q.rest) same ∙ ap (λ (n : ℕ). drop n r.rest) (sym begin);
      fault = ap (λ (q : Capturing). q.fault) same;
      within = omega (arith, begin);
      place = λ n. omega (arith, place, begin);
    }

-- a header that is put behind leaves no more bytes
pub head_short : (r s : Capturing) → s ≡ past_head r → length s.rest ≤ length r.rest
head_short r s is = omega (arith, ap (λ (q : Capturing). length q.rest) is, by r r.told)
  where
    on : (r : Capturing) (answer : Result ByteOrder CaptureError) → length (headed r answer).rest ≤ length r.rest
    on r (Ok order) = omega (arith, length-drop 24 r.rest)
    on r (Err e) = omega arith

    by : (r : Capturing) (told : Option ByteOrder) → length (past_head_by r told).rest ≤ length r.rest
    by r None = on r (judge_head r.rest)
    by r (Some order) = omega arith

-- the packets behind the header were printed
pub loaded_from : (p p' : Printer) (r s t : PacketReader) (order : ByteOrder) (behind : ℕ) (w w' : Option (List ℕ)) → s ≡ record r { reader = past_head r.reader } → ordered r.reader.told r.reader.rest ≡ Ok order
    → PrintsPackets order s.port p p' s.counts t.counts s.reader.rest behind w w' → t.reader ≡ put_behind s.reader behind → t.port ≡ s.port → PrintsLoaded p p' r t w w'
loaded_from p p' r s t order behind w w' is ok printed passed same =
    let h = heads r.reader s.reader order r.reader.told refl (ap (λ (q : PacketReader). q.reader) is) ok in
    let read = read_of r.reader.told r.reader.rest order ok in
    let port : s.port ≡ r.port = ap (λ (q : PacketReader). q.port) is in
    let counts : s.counts ≡ r.counts = ap (λ (q : PacketReader). q.counts) is in
    let packets : items_within (front_of order) s.reader.rest ≡ packets_from r.reader.told r.reader.rest = ap (items_within (front_of order)) h.rest ∙ sym read.packets in
    let left : t.reader.rest ≡ left_from r.reader.told r.reader.rest =
    ap (λ (q : Capturing). q.rest) passed ∙ sym printed.rest ∙ ap (left_over (front_of order)) h.rest ∙ sym read.left in
    let few = printed.few in
    let within = printed.within in
    let begin = h.within in
    let size : length t.reader.rest ≡ length s.reader.rest - behind = ap length (ap (λ (q : Capturing). q.rest) passed) ∙ length-drop behind s.reader.rest in
    let size' : length s.reader.rest ≡ length r.reader.rest - begin_of r.reader.told = ap length h.rest ∙ length-drop (begin_of r.reader.told) r.reader.rest in
    record {
      prints = subst (λ (o : Option ℕ). PrintsBlocks p p' w w' (blocks_in o (packets_from r.reader.told r.reader.rest))) port
          (subst (λ (ps : List Packet). PrintsBlocks p p' w w' (blocks_in s.port ps)) packets printed.prints);
      counts_are = subst (λ (o : Option ℕ). CountsMore o (packets_from r.reader.told r.reader.rest) r.counts t.counts) port
          (subst (λ (c : PacketCounts). CountsMore s.port (packets_from r.reader.told r.reader.rest) c t.counts) counts
          (subst (λ (ps : List Packet). CountsMore s.port ps s.counts t.counts) packets printed.counts_are));
      port = same ∙ port;
      told = ap (λ (q : Capturing). q.told) passed ∙ h.told ∙ sym read.told_is;
      rest = left;
      behind = begin_of r.reader.told + behind;
      within = omega (arith, size, size', within, begin);
      place = λ at is_at.
          let moved = ap (λ (q : Capturing). q.place) passed in
          let begun = h.place behind in
          omega (arith, moved, begun, is_at);
      fault = ap (λ (q : Capturing). q.fault) passed ∙ h.fault;
      few = omega (arith, few, size, size', within, begin);
    }

-- where no header stands there, nothing is printed
no_header : (p : Printer) (r t : PacketReader) (told : Option ByteOrder) (e : CaptureError) (w : Option (List ℕ)) → r.reader.told ≡ told → t ≡ record r { reader = past_head r.reader } → ordered told r.reader.rest ≡ Err e → PrintsLoaded p p r t w w
no_header p r t (Some o) e w at is err = let no : ◌≡◌ {A = Result ByteOrder CaptureError} (Ok o) (Err e) = err in cc
no_header p r t None e w at is err =
    let u = unread_of r.reader.rest e err in
    let same : past_head r.reader ≡ r.reader = ap (past_head_by r.reader) at ∙ ap (headed r.reader) err in
    let reader : t.reader ≡ r.reader = ap (λ (q : PacketReader). q.reader) is ∙ same in
    let packets : packets_from r.reader.told r.reader.rest ≡ [] = ap (λ (o : Option ByteOrder). packets_from o r.reader.rest) at ∙ u.packets in
    let place = ap (λ (q : Capturing). q.place) reader in
    let rest : t.reader.rest ≡ r.reader.rest = ap (λ (q : Capturing). q.rest) reader in
    record {
      prints = subst (λ (ps : List Packet). PrintsBlocks p p w w (blocks_in r.port ps)) (sym packets) (prints_no_block p w);
      counts_are = subst (λ (c : PacketCounts). CountsMore r.port (packets_from r.reader.told r.reader.rest) r.counts c) (sym (ap (λ (q : PacketReader). q.counts) is))
          (subst (λ (ps : List Packet). CountsMore r.port ps r.counts r.counts) (sym packets) (counts_none r.port r.counts));
      port = ap (λ (q : PacketReader). q.port) is;
      told = ap (λ (q : Capturing). q.told) reader ∙ at ∙ sym u.told_is ∙ ap (λ (o : Option ByteOrder). order_told_from o r.reader.rest) (sym at);
      rest = rest ∙ sym u.left ∙ ap (λ (o : Option ByteOrder). left_from o r.reader.rest) (sym at);
      behind = 0;
      within = omega (arith, ap length rest);
      place = λ at is_at. omega (arith, place, is_at);
      fault = ap (λ (q : Capturing). q.fault) reader;
      few = omega (arith, ap length rest);
    }

pub loaded_none : (p : Printer) (r t : PacketReader) (e : CaptureError) (w : Option (List ℕ)) → t ≡ record r { reader = past_head r.reader } → ordered r.reader.told r.reader.rest ≡ Err e → PrintsLoaded p p r t w w
loaded_none p r t e w is err = no_header p r t r.reader.told e w refl is err

-- packets behind the header that are not printed
pub loaded_fails : (p : Printer) (e : TaskError) (r s : PacketReader) (order : ByteOrder) (w w' : Option (List ℕ)) → s ≡ record r { reader = past_head r.reader } → ordered r.reader.told r.reader.rest ≡ Ok order
    → FailsBlocks e p w w' (blocks_in s.port (items_within (front_of order) s.reader.rest)) → FailsBlocks e p w w' (blocks_in r.port (packets_from r.reader.told r.reader.rest))
loaded_fails p e r s order w w' is ok fails =
    let h = heads r.reader s.reader order r.reader.told refl (ap (λ (q : PacketReader). q.reader) is) ok in
    let read = read_of r.reader.told r.reader.rest order ok in
    subst (λ (o : Option ℕ). FailsBlocks e p w w' (blocks_in o (packets_from r.reader.told r.reader.rest))) (ap (λ (q : PacketReader). q.port) is)
    (subst (λ (ps : List Packet). FailsBlocks e p w w' (blocks_in s.port ps)) (ap (items_within (front_of order)) h.rest ∙ sym read.packets) fails)
