-- The records of a capture file are cut in one way.
use Rattle.std.proofs.Common.{◌≡◌, ℕ, ◌+◌, ◌≤◌, nat_lt, List, ◌++◌, length, drop, take, sym, ap, ◌∙◌, arith, Ok, subst}
use Rattle.std.proofs.lemmas.Bool.{le-ltb, cond-false}
use Rattle.std.proofs.lemmas.List.{length-drop, length-take-le, take-append-drop, take_all, drop-take}
use Rattle.pcap_feed.specs.layers.Items.{JudgesItems}
use Rattle.pcap_feed.specs.Capture.{Packet, number_in, judge_record, front_of, packet_at, is_cut_off}
use Rattle.pcap_feed.specs.layers.Lent.{packet_of}
use Rattle.pcap_feed.specs.layers.Records.{IsRecord, RecordsAreComputed, RecordsAreOne}
use Rattle.pcap_feed.specs.declared.fault.ByteOrder.{ByteOrder}
use Rattle.pcap_feed.proofs.Fronts.{IsFinal, judged_by, judge_is, judge_more, judge_fits, judge_counts, front_ok, found_of, packet_more, number_more, records_are_fronts}
use Rattle.pcap_feed.proofs.OneCutting.{cuts_computed, cuts_one}

judged_ok : (captured has : ℕ) → captured ≤ 262144 → 16 + captured ≤ has → judged_by captured has ≡ Ok captured
judged_ok captured has low fits = cond-false (nat_lt 262144 captured) _ _ (le-ltb 262144 captured low) ∙ cond-false (nat_lt has (16 + captured)) _ _ (le-ltb has (16 + captured) fits)

reads : (order : ByteOrder) (bytes back : List ℕ) (packet : Packet) → IsRecord order bytes packet → front_of order (bytes ++ back) ≡ Ok (packet, length bytes)
reads order bytes back packet is =
    let n : ℕ = length packet.bytes in
    let size : length bytes ≡ 16 + n = omega (arith, is.header, length-drop 16 bytes, ap length is.body) in
    let judged : judge_record order bytes ≡ Ok n =
    judge_is order bytes ∙ cond-false (nat_lt (length bytes) 16) _ _ (le-ltb (length bytes) 16 is.header)
    ∙ ap (λ (k : ℕ). judged_by k (length bytes)) is.captured ∙ judged_ok n (length bytes) is.within (omega (arith, size)) in
    let later : judge_record order (bytes ++ back) ≡ Ok n = judge_more order bytes back (subst (λ r. IsFinal r) (sym judged) tt) ∙ judged in
    let all : take n (drop 16 bytes) ≡ packet.bytes = ap (take n) is.body ∙ take_all n packet.bytes (omega arith) in
    let same : packet_at order n bytes ≡ packet =
    ap (λ (v : ℕ). packet_of v (number_in order 4 4 bytes) (number_in order 4 12 bytes) (take n (drop 16 bytes))) is.seconds
    ∙ ap (λ (v : ℕ). packet_of packet.seconds v (number_in order 4 12 bytes) (take n (drop 16 bytes))) is.fraction
    ∙ ap (λ (v : ℕ). packet_of packet.seconds packet.fraction v (take n (drop 16 bytes))) is.original
    ∙ ap (λ (v : List ℕ). packet_of packet.seconds packet.fraction packet.original v) all in
    front_ok order (bytes ++ back) n later
    ∙ ap (λ (p : Packet). Ok (p, 16 + n)) (packet_more order n bytes back (omega (arith, size)) ∙ same)
    ∙ ap (λ (k : ℕ). Ok (packet, k)) (sym size)

number_front : (order : ByteOrder) (n at size : ℕ) (bytes : List ℕ) → at + n ≤ length (take size bytes) → number_in order n at (take size bytes) ≡ number_in order n at bytes
number_front order n at size bytes le =
    sym (number_more order n at (take size bytes) (drop size bytes) le) ∙ ap (λ (b : List ℕ). number_in order n at b) (take-append-drop size bytes)

stands : (order : ByteOrder) (bytes : List ℕ) (found : Packet × ℕ) → front_of order bytes ≡ Ok found → IsRecord order (take found.1 bytes) found.0
stands order bytes found is =
    let f = found_of order bytes found is in
    let c = judge_fits order bytes f.captured f.judged in
    let n : ℕ = 16 + f.captured in
    let size : length (take n bytes) ≡ n = length-take-le n bytes c.there in
    let body : length (take f.captured (drop 16 bytes)) ≡ f.captured = length-take-le f.captured (drop 16 bytes) (omega (arith, c.there, length-drop 16 bytes)) in
    subst (λ (p : Packet × ℕ). IsRecord order (take p.1 bytes) p.0) (sym f.is) (record {
      header = omega (arith, size);
      seconds = number_front order 4 0 n bytes (omega (arith, size));
      fraction = number_front order 4 4 n bytes (omega (arith, size));
      captured = number_front order 4 8 n bytes (omega (arith, size)) ∙ judge_counts order bytes f.captured f.judged ∙ sym body;
      original = number_front order 4 12 n bytes (omega (arith, size));
      body = drop-take 16 f.captured bytes;
      within = omega (arith, c.within, body);
    })

records_are_judged : (order : ByteOrder) → JudgesItems (IsRecord order) (front_of order)
records_are_judged order = record { reads = reads order; stands = stands order }

pub cuts_are_computed : RecordsAreComputed
cuts_are_computed order bytes = cuts_computed is_cut_off (IsRecord order) (front_of order) (records_are_fronts order) (records_are_judged order) bytes

pub cuts_are_one : RecordsAreOne
cuts_are_one order bytes packets others rest left one other =
    cuts_one is_cut_off (IsRecord order) (front_of order) (records_are_fronts order) (records_are_judged order) bytes packets others rest left one other
