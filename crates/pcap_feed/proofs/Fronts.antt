-- The record at the front, and the header.
use Rattle.std.proofs.Common.{◌≡◌, ℕ, zero, suc, ◌+◌, ◌*◌, ◌<◌, ◌≤◌, ◌^◌, true, false, cond, nat_lt, get_or, List, ◌++◌, length, take, drop, refl, sym, ap, ◌∙◌, arith, Ok, Err, Result, subst, length-append, inl, inr}
use Rattle.std.proofs.lemmas.Bool.{cases_Bool, ltb-false, le-ltb, cond-false, cond-true}
use Rattle.std.proofs.lemmas.List.{length-take-le, length-drop, get_or-drop, get_or_append_left, take-append-le, drop-append-le}
use Rattle.unit_packets.proofs.Judged.{same_from}
use Rattle.byteorder.specs.Endian.{big_from}
use Rattle.pcap_feed.specs.layers.Items.{IsFront}
use Rattle.pcap_feed.specs.Capture.{Packet, number_in, judge_record, front_on, front_of, packet_at, is_cut_off}
use Rattle.pcap_feed.specs.layers.Lent.{StandsAtFront, Captures, packet_of}
use Rattle.pcap_feed.specs.declared.fault.ByteOrder.{ByteOrder}
use Rattle.pcap_feed.specs.declared.fault.ByteOrder.TheVariants.{Little, Big}
use Rattle.pcap_feed.specs.declared.fault.CaptureError.{CaptureError}
use Rattle.pcap_feed.specs.declared.fault.CaptureError.TheVariants.{Truncated, LongRecord}

pub front_err : (order : ByteOrder) (bytes : List ℕ) (e : CaptureError) → judge_record order bytes ≡ Err e → front_of order bytes ≡ Err e
unfolding front_of
front_err order bytes e is = ap (front_on order bytes) is

pub front_ok : (order : ByteOrder) (bytes : List ℕ) (captured : ℕ) → judge_record order bytes ≡ Ok captured → front_of order bytes ≡ Ok (packet_at order captured bytes, 16 + captured)
unfolding front_of
front_ok order bytes captured is = ap (front_on order bytes) is

pub front_found : (order : ByteOrder) (bytes : List ℕ) (captured n s f o : ℕ) → Ok captured ≡ judge_record order bytes → Captures bytes captured → n ≡ captured
    → s ≡ number_in order 4 0 bytes → f ≡ number_in order 4 4 bytes → o ≡ number_in order 4 12 bytes
    → StandsAtFront order bytes (packet_of s f o (take n (drop 16 bytes)))
front_found order bytes captured n s f o is c en es ef eo =
    let same : packet_at order captured bytes ≡ packet_of s f o (take n (drop 16 bytes)) =
    ap (λ (v : ℕ). packet_of v (number_in order 4 4 bytes) (number_in order 4 12 bytes) (take captured (drop 16 bytes))) (sym es)
    ∙ ap (λ (v : ℕ). packet_of s v (number_in order 4 12 bytes) (take captured (drop 16 bytes))) (sym ef)
    ∙ ap (λ (v : ℕ). packet_of s f v (take captured (drop 16 bytes))) (sym eo)
    ∙ ap (λ (v : ℕ). packet_of s f o (take v (drop 16 bytes))) (sym en) in
    let size : length (take captured (drop 16 bytes)) ≡ captured = length-take-le captured (drop 16 bytes) (omega (arith, c.there, length-drop 16 bytes)) in
    subst (λ (p : Packet). StandsAtFront order bytes p) same (record {
      front = front_ok order bytes captured (sym is) ∙ ap (λ (k : ℕ). Ok (packet_at order captured bytes, 16 + k)) (sym size);
      within = omega (arith, c.within, size);
    })

-- ---- More bytes
big_same : (n i : ℕ) (xs ys : List ℕ) → ((j : ℕ) → j < i + n → get_or xs j 0 ≡ get_or ys j 0) → big_from i n xs ≡ big_from i n ys
big_same zero i xs ys same = refl
big_same (suc n) i xs ys same =
    ap (λ (v : ℕ). v * 256 ^ n + big_from (suc i) n xs) (same i (omega arith))
    ∙ ap (λ (v : ℕ). get_or ys i 0 * 256 ^ n + v) (big_same n (suc i) xs ys (λ j lt. same j (omega arith)))

bytes_same : (n at : ℕ) (bytes more : List ℕ) → at + n ≤ length bytes → (j : ℕ) → j < 0 + n → get_or (drop at (bytes ++ more)) j 0 ≡ get_or (drop at bytes) j 0
bytes_same n at bytes more le j lt = get_or-drop at (bytes ++ more) j 0 ∙ get_or_append_left bytes more 0 (at + j) (omega arith) ∙ sym (get_or-drop at bytes j 0)

pub number_more : (order : ByteOrder) (n at : ℕ) (bytes more : List ℕ) → at + n ≤ length bytes → number_in order n at (bytes ++ more) ≡ number_in order n at bytes
number_more Little n at bytes more le = same_from n 0 _ _ (bytes_same n at bytes more le)
number_more Big n at bytes more le = big_same n 0 _ _ (bytes_same n at bytes more le)

-- the judgement of 16 bytes or more, by what the record captured
abbrev pub judged_by : ℕ → ℕ → Result ℕ CaptureError
judged_by captured has =
    cond (nat_lt 262144 captured) (Err (LongRecord captured)) (cond (nat_lt has (16 + captured)) (Err (Truncated has (16 + captured))) (Ok captured))

pub judge_is : (order : ByteOrder) (bytes : List ℕ) → judge_record order bytes ≡ cond (nat_lt (length bytes) 16) (Err (Truncated (length bytes) 16)) (judged_by (number_in order 4 8 bytes) (length bytes))
unfolding judge_record
judge_is order bytes = refl

-- the judgement is not that bytes are missing
abbrev pub IsFinal : {A : Type 0} → Result A CaptureError → Type 0
IsFinal (Ok found) = Unit {0}
IsFinal (Err e) = is_cut_off e ≡ false

by_more : (captured has more : ℕ) → IsFinal (judged_by captured has) → judged_by captured (has + more) ≡ judged_by captured has
by_more captured has more final = elim (cases_Bool (nat_lt 262144 captured)) [
  | inl long ↦ cond-true (nat_lt 262144 captured) _ _ long ∙ sym (cond-true (nat_lt 262144 captured) _ _ long)
  | inr long ↦ elim (cases_Bool (nat_lt has (16 + captured))) [
    | inl short ↦
        let e : judged_by captured has ≡ Err (Truncated has (16 + captured)) = cond-false (nat_lt 262144 captured) _ _ long ∙ cond-true (nat_lt has (16 + captured)) _ _ short in
        let f : true ≡ false = subst IsFinal e final in
        cc
    | inr whole ↦
        let fits : 16 + captured ≤ has = ltb-false has (16 + captured) whole in
        cond-false (nat_lt 262144 captured) _ _ long
        ∙ cond-false (nat_lt (has + more) (16 + captured)) _ _ (le-ltb (has + more) (16 + captured) (omega (arith, fits)))
        ∙ sym (cond-false (nat_lt 262144 captured) _ _ long ∙ cond-false (nat_lt has (16 + captured)) _ _ whole)
  ]
]

pub judge_more : (order : ByteOrder) (bytes more : List ℕ) → IsFinal (judge_record order bytes) → judge_record order (bytes ++ more) ≡ judge_record order bytes
judge_more order bytes more final = elim (cases_Bool (nat_lt (length bytes) 16)) [
  | inl short ↦
      let e : judge_record order bytes ≡ Err (Truncated (length bytes) 16) = judge_is order bytes ∙ cond-true (nat_lt (length bytes) 16) _ _ short in
      let f : true ≡ false = subst IsFinal e final in
      cc
  | inr long ↦
      let head : 16 ≤ length bytes = ltb-false (length bytes) 16 long in
      let e : judge_record order bytes ≡ judged_by (number_in order 4 8 bytes) (length bytes) = judge_is order bytes ∙ cond-false (nat_lt (length bytes) 16) _ _ long in
      judge_is order (bytes ++ more) ∙ cond-false (nat_lt (length (bytes ++ more)) 16) _ _ (le-ltb (length (bytes ++ more)) 16 (omega (arith, head, length-append bytes more)))
      ∙ ap (λ (n : ℕ). judged_by n (length (bytes ++ more))) (number_more order 4 8 bytes more (omega (arith, head)))
      ∙ ap (λ (n : ℕ). judged_by (number_in order 4 8 bytes) n) (length-append bytes more)
      ∙ by_more (number_in order 4 8 bytes) (length bytes) (length more) (subst IsFinal e final)
      ∙ sym e
]

judged_fits : (captured has n : ℕ) → judged_by captured has ≡ Ok n → (captured ≡ n) × ((n ≤ 262144) × (16 + n ≤ has))
judged_fits captured has n is = elim (cases_Bool (nat_lt 262144 captured)) [
  | inl long ↦ let e : ◌≡◌ {A = Result ℕ CaptureError} (Err (LongRecord captured)) (Ok n) = sym (cond-true (nat_lt 262144 captured) _ _ long) ∙ is in cc
  | inr long ↦ elim (cases_Bool (nat_lt has (16 + captured))) [
    | inl short ↦
        let e : ◌≡◌ {A = Result ℕ CaptureError} (Err (Truncated has (16 + captured))) (Ok n) =
        sym (cond-false (nat_lt 262144 captured) _ _ long ∙ cond-true (nat_lt has (16 + captured)) _ _ short) ∙ is in cc
    | inr whole ↦
        let e : ◌≡◌ {A = Result ℕ CaptureError} (Ok captured) (Ok n) =
        sym (cond-false (nat_lt 262144 captured) _ _ long ∙ cond-false (nat_lt has (16 + captured)) _ _ whole) ∙ is in
        let same : captured ≡ n = cc in
        (same, (omega (arith, same, ltb-false 262144 captured long), omega (arith, same, ltb-false has (16 + captured) whole)))
  ]
]

pub judge_fits : (order : ByteOrder) (bytes : List ℕ) (captured : ℕ) → judge_record order bytes ≡ Ok captured → Captures bytes captured
judge_fits order bytes captured is = elim (cases_Bool (nat_lt (length bytes) 16)) [
  | inl short ↦
      let e : ◌≡◌ {A = Result ℕ CaptureError} (Err (Truncated (length bytes) 16)) (Ok captured) =
      sym (judge_is order bytes ∙ cond-true (nat_lt (length bytes) 16) _ _ short) ∙ is in cc
  | inr long ↦
      let e : judged_by (number_in order 4 8 bytes) (length bytes) ≡ Ok captured = sym (judge_is order bytes ∙ cond-false (nat_lt (length bytes) 16) _ _ long) ∙ is in
      let fits = judged_fits (number_in order 4 8 bytes) (length bytes) captured e in
      record { within = fits.1.0; there = fits.1.1 }
]

pub judge_counts : (order : ByteOrder) (bytes : List ℕ) (captured : ℕ) → judge_record order bytes ≡ Ok captured → number_in order 4 8 bytes ≡ captured
judge_counts order bytes captured is = elim (cases_Bool (nat_lt (length bytes) 16)) [
  | inl short ↦
      let e : ◌≡◌ {A = Result ℕ CaptureError} (Err (Truncated (length bytes) 16)) (Ok captured) =
      sym (judge_is order bytes ∙ cond-true (nat_lt (length bytes) 16) _ _ short) ∙ is in cc
  | inr long ↦
      let e : judged_by (number_in order 4 8 bytes) (length bytes) ≡ Ok captured = sym (judge_is order bytes ∙ cond-false (nat_lt (length bytes) 16) _ _ long) ∙ is in
      (judged_fits (number_in order 4 8 bytes) (length bytes) captured e).0
]

-- what a record at the front was judged as
pub record Found (order : ByteOrder) (bytes : List ℕ) (found : Packet × ℕ) : Type 0 where
  pub captured : ℕ
  pub judged : judge_record order bytes ≡ Ok captured
  pub is : found ≡ (packet_at order captured bytes, 16 + captured)

found_on : (order : ByteOrder) (bytes : List ℕ) (found : Packet × ℕ) (r : Result ℕ CaptureError) → judge_record order bytes ≡ r → front_on order bytes r ≡ Ok found → Found order bytes found
found_on order bytes found (Ok captured) was is = record { captured = captured; judged = was; is = cc }
found_on order bytes found (Err e) was is = cc

pub found_of : (order : ByteOrder) (bytes : List ℕ) (found : Packet × ℕ) → front_of order bytes ≡ Ok found → Found order bytes found
unfolding front_of
found_of order bytes found is = found_on order bytes found (judge_record order bytes) refl is

missed_on : (order : ByteOrder) (bytes : List ℕ) (e : CaptureError) (r : Result ℕ CaptureError) → judge_record order bytes ≡ r → front_on order bytes r ≡ Err e → judge_record order bytes ≡ Err e
missed_on order bytes e (Ok captured) was is = cc
missed_on order bytes e (Err d) was is = let same : d ≡ e = cc in was ∙ ap (λ (x : CaptureError). Err x) same

pub missed_of : (order : ByteOrder) (bytes : List ℕ) (e : CaptureError) → front_of order bytes ≡ Err e → judge_record order bytes ≡ Err e
unfolding front_of
missed_of order bytes e is = missed_on order bytes e (judge_record order bytes) refl is

pub packet_more : (order : ByteOrder) (captured : ℕ) (bytes more : List ℕ) → 16 + captured ≤ length bytes → packet_at order captured (bytes ++ more) ≡ packet_at order captured bytes
packet_more order captured bytes more le =
    let s = number_more order 4 0 bytes more (omega (arith, le)) in
    let f = number_more order 4 4 bytes more (omega (arith, le)) in
    let o = number_more order 4 12 bytes more (omega (arith, le)) in
    let b : take captured (drop 16 (bytes ++ more)) ≡ take captured (drop 16 bytes) =
    ap (take captured) (drop-append-le 16 bytes more (omega (arith, le))) ∙ take-append-le captured (drop 16 bytes) more (omega (arith, le, length-drop 16 bytes)) in
    ap (λ (v : ℕ). packet_of v (number_in order 4 4 (bytes ++ more)) (number_in order 4 12 (bytes ++ more)) (take captured (drop 16 (bytes ++ more)))) s
    ∙ ap (λ (v : ℕ). packet_of (number_in order 4 0 bytes) v (number_in order 4 12 (bytes ++ more)) (take captured (drop 16 (bytes ++ more)))) f
    ∙ ap (λ (v : ℕ). packet_of (number_in order 4 0 bytes) (number_in order 4 4 bytes) v (take captured (drop 16 (bytes ++ more)))) o
    ∙ ap (λ (v : List ℕ). packet_of (number_in order 4 0 bytes) (number_in order 4 4 bytes) (number_in order 4 12 bytes) v) b

-- records are items that stand back to back
pub records_are_fronts : (order : ByteOrder) → IsFront is_cut_off (front_of order)
records_are_fronts order = record {
  fits = λ bytes found is.
      let f = found_of order bytes found is in
      let c = judge_fits order bytes f.captured f.judged in
      let size : found.1 ≡ 16 + f.captured = ap (λ (p : Packet × ℕ). p.1) f.is in
      (omega (arith, size), omega (arith, size, c.there));
  found = λ bytes more found is.
      let f = found_of order bytes found is in
      let c = judge_fits order bytes f.captured f.judged in
      let again : judge_record order (bytes ++ more) ≡ Ok f.captured = judge_more order bytes more (subst (λ r. IsFinal r) (sym f.judged) tt) ∙ f.judged in
      front_ok order (bytes ++ more) f.captured again
      ∙ ap (λ (p : Packet). Ok (p, 16 + f.captured)) (packet_more order f.captured bytes more c.there)
      ∙ ap (λ (p : Packet × ℕ). Ok p) (sym f.is);
  lasts = λ bytes more e is final.
      let was = missed_of order bytes e is in
      front_err order (bytes ++ more) e (judge_more order bytes more (subst (λ r. IsFinal r) (sym was) final) ∙ was);
}
