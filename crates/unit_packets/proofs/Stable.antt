-- What more bytes do to a judgement.
use Rattle.std.proofs.Common.{◌≡◌, ℕ, ◌+◌, ◌<◌, ◌≤◌, true, false, cond, List, ◌++◌, length, take, drop, get_or, refl, sym, ap, ◌∙◌, arith, Ok, Err, Result, nat_lt, subst, length-append, inl, inr}
use Rattle.std.proofs.lemmas.Bool.{cases_Bool, ltb-false, le-ltb, cond-false, cond-true, false≢true}
use Rattle.std.proofs.lemmas.List.{take-append-le, take_at, get_or-take, length-drop, length-take-le}
use Rattle.std.specs.List.{concat}
use Rattle.unit_packets.specs.declared.header.Header.{Header}
use Rattle.unit_packets.specs.declared.header.BlockError.{BlockError}
use Rattle.unit_packets.specs.declared.header.BlockError.TheVariants.{Truncated, LengthBelowHeader, SequencePast, Spare}
use Rattle.unit_packets.specs.Judging.{header_of, messages_end, judge, judge_end, passes_last}
use Rattle.pitch_messages.specs.Raw.{raws_of}
use Rattle.pitch_messages.proofs.LongestChain.{raws_prefix}
use Rattle.unit_packets.proofs.Judged.{guard_ok, number_in_prefix, end_ok}
use Rattle.pitch_fields.specs.Fields.{number_at}
use Rattle.unit_packets.specs.Cutting.{is_truncated}

-- the judgement of eight bytes or more, by their header
abbrev pub judged_by : Header → List ℕ → Result Header BlockError
judged_by h bytes =
    cond (nat_lt h.length 8) (Err (LengthBelowHeader h.length))
    (cond (passes_last h) (Err (SequencePast h.sequence h.count))
    (cond (nat_lt (length bytes) h.length) (Err (Truncated (length bytes) h.length))
    (judge_end h (messages_end h.count (take h.length bytes)))))

pub judge_is : (bytes : List ℕ) → judge bytes ≡ cond (nat_lt (length bytes) 8) (Err (Truncated (length bytes) 8)) (judged_by (header_of bytes) bytes)
unfolding judge
judge_is bytes = refl

-- it may yet become a block
abbrev pub IsOpen : Result Header BlockError → Type 0
IsOpen (Ok h) = Unit {0}
IsOpen (Err e) = is_truncated e ≡ true

-- the judgement is final
abbrev pub IsFinal : Result Header BlockError → Type 0
IsFinal (Ok h) = Unit {0}
IsFinal (Err e) = is_truncated e ≡ false

by_more : (h : Header) (bytes more : List ℕ) → IsFinal (judged_by h bytes) → judged_by h (bytes ++ more) ≡ judged_by h bytes
by_more h bytes more final = elim (cases_Bool (nat_lt h.length 8)) [
  | inl low ↦ cond-true (nat_lt h.length 8) _ _ low ∙ sym (cond-true (nat_lt h.length 8) _ _ low)
  | inr low ↦ elim (cases_Bool (passes_last h)) [
    | inl past ↦
        cond-false (nat_lt h.length 8) _ _ low ∙ cond-true (passes_last h) _ _ past
        ∙ sym (cond-false (nat_lt h.length 8) _ _ low ∙ cond-true (passes_last h) _ _ past)
    | inr past ↦ elim (cases_Bool (nat_lt (length bytes) h.length)) [
      | inl short ↦
          let e : judged_by h bytes ≡ Err (Truncated (length bytes) h.length) =
          cond-false (nat_lt h.length 8) _ _ low ∙ cond-false (passes_last h) _ _ past ∙ cond-true (nat_lt (length bytes) h.length) _ _ short in
          let f : true ≡ false = subst IsFinal e final in
          absurd (false≢true (sym f))
      | inr whole ↦
          let fits : h.length ≤ length bytes = ltb-false (length bytes) h.length whole in
          cond-false (nat_lt h.length 8) _ _ low ∙ cond-false (passes_last h) _ _ past
          ∙ cond-false (nat_lt (length (bytes ++ more)) h.length) _ _ (le-ltb (length (bytes ++ more)) h.length (omega (arith, length-append bytes more)))
          ∙ ap (λ (r : List ℕ). judge_end h (messages_end h.count r)) (take-append-le h.length bytes more fits)
          ∙ sym (cond-false (nat_lt h.length 8) _ _ low ∙ cond-false (passes_last h) _ _ past ∙ cond-false (nat_lt (length bytes) h.length) _ _ whole)
    ]
  ]
]

pub header_more : (bytes more : List ℕ) → 8 ≤ length bytes → header_of (bytes ++ more) ≡ header_of bytes
header_more bytes more long =
    let cut : take (length bytes) (bytes ++ more) ≡ bytes = take_at bytes more (length bytes) refl in
    let one : (i : ℕ) → i < 8 → get_or (bytes ++ more) i 0 ≡ get_or bytes i 0 = λ i lt. sym (get_or-take (length bytes) (bytes ++ more) i 0 (omega arith)) ∙ ap (λ (r : List ℕ). get_or r i 0) cut in
    let number : (n at : ℕ) → at + n ≤ 8 → number_at n at (bytes ++ more) ≡ number_at n at bytes = λ n at fits. sym (number_in_prefix n at (length bytes) (bytes ++ more) (omega arith)) ∙ ap (λ (r : List ℕ). number_at n at r) cut in
    let l = number 2 0 (omega arith) in
    let c = one 2 (omega arith) in
    let u = one 3 (omega arith) in
    let s = number 4 4 (omega arith) in
    cc (l, c, u, s)

-- more bytes change no judgement but that there are too few
pub judge_more : (bytes more : List ℕ) → IsFinal (judge bytes) → judge (bytes ++ more) ≡ judge bytes
judge_more bytes more final = elim (cases_Bool (nat_lt (length bytes) 8)) [
  | inl short ↦
      let e : judge bytes ≡ Err (Truncated (length bytes) 8) = judge_is bytes ∙ cond-true (nat_lt (length bytes) 8) _ _ short in
      let f : true ≡ false = subst IsFinal e final in
      absurd (false≢true (sym f))
  | inr long ↦
      let eight : 8 ≤ length bytes = ltb-false (length bytes) 8 long in
      let e : judge bytes ≡ judged_by (header_of bytes) bytes = judge_is bytes ∙ cond-false (nat_lt (length bytes) 8) _ _ long in
      judge_is (bytes ++ more) ∙ cond-false (nat_lt (length (bytes ++ more)) 8) _ _ (le-ltb (length (bytes ++ more)) 8 (omega (arith, length-append bytes more)))
      ∙ ap (λ (h : Header). judged_by h (bytes ++ more)) (header_more bytes more eight)
      ∙ by_more (header_of bytes) bytes more (subst IsFinal e final)
      ∙ sym e
]

end_header : (h k : Header) (r : Result ℕ BlockError) → judge_end h r ≡ Ok k → h ≡ k
end_header h k (Err e) is = cc
end_header h k (Ok place) is = let e : Ok h ≡ Ok k = (guard_ok (nat_lt place h.length) (Spare place) (Ok h) k is).1 in cc

end_place : (h k : Header) (r : Result ℕ BlockError) → judge_end h r ≡ Ok k → (place : ℕ) × (r ≡ Ok place) × (h.length ≤ place)
end_place h k (Err e) is = cc
end_place h k (Ok place) is = (place, refl, ltb-false place h.length (guard_ok (nat_lt place h.length) (Spare place) (Ok h) k is).0)

-- a block has its header, and its bytes are there
pub record Stands (bytes : List ℕ) (h : Header) : Type 0 where
  pub header : 8 ≤ h.length
  pub fits : h.length ≤ length bytes
  pub size : 8 + length (concat (raws_of h.count (drop 8 (take h.length bytes)))) ≡ h.length

pub judge_found : (bytes : List ℕ) (h : Header) → judge bytes ≡ Ok h → Stands bytes h
judge_found bytes h is =
    let g : Header = header_of bytes in
    let long = guard_ok (nat_lt (length bytes) 8) _ _ h (sym (judge_is bytes) ∙ is) in
    let low = guard_ok (nat_lt g.length 8) _ _ h long.1 in
    let last = guard_ok (passes_last g) _ _ h low.1 in
    let whole = guard_ok (nat_lt (length bytes) g.length) _ _ h last.1 in
    let same : g ≡ h = end_header g h (messages_end g.count (take g.length bytes)) whole.1 in
    let ends = end_place g h (messages_end g.count (take g.length bytes)) whole.1 in
    let eight : 8 ≤ g.length = ltb-false g.length 8 low.0 in
    let fits : g.length ≤ length bytes = ltb-false (length bytes) g.length whole.0 in
    let block : List ℕ = take g.length bytes in
    let raws : List (List ℕ) = raws_of g.count (drop 8 block) in
    let there = end_ok g.count ends.0 block ends.1 in
    let size : length block ≡ g.length = length-take-le g.length bytes fits in
    let body : length (drop 8 block) ≡ length (concat raws) + length (drop (length (concat raws)) (drop 8 block)) = ap length (raws_prefix g.count (drop 8 block)) ∙ length-append (concat raws) (drop (length (concat raws)) (drop 8 block)) in
    let past = ends.2 in
    let is_place = there.1 in
    subst (Stands bytes) same (record { header = eight; fits = fits; size = omega (arith, past, is_place, size, body, length-drop 8 block, eight) })
