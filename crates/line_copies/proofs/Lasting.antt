-- Of the last sequences a copy is kept.
use Rattle.std.proofs.Common.{◌≡◌, ℕ, zero, suc, ◌+◌, ◌%◌, ◌<◌, ◌≤◌, ◌==◌, nat_lt, inl, inr, List, [], ◌∷◌, length, get_or, refl, sym, ap, subst, arith}
use Rattle.std.proofs.lemmas.Bool.{cond_both, eq-eqb, cond-true, ltb-true, ltb-false}
use Rattle.pitch_model.specs.History.{Entry, Raw, Message}
use Rattle.line_copies.specs.declared.kept.Kept.{Kept}
use Rattle.line_copies.specs.Copies.{slot_of, kept_of, later_of, kept_after, kept_at}
use Rattle.line_copies.specs.Laws.{LastAreKept}
use Rattle.line_copies.proofs.Differing.{kept_came}

-- ---- What is kept at a slot is never of a lower sequence than before
not_lower : (kept copy : Kept) → kept.sequence ≤ (later_of kept copy).sequence
not_lower kept copy =
    cond_both (nat_lt copy.sequence kept.sequence) kept copy (λ (k : Kept). kept.sequence ≤ k.sequence) (λ lower. omega arith) (λ later. ltb-false copy.sequence kept.sequence later)

no_lower_copy : (kept copy : Kept) → copy.sequence ≤ (later_of kept copy).sequence
no_lower_copy kept copy =
    cond_both (nat_lt copy.sequence kept.sequence) kept copy (λ (k : Kept). copy.sequence ≤ k.sequence) (λ lower. let less = ltb-true copy.sequence kept.sequence lower in omega arith) (λ later. omega arith)

rises : (entry : Entry) (slot : ℕ) (kept : Kept) → kept.sequence ≤ (kept_after entry slot kept).sequence
rises (Message sequence raw) slot kept =
    cond_both (slot_of sequence == slot) (later_of kept (kept_of sequence raw)) kept (λ (k : Kept). kept.sequence ≤ k.sequence) (λ same. not_lower kept (kept_of sequence raw)) (λ other. omega arith)
rises entry slot kept = omega arith

-- so it is of no lower one than any message that came
at_least : (E : List Entry) (k n : ℕ) (raw : Raw) → k < length E → get_or E k (Message n raw) ≡ Message n raw → n ≤ (kept_at E (slot_of n)).sequence
at_least [] k n raw within is = absurd (omega arith)
at_least (entry ∷ E) zero n raw within is = subst (λ (x : Entry). n ≤ (kept_after x (slot_of n) (kept_at E (slot_of n))).sequence) (sym is) first
  where
    first : n ≤ (kept_after (Message n raw) (slot_of n) (kept_at E (slot_of n))).sequence
    first = subst (λ (k : Kept). n ≤ k.sequence) (sym (cond-true (slot_of n == slot_of n) (later_of (kept_at E (slot_of n)) (kept_of n raw)) (kept_at E (slot_of n)) (eq-eqb (slot_of n) (slot_of n) refl))) (no_lower_copy (kept_at E (slot_of n)) (kept_of n raw))
at_least (entry ∷ E) (suc k) n raw within is =
    let before = at_least E k n raw (omega arith) is in
    let more = rises entry (slot_of n) (kept_at E (slot_of n)) in
    omega arith

pub last_are_kept : LastAreKept
last_are_kept E n raw came none = elim (kept_came E (slot_of n)) [
  | inl nothing ↦
      let least : n ≤ (kept_at E (slot_of n)).sequence = at_least E came.0 n raw came.1 came.2 in
      let none_is : (kept_at E (slot_of n)).sequence ≡ 0 = ap (λ (k : Kept). k.sequence) nothing in
      omega arith
  | inr kept ↦
      let least : n ≤ (kept_at E (slot_of n)).sequence = at_least E came.0 n raw came.1 came.2 in
      let most : (kept_at E (slot_of n)).sequence < n + 65536 = none (kept_at E (slot_of n)).sequence kept.raw kept.has in
      let slot : (kept_at E (slot_of n)).sequence % 65536 ≡ n % 65536 = kept.slot_is in
      omega arith
]
