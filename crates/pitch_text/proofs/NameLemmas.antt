-- A well-formed name, and the field that it is printed as.
use Rattle.std.proofs.Common.{◌≡◌, ℕ, zero, suc, ◌+◌, ◌-◌, ◌<◌, ◌≤◌, Bool, true, false, not, eqb, ltb, leb, cond, List, [], ◌∷◌, ◌++◌, ◌&&◌, ◌||◌, length, Some, None, refl, sym, ap, subst, ◌∙◌, arith, inl, inr, length-append}
use Rattle.std.specs.Prelude.{MatchBool, nat_eq, replicate}
use Rattle.std.specs.List.{list_all, position_or_len}
use Rattle.std.specs.Cmp.Lexicographic.{pointwise}
use Rattle.std.proofs.lemmas.Bool.{and_parts, and_from, leb-true, lt-ltb, le-leb, ne_eqb, eqb-true, cases_Bool, cond-true, cond-false}
use Rattle.std.proofs.lemmas.List.{length-replicate}
use Rattle.std.proofs.lemmas.Slice.Eq.{bytes_eq-Decides}
use Rattle.pitch_fields.specs.Name.{is_blank, is_printing, is_well_formed, no_participant, without_spaces}
use Rattle.pitch_fields.proofs.Names.{none_blank}
use Rattle.text_lines.specs.Kinds.{padded_of, participant_of}
use Rattle.pitch_text.specs.Printing.{name_of}
use Rattle.pitch_text.specs.WellFormed.{IsParticipant}

-- ---- a name, and the spaces after it

plain_no_space : (b : ℕ) → is_printing b ≡ true → eqb b 32 ≡ false
plain_no_space b h =
    let p = and_parts (leb 33 b) (leb b 126 && not (eqb b 92)) h in
    ne_eqb b 32 (λ e. omega (arith, leb-true 33 b p.0))

-- the bytes of a blank name are spaces
blank_spaces : (s : List ℕ) → is_blank s ≡ true → s ≡ replicate (length s) 32
blank_spaces [] h = refl
blank_spaces (b ∷ bs) h =
    let p = and_parts (eqb b 32) (is_blank bs) h in
    ap (λ (v : ℕ). v ∷ bs) (eqb-true b 32 p.0) ∙ ap (λ (vs : List ℕ). 32 ∷ vs) (blank_spaces bs p.1)

-- a name with spaces after it, up to the length of the whole
abbrev IsSplit : List ℕ → List ℕ → Type 0
IsSplit whole shown = (length shown ≤ length whole) × (shown ++ replicate (length whole - length shown) 32 ≡ whole)

split_at_spaces : (s : List ℕ) → IsSplit s (without_spaces s)
split_at_spaces [] = (omega arith, refl)
split_at_spaces (b ∷ bs) = elim (cases_Bool (is_blank (b ∷ bs))) [
  | inl blank ↦ subst (IsSplit (b ∷ bs)) (sym (cond-true (is_blank (b ∷ bs)) [] (b ∷ without_spaces bs) blank)) (let whole : length (b ∷ bs) - 0 ≡ length (b ∷ bs) = omega arith in (omega arith, ap (λ (n : ℕ). replicate n 32) whole ∙ sym (blank_spaces (b ∷ bs) blank)))
  | inr some ↦
      let more = split_at_spaces bs in
      subst (IsSplit (b ∷ bs)) (sym (cond-false (is_blank (b ∷ bs)) [] (b ∷ without_spaces bs) some))
      (omega (arith, more.0), ap (λ (vs : List ℕ). b ∷ vs) (ap (λ (n : ℕ). without_spaces bs ++ replicate n 32) (omega arith) ∙ more.1))
]

name_none : (b : ℕ) (bs : List ℕ) → eqb b 32 ≡ true → name_of (b ∷ bs) ≡ []
name_none b bs e = rw e refl

name_more : (b : ℕ) (bs : List ℕ) → eqb b 32 ≡ false → name_of (b ∷ bs) ≡ b ∷ name_of bs
name_more b bs e =
    let one : 1 + position_or_len (λ x. eqb x 32) bs ≡ suc (position_or_len (λ x. eqb x 32) bs) = omega arith in
    rw (e, one) refl

-- where each byte of a name before the spaces is a printing one, they are what stands before the
-- first space
name_stands : (s : List ℕ) → list_all is_printing (without_spaces s) ≡ true → name_of s ≡ without_spaces s
name_stands [] h = refl
name_stands (b ∷ bs) h = elim (cases_Bool (is_blank (b ∷ bs))) [
  | inl blank ↦ name_none b bs (and_parts (eqb b 32) (is_blank bs) blank).0 ∙ sym (cond-true (is_blank (b ∷ bs)) [] (b ∷ without_spaces bs) blank)
  | inr some ↦
      let e : without_spaces (b ∷ bs) ≡ b ∷ without_spaces bs = cond-false (is_blank (b ∷ bs)) [] (b ∷ without_spaces bs) some in
      let p = and_parts (is_printing b) (list_all is_printing (without_spaces bs)) (sym (ap (list_all is_printing) e) ∙ h) in
      name_more b bs (plain_no_space b p.0) ∙ ap (λ (vs : List ℕ). b ∷ vs) (name_stands bs p.1) ∙ sym e
]

blank_replicate : (k : ℕ) → is_blank (replicate k 32) ≡ true
blank_replicate zero = refl
blank_replicate (suc k) = blank_replicate k

-- spaces after printing bytes are dropped, and no others
spaces_dropped : (bytes : List ℕ) (k : ℕ) → list_all is_printing bytes ≡ true → without_spaces (bytes ++ replicate k 32) ≡ bytes
spaces_dropped [] zero h = refl
spaces_dropped [] (suc k) h = cond-true (is_blank (replicate (suc k) 32)) [] (32 ∷ without_spaces (replicate k 32)) (blank_replicate (suc k))
spaces_dropped (b ∷ bs) k h =
    let p = and_parts (is_printing b) (list_all is_printing bs) h in
    cond-false (is_blank (b ∷ bs ++ replicate k 32)) [] (b ∷ without_spaces (bs ++ replicate k 32)) (ap (λ (v : Bool). v && is_blank (bs ++ replicate k 32)) (plain_no_space b p.0))
    ∙ ap (λ (vs : List ℕ). b ∷ vs) (spaces_dropped bs k p.1)

-- ---- a field that is a name, and the name

-- a value under a test: the test held, and it is that value
pub guard_is : {A : Type 0} (b : Bool) (x y : A) → cond b (Some x) None ≡ Some y → (b ≡ true) × (x ≡ y)
guard_is true x y e = (refl, cc)
guard_is false x y e = absurd cc

not_both : (b : Bool) → not b ≡ true → b ≡ true → ⊥
not_both true n y = cc
not_both false n y = cc

filled : (bytes : List ℕ) → (bytes ≡ [] → ⊥) → 0 < length bytes
filled [] h = absurd (h refl)
filled (b ∷ bs) h = omega arith

-- a well-formed name of this width is what the field gives that it is printed as
pub name_again : (width : ℕ) (s : List ℕ) → length s ≡ width → is_well_formed s ≡ true → padded_of width (name_of s) ≡ Some s
name_again width s size h =
    let p = and_parts (not (is_blank s)) (list_all is_printing (without_spaces s)) h in
    let split = split_at_spaces s in
    let shown : List ℕ = without_spaces s in
    let some : 0 < length shown = filled shown (λ e. not_both (is_blank s) p.0 (none_blank s e)) in
    let test : (ltb 0 (length shown) && leb (length shown) width && list_all is_printing shown) ≡ true =
    and_from (ltb 0 (length shown) && leb (length shown) width) (list_all is_printing shown) (and_from (ltb 0 (length shown)) (leb (length shown) width) (lt-ltb 0 (length shown) some) (le-leb (length shown) width (omega (arith, split.0)))) p.1 in
    ap (padded_of width) (name_stands s p.1)
    ∙ cond-true _ (Some (shown ++ replicate (width - length shown) 32)) None test
    ∙ ap (λ (n : ℕ). Some (shown ++ replicate (n - length shown) 32)) (sym size)
    ∙ ap (λ (v : List ℕ). Some v) split.1

-- a name that a field gives has that width and is well formed
pub named : (width : ℕ) (bytes s : List ℕ) → padded_of width bytes ≡ Some s → (length s ≡ width) × (is_well_formed s ≡ true)
named width [] s e = absurd cc
named width (b ∷ bs) s e =
    let bytes : List ℕ = b ∷ bs in
    let g = guard_is (ltb 0 (length bytes) && leb (length bytes) width && list_all is_printing bytes) (bytes ++ replicate (width - length bytes) 32) s e in
    let p = and_parts (ltb 0 (length bytes) && leb (length bytes) width) (list_all is_printing bytes) g.0 in
    let q = and_parts (ltb 0 (length bytes)) (leb (length bytes) width) p.0 in
    let first = and_parts (is_printing b) (list_all is_printing bs) p.1 in
    let blank : is_blank (bytes ++ replicate (width - length bytes) 32) ≡ false = ap (λ (v : Bool). v && is_blank (bs ++ replicate (width - length bytes) 32)) (plain_no_space b first.0) in
    let size : length (bytes ++ replicate (width - length bytes) 32) ≡ width = length-append bytes (replicate (width - length bytes) 32) ∙ ap (λ (n : ℕ). length bytes + n) (length-replicate (width - length bytes) 32) ∙ omega (arith, leb-true (length bytes) width q.1) in
    let formed : is_well_formed (bytes ++ replicate (width - length bytes) 32) ≡ true =
    and_from (not (is_blank (bytes ++ replicate (width - length bytes) 32))) (list_all is_printing (without_spaces (bytes ++ replicate (width - length bytes) 32))) (ap not blank) (ap (list_all is_printing) (spaces_dropped bytes (width - length bytes) p.1) ∙ p.1) in
    subst (λ (v : List ℕ). (length v ≡ width) × (is_well_formed v ≡ true)) g.1 (size, formed)

-- ---- participants

-- of a participant: four spaces, or what the field gives that it is printed as
pub participant_again : (p : List ℕ) → IsParticipant p → MatchBool (pointwise nat_eq p no_participant) (p ≡ no_participant) (participant_of (name_of p) ≡ Some p)
participant_again p h = by (pointwise nat_eq p no_participant) refl (is_blank p) refl h.1
  where
    by : (b : Bool) → pointwise nat_eq p no_participant ≡ b → (blank : Bool) → is_blank p ≡ blank → (blank || is_well_formed p) ≡ true → MatchBool b (p ≡ no_participant) (participant_of (name_of p) ≡ Some p)
    by true e blank is formed = (bytes_eq-Decides p no_participant).0 e
    by false e true is formed =
        let same : p ≡ no_participant = blank_spaces p is ∙ ap (λ (n : ℕ). replicate n 32) h.0 in
        absurd (not_both (pointwise nat_eq p no_participant) (ap not e) ((bytes_eq-Decides p no_participant).1 same))
    by false e false is formed = name_again 4 p h.0 formed
