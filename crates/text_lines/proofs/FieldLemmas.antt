-- Cutting a line at its first field.
use Rattle.std.proofs.Common.{◌≡◌, ◌≢◌, ℕ, suc, ◌+◌, ◌<◌, ◌≤◌, Bool, true, false, not, eqb, List, [], ◌∷◌, length, take, drop, filter, refl, sym, ap, ◌∙◌, arith, get_or}
use Rattle.std.proofs.lemmas.List.Sums.{prefix_len-le-length}
use Rattle.std.proofs.lemmas.List.Folds.{length-prefix_len}
use Rattle.std.proofs.lemmas.Bool.{ne_eqb}
use Rattle.std.specs.List.{slice_split, position_or_len}
use Rattle.text_lines.specs.Fields.{Field, placed, fields_from}

abbrev pub is_space : ℕ → Bool
is_space b = eqb b 32

-- a leading space is passed over
pub skips : (c : ℕ) (bs : List ℕ) → fields_from c (32 ∷ bs) ≡ fields_from (c + 1) bs
skips c bs = let e : c + 0 + 1 ≡ c + 1 = omega arith in rw e refl

-- the parts after the first
abbrev pub parts_after : (ℕ → Bool) → List ℕ → List (List ℕ)
parts_after p [] = []
parts_after p (b ∷ bs) = slice_split p bs

split_cons : (p : ℕ → Bool) (b : ℕ) (bs : List ℕ) (s : Bool) → p b ≡ s → slice_split p bs ≡ take (position_or_len p bs) bs ∷ parts_after p (drop (position_or_len p bs) bs)
    → slice_split p (b ∷ bs) ≡ take (position_or_len p (b ∷ bs)) (b ∷ bs) ∷ parts_after p (drop (position_or_len p (b ∷ bs)) (b ∷ bs))
split_cons p b bs true e h = rw e refl
split_cons p b bs false e h =
    let one : 1 + position_or_len p bs ≡ suc (position_or_len p bs) = omega arith in
    rw (e, h, one) refl

pub split_first : (p : ℕ → Bool) (bs : List ℕ) → slice_split p bs ≡ take (position_or_len p bs) bs ∷ parts_after p (drop (position_or_len p bs) bs)
split_first p [] = refl
split_first p (b ∷ bs) = split_cons p b bs (p b) refl (split_first p bs)

len_le : (p : ℕ → Bool) (bs : List ℕ) → position_or_len p bs ≤ length bs
len_le p bs = prefix_len-le-length (λ b. not (p b)) bs

-- nothing, or a space first
abbrev pub BeginsBlank : List ℕ → Type 0
BeginsBlank [] = Unit {0}
BeginsBlank (b ∷ bs) = is_space b ≡ true

ends_cons : (b : ℕ) (bs : List ℕ) (s : Bool) → is_space b ≡ s → BeginsBlank (drop (position_or_len is_space bs) bs) → BeginsBlank (drop (position_or_len is_space (b ∷ bs)) (b ∷ bs))
ends_cons b bs true e h = rw e e
ends_cons b bs false e h =
    let one : 1 + position_or_len is_space bs ≡ suc (position_or_len is_space bs) = omega arith in
    rw (e, one) h

ends_blank : (bs : List ℕ) → BeginsBlank (drop (position_or_len is_space bs) bs)
ends_blank [] = tt
ends_blank (b ∷ bs) = ends_cons b bs (is_space b) refl (ends_blank bs)

abbrev is_filled : Field → Bool
is_filled f = not (eqb (length f.bytes) 0)

parts_placed : (c : ℕ) (bs : List ℕ) → BeginsBlank bs → filter is_filled (placed (c + 1) (parts_after is_space bs)) ≡ fields_from c bs
parts_placed c [] h = refl
parts_placed c (b ∷ bs) h = let e : c + 0 + 1 ≡ c + 1 = omega arith in rw (h, e) refl

keeps : (c : ℕ) (t : List ℕ) (parts : List (List ℕ)) (k : ℕ) → length t ≡ k → eqb k 0 ≡ false → filter is_filled (placed c (t ∷ parts)) ≡ record { column = c; bytes = t } ∷ filter is_filled (placed (c + k + 1) parts)
keeps c t parts k e f = rw (e, f) refl

-- the first field of what begins with no space, and the fields after it
first_cons : (c b : ℕ) (bs : List ℕ) → is_space b ≡ false → fields_from c (b ∷ bs) ≡ record { column = c; bytes = take (position_or_len is_space (b ∷ bs)) (b ∷ bs) } ∷ fields_from (c + position_or_len is_space (b ∷ bs)) (drop (position_or_len is_space (b ∷ bs)) (b ∷ bs))
first_cons c b bs e =
    let k : ℕ = position_or_len is_space (b ∷ bs) in
    let one : k ≡ 1 + position_or_len is_space bs = rw e refl in
    let cut : fields_from c (b ∷ bs) ≡ filter is_filled (placed c (take k (b ∷ bs) ∷ parts_after is_space (drop k (b ∷ bs)))) = ap (λ (parts : List (List ℕ)). filter is_filled (placed c parts)) (split_first is_space (b ∷ bs)) in
    let kept = keeps c (take k (b ∷ bs)) (parts_after is_space (drop k (b ∷ bs))) k (length-prefix_len (λ x. not (is_space x)) (b ∷ bs)) (ne_eqb k 0 (λ z. omega arith)) in
    cut ∙ kept ∙ ap (λ (fs : List Field). record { column = c; bytes = take k (b ∷ bs) } ∷ fs) (parts_placed (c + k) (drop k (b ∷ bs)) (ends_blank (b ∷ bs)))

first_field : (c : ℕ) (bs : List ℕ) (len : ℕ) → 0 < length bs → is_space (get_or bs 0 0) ≡ false → len ≡ position_or_len is_space bs → fields_from c bs ≡ record { column = c; bytes = take len bs } ∷ fields_from (c + len) (drop len bs)
first_field c [] len some e l = absurd (omega arith)
first_field c (b ∷ bs) len some e l = rw l (first_cons c b bs e)

-- the same, of the two parts that the code has
pub scanned : (c : ℕ) (bs : List ℕ) (len : ℕ) (prefix suffix : List ℕ) → 0 < length bs → get_or bs 0 0 ≢ 32 → len ≡ position_or_len is_space bs → prefix ≡ take len bs → suffix ≡ drop len bs → length prefix ≡ len
    → record { column = c; bytes = prefix } ∷ fields_from (c + length prefix) suffix ≡ fields_from c bs
scanned c bs len prefix suffix some ne l f b size = rw (size, f, b) (sym (first_field c bs len some (ne_eqb _ _ ne) l))
