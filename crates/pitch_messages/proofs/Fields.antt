-- Bytes that are filled field by field.
use Rattle.std.proofs.Common.{◌≡◌, ℕ, ◌+◌, ◌-◌, ◌<◌, ◌≤◌, List, [], ◌∷◌, ◌++◌, length, take, get_or, sym, ap, ◌∙◌, arith, Bor, length-append}
use Rattle.std.proofs.lemmas.List.{flat_map_more, take_more, length-take, length-drop}
use Rattle.std.proofs.lemmas.List.Folds.{length-flat_map-take}
use Rattle.std.proofs.lemmas.Slice.{take-put_mid}
use borrow.Rule.Slice.PartMut.{put_mid}
use Rattle.pitch_messages.specs.layers.Chains.{joined}

-- the bytes up to a place: one that is not yet set, the type, and the fields so far
pub record Filled (kind at : ℕ) (bytes fields : List ℕ) : Type 0 where
  pub place : at ≡ 2 + length fields
  pub size : length bytes ≡ 255
  pub prefix : take at bytes ≡ 0 ∷ kind ∷ fields

-- one more field
joined_more : (fields : List (Bor (List ℕ))) (i : ℕ) (d : Bor (List ℕ)) → i < length fields → joined (take (i + 1) fields) ≡ joined (take i fields) ++ (get_or fields i d).now
joined_more fields i d within =
    ap joined (take_more fields i d within) ∙ sym (flat_map_more (λ (field : Bor (List ℕ)). field.now) [] (take i fields) (get_or fields i d))

pub filled_within : (kind at i : ℕ) (bytes : List ℕ) (fields : List (Bor (List ℕ))) (d : Bor (List ℕ)) → Filled kind at bytes (joined (take i fields)) → i < length fields → length (joined fields) ≤ 253
    → at + length (get_or fields i d).now ≤ 255
filled_within kind at i bytes fields d filled within fits =
    omega (arith, filled.place, length-flat_map-take (λ (field : Bor (List ℕ)). field.now) fields i d within, fits)

pub filled_more : (kind at i : ℕ) (bytes field : List ℕ) (fields : List (Bor (List ℕ))) (d : Bor (List ℕ)) → Filled kind at bytes (joined (take i fields)) → i < length fields → at + length (get_or fields i d).now ≤ 255
    → field ≡ (get_or fields i d).now
    → Filled kind (at + length (get_or fields i d).now) (put_mid at (at + length (get_or fields i d).now - at) bytes field) (joined (take (i + 1) fields))
filled_more kind at i bytes field fields d filled within fits is =
    let more = joined_more fields i d within in
    let size : length field ≡ length (get_or fields i d).now = ap length is in
    record {
      place = omega (arith, filled.place, ap length more, length-append (joined (take i fields)) (get_or fields i d).now);
      size = simp (length-append, length-drop, length-take) (omega (arith, size, filled.size));
      prefix = take-put_mid at (at + length (get_or fields i d).now - at) bytes field (at + length (get_or fields i d).now) (omega (arith, size)) (omega (arith, filled.size))
          ∙ ap (λ (xs : List ℕ). xs ++ field) filled.prefix
          ∙ ap (λ (xs : List ℕ). 0 ∷ kind ∷ joined (take i fields) ++ xs) is
          ∙ ap (λ (xs : List ℕ). 0 ∷ kind ∷ xs) (sym more);
    }
