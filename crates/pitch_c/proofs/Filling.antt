-- An array that is filled from its start.
use Rattle.std.proofs.Common.{◌≡◌, ◌<◌, ◌⊎◌, inl, inr, ℕ, zero, suc, refl, ◌+◌, List, [], ◌∷◌, ◌++◌, length, map, take, drop, Option, Some, slice_get, sym, ap, ◌∙◌, arith}
use Rattle.std.proofs.Math.ListN.{set}
use Rattle.std.specs.Option.{option_map}
use Rattle.std.specs.Prelude.{unwrap_or}
use Rattle.std.proofs.lemmas.List.{length-map}
use Rattle.std.proofs.lemmas.Option.{none-some, slice_get-map}
use Rattle.pitch_c.specs.Arrays.{filled, Fills}

module _ {T : Type 0} where
  -- the first n items of a list stand in it
  abbrev pub begun : ℕ → List T → List T → List T
  begun n items old = take n items ++ drop n old

  pub begun_more : (n : ℕ) (items old : List T) (x : T) → slice_get items n ≡ Some x → n < length old → set (begun n items old) n x ≡ begun (suc n) items old
  begun_more n [] old x at few = absurd (none-some x at)
  begun_more zero (y ∷ items) [] x at few = absurd (omega arith)
  begun_more zero (y ∷ items) (o ∷ old) x at few = ap (λ (found : Option T). unwrap_or found x ∷ old) (sym at)
  begun_more (suc n) (y ∷ items) [] x at few = absurd (omega arith)
  begun_more (suc n) (y ∷ items) (o ∷ old) x at few = ap (λ (l : List T). y ∷ l) (begun_more n items old x at (omega arith))

-- ---- Items as they are shown
module _ {S T : Type 0} (shown : S → T) where
  pub fills_more : (items : List S) (old now : List T) (i : ℕ) (item : S) (out : T) → now ≡ begun i (map shown items) old → slice_get items i ≡ Some item → out ≡ shown item → i < length old
      → set now i out ≡ begun (i + 1) (map shown items) old
  fills_more items old now i item out are there is fits =
      let next : suc i ≡ i + 1 = omega arith in
      ap (λ (l : List T). set l i out) are
      ∙ begun_more i (map shown items) old out (slice_get-map shown items i ∙ ap (option_map shown) there ∙ ap Some (sym is)) fits
      ∙ ap (λ (n : ℕ). begun n (map shown items) old) next

  -- a list that was written into it
  pub fills_list : (items listed : List S) (old new : List T) (number : ℕ) → listed ≡ items → new ≡ filled (map shown listed) old → number ≡ length listed → Fills (map shown items) old new number
  fills_list items listed old new number same is count = record {
    array = is ∙ ap (λ (l : List S). filled (map shown l) old) same;
    number_is = count ∙ ap length same ∙ sym (length-map items shown);
  }

  -- what an array does not hold need not be listed
  filled_first : (items : List S) (old : List T) → filled (map shown (take (length old) items)) old ≡ filled (map shown items) old
  filled_first [] [] = refl
  filled_first [] (o ∷ old) = refl
  filled_first (x ∷ items) [] = refl
  filled_first (x ∷ items) (o ∷ old) = ap (λ (l : List T). shown x ∷ l) (filled_first items old)

  pub fills_first : (items listed : List S) (old new : List T) (number : ℕ) → listed ≡ take (length old) items → new ≡ filled (map shown listed) old → number ≡ length items → Fills (map shown items) old new number
  fills_first items listed old new number first is count = record {
    array = is ∙ ap (λ (l : List S). filled (map shown l) old) first ∙ filled_first items old;
    number_is = count ∙ sym (length-map items shown);
  }

  -- nothing is written where there is no item, or no place
  pub fills_none : (items : List S) (old : List T) (number : ℕ) → number ≡ length items → (length items ≡ 0) ⊎ (length old ≡ 0) → Fills (map shown items) old old number
  fills_none items old number count none = record {
    array = by items old none;
    number_is = count ∙ sym (length-map items shown);
  }
    where
      by : (items : List S) (old : List T) → (length items ≡ 0) ⊎ (length old ≡ 0) → old ≡ filled (map shown items) old
      by [] [] none = refl
      by [] (o ∷ old) none = refl
      by (x ∷ items) [] none = refl
      by (x ∷ items) (o ∷ old) (inl none) = absurd (omega arith)
      by (x ∷ items) (o ∷ old) (inr none) = absurd (omega arith)
