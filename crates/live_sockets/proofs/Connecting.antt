-- Which connections of a table stand.
use Rattle.std.proofs.Common.{◌≡◌, ℕ, zero, suc, List, [], ◌∷◌, map, set, not, Bool, refl, ap}
use Rattle.std.specs.Prelude.{Option, Some, None, is_some, is_none}
use Rattle.std.specs.List.{list_any}
use Rattle.std.proofs.lemmas.List.{map-set, map-append, set_past, length-map, replicate_more}
use Rattle.std.proofs.lemmas.List.{take-map, drop-map}
use Rattle.std.proofs.Math.Seq.{map-set_same}

-- one of them is changed, or none where there is no such one, or one more comes
pub ruleset changes = (map-set, map-set_same, set_past, length-map, map-append, replicate_more)

-- one that is changed twice is as it was left
pub changed_again : (stand : List Bool) (i : ℕ) (one other : Bool) → set (set stand i one) i other ≡ set stand i other
changed_again [] i one other = refl
changed_again (stands ∷ stand) zero one other = refl
changed_again (stands ∷ stand) (suc i) one other = ap (λ (l : List Bool). stands ∷ l) (changed_again stand i one other)

-- there is none at one of them exactly where one does not stand
pub any_free : {X : Type 0} (slots : List (Option X)) → list_any not (map is_some slots) ≡ list_any is_none slots
any_free [] = refl
any_free (None ∷ slots) = refl
any_free (Some slot ∷ slots) = any_free slots

-- which of so many from a number on stand
pub ruleset some = (take-map, drop-map, any_free)
