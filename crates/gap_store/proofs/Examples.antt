-- Worked examples of what can be looked up, computed by the definitions.
use Rattle.std.proofs.Common.{◌≡◌, [], ◌∷◌, refl, Some, None}
use Rattle.gap_store.specs.Look.{View, look, slice_of, store_of}
use Rattle.gap_store.specs.layers.Looking.{first_kept}
use Rattle.gap_store.specs.declared.found.Found.TheVariants.{Kept, Ahead, NotKept}

-- five messages, the last three of which are kept
abbrev five : View
five = record { messages = (1 ∷ []) ∷ (2 ∷ []) ∷ (3 ∷ []) ∷ (4 ∷ []) ∷ (5 ∷ []) ∷ []; kept = 3 }

the_last_three_are_kept : look five 3 3 ≡ Kept
the_last_three_are_kept = refl

what_is_to_come : look five 5 2 ≡ Ahead 5
what_is_to_come = refl

what_is_gone : look five 2 2 ≡ NotKept 3
what_is_gone = refl

-- what is gone and to come is told to come
both : look five 1 9 ≡ Ahead 5
both = refl

two_from_the_third : slice_of five 3 2 ≡ (3 ∷ []) ∷ (4 ∷ []) ∷ []
two_from_the_third = refl

the_third_is_the_oldest : first_kept five ≡ Some 3
the_third_is_the_oldest = refl

none_before_the_first : first_kept (record { messages = []; kept = 3 }) ≡ None
none_before_the_first = refl

three_stand_in_the_store : store_of five ≡ record { items = (3 ∷ []) ∷ (4 ∷ []) ∷ (5 ∷ []) ∷ []; room = 3; pushed = 5 }
three_stand_in_the_store = refl
