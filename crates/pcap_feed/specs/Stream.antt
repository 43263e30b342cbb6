-- A stream of items that stand back to back, cut by a judgement of its front. Nothing here knows
-- what an item is.
use Rattle.std.specs.Prelude.{ℕ, zero, suc, List, [], ◌∷◌, length, drop, Result, Ok, Err}

-- what stands at the front of some bytes: an item and the number of its bytes, or why none stands
-- there
abbrev pub Front : Type 0 → Type 0 → Type 0
Front I E = List ℕ → Result (I × ℕ) E

abbrev pub items_found : {I E : Type 0} → (List ℕ → List I) → List ℕ → Result (I × ℕ) E → List I
items_found more bytes (Ok found) = found.0 ∷ more (drop found.1 bytes)
items_found more bytes (Err e) = []

abbrev pub left_over_found : {I E : Type 0} → (List ℕ → List ℕ) → List ℕ → Result (I × ℕ) E → List ℕ
left_over_found more bytes (Ok found) = more (drop found.1 bytes)
left_over_found more bytes (Err e) = bytes

-- at most n items that stand back to back at the front
unfoldable pub items_within_by : {I E : Type 0} → Front I E → ℕ → List ℕ → List I
items_within_by front zero bytes = []
items_within_by front (suc n) bytes = items_found (items_within_by front n) bytes (front bytes)

-- what follows them
unfoldable pub left_over_by : {I E : Type 0} → Front I E → ℕ → List ℕ → List ℕ
left_over_by front zero bytes = bytes
left_over_by front (suc n) bytes = left_over_found (left_over_by front n) bytes (front bytes)

-- the longest list of items at the front: an item has a byte, so there are no more items than bytes
unfoldable pub items_within : {I E : Type 0} → Front I E → List ℕ → List I
items_within front bytes = items_within_by front (length bytes) bytes

-- what follows it
unfoldable pub left_over : {I E : Type 0} → Front I E → List ℕ → List ℕ
left_over front bytes = left_over_by front (length bytes) bytes
