-- A table with a place for each unit, and what holds of its places.
use Rattle.std.specs.Prelude.{◌≡◌, ℕ, List, length, Option, Some, refl, slice_get, slice_set}
use Rattle.std.specs.Coded.{Coded, code_by, coded×, coded_ℕ, coded_list, coded_option}

-- how many messages each of those in the places holds at most, and the place of each unit at its
-- number
pub record UnitTable (T : Type 0) : Type 0 where
  pub limit : ℕ
  pub places : List (Option T)

module _ {T : Type 0} where
  -- a table is stored as the pair of its fields
  abbrev pub table_code : Coded T → Coded (UnitTable T)
  table_code code =
      code_by (ℕ × List (Option T)) (coded× coded_ℕ (coded_list (coded_option code)))
      (λ t. (t.limit, t.places)) (λ p. record { limit = p.0; places = p.1 }) (λ _. refl)

  -- the table with this in the place of a unit
  abbrev pub with_place : UnitTable T → ℕ → Option T → UnitTable T
  with_place table unit place =
      record { limit = table.limit; places = slice_set table.places unit place }

  -- each of the 256 units has its place, and this holds of each unit and its place
  pub record AtEach (P : ℕ → Option T → Type 0) (places : List (Option T)) : Type 0 where
    pub many : length places ≡ 256
    pub each : (unit : ℕ) (place : Option T)
        → slice_get places unit ≡ Some place → P unit place
