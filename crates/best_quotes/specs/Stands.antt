-- What a quoted unit stands for.
use Rattle.std.specs.Prelude.{ℕ, List}
use Rattle.pitch_model.specs.History.{Entry, Raw}
use Rattle.pitch_model.specs.Honest.{Honest}
use Rattle.pitch_model.specs.Levels.{level}
use Rattle.client_core.specs.Tracks.{Tracks, Keeps}
use Rattle.client_core.specs.Client.{current_book}
use Rattle.best_quotes.specs.Leveling.{Has}
use Rattle.best_quotes.specs.declared.unit.QuotedUnit.{QuotedUnit}

-- its client is where the history E brings one whose hold has H places, and keeps to every venue of
-- which E speaks; and its levels are those of the client's book
pub record Stands (unit : QuotedUnit) (H : ℕ) (E : List Entry) : Type 0 where
  pub tracks : Tracks unit.client H E
  pub keeps : (Image : List Raw → ℕ → List Raw) (V : List Raw)
      → Honest Image V E → Keeps unit.client V
  pub has : Has unit.levels.entries (level (current_book unit.client))
