-- What hearing a block does to a client, to a quoted unit, and to the lines.
use Rattle.std.specs.Prelude.{◌≡◌, ℕ, List, ◌++◌}
use Rattle.unit_packets.specs.Blocks.{Block}
use Rattle.pitch_model.specs.History.{Entry, Raw}
use Rattle.pitch_model.specs.Honest.{Honest}
use Rattle.pitch_model.specs.Levels.{level}
use Rattle.heard_items.specs.HeardBlocks.{heard_block}
use Rattle.client_core.specs.Tracks.{Tracks, Keeps}
use Rattle.client_core.specs.Client.{current_book}
use Rattle.client_core.specs.declared.client.UnitClient.{UnitClient}
use Rattle.best_quotes.specs.Leveling.{Entries, Has}
use Rattle.best_quotes.specs.Quoting.{quotes_of_block}
use Rattle.best_quotes.specs.Stands.{Stands}
use Rattle.best_quotes.specs.declared.quote.QuoteLine.{QuoteLine}
use Rattle.best_quotes.specs.declared.unit.QuotedUnit.{QuotedUnit}

-- the levels stay those of the client's book
abbrev pub LevelsStay : UnitClient → UnitClient → Entries → Entries → Type 0
LevelsStay old new levels levels' =
    Has levels (level (current_book old)) → Has levels' (level (current_book new))

-- of any venue to which a client keeps, whose book has these levels, the lines are those of the
-- block
abbrev pub Tells : UnitClient → Entries → List QuoteLine → List QuoteLine → Block → Type 0
Tells client levels lines lines' block =
    (Image : List Raw → ℕ → List Raw) (V : List Raw) → (H : ℕ) (E : List Entry)
    → Tracks client H E → Honest Image V (heard_block block E) → Keeps client V
    → Has levels (level (current_book client)) → lines' ≡ lines ++ quotes_of_block H V E block

-- ---- A quoted unit
-- whatever history a unit stood for, it then stands for that history and the block
abbrev pub StandsOn : QuotedUnit → QuotedUnit → Block → Type 0
StandsOn old new block =
    (H : ℕ) (E : List Entry) → Stands old H E → Stands new H (heard_block block E)

-- of any venue of which that history speaks, the lines are those of the block
abbrev pub Quotes : QuotedUnit → List QuoteLine → List QuoteLine → Block → Type 0
Quotes unit lines lines' block =
    (Image : List Raw → ℕ → List Raw) (V : List Raw) (H : ℕ) (E : List Entry)
    → Stands unit H E → Honest Image V (heard_block block E)
    → lines' ≡ lines ++ quotes_of_block H V E block
