-- Blocks that are logged one after another.
use Rattle.std.specs.Prelude.{◌≡◌, ℕ, ◌+◌, List, length, reverse, None, Some, Result, Ok, Err}
use Rattle.unit_packets.specs.Blocks.{Block}
use Rattle.unit_packets.specs.Cutting.{blocks_of}
use Rattle.pitch_model.specs.History.{Raw}
use Rattle.run_audit.specs.Input.{fault_in_log, gap_at}
use Rattle.run_audit.specs.Log.{logged, messages_at, with_block, MayFollow}
use Rattle.run_audit.specs.declared.input.InputError.{InputError}
use Rattle.run_audit.specs.declared.input.InputError.TheVariants.{Fault, OutOfMemory}

-- a block at a place was logged, or it may not follow
abbrev pub LogsOne : List (List Raw)
    → List (List Raw) → Block → ℕ → Result (Unit {0}) InputError → Type 0
LogsOne old new block place (Ok done) =
    MayFollow (messages_at old) block
    × ((unit : ℕ) → messages_at new unit ≡ with_block block (messages_at old) unit)
LogsOne old new block place (Err (Fault fault)) =
    (MayFollow (messages_at old) block → ⊥)
    × (fault ≡ gap_at place block.sequence (length (messages_at old block.unit) + 1))
LogsOne old new block place (Err OutOfMemory) = Unit {0}

-- all blocks of a log were logged
abbrev pub LogsAll : List ℕ → List (List Raw) → Type 0
LogsAll log audit = (fault_in_log log ≡ None)
    × ((unit : ℕ) → messages_at audit unit ≡ logged (reverse (blocks_of log)) unit)

-- they were not
abbrev pub IsLogRefused : List ℕ → InputError → Type 0
IsLogRefused log (Fault fault) = fault_in_log log ≡ Some fault
IsLogRefused log OutOfMemory = Unit {0}
