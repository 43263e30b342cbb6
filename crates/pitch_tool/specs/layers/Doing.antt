-- What some jobs need so that they can be done.
use Rattle.std.specs.Prelude.{ℕ, ◌≤◌}
use Rattle.pitch_words.specs.declared.form.TextWords.{TextWords}
use Rattle.pitch_words.specs.declared.form.TextWords.TheVariants.{Pack, Replay}
use Rattle.schedule_replay.specs.layers.Apart.{most_workers}
use Rattle.storm_replay.specs.layers.Limits.{most_steps, most_units}
use Rattle.drill_client.specs.layers.Limits.{most_drill_units, most_drilled}

-- work can be parted into so many pieces
abbrev pub AreWorkers : ℕ → Type 0
AreWorkers workers = (1 ≤ workers) × (workers ≤ most_workers)

-- a form's workers are some
abbrev pub CanMake : TextWords → Type 0
CanMake (Pack unit) = Unit {0}
CanMake (Replay workers) = AreWorkers workers

-- a drill can have so many units, and so many commands for each
abbrev pub IsDrill : (units count : ℕ) → Type 0
IsDrill units count = (1 ≤ units × units ≤ most_drill_units) × (1 ≤ count × count ≤ most_drilled)

-- a demo may have so many messages
abbrev pub IsDemoCount : (count : ℕ) → Type 0
IsDemoCount count = (1 ≤ count) × (count ≤ 1000)

-- a storm can have so many units and steps
abbrev pub IsStorm : (units steps : ℕ) → Type 0
IsStorm units steps = (1 ≤ units × units ≤ most_units) × (1 ≤ steps × steps ≤ most_steps)
