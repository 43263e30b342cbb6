-- The parts of a storm as the code goes over them. No caller needs them.
use Rattle.std.specs.Prelude.{ℕ, ◌≤◌, List}
use Rattle.pitch_text.specs.declared.verb.Verb.{Verb}
use Rattle.storm_replay.specs.declared.verbs.Part.{Part}
use Rattle.storm_replay.specs.declared.verbs.Part.TheVariants.{Start, Step, End}
use Rattle.storm_replay.specs.Storm.{start_verbs, step_verbs, end_verbs, by_each}
use Rattle.storm_replay.specs.layers.Limits.{most_steps}

-- a part of a storm of at most so many steps, which count from 1
abbrev pub IsPart : Part → Type 0
IsPart Start = Unit {0}
IsPart (Step index) = (1 ≤ index) × (index ≤ most_steps)
IsPart (End steps) = steps ≤ most_steps

-- what a unit does in a part
abbrev pub part_verbs : ℕ → Part → ℕ → List Verb
part_verbs number Start unit = start_verbs
part_verbs number (Step index) unit = step_verbs number unit index
part_verbs number (End steps) unit = end_verbs steps

-- a part by each unit
abbrev pub part_by_each : ℕ → ℕ → Part → List (ℕ × Verb)
part_by_each number units part = by_each (part_verbs number part) units
