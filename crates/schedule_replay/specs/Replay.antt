-- What a schedule writes. Entries that came before stand newest first, as the verbs of a world do.
use Rattle.std.specs.Prelude.{ℕ, List, [], ◌∷◌, ◌==◌, map, None, Result, Ok, Err, if◌then◌else◌}
use Rattle.feed_lines.specs.Texts.{texts_after}
use Rattle.pitch_text.specs.ScheduleGrammar.{entry, schedule_entry, setup_of}
use Rattle.pitch_text.specs.declared.verb.ScheduleEntry.{ScheduleEntry}
use Rattle.pitch_text.specs.declared.verb.Verb.{Verb}
use Rattle.pitch_text.specs.declared.verb.Verb.TheVariants as verbs
use Rattle.text_lines.specs.Text.{TextFault, entries_of}
use Rattle.world_model.specs.Ends.{default_limits}
use Rattle.world_model.specs.Printed.{verb_text}
use Rattle.world_model.specs.Verbs.{state_of}
use Rattle.world_model.specs.declared.limits.Limits.{Limits}
use Rattle.schedule_replay.specs.declared.error.ReplayError.{ReplayError}
use Rattle.schedule_replay.specs.declared.error.ReplayError.TheVariants.{Text}

-- ---- A unit

-- the verbs of a unit's lines
abbrev pub verbs_of : ℕ → List ScheduleEntry → List Verb
verbs_of unit [] = []
verbs_of unit (entry ∷ before) =
    if entry.unit == unit then entry.verb ∷ verbs_of unit before else verbs_of unit before

-- the limits of a unit that begins with this verb: `open` says them
abbrev pub limits_at : Verb → Limits
limits_at (verbs.Setup hold kept second minute day) =
    record { hold = hold; kept = kept; second = second; minute = minute; day = day }
limits_at _ = default_limits

-- the limits of a unit with these verbs: the first of them sets them
abbrev pub limits_of : List Verb → Limits
limits_of [] = default_limits
limits_of (verb ∷ []) = limits_at verb
limits_of (verb ∷ earlier ∷ before) = limits_of (earlier ∷ before)

-- no `open` says what an `open` without fields does
abbrev pub open_alone : Verb
open_alone =
    setup_of (record { hold = None; kept = None; second = None; minute = None; day = None })

-- ---- The text

-- What a line writes that comes after others: what its verb prints in the world of its unit. That
-- world knows of no other unit's lines.
unfoldable pub replay_line : List ScheduleEntry → ScheduleEntry → List ℕ
replay_line before entry =
    let done = verbs_of entry.unit before in
    let limits = limits_of (entry.verb ∷ done) in
    verb_text entry.line entry.unit limits entry.verb (state_of entry.unit limits done)

-- what some lines write, in the schedule's order
abbrev pub replay_text : List ScheduleEntry → List ℕ
replay_text entries = texts_after replay_line [] entries

-- ---- A schedule's text

-- the entries that the lines of a text gave, or its first fault
abbrev pub schedule_on : Result (List (ℕ × (ℕ × Verb))) TextFault
    → Result (List ScheduleEntry) ReplayError
schedule_on (Ok entries) = Ok (map schedule_entry entries)
schedule_on (Err at) = Err (Text at.line at.fault.column at.fault.cause)

-- the entries of a schedule's text, or its first fault
abbrev pub schedule_of : List ℕ → Result (List ScheduleEntry) ReplayError
schedule_of text = schedule_on (entries_of entry text)

-- what the entries write, or the first fault of their text
abbrev pub replay_on : Result (List ScheduleEntry) ReplayError → Result (List ℕ) ReplayError
replay_on (Ok entries) = Ok (replay_text entries)
replay_on (Err error) = Err error

-- what a schedule writes, or the first fault of its text
abbrev pub replay_of : List ℕ → Result (List ℕ) ReplayError
replay_of text = replay_on (schedule_of text)
