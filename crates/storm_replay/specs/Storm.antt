-- The schedule of a storm: some units that get the plan, lose copies of their datagrams, and end
-- with an image. It is this project's own.
use Rattle.std.specs.Prelude.{ℕ, zero, suc, ◌+◌, ◌-◌, ◌%◌, Bool, ◌==◌, ◌&&◌, not, nat_le, List, []}
use Rattle.std.specs.Prelude.{◌∷◌, ◌++◌, map, None, if◌then◌else◌}
use Rattle.pitch_io.specs.declared.line.Line.{Line}
use Rattle.pitch_io.specs.declared.line.Line.TheVariants as lines
use Rattle.pitch_text.specs.declared.verb.Session.TheVariants.{Grp, Spin}
use Rattle.pitch_text.specs.declared.verb.Verb.{Verb}
use Rattle.pitch_text.specs.declared.verb.Verb.TheVariants as verbs
use Rattle.pitch_text.specs.Printing.{lines_text}
use Rattle.venue_core.specs.Losses.{is_lost}
use Rattle.venue_core.specs.Plan.{plan_command}

-- ---- What one unit does
-- at the start: the session with the Gap Request Proxy is opened
abbrev pub start_verbs : List Verb
start_verbs = verbs.Connect Grp ∷ verbs.Up Grp None ∷ verbs.Down Grp None ∷ []

-- datagram `index` arrives on a line, or does not
abbrev pub arrival : Line → ℕ → Bool → List Verb
arrival line index arrives = if arrives then verbs.Deliver line index ∷ [] else []

-- on line A a datagram arrives at its own step, unless that copy is lost
abbrev pub arrives_at_once : ℕ → ℕ → ℕ → Bool
arrives_at_once number unit index = not (is_lost number unit index 1)

-- on line B the datagram of three steps before arrives, unless that copy is lost
abbrev pub arrives_late : ℕ → ℕ → ℕ → Bool
arrives_late number unit index = nat_le 4 index && not (is_lost number unit (index - 3) 2)

-- at every tenth step the client asks for what it lacks, and gets what is replayed
abbrev pub tenth_verbs : ℕ → List Verb
tenth_verbs index =
    if index % 10 == 0
    then verbs.Tick ∷ verbs.Up Grp None ∷ verbs.Down Grp None ∷ verbs.Rest lines.Gap ∷ []
    else []

-- at a step: a command of the plan makes a message, whose datagram is sent on both lines
abbrev pub step_verbs : ℕ → ℕ → ℕ → List Verb
step_verbs number unit index =
    verbs.Command (plan_command number unit index) ∷ verbs.Flush
    ∷ (arrival lines.A index (arrives_at_once number unit index)
    ++ (arrival lines.B (index - 3) (arrives_late number unit index)
    ++ tenth_verbs index))

-- at the end: a heartbeat, which is not lost, tells of the last message; then the proxy goes, and a
-- Spin Server gives an image through that message to a client that still lacks some
abbrev pub end_verbs : ℕ → List Verb
end_verbs steps =
    verbs.Beat ∷ verbs.Deliver lines.A (steps + 1)
    ∷ verbs.Cut Grp ∷ verbs.Connect Spin ∷ verbs.Up Spin None ∷ verbs.Advertise
    ∷ verbs.Down Spin None ∷ verbs.Tick ∷ verbs.Up Spin None ∷ verbs.Down Spin None ∷ []

-- ---- What all units do
-- the entries of a unit that does these
abbrev pub entries_for : ℕ → List Verb → List (ℕ × Verb)
entries_for unit verbs = map (λ verb. (unit, verb)) verbs

-- each of the first units does its part, one after another
unfoldable pub by_each : (ℕ → List Verb) → ℕ → List (ℕ × Verb)
by_each part zero = []
by_each part (suc unit) = by_each part unit ++ entries_for (suc unit) (part (suc unit))

-- the first steps, each of them by each unit
unfoldable pub storm_steps : ℕ → ℕ → ℕ → List (ℕ × Verb)
storm_steps number units zero = []
storm_steps number units (suc index) =
    storm_steps number units index ++ by_each (λ unit. step_verbs number unit (suc index)) units

-- the entries of the schedule
abbrev pub storm_entries : ℕ → ℕ → ℕ → List (ℕ × Verb)
storm_entries number units steps =
    by_each (λ unit. start_verbs) units
    ++ (storm_steps number units steps ++ by_each (λ unit. end_verbs steps) units)

-- its text
abbrev pub storm_schedule : ℕ → ℕ → ℕ → List ℕ
storm_schedule number units steps = lines_text (storm_entries number units steps)
