-- The commands as they are told to the reader of options, and the words of each form.
use Rattle.std.specs.Prelude.{◌≡◌, ℕ, ◌≤◌, Bool, true, false, List, [], ◌∷◌, Option, Some, None}
use Rattle.std.specs.Prelude.{codes, map}
use Rattle.std.specs.Borrow.{Bor}
use Rattle.pitch_fields.specs.Limits.{IsHoldLimit}
use Rattle.clap.specs.Simple.{App, app_of}
use Rattle.clap.specs.Walk.{Row}
use Rattle.clap.specs.declared.builder.command.Command.{Command}
use Rattle.clap.specs.declared.builder.command.Command.TheViews.{out-Command}
use Rattle.long_options.specs.Words.{Described, Listed, Text}
use Rattle.long_options.specs.Apps.{command_app, empty_program, program}
use Rattle.long_options.specs.layers.Finding.{found_options}
use Rattle.pitch_words.specs.declared.form.Form.{Form}
use Rattle.pitch_words.specs.declared.form.Form.TheVariants as form
use Rattle.pitch_words.specs.declared.form.Form.TheVariants.{Stream, Storm, Drill, Demo, Audit}
use Rattle.pitch_words.specs.declared.form.Carried.{Carried}
use Rattle.pitch_words.specs.declared.form.Carried.TheVariants.{Bare, Capture}
use Rattle.pitch_words.specs.declared.form.StreamWords.{StreamWords}
use Rattle.pitch_words.specs.declared.form.StreamWords.TheVariants.{Follow, Show, Relay, Quotes}
use Rattle.pitch_words.specs.declared.form.TextWords.TheVariants.{Pack, Replay}
use Rattle.pitch_words.specs.Forms.{follow, show, pack, replay, storm, drill, demo, relay, quotes}
use Rattle.pitch_words.specs.Forms.{audit, command_of, HasNumbers}

-- the program's commands
abbrev pub commands : List Described
commands = follow ∷ show ∷ pack ∷ replay ∷ storm ∷ drill ∷ demo ∷ relay ∷ quotes ∷ audit ∷ []

-- what carries a stream with this switch and this port, if something does
abbrev pub carried_by : Bool → Option ℕ → Option Carried
carried_by true port = Some (Capture port)
carried_by false None = Some Bare
carried_by false (Some port) = None

-- a capture carries `follow` alone
abbrev pub MayCarry : Carried → StreamWords → Type 0
MayCarry carried (Follow hold) = Unit {0}
MayCarry carried form = carried ≡ Bare

-- the hold of what is printed of a stream, if it has one, has from 1 to 65,536 places
abbrev pub HasHoldLimit : StreamWords → Type 0
HasHoldLimit (Follow hold) = IsHoldLimit hold
HasHoldLimit Show = Unit {0}
HasHoldLimit (Relay hold) = IsHoldLimit hold
HasHoldLimit (Quotes hold) = IsHoldLimit hold

-- a form's numbers lie within their ranges, and what carries it may
abbrev pub IsInRange : Form → Type 0
IsInRange (Stream carried form) = MayCarry carried form × HasHoldLimit form
IsInRange (form.Text (Pack unit)) = (1 ≤ unit) × (unit ≤ 255)
IsInRange (form.Text (Replay workers)) = (1 ≤ workers) × (workers ≤ 64)
IsInRange (Storm number units steps workers) =
    (1 ≤ units × units ≤ 16) × (1 ≤ steps × steps ≤ 10000) × (1 ≤ workers × workers ≤ 64)
IsInRange (Drill number units count) = (1 ≤ units × units ≤ 16) × (1 ≤ count × count ≤ 100000)
IsInRange (Demo number count) = (1 ≤ count) × (count ≤ 1000)
IsInRange Audit = Unit {0}

-- the program as clap's builders make it
abbrev pub pitch : App
pitch = program (codes "pitch") commands

-- an option and a command of the program's table
abbrev pub listed_of : Bor Text × Bool × Bool → Listed
listed_of o = (o.0.now, o.1, o.2)

abbrev pub described_of : Bor Text × Bor (List (Bor Text × Bool × Bool)) → Described
described_of c = (c.0.now, map listed_of c.1.now)

-- clap's command is made as this one is described, and has no global option
abbrev pub IsMade : Described → Command → Type 0
IsMade c made = (app_of made ≡ command_app c) × ((out-Command made).has_globals ≡ false)

-- the program with the first of its commands
abbrev pub so_far : List Described → App
so_far [] = empty_program (codes "pitch")
so_far (c ∷ cs) = program (codes "pitch") (c ∷ cs)

-- what clap found is this form: its command's name, and its numbers
abbrev pub HasForm : Option (Text × List Row) → Form → Type 0
HasForm None form = ⊥
HasForm (Some found) form =
    (found.0 ≡ (command_of form).0) × HasNumbers (found_options (command_of form).1 found.1) form
