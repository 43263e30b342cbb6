-- The forms of the program's words.
use Rattle.std.specs.Prelude.{◌≡◌, ◌-◌, ◌^◌, Bool, true, false, List, [], ◌∷◌, Option, None, codes}
use Rattle.pitch_fields.specs.Limits.{most_held}
use Rattle.pitch_text.specs.Defaults.{default_hold}
use Rattle.long_options.specs.Words.{Described, Given, IsCall, Text, may_have, may_set, must_have}
use Rattle.long_options.specs.Found.{Options, given_options}
use Rattle.pitch_words.specs.Numbers.{IsGivenNumber, IsGivenOr, IsGivenMaybe}
use Rattle.pitch_words.specs.declared.form.Form.{Form}
use Rattle.pitch_words.specs.declared.form.Form.TheVariants as form
use Rattle.pitch_words.specs.declared.form.Form.TheVariants.{Stream, Storm, Drill, Demo, Audit}
use Rattle.pitch_words.specs.declared.form.Carried.{Carried}
use Rattle.pitch_words.specs.declared.form.Carried.TheVariants.{Bare, Capture}
use Rattle.pitch_words.specs.declared.form.StreamWords.{StreamWords}
use Rattle.pitch_words.specs.declared.form.StreamWords.TheVariants.{Follow, Show, Relay, Quotes}
use Rattle.pitch_words.specs.declared.form.TextWords.TheVariants.{Pack, Replay}

-- `follow [--hold H]`, and `follow --pcap [--port P] [--hold H]`: a capture carries the stream of a
-- command that has these options, and of no other
abbrev pub follow : Described
follow = (
  codes "follow",
  may_have (codes "hold")
      ∷ may_set (codes "pcap") ∷ may_have (codes "port") ∷ [],
)

-- `show`
abbrev pub show : Described
show = (codes "show", [])

-- `pack --unit U`
abbrev pub pack : Described
pack = (codes "pack", must_have (codes "unit") ∷ [])

-- `replay [--workers K]`
abbrev pub replay : Described
replay = (codes "replay", may_have (codes "workers") ∷ [])

-- `storm --number S --units N --steps M [--workers K]`
abbrev pub storm : Described
storm = (
  codes "storm",
  must_have (codes "number")
      ∷ must_have (codes "units") ∷ must_have (codes "steps") ∷ may_have (codes "workers") ∷ [],
)

-- `drill --number S --units N --count C`
abbrev pub drill : Described
drill = (
  codes "drill",
  must_have (codes "number")
      ∷ must_have (codes "units") ∷ must_have (codes "count") ∷ [],
)

-- `demo --number S --count C`
abbrev pub demo : Described
demo = (codes "demo", must_have (codes "number") ∷ must_have (codes "count") ∷ [])

-- `relay [--hold H]`
abbrev pub relay : Described
relay = (codes "relay", may_have (codes "hold") ∷ [])

-- `quotes [--hold H]`
abbrev pub quotes : Described
quotes = (codes "quotes", may_have (codes "hold") ∷ [])

-- `audit`
abbrev pub audit : Described
audit = (codes "audit", [])

-- the command that a form gives
abbrev pub command_of : Form → Described
command_of (Stream carried (Follow hold)) = follow
command_of (Stream carried Show) = show
command_of (Stream carried (Relay hold)) = relay
command_of (Stream carried (Quotes hold)) = quotes
command_of (form.Text (Pack unit)) = pack
command_of (form.Text (Replay workers)) = replay
command_of (Storm number units steps workers) = storm
command_of (Drill number units count) = drill
command_of (Demo number count) = demo
command_of Audit = audit

-- what carries a stream, by whether `--pcap` is given and by P, a number from 0 to 65,535 that is
-- given only where `--pcap` is
abbrev pub IsCarried : Bool → Option Text → Carried → Type 0
IsCarried pcap port Bare = (pcap ≡ false) × IsGivenMaybe 0 65535 port None
IsCarried pcap port (Capture p) = (pcap ≡ true) × IsGivenMaybe 0 65535 port p

-- what is printed of a stream has this hold: H is 1 to 65,536, and 4,096 where it isn't given;
-- `show` has none
abbrev pub HasHold : Option Text → StreamWords → Type 0
HasHold text (Follow hold) = IsGivenOr default_hold 1 most_held text hold
HasHold text Show = Unit {0}
HasHold text (Relay hold) = IsGivenOr default_hold 1 most_held text hold
HasHold text (Quotes hold) = IsGivenOr default_hold 1 most_held text hold

-- the options have the form's numbers: those of a stream are above; U is 1 to 255; S is any number
-- of 64 bits, N 1 to 16 and M 1 to 10,000; K is 1 to 64, and 1 where it isn't given; C is 1 to
-- 100,000, and of a demo 1 to 1,000; `audit` has none
abbrev pub HasNumbers : Options → Form → Type 0
HasNumbers options (Stream carried form) =
    IsCarried (options.has (codes "pcap")) (options.value (codes "port")) carried
    × HasHold (options.value (codes "hold")) form
HasNumbers options (form.Text (Pack unit)) =
    IsGivenNumber 1 255 (options.value (codes "unit")) unit
HasNumbers options (form.Text (Replay workers)) =
    IsGivenOr 1 1 64 (options.value (codes "workers")) workers
HasNumbers options (Storm number units steps workers) =
    IsGivenNumber 0 (2 ^ 64 - 1) (options.value (codes "number")) number
    × IsGivenNumber 1 16 (options.value (codes "units")) units
    × IsGivenNumber 1 10000 (options.value (codes "steps")) steps
    × IsGivenOr 1 1 64 (options.value (codes "workers")) workers
HasNumbers options (Drill number units count) =
    IsGivenNumber 0 (2 ^ 64 - 1) (options.value (codes "number")) number
    × IsGivenNumber 1 16 (options.value (codes "units")) units
    × IsGivenNumber 1 100000 (options.value (codes "count")) count
HasNumbers options (Demo number count) =
    IsGivenNumber 0 (2 ^ 64 - 1) (options.value (codes "number")) number
    × IsGivenNumber 1 1000 (options.value (codes "count")) count
HasNumbers options Audit = Unit {0}

-- the words are this form: its command, then that command's options, with its numbers
abbrev pub IsForm : List Text → Form → Type 0
IsForm words form = (given : List Given)
    × IsCall (command_of form) words given × HasNumbers (given_options given) form
