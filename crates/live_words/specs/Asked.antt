-- What the words ask for.
use Rattle.std.specs.Prelude.{◌≡◌, ◌<◌, ◌+◌, ◌-◌, ◌^◌, ◌++◌, true, false, List, [], ◌∷◌, length}
use Rattle.std.specs.Prelude.{Option, Some, None, codes, is_some}
use Rattle.std.specs.Net.Grammar.{IsIpText, IsSocketText}
use Rattle.clap.specs.Faults.{fault_of}
use Rattle.clap.specs.Simple.{App, Shape, subcommand_of}
use Rattle.clap.specs.Walk.{Row, Rule, first_of}
use Rattle.long_options.specs.Words.{Text}
use Rattle.long_options.specs.Apps.{program}
use Rattle.long_options.specs.Plain.{has_dashes}
use Rattle.pitch_fields.specs.Limits.{most_held}
use Rattle.pitch_text.specs.Defaults.{default_hold}
use Rattle.pitch_words.specs.Numbers.{IsGivenMaybe, IsGivenOr, IsNumber}
use Rattle.line_sockets.specs.declared.port.Port.{Port}
use Rattle.line_sockets.specs.declared.port.Port.TheVariants as port
use Rattle.live_words.specs.Options.{any_times, once, server_rules, command_with}
use Rattle.live_words.specs.Options.{AreNamed, IsAccount, IsServerText, texts_of, units_of, can_ask}
use Rattle.live_words.specs.Serving.{AreServed, serve_shape}
use Rattle.live_words.specs.declared.listen_words.LineWords.{LineWords}
use Rattle.live_words.specs.declared.listen_words.ServerWords.{ServerWords}
use Rattle.live_words.specs.declared.listen_words.ListenWords.{ListenWords}
use Rattle.live_words.specs.declared.words.Asked.{Asked}
use Rattle.live_words.specs.declared.words.Asked.TheVariants.{Listen, Serve}

-- ---- the words, as clap's builders are told of them
-- the options of the lines and units of `listen`, and of its run
abbrev pub line_rules : List Rule
line_rules = any_times (codes "a") ∷ any_times (codes "b") ∷ any_times (codes "gap")
    ∷ any_times (codes "from") ∷ any_times (codes "unit") ∷ []

abbrev pub run_rules : List Rule
run_rules = once (codes "hold") ∷ once (codes "seconds") ∷ []

-- `listen` with these options
abbrev pub listen_with : List Rule → Shape
listen_with rules = command_with (codes "listen") rules

abbrev pub listen_shape : Shape
listen_shape = listen_with (line_rules ++ server_rules ++ run_rules)

-- the program with its commands
abbrev pub pitch_live : App
pitch_live = record (program (codes "pitch_live") []) { subs = listen_shape ∷ serve_shape ∷ [] }

-- ---- what they ask for
-- a port: a socket address, or `fd:` and a number from 3 to 65,535
abbrev pub IsPortText : Text → Port → Type 0
IsPortText text (port.Bound addr) = IsSocketText text addr
IsPortText text (port.Given n) =
    (digits : Text) × (text ≡ codes "fd:" ++ digits) × IsNumber 3 65535 digits n

-- the options of the lines, of which there is one at least
pub record AreLines (rows : List Row) (lines : LineWords) : Type 0 where
  pub a : AreNamed IsPortText (texts_of (codes "a") rows) lines.a.items
  pub b : AreNamed IsPortText (texts_of (codes "b") rows) lines.b.items
  pub gap : AreNamed IsPortText (texts_of (codes "gap") rows) lines.gap.items
  pub from : AreNamed IsIpText (texts_of (codes "from") rows) lines.from.items
  pub some : 0 < length lines.a.items + length lines.b.items + length lines.gap.items

-- the options of the servers
pub record AreServers (rows : List Row) (servers : ServerWords) : Type 0 where
  pub grp : AreNamed IsServerText (texts_of (codes "grp") rows) servers.grp.items
  pub spin : AreNamed IsServerText (texts_of (codes "spin") rows) servers.spin.items
  pub account : IsAccount (first_of (codes "sub") rows) (first_of (codes "user") rows)
      (first_of (codes "password") rows) servers.account
  pub asks : can_ask (units_of servers.grp.items) (units_of servers.spin.items)
      (is_some servers.account) ≡ true

-- the options of `listen` ask for this
pub record AreAsked (rows : List Row) (asked : ListenWords) : Type 0 where
  pub lines : AreLines rows asked.lines
  pub units : AreNamed (IsNumber 1 255) (texts_of (codes "unit") rows) asked.units.items
  pub servers : AreServers rows asked.servers
  pub hold : IsGivenOr default_hold 1 most_held (first_of (codes "hold") rows) asked.hold
  pub seconds : IsGivenMaybe 0 (2 ^ 64 - 1) (first_of (codes "seconds") rows) asked.seconds

-- what `clap` found asks for this
abbrev pub HasAsked : Option (Text × List Row) → Asked → Type 0
HasAsked None asked = ⊥
HasAsked (Some found) (Listen words) = (found.0 ≡ codes "listen") × AreAsked found.1 words
HasAsked (Some found) (Serve words) = (found.0 ≡ codes "serve") × AreServed found.1 words

-- the words ask for this: `clap` takes them, none is `--`, and what it found asks for it
pub record IsAsked (words : List Text) (asked : Asked) : Type 0 where
  pub taken : fault_of pitch_live words ≡ []
  pub plain : has_dashes words ≡ false
  pub found : HasAsked (subcommand_of pitch_live words) asked
