-- A command with one option more, and a program with one command more.
use Rattle.std.proofs.Common.{◌≡◌, ◌∙◌, ◌||◌, false, List, [], ◌∷◌, ◌++◌, ap, ap₂}
use Rattle.clap.specs.Built.{AddsArg, AddsSubcommand}
use Rattle.clap.specs.Simple.{App, app_of, with_rule, with_subcommand}
use Rattle.clap.specs.Walk.{Rule, rule_of}
use Rattle.clap.specs.declared.builder.arg.Arg.{Arg}
use Rattle.clap.specs.declared.builder.command.Command.{Command}
use Rattle.long_options.specs.Words.{Text}
use Rattle.live_words.specs.Options.{command_with}
use Rattle.live_words.specs.layers.Building.{IsMade}

pub with_option : (name : Text) (rules : List Rule) (rule : Rule) (old new : Command) (arg : Arg) → IsMade name rules old → rule_of arg ≡ rule → arg.global ≡ false → AddsArg old arg new → IsMade name (rules ++ rule ∷ []) new
with_option name rules rule old new arg made is local adds =
    (adds.shape local ∙ ap₂ with_rule made.0 is, adds.globals ∙ ap₂ ◌||◌ made.1 local)

pub with_command : (name : Text) (rules : List Rule) (program : App) (old sub new : Command) → app_of old ≡ program → IsMade name rules sub → AddsSubcommand old sub new → app_of new ≡ with_subcommand program (command_with name rules)
with_command name rules program old sub new is made adds = adds.shape made.1 ∙ ap₂ with_subcommand is (ap (λ (a : App). a.top) made.0)
