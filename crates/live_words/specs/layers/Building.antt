-- How clap's commands are made of the program's tables.
use Rattle.std.specs.Prelude.{◌≡◌, Bool, true, false, List, []}
use Rattle.std.specs.Borrow.{Bor}
use Rattle.clap.specs.Simple.{app_of}
use Rattle.clap.specs.Walk.{Rule}
use Rattle.clap.specs.declared.builder.command.Command.{Command}
use Rattle.clap.specs.declared.builder.command.Command.TheViews.{out-Command}
use Rattle.long_options.specs.Words.{Text}
use Rattle.live_words.specs.Options.{any_times, once, command_with}

-- an option of a table: its name, and whether it may be given any number of times
abbrev pub listed_rule : Text → Bool → Rule
listed_rule name true = any_times name
listed_rule name false = once name

abbrev pub rule_in : Bor Text × Bool → Rule
rule_in listed = listed_rule listed.0.now listed.1

-- clap's command has this name and these options, and no global one
abbrev pub IsMade : Text → List Rule → Command → Type 0
IsMade name rules made = (app_of made ≡ record { top = command_with name rules; subs = [] })
    × ((out-Command made).has_globals ≡ false)
