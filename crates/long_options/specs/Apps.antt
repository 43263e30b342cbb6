-- The commands as clap's builders make them.
use Rattle.std.specs.Prelude.{true, false, List, [], map, Some, if◌then◌else◌}
use Rattle.clap.specs.Walk.{Rule}
use Rattle.clap.specs.Simple.{App, Shape, new_rule, new_shape}
use Rattle.clap.specs.declared.builder.action.ArgAction.TheVariants.{Set, SetTrue}
use Rattle.long_options.specs.Words.{Described, Listed, Text}

-- an option `--name`, with one value or none
abbrev pub option_rule : Listed → Rule
option_rule o =
    record (new_rule o.0) {
      long = Some o.0;
      action = Some (if o.2 then SetTrue else Set);
      required = o.1;
    }

-- a command with its options, and no help or version
abbrev pub command_shape : Described → Shape
command_shape c = record (new_shape c.0) {
  rules = map option_rule c.1;
  disable_help_flag = true;
  disable_version_flag = true;
}

-- a command alone
abbrev pub command_app : Described → App
command_app c = record { top = command_shape c; subs = [] }

-- a program of these commands, of which one must be there; it has no help or version either
abbrev pub program : Text → List Described → App
program name commands = record {
  top = record (new_shape name) {
    is_leaf = false;
    no_binary_name = true;
    disable_help_flag = true;
    disable_help_subcommand = true;
    disable_version_flag = true;
    subcommand_required = true;
  };
  subs = map command_shape commands;
}

-- the program before its first command is added
abbrev pub empty_program : Text → App
empty_program name = record { top = record (program name []).top { is_leaf = true }; subs = [] }
