use Rattle.std.proofs.Common.{map, take}
use Rattle.pitch_words.specs.layers.Commands.{IsMade, listed_of}
use Rattle.pitch_words.proofs.app.command.Given as goal

-- the command has the options so far
abbrev pub invariant-loop-listed : goal.invariant-loop-listed
invariant-loop-listed l = IsMade (l.name, map listed_of (take l.listed-index l.options)) l.command
