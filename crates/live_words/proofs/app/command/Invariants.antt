use Rattle.std.proofs.Common.{map, take}
use Rattle.live_words.specs.layers.Building.{IsMade, rule_in}
use Rattle.live_words.proofs.app.command.Given as goal

-- the command has the options so far
abbrev pub invariant-loop-listed : goal.invariant-loop-listed
invariant-loop-listed l = IsMade l.name (map rule_in (take l.listed-index l.options)) l.command
