use Rattle.std.proofs.Common.{◌≡◌, map, take}
use Rattle.clap.specs.Simple.{app_of}
use Rattle.pitch_words.specs.layers.Commands.{described_of, so_far}
use Rattle.pitch_words.proofs.app.with_commands.Given as goal

-- the program has the commands so far
abbrev pub invariant-loop-described : goal.invariant-loop-described
invariant-loop-described l = app_of l.program ≡ so_far (map described_of (take l.described-index l.commands))
