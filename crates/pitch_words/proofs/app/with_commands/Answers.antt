use Rattle.std.proofs.Common.{◌≡◌, ◌<◌, List, length, map, take, rules, subst, sym}
use Rattle.clap.specs.Simple.{app_of}
use Rattle.long_options.specs.Words.{Described}
use Rattle.pitch_words.specs.layers.Commands.{described_of, so_far}
use Rattle.pitch_words.proofs.Building.{one_more, with_command}
use Rattle.pitch_words.proofs.app.with_commands.Goals as goal

pub loop-described-preserved : goal.loop-described-preserved
loop-described-preserved c =
    let place : c.loop-described.described-index < length c.args.commands.now = search rules in
    subst (λ (described : List Described). app_of c.in_ok-program.program ≡ so_far described) (sym (one_more described_of c.args.commands.now c.loop-described.described-index _ place))
    (with_command (map described_of (take c.loop-described.described-index c.args.commands.now)) _ c.loop-described.program c.in_ok-command.command c.in_ok-program.program
    c.loop-described.invariant c.in_ok-command.ensures c.in_ok-program.ensures)
