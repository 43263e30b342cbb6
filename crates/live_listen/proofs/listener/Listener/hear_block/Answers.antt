use Rattle.std.proofs.Common.{rules, ◌≡◌, false}
use Rattle.live_listen.specs.Heard.{is_wanted}
use Rattle.live_listen.proofs.Hearing.{hears_stray}
use Rattle.live_listen.proofs.listener.Listener.hear_block.Goals as goal

pub returns-then-not-wants-clause-hears : goal.returns-then-not-wants-clause-hears
returns-then-not-wants-clause-hears g c =
    let is : is_wanted c.args.setup.now.units c.args.block.now ≡ false = search rules in
    hears_stray c.args.setup.now.units c.args.self.now c.in_ok-self.field-0 (g.O.Sink.written c.args.out.now) c.args.block.now is c.in_ok-self.ensures
