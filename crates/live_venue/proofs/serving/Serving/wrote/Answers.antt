use Rattle.std.proofs.Common.{rules, ◌≡◌, true, false, sym, ap, ◌∙◌}
use Rattle.live_venue.specs.Running.{is_none, wrote}
use Rattle.live_venue.proofs.Bringing.{is_cut, is_pumped, some_wait}
use Rattle.live_venue.proofs.serving.Serving.wrote.Goals as goal

pub returns-then-not-is_none-clause-goes : goal.returns-then-not-is_none-clause-goes
returns-then-not-is_none-clause-goes c = λ s now serve none.
    let some : c.is_none.result ≡ false = search rules in
    some_wait s c.args.place c.args.self.now.outbox now c.args.count c.args.self.now.units c.put.new.self c.put.ensures.stands serve
    (ap is_none (sym (c.waiting.ensures s (wrote c.args.place c.args.count now).came (c.put.ensures.stands s now.came serve.stand))) ∙ sym c.is_none.ensures ∙ some)

pub returns-in-Ok-clause-goes : goal.returns-in-Ok-clause-goes
returns-in-Ok-clause-goes c = λ s now serve none.
    let nothing : c.is_none.result ≡ true = search rules in
    is_pumped s c.args.place c.args.self.now.outbox now c.args.count c.args.self.now.units c.put.new.self c.pump.new.self c.put.ensures.stands (λ before st. c.in-Ok.ensures.stands s before st) serve
    (ap is_none (sym (c.waiting.ensures s (wrote c.args.place c.args.count now).came (c.put.ensures.stands s now.came serve.stand))) ∙ sym c.is_none.ensures ∙ nothing)

pub returns-in-Err-clause-goes : goal.returns-in-Err-clause-goes
returns-in-Err-clause-goes c = λ s now serve none.
    is_cut s c.args.place c.args.self.now.outbox now c.args.count c.args.self.now.units c.put.new.self c.pump.new.self c.cut.new.self c.put.ensures.stands c.in-Err.ensures.err c.cut.ensures.stands serve
