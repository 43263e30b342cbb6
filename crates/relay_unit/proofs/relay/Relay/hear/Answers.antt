use Rattle.std.proofs.Common.{ℕ, List, ap, ◌∙◌, subst}
use Rattle.unit_packets.specs.Packing.{packed}
use Rattle.pitch_model.specs.History.{Raw}
use Rattle.relay_unit.specs.layers.Sending.{added_datagrams}
use Rattle.relay_unit.proofs.Following.{lays_relayed, lays_any}
use Rattle.pitch_model.proofs.Results.{on_err}
use Rattle.relay_unit.proofs.relay.Relay.hear.Given.{Over}
use Rattle.relay_unit.proofs.relay.Relay.hear.Goals as goal

-- what was appended are the datagrams of what the block added
laid : (g : Over) (c : goal.In-Ok g) → g.O.Outlet.gains c.args.out.now c.append.new.self (added_datagrams c.args.self.now c.take.new.self)
laid g c =
    subst (g.O.Outlet.gains c.args.out.now c.append.new.self)
    (ap (λ (raws : List Raw). packed c.take.new.self.unit c.in_ok-change.first raws) c.raws.ensures
    ∙ ap (λ (n : ℕ). packed c.take.new.self.unit n c.take.new.self.added.items) c.in_ok-change.ensures.first)
    c.in-Ok.ensures.ok

pub returns-in-Ok-clause-sends : goal.returns-in-Ok-clause-sends
returns-in-Ok-clause-sends g c =
    lays_relayed c.args.self.now c.take.new.self c.args.block.now (g.O.Outlet.gains c.args.out.now c.append.new.self) (laid g c) c.in_ok-change.ensures.adds

pub returns-in-Ok-clause-any : goal.returns-in-Ok-clause-any
returns-in-Ok-clause-any g c =
    lays_any c.args.self.now c.take.new.self c.args.block.now (g.O.Outlet.gains c.args.out.now c.append.new.self) (laid g c) c.in_ok-change.ensures.any

pub returns-in-Ok-clause-grown : goal.returns-in-Ok-clause-grown
returns-in-Ok-clause-grown g c = (added_datagrams c.args.self.now c.take.new.self, laid g c)

-- where nothing is added, nothing is appended
pub returns-in_err-change-clause-out : goal.returns-in_err-change-clause-out
returns-in_err-change-clause-out g c =
    let out = c.args.out.now in
    on_err (g.O.Outlet.stays out out) c.from_residual.result (g.met.O.Outlet.nothing_done out)
