use Rattle.std.proofs.Common.{take, length}
use Rattle.pitch_io.specs.declared.net.NetTaken.TheVariants.{Got, Failed}
use Rattle.pitch_io.specs.layers.Coming.{came}
use Rattle.pitch_model.proofs.Results.{at_exit}
use Rattle.net_edge.proofs.Calls.{hears_nothing, hears_once, line_fails, line_stops}
use Rattle.net_edge.proofs.stage.Stage.hear_once.Goals as goal

pub returns-in_ok-hear_datagram-in-Got-clause-asked : goal.returns-in_ok-hear_datagram-in-Got-clause-asked
returns-in_ok-hear_datagram-in-Got-clause-asked g c = λ s base now more at may.
    let hears = c.in_ok-hear_datagram-in-Got.ensures c.args.line in
    hears_once g.V.Venue.is c.args.line s base _ _ (length c.args.into.now) (take c.in-Got.count c.next-answer.new.into) (Got c.in-Got.count) c.args.self.now now c.in-Got.ensures.calls c.requires more may at (λ f. f) c.hear_datagram.new.self hears.holds hears.ended

pub returns-in-Quiet-clause-asked : goal.returns-in-Quiet-clause-asked
returns-in-Quiet-clause-asked g c = λ s base now more at may.
    hears_nothing g.V.Venue.is c.args.line s base _ _ (length c.args.into.now) (came c.next-answer.result c.next-answer.new.into) c.next-answer.result c.args.self.now now c.next-answer.ensures.calls c.requires more may at c.in-Quiet.is

pub returns-in_err-hear_datagram-in-Got-clause-broke : goal.returns-in_err-hear_datagram-in-Got-clause-broke
returns-in_err-hear_datagram-in-Got-clause-broke g c = at_exit _ c.from_residual.result _ c.from_residual.ensures
    (λ s base now more at may. line_stops g.V.Venue.is c.args.line s base _ _ (length c.args.into.now) (take c.in-Got.count c.next-answer.new.into) (Got c.in-Got.count) c.args.self.now now c.in-Got.ensures.calls c.requires more may at (λ f. f))

pub returns-in-Failed-clause-broke : goal.returns-in-Failed-clause-broke
returns-in-Failed-clause-broke g c = λ s base now more at may.
    line_fails g.V.Venue.is c.args.line s base _ _ (length c.args.into.now) _ Failed c.args.self.now now c.in-Failed.ensures.calls c.requires more may at tt
