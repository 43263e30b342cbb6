use Rattle.std.proofs.Common.{Ok, Err}
use Rattle.unit_clients.specs.Tables.{with_place}
use Rattle.live_units.specs.declared.units.LiveUnits.{LiveUnits}
use Rattle.live_units.proofs.Growing.{grown_takes}
use Rattle.live_units.proofs.Taking.{takes_at, takes_untold}
use Rattle.live_units.proofs.units.LiveUnits.took.Goals as goal

pub returns-in_err-taken-clause-takes : goal.returns-in_err-taken-clause-takes
returns-in_err-taken-clause-takes g c =
    let l : LiveUnits = c.args.self.now in
    let w = g.O.Sink.written c.args.out.now in
    let v = g.O.Sink.written c.take_at.new.out in
    takes_untold l (record { units = with_place l.units c.args.unit c.take_at.new.place; number = l.number; page = c.take_at.new.page }) c.args.unit c.args.session c.args.piece.now w v _ c.from_residual.result c.from_residual.ensures.0
    (takes_at l c.args.unit c.args.session c.args.piece.now c.place_at.result.now c.take_at.new.place (Err _) w v c.take_at.new.page c.place_at.ensures.there c.in_err-taken.ensures.takes)

pub returns-clause-takes : goal.returns-clause-takes
returns-clause-takes g c =
    takes_at c.args.self.now c.args.unit c.args.session c.args.piece.now c.place_at.result.now c.take_at.new.place (Ok c.in_ok-taken.taken) (g.O.Sink.written c.args.out.now) (g.O.Sink.written c.take_at.new.out) c.take_at.new.page
    c.place_at.ensures.there c.in_ok-taken.ensures.takes

pub returns-clause-none : goal.returns-clause-none
returns-clause-none g c = λ s start came st. c.in_ok-taken.ensures.none s came c.args.unit (st.units_are.each c.args.unit c.place_at.result.now c.place_at.ensures.there)

pub returns-in_err-taken-clause-grows : goal.returns-in_err-taken-clause-grows
returns-in_err-taken-clause-grows g c = λ s start came st.
    grown_takes s came c.args.unit (g.O.Sink.written c.args.out.now) (g.O.Sink.written c.take_at.new.out) c.args.self.now.page.text c.take_at.new.page.text c.args.session c.args.piece.now c.place_at.result.now c.take_at.new.place (Err _)
    (st.units_are.each c.args.unit c.place_at.result.now c.place_at.ensures.there) c.in_err-taken.ensures.takes

pub returns-clause-grows : goal.returns-clause-grows
returns-clause-grows g c = λ s start came st.
    grown_takes s came c.args.unit (g.O.Sink.written c.args.out.now) (g.O.Sink.written c.take_at.new.out) c.args.self.now.page.text c.take_at.new.page.text c.args.session c.args.piece.now c.place_at.result.now c.take_at.new.place (Ok c.in_ok-taken.taken)
    (st.units_are.each c.args.unit c.place_at.result.now c.place_at.ensures.there) c.in_ok-taken.ensures.takes
