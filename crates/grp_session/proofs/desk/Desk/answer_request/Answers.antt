use Rattle.std.proofs.Common.{sym, ◌∙◌}
use Rattle.std.proofs.lemmas.Bool.{ne_eqb}
use Rattle.grp_session.proofs.Serves.{hears_asked, hears_other}
use Rattle.grp_session.proofs.desk.Desk.answer_request.Goals as goal

pub returns-then-range-unit-clause-hears : goal.returns-then-range-unit-clause-hears
returns-then-range-unit-clause-hears g c = λ spent view counted shows.
    hears_other c.args.end.now.setup c.args.self.now.there _ spent view c.args.range.unit c.args.range.first c.args.range.count _ _ c.args.reply.now.items _ _
    (ne_eqb c.args.range.unit c.args.end.now.setup.unit (λ e. c.if-range-unit.true (e ∙ sym c.unit.ensures))) c.in_ok-put_status.ensures counted shows

pub returns-clause-hears : goal.returns-clause-hears
returns-clause-hears g c = λ spent view counted shows.
    hears_asked c.args.end.now.setup c.args.self.now.there _ spent view c.args.range.unit c.args.range.first c.args.range.count c.in_ok-status.status _ _ c.args.reply.now.items _ _ _
    (c.if-range-unit.false ∙ c.unit.ensures) (c.in_ok-status.ensures.asked spent view counted shows) c.in_ok-put_status-2.ensures
