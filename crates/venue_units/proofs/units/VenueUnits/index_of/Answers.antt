use Rattle.std.proofs.Common.{rules, ◌<◌, ◌≤◌, length, sym, ◌∙◌, arith}
use Rattle.std.proofs.lemmas.Bool.{eq-eqb, ne_eqb}
use Rattle.venue_units.proofs.Making.{found, missing, none_more, unit_at}
use Rattle.venue_units.proofs.units.VenueUnits.index_of.Goals as goal

pub returns-then-unit : goal.returns-then-unit
returns-then-unit c = λ s came st.
    let lt : c.ends.at < length c.args.self.now.ends.items = search rules in
    let its = unit_at c.args.self.now s came st c.ends.at c.index.result.now c.unit.result lt c.index.ensures c.unit.ensures in
    found s c.args.unit c.ends.at its.0 (c.ends.invariant s came st) its.1 (eq-eqb its.0.unit c.args.unit (sym its.2 ∙ c.if-unit.true))

pub ends-preserved : goal.ends-preserved
ends-preserved c = λ s came st.
    let lt : c.ends.at < length c.args.self.now.ends.items = search rules in
    let its = unit_at c.args.self.now s came st c.ends.at c.index.result.now c.unit.result lt c.index.ensures c.unit.ensures in
    none_more s c.args.unit c.ends.at its.0 (c.ends.invariant s came st) its.1 (ne_eqb its.0.unit c.args.unit (λ same. c.if-unit.false (its.2 ∙ same)))

pub returns : goal.returns
returns c = λ s came st.
    let many = st.many in
    let past : length c.args.self.now.ends.items ≤ c.ends.at = search rules in
    missing s c.args.unit c.ends.at (omega (arith, many, past)) (c.ends.invariant s came st)
