use Rattle.std.proofs.Common.{ℕ, OnOk, sym, ◌∙◌, subst}
use Rattle.venue_end.specs.Came.{ProxyMade, SpinMade}
use Rattle.venue_end.specs.Stands.{Comes}
use Rattle.venue_units.specs.Places.{is_spin}
use Rattle.venue_units.proofs.Doors.{of_first, of_second}
use Rattle.venue_units.proofs.door.make_at.Goals as goal

pub returns-then-is_spin-clause-stands : goal.returns-then-is_spin-clause-stands
returns-then-is_spin-clause-stands c =
    of_first (λ came. OnOk c.connect_spin.result (Comes c.args.end.now c.connect_spin.new.self came)) (is_spin c.args.place) (SpinMade c.args.place) (ProxyMade c.args.place) (sym c.is_spin.ensures ∙ c.if-is_spin.true)
    (subst (λ (id : ℕ). OnOk c.connect_spin.result (Comes c.args.end.now c.connect_spin.new.self (SpinMade id))) c.from.ensures c.connect_spin.ensures.stands)

pub returns-else-is_spin-clause-stands : goal.returns-else-is_spin-clause-stands
returns-else-is_spin-clause-stands c =
    of_second (λ came. OnOk c.connect_proxy.result (Comes c.args.end.now c.connect_proxy.new.self came)) (is_spin c.args.place) (SpinMade c.args.place) (ProxyMade c.args.place) (sym c.is_spin.ensures ∙ c.if-is_spin.false)
    (subst (λ (id : ℕ). OnOk c.connect_proxy.result (Comes c.args.end.now c.connect_proxy.new.self (ProxyMade id))) c.from-else-is_spin.ensures c.connect_proxy.ensures.stands)
