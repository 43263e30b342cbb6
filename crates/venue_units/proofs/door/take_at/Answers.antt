use Rattle.std.proofs.Common.{ℕ, OnOk, OnErr, sym, ◌∙◌, subst}
use Rattle.venue_end.specs.Came.{ProxyTook, ProxyCut, SpinTook, SpinCut}
use Rattle.venue_end.specs.Stands.{Comes}
use Rattle.venue_units.specs.Places.{is_spin}
use Rattle.venue_units.proofs.Doors.{of_first, of_second}
use Rattle.venue_units.proofs.door.take_at.Goals as goal

pub returns-then-is_spin-clause-stands : goal.returns-then-is_spin-clause-stands
returns-then-is_spin-clause-stands c =
    of_first (λ came. OnOk c.take_spin.result (Comes c.args.end.now c.take_spin.new.self came)) (is_spin c.args.place) (SpinTook c.args.place c.args.piece.now) (ProxyTook c.args.place c.args.piece.now)
    (sym c.is_spin.ensures ∙ c.if-is_spin.true)
    (subst (λ (id : ℕ). OnOk c.take_spin.result (Comes c.args.end.now c.take_spin.new.self (SpinTook id c.args.piece.now))) c.from.ensures c.take_spin.ensures.stands)

pub returns-then-is_spin-clause-err : goal.returns-then-is_spin-clause-err
returns-then-is_spin-clause-err c =
    of_first (λ came. OnErr c.take_spin.result (Comes c.args.end.now c.take_spin.new.self came)) (is_spin c.args.place) (SpinCut c.args.place) (ProxyCut c.args.place) (sym c.is_spin.ensures ∙ c.if-is_spin.true)
    (subst (λ (id : ℕ). OnErr c.take_spin.result (Comes c.args.end.now c.take_spin.new.self (SpinCut id))) c.from.ensures c.take_spin.ensures.err)

pub returns-else-is_spin-clause-stands : goal.returns-else-is_spin-clause-stands
returns-else-is_spin-clause-stands c =
    of_second (λ came. OnOk c.take_proxy.result (Comes c.args.end.now c.take_proxy.new.self came)) (is_spin c.args.place) (SpinTook c.args.place c.args.piece.now) (ProxyTook c.args.place c.args.piece.now)
    (sym c.is_spin.ensures ∙ c.if-is_spin.false)
    (subst (λ (id : ℕ). OnOk c.take_proxy.result (Comes c.args.end.now c.take_proxy.new.self (ProxyTook id c.args.piece.now))) c.from-else-is_spin.ensures c.take_proxy.ensures.stands)

pub returns-else-is_spin-clause-err : goal.returns-else-is_spin-clause-err
returns-else-is_spin-clause-err c =
    of_second (λ came. OnErr c.take_proxy.result (Comes c.args.end.now c.take_proxy.new.self came)) (is_spin c.args.place) (SpinCut c.args.place) (ProxyCut c.args.place) (sym c.is_spin.ensures ∙ c.if-is_spin.false)
    (subst (λ (id : ℕ). OnErr c.take_proxy.result (Comes c.args.end.now c.take_proxy.new.self (ProxyCut id))) c.from-else-is_spin.ensures c.take_proxy.ensures.err)
