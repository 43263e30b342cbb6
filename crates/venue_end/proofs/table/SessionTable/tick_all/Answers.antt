use Rattle.std.proofs.Common.{List, length, sym, ap, subst, arith}
use Rattle.std.proofs.lemmas.List.{with_items_is}
use Rattle.std.specs.List.{AllZip}
use Rattle.session_ends.specs.Events.{Ticked}
use Rattle.venue_end.specs.Sessions.{happens_at, happens_at_all}
use Rattle.venue_end.specs.Stands.{PlaceIs}
use Rattle.venue_end.specs.declared.table.Place.{Place}
use Rattle.venue_end.proofs.Tables.{next_becomes, all_became}
use Rattle.venue_end.proofs.table.SessionTable.tick_all.Goals as goal

pub loop-place-init : goal.loop-place-init
loop-place-init g c = λ s sessions are. subst (λ (ps : List (Place g.row.S.Denot)). AllZip (PlaceIs g.S.Server.stands s) ps sessions) (sym c.deref_mut-place-items.ensures.value) are

pub loop-place-preserved : goal.loop-place-preserved
loop-place-preserved g c = λ s sessions are.
    next_becomes g.S.Server.stands s (happens_at (g.S.Server.says s) Ticked) c.loop-place.place-index c.loop-place.place-items sessions c.place-item.result c.tick.new.self (let same = c.loop-place.auto.place-items in let lt = c.loop-place-test.true in omega (arith, same, lt)) (c.loop-place.invariant s sessions are) (c.in_ok-tick.ensures s)

pub returns : goal.returns
returns g c = λ s sessions are.
    let same = c.loop-place.auto.place-items in
    let all = c.loop-place-test.false in
    let lent = ap (λ (ps : List (Place g.row.S.Denot)). length ps) c.deref_mut-place-items.ensures.value in
    let written = with_items_is c.args.self.now.places c.loop-place.place-items (omega (arith, same, lent)) in
    subst (λ (ps : List (Place g.row.S.Denot)). AllZip (PlaceIs g.S.Server.stands s) ps (happens_at_all (g.S.Server.says s) Ticked sessions)) (sym written)
    (all_became g.S.Server.stands s (happens_at (g.S.Server.says s) Ticked) c.loop-place.place-index c.loop-place.place-items sessions (omega (arith, same, all)) (c.loop-place.invariant s sessions are))
