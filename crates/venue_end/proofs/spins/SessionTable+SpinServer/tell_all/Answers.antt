use Rattle.std.proofs.Common.{List, length, sym, ap, subst, arith}
use Rattle.std.proofs.lemmas.List.{with_items_is}
use Rattle.std.specs.List.{AllZip}
use Rattle.session_ends.specs.Events.{Told}
use Rattle.spin_server.specs.Serving.{Serving}
use Rattle.venue_end.specs.Servers.{spin_says}
use Rattle.venue_end.specs.Sessions.{happens_at, happens_at_all}
use Rattle.venue_end.specs.Stands.{IsSpinServer, PlaceIs}
use Rattle.venue_end.specs.declared.table.Place.{Place}
use Rattle.venue_end.proofs.Tables.{next_becomes, all_became}
use Rattle.venue_end.proofs.spins.SessionTable+SpinServer.tell_all.Goals as goal

pub loop-place-init : goal.loop-place-init
loop-place-init c = λ s sessions are. subst (λ (ps : List (Place Serving)). AllZip (PlaceIs IsSpinServer s) ps sessions) (sym c.deref_mut-place-items.ensures.value) are

pub loop-place-preserved : goal.loop-place-preserved
loop-place-preserved c = λ s sessions are.
    next_becomes IsSpinServer s (happens_at (spin_says s) (Told c.args.sequence)) c.loop-place.place-index c.loop-place.place-items sessions c.place-item.result c.tell.new.self (let same = c.loop-place.auto.place-items in let lt = c.loop-place-test.true in omega (arith, same, lt)) (c.loop-place.invariant s sessions are) (c.in_ok-tell.ensures s)

pub returns : goal.returns
returns c = λ s sessions are.
    let same = c.loop-place.auto.place-items in
    let all = c.loop-place-test.false in
    let lent = ap (λ (ps : List (Place Serving)). length ps) c.deref_mut-place-items.ensures.value in
    let written = with_items_is c.args.self.now.places c.loop-place.place-items (omega (arith, same, lent)) in
    subst (λ (ps : List (Place Serving)). AllZip (PlaceIs IsSpinServer s) ps (happens_at_all (spin_says s) (Told c.args.sequence) sessions)) (sym written)
    (all_became IsSpinServer s (happens_at (spin_says s) (Told c.args.sequence)) c.loop-place.place-index c.loop-place.place-items sessions (omega (arith, same, all)) (c.loop-place.invariant s sessions are))
