use Rattle.std.proofs.Common.{List, refl, sym, ◌∙◌, subst}
use Rattle.std.specs.List.{AllZip}
use Rattle.spin_server.specs.Served.{Served}
use Rattle.spin_server.specs.Serving.{Serving}
use Rattle.venue_end.specs.Came.{journal_in, spin_fed}
use Rattle.venue_end.specs.Sessions.{Session, without}
use Rattle.venue_end.specs.Stands.{IsSpinServer, PlaceIs}
use Rattle.venue_end.specs.declared.table.Place.{Place}
use Rattle.venue_end.proofs.Ends.{with_spins}
use Rattle.venue_end.proofs.Feeding.{spin_place_fed}
use Rattle.venue_end.proofs.Tables.{becomes_at, failed_at, missing_at, not_missing}
use Rattle.venue_end.proofs.servers.Servers.take_spin.Goals as goal

pub returns-in_default-clause-stands : goal.returns-in_default-clause-stands
returns-in_default-clause-stands g c = λ s now is has.
    with_spins s c.args.self.now now _ _ is (subst (λ (ks : List (Session (List Served))). AllZip (PlaceIs IsSpinServer s) c.args.self.now.spins.places.items ks)
    (sym ((missing_at IsSpinServer s c.args.id c.args.self.now.spins.places.items now.spins (sym c.find.ensures ∙ c.in_default.is) is.spins).becomes (spin_fed s now c.args.piece.now))) is.spins)

pub returns-in-Ok-clause-stands : goal.returns-in-Ok-clause-stands
returns-in-Ok-clause-stands g c = λ s now is has.
    let old : Place Serving = c.index_mut-place.result.now in
    let new : Place Serving = record { id = old.id; server = c.feed_spin.new.server; said = c.feed_spin.new.said; put = old.put } in
    with_spins s c.args.self.now now _ _ is (becomes_at IsSpinServer s c.args.id c.in-Some.at c.args.self.now.spins.places.items now.spins old new (spin_fed s now c.args.piece.now) (sym c.find.ensures ∙ c.in-Some.is) c.index_mut-place.ensures.value is.spins
    (λ k stands. spin_place_fed s now k old new c.args.piece.now stands refl refl c.feed_spin.ensures.setup (c.in-Ok.ensures.fed (journal_in s now) k.happened has stands.server.stands)))

pub returns-in-Err-clause-err : goal.returns-in-Err-clause-err
returns-in-Err-clause-err g c = λ s now is.
    let old : Place Serving = c.index_mut-place.result.now in
    let new : Place Serving = record { id = old.id; server = c.feed_spin.new.server; said = c.feed_spin.new.said; put = old.put } in
    with_spins s c.args.self.now now _ _ is (subst (λ (ps : List (Place Serving)). AllZip (PlaceIs IsSpinServer s) ps (without c.args.id now.spins)) (sym c.remove.ensures.items) (failed_at IsSpinServer s c.args.id c.in-Some.at c.args.self.now.spins.places.items now.spins new (sym c.find.ensures ∙ c.in-Some.is) is.spins))

pub returns-in-Err-clause-none : goal.returns-in-Err-clause-none
returns-in-Err-clause-none g c = λ s now is none. absurd (not_missing IsSpinServer s c.args.id c.in-Some.at c.args.self.now.spins.places.items now.spins (sym c.find.ensures ∙ c.in-Some.is) is.spins none)
