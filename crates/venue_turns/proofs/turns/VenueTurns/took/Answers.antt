use Rattle.std.proofs.Common.{◌≡◌, ◌<◌, ◌+◌, true, lit<, refl, ◌∙◌, arith}
use Rattle.live_net.specs.declared.live.PeerTaken.TheVariants as taken
use Rattle.venue_net.specs.VenueCalls.{VenueCall, Take}
use Rattle.venue_turns.specs.Due.{pieces_from}
use Rattle.venue_turns.specs.declared.place.Place.TheVariants as at
use Rattle.venue_turns.proofs.Placing.{within, takes_counted, piece_more, next_gave_none, client_is_full, client_has_more, due_put}
use Rattle.venue_turns.proofs.Standing.{goes_on}
use Rattle.venue_turns.proofs.turns.VenueTurns.took.Goals as goal

pub returns-then-pieces : goal.returns-then-pieces
returns-then-pieces c = λ room n bytes w e e' run st here.
    let place = c.args.place in
    let call : VenueCall = Take place room bytes (taken.Got n) in
    let counted = takes_counted w run c.args.self.now.place place room bytes (taken.Got n) st.place_is here in
    let so = c.pieces-pieces.ensures in
    let are = counted.pieces_are in
    let below = c.if-pieces.true in
    let few : pieces_from place run < 15 = omega arith in
    let more = piece_more place room n bytes run in
    goes_on w e e' c.args.self.now run call st (λ p. record { stands_is = refl; full_is = refl; no_second = refl }) (at.Taken place (c.pieces-pieces.result + 1)) c.args.self.now.more c.args.self.now.over
    (within w run c.args.self.now.place call place refl st.place_is here, omega arith, omega arith, omega arith) refl (st.more_is ∙ client_has_more place room n bytes run few) st.over_is

pub returns-else-pieces : goal.returns-else-pieces
returns-else-pieces c = λ room n bytes w e e' run st here.
    let place = c.args.place in
    let call : VenueCall = Take place room bytes (taken.Got n) in
    let counted = takes_counted w run c.args.self.now.place place room bytes (taken.Got n) st.place_is here in
    let so = c.pieces-pieces.ensures in
    let are = counted.pieces_are in
    let some = counted.few in
    let above = c.if-pieces.false in
    let full : pieces_from place run ≡ 15 = omega arith in
    goes_on w e e' c.args.self.now run call st (λ p. record { stands_is = refl; full_is = refl; no_second = refl }) (at.Put place 0) true c.args.self.now.over
    (within w run c.args.self.now.place call place refl st.place_is here, lit< tt, refl, next_gave_none place room n bytes run) (due_put place room n bytes run w e' full) (client_is_full place room n bytes run full) st.over_is
