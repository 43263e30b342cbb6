use Rattle.std.proofs.Common.{◌≡◌, ◌<◌, ◌+◌, true, ◌∷◌, Some, refl, sym, ap, ◌∙◌, arith}
use Rattle.venue_net.specs.VenueCalls.{VenueCall, Read}
use Rattle.venue_net.specs.declared.net.InputRead.TheVariants as input
use Rattle.venue_turns.specs.Due.{reads_from}
use Rattle.venue_turns.specs.declared.place.Place.TheVariants as at
use Rattle.venue_turns.proofs.Placing.{reads_counted, input_is_full, input_has_more, due_places, due_input}
use Rattle.venue_turns.proofs.Standing.{goes_on}
use Rattle.venue_turns.proofs.turns.VenueTurns.read.Goals as goal

pub returns-then-pieces : goal.returns-then-pieces
returns-then-pieces c = λ room n bytes w e e' run st here.
    let call : VenueCall = Read room bytes (input.Got n) in
    let counted = reads_counted w run c.args.self.now.place room bytes (input.Got n) st.place_is here in
    let so = c.pieces-pieces.ensures in
    let are = counted.pieces_are in
    let below = c.if-pieces.true in
    let few : reads_from run < 15 = omega arith in
    goes_on w e e' c.args.self.now run call st (λ place. record { stands_is = refl; full_is = refl; no_second = refl }) (at.Input (c.pieces-pieces.result + 1)) c.args.self.now.more c.args.self.now.over
    (omega arith, omega arith) (due_input room n bytes run w e' few) (st.more_is ∙ input_has_more room n bytes run few) st.over_is

pub returns-else-pieces : goal.returns-else-pieces
returns-else-pieces c = λ room n bytes w e e' run st here.
    let call : VenueCall = Read room bytes (input.Got n) in
    let counted = reads_counted w run c.args.self.now.place room bytes (input.Got n) st.place_is here in
    let so = c.pieces-pieces.ensures in
    let are = counted.pieces_are in
    let some = counted.few in
    let above = c.if-pieces.false in
    let full : reads_from run ≡ 15 = omega arith in
    goes_on w e e' c.args.self.now run call st (λ place. record { stands_is = refl; full_is = refl; no_second = refl }) c.from_place-self.result true c.args.self.now.over
    (c.from_place-self.ensures.place w (call ∷ run) (record { places_are = st.ways.places_are; few = st.ways.few }) refl)
    (due_places room n bytes run w e' full ∙ ap Some (sym (c.from_place-self.ensures.due w e' (call ∷ run) (record { places_are = st.ways.places_are; few = st.ways.few }))))
    (input_is_full room n bytes run full) st.over_is
