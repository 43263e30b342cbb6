use Rattle.std.proofs.Common.{[], ◌∷◌, Some, refl, sym, ap}
use Rattle.venue_net.specs.VenueCalls.{VenueCall, Read}
use Rattle.venue_net.specs.declared.net.InputRead.TheVariants as input
use Rattle.venue_turns.specs.Due.{is_read}
use Rattle.venue_turns.proofs.Standing.{goes_on}
use Rattle.venue_turns.proofs.turns.VenueTurns.input_ended.Goals as goal

pub returns : goal.returns
returns c = λ room w e e' run st here.
    let call : VenueCall = Read room [] input.Ended in
    goes_on w e e' c.args.self.now run call st (λ place. record { stands_is = refl; full_is = refl; no_second = refl }) c.from_place-self.result c.args.self.now.more (is_read (call ∷ run))
    (c.from_place-self.ensures.place w (call ∷ run) (record { places_are = st.ways.places_are; few = st.ways.few }) refl)
    (ap Some (sym (c.from_place-self.ensures.due w e' (call ∷ run) (record { places_are = st.ways.places_are; few = st.ways.few })))) st.more_is refl
