use Rattle.std.proofs.Common.{false, ◌∷◌, Some, refl, sym, ap}
use Rattle.live_net.specs.declared.live.WaitEnd.TheVariants as wait_end
use Rattle.venue_net.specs.VenueCalls.{VenueCall, Wait}
use Rattle.venue_turns.proofs.Standing.{goes_on}
use Rattle.venue_turns.proofs.turns.VenueTurns.woken.Goals as goal

pub returns : goal.returns
returns c = λ more w e e' run st here.
    let call : VenueCall = Wait more wait_end.Ready in
    goes_on w e e' c.args.self.now run call st (λ place. record { stands_is = refl; full_is = refl; no_second = refl }) c.from_input-self.result false c.args.self.now.over
    (c.from_input-self.ensures.place w (call ∷ run) (record { places_are = st.ways.places_are; few = st.ways.few }) refl refl)
    (ap Some (sym (c.from_input-self.ensures.due w e' (call ∷ run) (record { places_are = st.ways.places_are; few = st.ways.few }) st.over_is))) refl st.over_is
