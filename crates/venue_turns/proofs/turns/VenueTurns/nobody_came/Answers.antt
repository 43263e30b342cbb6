use Rattle.std.proofs.Common.{false, ◌∷◌, Some, refl, sym, ap}
use Rattle.venue_net.specs.VenueCalls.{VenueCall, Accept}
use Rattle.venue_turns.proofs.Standing.{goes_on}
use Rattle.venue_turns.proofs.turns.VenueTurns.nobody_came.Goals as goal

pub returns : goal.returns
returns c = λ w e e' run st here.
    let call : VenueCall = Accept c.args.place false in
    goes_on w e e' c.args.self.now run call st (λ place. record { stands_is = refl; full_is = refl; no_second = refl }) c.after_place-self.result c.args.self.now.more c.args.self.now.over
    (c.after_place-self.ensures.place w (call ∷ run) st.ways refl) (ap Some (sym (c.after_place-self.ensures.due w e' (call ∷ run) st.ways))) st.more_is st.over_is
