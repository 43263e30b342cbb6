use Rattle.std.proofs.Common.{[], ◌∷◌, Some, refl, sym, ap}
use Rattle.venue_net.specs.VenueCalls.{VenueCall, Read}
use Rattle.venue_net.specs.declared.net.InputRead.TheVariants as input
use Rattle.venue_turns.proofs.Standing.{goes_on}
use Rattle.venue_turns.proofs.turns.VenueTurns.input_is_quiet.Goals as goal

pub returns : goal.returns
returns c = λ room w e e' run st here.
    let call : VenueCall = Read room [] input.Quiet in
    goes_on w e e' c.args.self.now run call st (λ place. record { stands_is = refl; full_is = refl; no_second = refl }) c.from_place-self.result c.args.self.now.more c.args.self.now.over
    (c.from_place-self.ensures.place w (call ∷ run) st.ways refl) (ap Some (sym (c.from_place-self.ensures.due w e' (call ∷ run) st.ways))) st.more_is st.over_is
