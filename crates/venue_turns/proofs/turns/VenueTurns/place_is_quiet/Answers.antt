use Rattle.std.proofs.Common.{[], lit<, refl}
use Rattle.live_net.specs.declared.live.PeerTaken.TheVariants as taken
use Rattle.venue_net.specs.VenueCalls.{VenueCall, Take}
use Rattle.venue_turns.specs.declared.place.Place.TheVariants as at
use Rattle.venue_turns.proofs.Placing.{within}
use Rattle.venue_turns.proofs.Standing.{goes_on}
use Rattle.venue_turns.proofs.turns.VenueTurns.place_is_quiet.Goals as goal

pub returns : goal.returns
returns c = λ room w e e' run st here.
    let place = c.args.place in
    let call : VenueCall = Take place room [] taken.Quiet in
    goes_on w e e' c.args.self.now run call st (λ p. record { stands_is = refl; full_is = refl; no_second = refl }) (at.Put place 0) c.args.self.now.more c.args.self.now.over
    (within w run c.args.self.now.place call place refl st.place_is here, lit< tt, refl, refl) refl st.more_is st.over_is
