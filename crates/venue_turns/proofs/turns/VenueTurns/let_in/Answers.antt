use Rattle.std.proofs.Common.{true, refl}
use Rattle.venue_net.specs.VenueCalls.{VenueCall, Accept}
use Rattle.venue_turns.specs.declared.link.Link.TheVariants.{Open}
use Rattle.venue_turns.specs.declared.place.Place.TheVariants as at
use Rattle.venue_turns.proofs.Linking.{knows_let_in}
use Rattle.venue_turns.proofs.Placing.{within}
use Rattle.venue_turns.proofs.Standing.{goes_on_kept, more_kept}
use Rattle.venue_turns.proofs.turns.VenueTurns.let_in.Goals as goal

pub returns : goal.returns
returns c = λ w e e' run st here.
    let place = c.args.place in
    let call : VenueCall = Accept place true in
    let t' = c.keep.new.self in
    let kept = c.keep.ensures.kept in
    let same = c.keep.ensures.same in
    let knows = knows_let_in place run in
    goes_on_kept w e e' c.args.self.now run call st t' place Open kept same refl knows (at.First place) t'.more
    (within w run c.args.self.now.place call place refl st.place_is here, refl) refl (more_kept w e e' c.args.self.now run call st t' place Open kept same refl knows refl) refl
