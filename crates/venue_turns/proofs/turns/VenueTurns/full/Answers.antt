use Rattle.std.proofs.Common.{◌∷◌, Some, refl, sym, ap, arith}
use Rattle.live_net.specs.declared.live.PeerPut.TheVariants as put
use Rattle.venue_net.specs.VenueCalls.{VenueCall, Put}
use Rattle.venue_turns.proofs.Placing.{within}
use Rattle.venue_turns.proofs.Standing.{goes_on_kept, more_kept, ways_kept}
use Rattle.venue_turns.proofs.turns.VenueTurns.full.Goals as goal

pub returns : goal.returns
returns c = λ piece w e e' run st here.
    let place = c.args.place in
    let call : VenueCall = Put place piece put.Full in
    let t = c.args.self.now in
    let there = within w run t.place call place refl st.place_is here in
    let many = st.ways.places_are in
    let knows = c.full.ensures place run piece (st.each place c.link.result (c.link.ensures (omega (arith, there, many)))) in
    let t' = c.keep.new.self in
    let ways = ways_kept w e e' t run call st t' place c.full.result c.keep.ensures.kept c.keep.ensures.same refl knows in
    goes_on_kept w e e' t run call st t' place c.full.result c.keep.ensures.kept c.keep.ensures.same refl knows c.after_place-self.result t'.more
    (c.after_place-self.ensures.place w (call ∷ run) ways refl) (ap Some (sym (c.after_place-self.ensures.due w e' (call ∷ run) ways)))
    (more_kept w e e' t run call st t' place c.full.result c.keep.ensures.kept c.keep.ensures.same refl knows refl) refl
