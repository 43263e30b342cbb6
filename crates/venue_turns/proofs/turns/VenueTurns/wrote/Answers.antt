use Rattle.std.proofs.Common.{◌≡◌, ◌<◌, ◌+◌, true, ◌∷◌, Some, refl, sym, ap, ◌∙◌, arith}
use Rattle.live_net.specs.declared.live.PeerPut.TheVariants as put
use Rattle.venue_net.specs.VenueCalls.{VenueCall, Put}
use Rattle.venue_turns.specs.Due.{puts_from}
use Rattle.venue_turns.specs.declared.place.Place.TheVariants as at
use Rattle.venue_turns.proofs.Placing.{within, puts_counted, put_more, puts_are_over, puts_go_on, due_next, due_put_more}
use Rattle.venue_turns.proofs.Standing.{goes_on_kept, more_kept, ways_kept}
use Rattle.venue_turns.proofs.turns.VenueTurns.wrote.Goals as goal

pub returns-then-pieces : goal.returns-then-pieces
returns-then-pieces c = λ n piece w e e' run st here.
    let place = c.args.place in
    let call : VenueCall = Put place piece (put.Wrote n) in
    let t = c.args.self.now in
    let there = within w run t.place call place refl st.place_is here in
    let many = st.ways.places_are in
    let knows = c.wrote.ensures place run piece n (st.each place c.link.result (c.link.ensures (omega (arith, there, many)))) in
    let counted = puts_counted w run t.place place piece (put.Wrote n) st.place_is here in
    let so = c.pieces-pieces.ensures in
    let are = counted.pieces_are in
    let below = c.if-pieces.true in
    let few : puts_from place run < 15 = omega arith in
    let more = put_more place n piece run in
    let t' = c.keep.new.self in
    goes_on_kept w e e' t run call st t' place c.wrote.result c.keep.ensures.kept c.keep.ensures.same refl knows (at.Put place (c.pieces-pieces.result + 1)) t'.more
    (there, omega arith, omega arith, refl) (due_put_more place n piece run w e' few) (more_kept w e e' t run call st t' place c.wrote.result c.keep.ensures.kept c.keep.ensures.same refl knows (puts_go_on place n piece run few)) refl

pub returns-else-pieces : goal.returns-else-pieces
returns-else-pieces c = λ n piece w e e' run st here.
    let place = c.args.place in
    let call : VenueCall = Put place piece (put.Wrote n) in
    let t = c.args.self.now in
    let there = within w run t.place call place refl st.place_is here in
    let many = st.ways.places_are in
    let knows = c.wrote.ensures place run piece n (st.each place c.link.result (c.link.ensures (omega (arith, there, many)))) in
    let counted = puts_counted w run t.place place piece (put.Wrote n) st.place_is here in
    let so = c.pieces-pieces.ensures in
    let are = counted.pieces_are in
    let some = counted.few in
    let above = c.if-pieces.false in
    let full : puts_from place run ≡ 15 = omega arith in
    let t' = c.keep.new.self in
    let ways = ways_kept w e e' t run call st t' place c.wrote.result c.keep.ensures.kept c.keep.ensures.same refl knows in
    goes_on_kept w e e' t run call st t' place c.wrote.result c.keep.ensures.kept c.keep.ensures.same refl knows c.after_place-self.result true
    (c.after_place-self.ensures.place w (call ∷ run) (record { places_are = ways.places_are; few = ways.few }) refl)
    (due_next place n piece run w e' full ∙ ap Some (sym (c.after_place-self.ensures.due w e' (call ∷ run) (record { places_are = ways.places_are; few = ways.few })))) (puts_are_over place n piece run full) refl
