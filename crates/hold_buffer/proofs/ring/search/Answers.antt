use Rattle.std.proofs.Common.{◌≡◌, ℕ, ◌+◌, ◌-◌, ◌/◌, slice_get, Some, arith, ap, ◌∙◌, sym}
use Rattle.std.proofs.lemmas.Option.{slice_get_within}
use Rattle.hold_buffer.proofs.Rings.{rises_or_stays, below, above, same}
use Rattle.hold_buffer.proofs.ring.search.Goals as goal

pub loop-low-preserved-in-Less : goal.loop-low-preserved-in-Less
loop-low-preserved-in-Less c =
    let middle : ℕ = c.loop-low.low + (c.loop-low.high - c.loop-low.low) / 2 in
    let found : slice_get c.args.order.now.items middle ≡ Some c.in-Some.entry.now = sym c.in-Some.ensures in
    let small = below c.in-Some.entry.now.0 c.args.sequence (sym c.in-Less.ensures) in
    record {
      ordered = omega arith;
      within = c.loop-low.invariant.within;
      before = λ j e lt at. let le = rises_or_stays c.args.order.now.items j middle e c.in-Some.entry.now c.requires (omega arith) at found in omega arith;
      after = c.loop-low.invariant.after;
    }

pub returns-in-Equal-clause-found : goal.returns-in-Equal-clause-found
returns-in-Equal-clause-found c =
    (c.in-Some.entry.now.1, sym c.in-Some.ensures ∙ ap (λ k. Some (k, c.in-Some.entry.now.1)) (same c.in-Some.entry.now.0 c.args.sequence (sym c.in-Equal.ensures)))

pub loop-low-preserved : goal.loop-low-preserved
loop-low-preserved c =
    let middle : ℕ = c.loop-low.low + (c.loop-low.high - c.loop-low.low) / 2 in
    let found : slice_get c.args.order.now.items middle ≡ Some c.in-Some.entry.now = sym c.in-Some.ensures in
    let great = above c.in-Some.entry.now.0 c.args.sequence (sym c.in-Greater.ensures) in
    let within = slice_get_within c.args.order.now.items middle c.in-Some.entry.now found in
    record {
      ordered = omega arith;
      within = omega arith;
      before = c.loop-low.invariant.before;
      after = λ j e le at. let ge = rises_or_stays c.args.order.now.items middle j c.in-Some.entry.now e c.requires le found at in omega arith;
    }
