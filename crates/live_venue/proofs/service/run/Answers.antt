use Rattle.std.proofs.Common.{rules, ◌≡◌, ◌≤◌, Bool, true, false, ℕ, List, ◌++◌, length, drop, Ok, ◌∙◌, subst, arith, length-append, length-drop, length-take}
use Rattle.live_venue.specs.Standing.{Steps}
use Rattle.live_venue.proofs.Ending.{done_is_no_net, ends_spent, ends_with_any, ends_with_same}
use Rattle.live_venue.proofs.service.run.Goals as goal

pub returns-in_err-into-clause-ends : goal.returns-in_err-into-clause-ends
returns-in_err-into-clause-ends g c = λ start goes.
    let calls = g.N.VenueNet.calls c.args.net.now in
    ends_with_same c.args.setup.now c.from_residual.result _ start calls _ c.from_residual.ensures (ends_with_any c.args.setup.now start calls _ (ends_spent c.args.setup.now start calls goes.run goes.now goes.stands.is_run))

pub returns-in_err-goes_on-clause-ends : goal.returns-in_err-goes_on-clause-ends
returns-in_err-goes_on-clause-ends g c = λ start goes.
    ends_with_same c.args.setup.now c.from_residual-in_err-goes_on.result _ start (g.N.VenueNet.calls c.step.new.net) _ c.from_residual-in_err-goes_on.ensures (c.in_err-goes_on.ensures.steps start (c.calls.invariant.goes start goes))

pub returns-then-not-goes_on-clause-ends : goal.returns-then-not-goes_on-clause-ends
returns-then-not-goes_on-clause-ends g c = λ start goes.
    let over : c.in_ok-goes_on.goes_on ≡ false = search rules in
    subst (λ (b : Bool). Steps c.args.setup.now (Ok b) start (g.N.VenueNet.calls c.step.new.net) c.step.new.self) over (c.in_ok-goes_on.ensures.steps start (c.calls.invariant.goes start goes))

pub calls-preserved : goal.calls-preserved
calls-preserved g c =
    let more : c.in_ok-goes_on.goes_on ≡ true = search rules in
    let new : List ℕ = c.step.new.into in
    let items : List ℕ = c.calls.into.items in
    let place = c.calls.invariant.place in
    let fits : length c.step.new.into ≤ c.calls.into.len = search rules in
    let all : c.calls.into.len ≡ 65536 = search rules in
    record {
      goes = λ start goes. subst (λ (b : Bool). Steps c.args.setup.now (Ok b) start (g.N.VenueNet.calls c.step.new.net) c.step.new.self) more (c.in_ok-goes_on.ensures.steps start (c.calls.invariant.goes start goes));
      place = omega (arith, place, fits, all, length-take c.calls.into.len (new ++ drop (length new) items), length-append new (drop (length new) items), length-drop (length new) items);
      still = c.in_ok-goes_on.ensures.still (done_is_no_net c.in_ok-goes_on.goes_on) ∙ c.calls.invariant.still;
    }

pub returns-clause-ends : goal.returns-clause-ends
returns-clause-ends g c = λ start goes.
    let now = c.calls.invariant.goes start goes in
    let calls = g.N.VenueNet.calls c.calls.net in
    ends_with_any c.args.setup.now start calls _ (ends_spent c.args.setup.now start calls now.run now.now now.stands.is_run)
