use Rattle.std.proofs.Common.{ℕ, List, ◌≤◌, sym, subst, arith}
use Rattle.pitch_model.specs.History.{Entry}
use Rattle.venue_core.specs.Plan.{plan}
use Rattle.drill_client.specs.layers.Following.{Follows}
use Rattle.drill_client.specs.layers.Played.{plain_history}
use Rattle.drill_client.proofs.Played.{history_begins}
use Rattle.drill_client.proofs.turns.play_to_end.Goals as goal

pub play_with-played-requires-clause-begun : goal.play_with-played-requires-clause-begun
play_with-played-requires-clause-begun c =
    let number : ℕ = c.args.course.number in
    let unit : ℕ = c.args.course.unit in
    let count : ℕ = c.args.course.count in
    let few : count ≤ 400000 = omega (arith, c.requires.count.1) in
    subst (λ (H : ℕ). Follows c.in_ok-client.client H (plan number unit count) (plain_history number unit count 0)) c.drill_hold.ensures
    (subst (λ (E : List Entry). Follows c.in_ok-client.client c.drill_hold.result (plan number unit count) E) (sym (history_begins number unit count)) (c.in_ok-client.ensures (plan number unit count) (c.plan_is_in_order.ensures.bytes number unit count few)))
