use Rattle.std.proofs.Common.{◌≡◌, ℕ, List, length, subst}
use Rattle.pitch_model.specs.History.{Raw}
use Rattle.venue_core.specs.Plan.{plan}
use Rattle.drill_client.specs.layers.Following.{IsImageOf}
use Rattle.drill_client.specs.layers.Played.{plain_history}
use Rattle.drill_client.specs.layers.Turns.{journal_at}
use Rattle.drill_client.proofs.turns.end.Goals as goal

pub returns : goal.returns
returns c =
    let number : ℕ = c.args.course.number in
    let unit : ℕ = c.args.course.unit in
    let count : ℕ = c.args.course.count in
    let all : List Raw = plan number unit count in
    let many : length all ≡ count = c.plan_is_in_order.ensures.count number unit count in
    let image = c.in_ok-orders.ensures (journal_at number unit count count count count) c.requires.played c.make-raws.ensures in
    let here : IsImageOf all (record { sequence = count; orders = c.in_ok-orders.orders; raws = c.append_last.new.out.items }) =
    subst (λ (n : ℕ). IsImageOf all (record { sequence = n; orders = c.in_ok-orders.orders; raws = c.append_last.new.out.items })) many image in
    c.in_ok-hear_all.ensures 4096 all many here (c.if-not-asks_when_told_of_all.ensures 4096 all many (plain_history number unit count count, c.requires.heard))
