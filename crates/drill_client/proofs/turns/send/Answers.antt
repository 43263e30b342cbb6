use Rattle.std.proofs.Common.{◌≡◌, ℕ, List, sym, ◌-◌, ◌+◌, ◌++◌, drop, ap, ◌∙◌, subst}
use Rattle.std.specs.List.{AllByRecursion}
use Rattle.pitch_messages.specs.Room.{Roomy}
use Rattle.heard_items.specs.Datagrams.{IsPiece}
use Rattle.unit_market.specs.Markets.{MarketHas, Journal}
use Rattle.unit_packets.specs.Packing.{bytes_in, packed}
use Rattle.venue_core.specs.Plan.{plan}
use Rattle.drill_client.specs.layers.Turns.{journal_at}
use Rattle.drill_client.proofs.Playing.{packed_one}
use Rattle.drill_client.proofs.turns.send.Goals as goal

pub returns-clause-playing : goal.returns-clause-playing
returns-clause-playing c =
    let number : ℕ = c.args.course.number in
    let unit : ℕ = c.args.course.unit in
    let index : ℕ = c.args.index in
    let j : Journal = journal_at number unit c.args.course.count index (index - 1) (index - 1) in
    subst (λ (n : ℕ). MarketHas c.flush.new.self (record j { sent = n })) (c.plan_is_in_order.ensures.count number unit index) (c.in_ok-flush.ensures.ok j c.requires.playing)

-- the datagrams are the packing of what is pending
whole : (c : goal.In_ok-flush) → bytes_in c.flush.new.out.items ≡ packed c.args.course.unit (c.args.index - 1 + 1) (drop (c.args.index - 1) (plan c.args.course.number c.args.course.unit c.args.index))
whole c =
    let number : ℕ = c.args.course.number in
    let unit : ℕ = c.args.course.unit in
    let index : ℕ = c.args.index in
    c.in_ok-flush.ensures.datagrams (journal_at number unit c.args.course.count index (index - 1) (index - 1)) c.requires.playing
    ∙ ap (λ (l : List (Roomy ℕ)). bytes_in l ++ packed unit (index - 1 + 1) (drop (index - 1) (plan number unit index))) c.make-out.ensures

pub returns-clause-datagrams : goal.returns-clause-datagrams
returns-clause-datagrams c = whole c ∙ packed_one c.args.course.number c.args.course.unit c.args.index c.requires.index

pub returns-clause-pieces : goal.returns-clause-pieces
returns-clause-pieces c =
    let j : Journal = journal_at c.args.course.number c.args.course.unit c.args.course.count c.args.index (c.args.index - 1) (c.args.index - 1) in
    subst (AllByRecursion (IsPiece j.messages j.unit)) (sym (whole c)) (c.in_ok-flush.ensures.pieces j c.requires.playing)
