use Rattle.std.proofs.Common.{◌≡◌, ℕ, List, true, Some, refl, sym, ap, ◌∙◌, subst}
use Rattle.spin_server.proofs.Shelving.{shelf_seen, seen_served}
use Rattle.pitch_model.proofs.Advertising.{newest_is_advertised}
use Rattle.pitch_model.specs.Advertising.{Operation, advertised_by, last_ten, newest_of}
use Rattle.pitch_model.specs.History.{Raw}
use Rattle.spin_server.specs.Served.{is_served}
use Rattle.spin_server.specs.layers.ShelfViews.{seen_of}
use Rattle.unit_market.specs.Standing.{MarketState}
use Rattle.drill_client.specs.layers.Following.{IsImageOf}
use Rattle.drill_client.proofs.Answering.{image_is, served_is_there, newest_there, seen_answer, seen_within}
use Rattle.drill_client.proofs.turns.append_last.Goals as goal

pub unreachable-requires : goal.unreachable-requires
unreachable-requires c =
    let then = c.in_ok-sequence.ensures.ok c.requires.0 c.requires.1 in
    let now : List Operation = then.shelf.operations in
    let stands = then.shelf.stands in
    let newest : newest_of (last_ten (advertised_by now)) ≡ Some c.in_ok-sequence.sequence = sym (ap newest_of stands.served_is) ∙ c.in_ok-sequence.ensures.newest in
    let there : is_served (seen_of now) c.in_ok-sequence.sequence ≡ true =
    seen_served now c.in_ok-sequence.sequence ∙ newest_there (last_ten (advertised_by now)) c.in_ok-sequence.sequence (newest_is_advertised (last_ten (advertised_by now)) c.in_ok-sequence.sequence newest) in
    let looks = c.in_ok-orders.ensures.found (seen_of now) (shelf_seen c.advertise.new.self.shelf now stands) in
    let answer = seen_answer c.advertise.new.self.shelf c.image.new.self.shelf now c.in_ok-sequence.sequence c.in_ok-orders.field-0 c.args.out.now.items c.image.new.out.items stands (ap (λ (m : MarketState). m.shelf) (c.in_ok-orders.ensures.same refl)) looks in
    served_is_there (seen_of now) c.in_ok-sequence.sequence c.in_ok-orders.field-0 answer.0 there c.in-NotAdvertised.is

pub returns : goal.returns
returns c j has none =
    let then = c.in_ok-sequence.ensures.ok j has in
    let now : List Operation = then.shelf.operations in
    let stands = then.shelf.stands in
    let looks = c.in_ok-orders.ensures.found (seen_of now) (shelf_seen c.advertise.new.self.shelf now stands) in
    let answer = seen_answer c.advertise.new.self.shelf c.image.new.self.shelf now c.in_ok-sequence.sequence c.in_ok-orders.field-0 c.args.out.now.items c.image.new.out.items stands (ap (λ (m : MarketState). m.shelf) (c.in_ok-orders.ensures.same refl)) looks in
    let is = image_is (seen_of now) c.in_ok-sequence.sequence c.in_ok-orders.field-0 answer.0 c.in-Image.orders c.args.out.now.items c.image.new.out.items answer.1 (seen_within now) none c.in-Image.is in
    let own = subst (λ (V : List Raw). IsImageOf V (record { sequence = c.in_ok-sequence.sequence; orders = c.in-Image.orders; raws = c.image.new.out.items })) then.shelf.accepted_is is in
    subst (λ (n : ℕ). IsImageOf j.messages (record { sequence = n; orders = c.in-Image.orders; raws = c.image.new.out.items })) (c.in_ok-sequence.ensures.sequence j has) own
