use Rattle.std.proofs.Common.{List, ◌++◌, refl, ap, subst}
use Rattle.spin_server.proofs.Shelving.{shelf_seen}
use Rattle.pitch_model.specs.Advertising.{Operation}
use Rattle.pitch_model.specs.History.{Raw}
use Rattle.spin_server.specs.Served.{Served}
use Rattle.spin_server.specs.layers.ShelfViews.{seen_of}
use Rattle.unit_market.specs.Standing.{MarketState}
use Rattle.unit_market.proofs.Having.{seen_is}
use Rattle.drill_client.specs.layers.Answered.{heard_of_spin}
use Rattle.drill_client.specs.layers.Following.{Follows, IsImageOf}
use Rattle.drill_client.proofs.Answered.{heard_image, heard_no_image}
use Rattle.drill_client.proofs.Answering.{image_is, image_there, image_not_there, image_of_more, seen_answer, seen_within}
use Rattle.drill_client.proofs.turns.answer_spin.Goals as goal

pub returns-in_ok-hear_image-in-Image-clause-heard : goal.returns-in_ok-hear_image-in-Image-clause-heard
returns-in_ok-hear_image-in-Image-clause-heard c j more has H E f =
    let shelf = c.args.market.now.shelf in
    let shelf' = c.image.new.self.shelf in
    let same = ap (λ (m : MarketState). m.shelf) (c.in_ok-orders.ensures.same refl) in
    let now : List Operation = has.shelf.operations in
    let looks = c.in_ok-orders.ensures.found (seen_of now) (shelf_seen shelf now has.shelf.stands) in
    let answer = seen_answer shelf shelf' now c.args.sequence c.in_ok-orders.field-0 c.make-raws.result.items c.image.new.out.items has.shelf.stands same looks in
    let is = image_is (seen_of now) c.args.sequence c.in_ok-orders.field-0 answer.0 c.in-Image.orders c.make-raws.result.items c.image.new.out.items answer.1 (seen_within now) c.make-raws.ensures c.in-Image.is in
    let there = image_there (seen_of now) c.args.sequence c.in_ok-orders.field-0 answer.0 c.in-Image.orders c.in-Image.is in
    let own = subst (λ (V : List Raw). IsImageOf V (record { sequence = c.args.sequence; orders = c.in-Image.orders; raws = c.image.new.out.items })) has.shelf.accepted_is is in
    subst (λ (v : Served). Follows c.hear_image.new.client H (j.messages ++ more) (heard_of_spin v c.args.sequence E)) (seen_is shelf j.messages j.advertised has.shelf)
    (heard_image _ H (j.messages ++ more) E (seen_of now) c.args.sequence c.in-Image.orders c.image.new.out.items there is.raws_are is.orders_are
    (c.in_ok-hear_image-in-Image.ensures (j.messages ++ more) (image_of_more j.messages more c.args.sequence c.in-Image.orders c.image.new.out.items own) H E f))

pub returns-in-NotAdvertised-clause-heard : goal.returns-in-NotAdvertised-clause-heard
returns-in-NotAdvertised-clause-heard c j more has H E f =
    let shelf = c.args.market.now.shelf in
    let same = ap (λ (m : MarketState). m.shelf) (c.in_ok-orders.ensures.same refl) in
    let now : List Operation = has.shelf.operations in
    let looks = c.in_ok-orders.ensures.found (seen_of now) (shelf_seen shelf now has.shelf.stands) in
    let answer = seen_answer shelf c.image.new.self.shelf now c.args.sequence c.in_ok-orders.field-0 c.make-raws.result.items c.image.new.out.items has.shelf.stands same looks in
    let none = image_not_there (seen_of now) c.args.sequence c.in_ok-orders.field-0 answer.0 c.in-NotAdvertised.is in
    subst (λ (v : Served). Follows c.hear_no_image.new.client H (j.messages ++ more) (heard_of_spin v c.args.sequence E)) (seen_is shelf j.messages j.advertised has.shelf)
    (heard_no_image _ H (j.messages ++ more) E (seen_of now) c.args.sequence none (c.hear_no_image.ensures (j.messages ++ more) H E f))
