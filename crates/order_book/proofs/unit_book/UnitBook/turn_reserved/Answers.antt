use Rattle.std.proofs.Common.{ap, ◌∙◌, Option}
use Rattle.std.specs.FinMap as map
use Rattle.pitch_messages.specs.declared.order.Order.{Order}
use Rattle.order_book.specs.declared.naming.Touches.TheVariants as touches
use Rattle.order_book.specs.declared.turn.Turn.TheVariants as turn
use Rattle.order_book.proofs.Turning.{turn_is}
use Rattle.order_book.proofs.unit_book.UnitBook.turn_reserved.Goals as goal

pub returns-in-None-clause-turn : goal.returns-in-None-clause-turn
returns-in-None-clause-turn c =
    turn_is c.args.self.now.book c.apply_reserved.new.self.book c.args.raw.now c.touched.result touches.None c.apply_reserved.ensures.book c.touched.ensures c.in-None.is

pub returns-in-One-clause-turn : goal.returns-in-One-clause-turn
returns-in-One-clause-turn c =
    ap (λ (o : Option Order). turn.One o c.order-now.result) c.order-before.ensures
    ∙ ap (turn.One (map.get c.args.self.now.book.orders c.in-One.id)) c.order-now.ensures
    ∙ turn_is c.args.self.now.book c.apply_reserved-in-One.new.self.book c.args.raw.now c.touched.result (touches.One c.in-One.id) c.apply_reserved-in-One.ensures.book c.touched.ensures c.in-One.is

pub returns-in-All-clause-turn : goal.returns-in-All-clause-turn
returns-in-All-clause-turn c =
    turn_is c.args.self.now.book c.apply_reserved-in-All.new.self.book c.args.raw.now c.touched.result touches.All c.apply_reserved-in-All.ensures.book c.touched.ensures c.in-All.is
