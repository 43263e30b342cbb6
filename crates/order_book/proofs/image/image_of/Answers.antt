use Rattle.std.proofs.Common.{◌++◌, ◌∙◌, ap, sym, map, Option, ℕ}
use Rattle.pitch_messages.specs.Writing.{written}
use Rattle.pitch_model.specs.Image.{clock_of}
use Rattle.pitch_model.proofs.ImageRaws.{adds_image}
use Rattle.order_book.proofs.Imaging.{image_whole}
use Rattle.order_book.proofs.Wiring.{leaves_book}
use Rattle.order_book.proofs.image.image_of.Goals as goal

pub returns-clause-ok : goal.returns-clause-ok
returns-clause-ok c =
    image_whole c.args.book.now.book c.as_slice.result.now c.make-orders.result.items c.as_slice-2.result.now c.make-states.result.items
    c.args.out.now.items c.reserve.new.self.items c.push_clock.new.out.items c.push_adds.new.out.items c.push_statuses.new.out.items
    (c.as_slice.ensures ∙ c.in_ok-orders_by_id.ensures.ok) c.make-orders.ensures
    (c.as_slice-2.ensures ∙ c.in_ok-statuses_by_symbol.ensures.ok) c.make-states.ensures
    c.in_ok-reserve.ensures.items
    (c.push_clock.ensures.items ∙ ap (λ (second : Option ℕ). c.reserve.new.self.items ++ map written (clock_of second)) c.second.ensures) c.push_adds.ensures.items c.push_statuses.ensures.items

pub returns-clause-count : goal.returns-clause-count
returns-clause-count c = c.len-count.ensures.count ∙ sym (adds_image c.args.book.now.book)

pub returns-clause-leaves : goal.returns-clause-leaves
returns-clause-leaves c =
    leaves_book c.args.book.now.book c.as_slice.result.now c.make-orders.result.items c.as_slice-2.result.now c.make-states.result.items
    c.len-count.ensures.book (λ known at. c.push_clock.ensures.fits known (c.second.ensures ∙ at))
    (c.as_slice.ensures ∙ c.in_ok-orders_by_id.ensures.ok) c.make-orders.ensures c.push_adds.ensures.fit
    (c.as_slice-2.ensures ∙ c.in_ok-statuses_by_symbol.ensures.ok) c.make-states.ensures c.push_statuses.ensures.fit
