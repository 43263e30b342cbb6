use Rattle.std.proofs.Common.{List, ap, ◌++◌, ◌∙◌}
use Rattle.pitch_messages.specs.declared.order.Order.{Order}
use Rattle.pitch_model.specs.Levels.{orders_of}
use Rattle.leveled_units.proofs.Laid.{all_laid}
use Rattle.leveled_units.proofs.laying.lay_book.Goals as goal

pub returns : goal.returns
returns c =
    let book = c.args.book.now.book in
    all_laid book c.as_slice.result.now c.in_ok-levels.levels.entries
    (c.as_slice.ensures ∙ c.in_ok-orders_by_id.ensures.ok ∙ ap (λ (l : List Order). l ++ orders_of book) c.make-orders.ensures)
    c.in_ok-levels.ensures
