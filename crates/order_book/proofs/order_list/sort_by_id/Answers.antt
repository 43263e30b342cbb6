use Rattle.std.proofs.Common.{rules}
use Rattle.std.proofs.lemmas.List.Sorted.{answers_always}
use Rattle.pitch_messages.specs.declared.order.Order.{Order}
use Rattle.order_book.proofs.order_list.sort_by_id.Goals as goal

pub returns-clause-sorted : goal.returns-clause-sorted
returns-clause-sorted c = c.sort_unstable_by_key.ensures.sorted (λ (o : Order). o.id) (answers_always _ _ _ (λ f a r g called. search rules))
