use Rattle.std.proofs.Common.{rules}
use Rattle.std.proofs.lemmas.List.Sorted.{answers_always}
use Rattle.pitch_messages.specs.declared.trading_state.TradingState.{TradingState}
use Rattle.order_book.proofs.statuses.sort_by_symbol.Goals as goal

pub returns-clause-sorted : goal.returns-clause-sorted
returns-clause-sorted c = c.sort_unstable_by_key.ensures.sorted (λ (s : TradingState). s.symbol) (answers_always _ _ _ (λ f a r g called. search rules))
