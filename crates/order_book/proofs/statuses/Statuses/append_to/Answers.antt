use Rattle.std.proofs.Common.{List, ◌++◌, ap, subst, ◌∙◌, map as mapped}
use Rattle.std.specs.List.Sorted.{IsPermutation}
use Rattle.std.specs.FinMap as map
use Rattle.pitch_messages.specs.declared.trading_state.TradingState.{TradingState}
use Rattle.pitch_model.specs.Statuses.{symbol_state}
use Rattle.order_book.specs.Symbols.{SymbolsStanding}
use Rattle.order_book.proofs.Sorting.{sorted_states}
use Rattle.order_book.proofs.statuses.Statuses.append_to.Goals as goal

pub returns-clause-ok : goal.returns-clause-ok
returns-clause-ok c =
    let states = c.sort_by_symbol.new.states.items in
    let same = subst (λ (before : List TradingState). IsPermutation before states) c.in_ok-states.ensures c.sort_by_symbol.ensures.same in
    let sorted = sorted_states c.self.inside.by_symbol.entries states c.self.invariant same c.sort_by_symbol.ensures.sorted in
    let listed = ap (λ (s : SymbolsStanding). mapped symbol_state (map.entries s.statuses)) c.self.view_is in
    c.in_ok-append.ensures.ok ∙ ap (λ (l : List TradingState). c.args.out.now.items ++ l) (sorted ∙ listed)
