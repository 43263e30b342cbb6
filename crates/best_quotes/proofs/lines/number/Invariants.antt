use Rattle.std.proofs.Common.{◌≡◌, ◌++◌, take}
use Rattle.best_quotes.specs.Quoting.{numbered}
use Rattle.best_quotes.proofs.lines.number.Given as goal

abbrev pub invariant-loop-quote : goal.invariant-loop-quote
invariant-loop-quote l = l.lines.items ≡ l.initial.lines.items ++ numbered l.sequence (take l.quote-index l.quote-items)
