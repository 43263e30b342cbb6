use Rattle.std.proofs.Common.{◌≡◌, ◌-◌, ◌/◌, length}
use Rattle.line_copies.specs.Sums.{summed}
use Rattle.line_copies.proofs.sums.sum_of_words.Given as goal

abbrev pub invariant-words : goal.invariant-words
invariant-words l = summed ((length l.rest - 1) / 8) l.sum l.rest ≡ summed ((length l.fn.raw - 1) / 8) 0 l.fn.raw

abbrev pub decreases-words : goal.decreases-words
decreases-words l = length l.rest
