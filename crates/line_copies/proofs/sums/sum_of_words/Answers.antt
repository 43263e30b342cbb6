use Rattle.std.proofs.Common.{arith, sym, ◌∙◌}
use Rattle.line_copies.proofs.Summing.{summed_more, summed_all}
use Rattle.line_copies.proofs.sums.sum_of_words.Goals as goal

pub words-preserved : goal.words-preserved
words-preserved c = rw (c.mix-sum.ensures, c.get_u64.ensures, c.split_at.ensures.back) (sym (summed_more c.words.rest.now c.words.sum (omega arith)) ∙ c.words.invariant)

pub returns : goal.returns
returns c = sym (summed_all c.words.rest.now c.words.sum (omega arith)) ∙ c.words.invariant
