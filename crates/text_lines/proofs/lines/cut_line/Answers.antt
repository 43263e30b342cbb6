use Rattle.text_lines.proofs.TextLemmas.{line_before, line_alone}
use Rattle.text_lines.proofs.lines.cut_line.Goals as goal

pub returns-in-empty-clause-lines : goal.returns-in-empty-clause-lines
returns-in-empty-clause-lines c = line_alone c.args.text.now c.split_at.result.0.now c.split_at.result.1.now c.without_return.result.now c.length_before.result c.length_before.ensures.value c.split_at.ensures.front c.split_at.ensures.back c.without_return.ensures.value c.in-empty.len_below

pub returns-in-len1-up-clause-lines : goal.returns-in-len1-up-clause-lines
returns-in-len1-up-clause-lines c = line_before c.args.text.now c.split_at.result.0.now c.split_at.result.1.now c.without_return-in-len1-up.result.now c.length_before.result c.length_before.ensures.value c.split_at.ensures.front c.split_at.ensures.back c.without_return-in-len1-up.ensures.value c.in-len1-up.len_at_least
