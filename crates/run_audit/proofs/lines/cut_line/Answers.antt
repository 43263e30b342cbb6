use Rattle.run_audit.proofs.Cutting.{cut_last, cut_up}
use Rattle.run_audit.proofs.lines.cut_line.Goals as goal

pub returns-in-empty : goal.returns-in-empty
returns-in-empty c = record { lines = cut_last c.args.text.now c.split_at.result.0.now c.split_at.result.1.now c.length_before.result c.requires c.length_before.ensures.value c.split_at.ensures.front c.split_at.ensures.back c.in-empty.len_below }

pub returns-in-len1-up : goal.returns-in-len1-up
returns-in-len1-up c = record { lines = cut_up c.args.text.now c.split_at.result.0.now c.split_at.result.1.now c.length_before.result c.requires c.length_before.ensures.value c.split_at.ensures.front c.split_at.ensures.back }
