use Rattle.std.proofs.Common.{◌∙◌, arith}
use Rattle.venue_plan.proofs.Lines.{page_more}
use Rattle.venue_plan.proofs.text.fill.Goals as goal

pub lines-preserved : goal.lines-preserved
lines-preserved c = record {
  from = let made = c.in_ok-next_line.ensures.made in omega arith;
  until = let made = c.in_ok-next_line.ensures.made in omega arith;
  number = c.next_line.ensures.number ∙ c.lines.invariant.number;
  units = c.next_line.ensures.units ∙ c.lines.invariant.units;
  count = c.next_line.ensures.count ∙ c.lines.invariant.count;
  page = page_more _ _ _ _ _ _ _ _ _ _ _ _ c.lines.invariant.number c.lines.invariant.units c.lines.invariant.count c.lines.invariant.from
      c.in_ok-next_line.ensures.made c.lines.invariant.page c.in_ok-next_line.ensures.line;
}
