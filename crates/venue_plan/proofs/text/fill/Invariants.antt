use Rattle.std.proofs.Common.{◌≡◌, ◌≤◌, ◌-◌, ◌++◌}
use Rattle.venue_plan.specs.Text.{made_lines}
use Rattle.venue_plan.proofs.text.fill.Given as goal

-- the page has the lines from the first one on
abbrev pub invariant-lines : goal.invariant-lines
invariant-lines l = record {
  from : l.initial.maker.made ≤ l.maker.made;
  until : l.maker.made ≤ l.until;
  number : l.maker.number ≡ l.initial.maker.number;
  units : l.maker.units.items ≡ l.initial.maker.units.items;
  count : l.maker.count ≡ l.initial.maker.count;
  page : l.page.items ≡ l.initial.page.items ++ made_lines l.initial.maker.number l.initial.maker.units.items l.initial.maker.count l.initial.maker.made (l.maker.made - l.initial.maker.made);
}

abbrev pub decreases-lines : goal.decreases-lines
decreases-lines l = l.until - l.maker.made
