use Rattle.std.proofs.Common.{◌≡◌, ◌<◌, ◌+◌, ◌^◌, length}
use Rattle.text_lines.specs.Items.{items_from}
use Rattle.text_lines.proofs.lines.LinesIterator.next.Given as goal

abbrev pub invariant-skipped : goal.invariant-skipped
invariant-skipped g l = record {
  room : l.self-inside.number + length l.self-inside.rest.now < 2 ^ 31;
  left : items_from g.G.Grammar.reading g.G.Grammar.entry_of l.initial.self-inside.number l.initial.self-inside.rest.now ≡ items_from g.G.Grammar.reading g.G.Grammar.entry_of l.self-inside.number l.self-inside.rest.now;
}

abbrev pub decreases-skipped : goal.decreases-skipped
decreases-skipped g l = length l.self-inside.rest.now
