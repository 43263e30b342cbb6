use Rattle.text_lines.specs.Items.{items_of}
use Rattle.text_lines.proofs.TextLemmas.{Taken}
use Rattle.text_lines.proofs.lines.take_lines.Given as goal

abbrev pub invariant-lines : goal.invariant-lines
invariant-lines g l = Taken (items_of g.G.Grammar.reading g.G.Grammar.entry_of l.text) l.item-iterator l.fn.out.items l.out.items
