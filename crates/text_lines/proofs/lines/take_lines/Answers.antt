use Rattle.std.proofs.Common.{refl}
use Rattle.text_lines.specs.Items.{items_of}
use Rattle.text_lines.proofs.TextLemmas.{takes_all, takes_fault}
use Rattle.text_lines.proofs.lines.take_lines.Goals as goal

pub returns-in-Err-clause-bad : goal.returns-in-Err-clause-bad
returns-in-Err-clause-bad g c =
    takes_fault g.G.Grammar.reading g.G.Grammar.entry_of c.args.text.now (items_of g.G.Grammar.reading g.G.Grammar.entry_of c.args.text.now) c.lines.item-iterator c.next.new.self c.in-Some.item c.args.out.now.items c.lines.out.items c.in-Err.error refl c.in-Some.ensures.steps c.in-Err.is c.lines.invariant

pub returns-clause-entries : goal.returns-clause-entries
returns-clause-entries g c =
    takes_all g.G.Grammar.reading g.G.Grammar.entry_of c.args.text.now (items_of g.G.Grammar.reading g.G.Grammar.entry_of c.args.text.now) c.lines.item-iterator c.args.out.now.items c.lines.out.items refl c.in-None.ensures.steps.0 c.lines.invariant
