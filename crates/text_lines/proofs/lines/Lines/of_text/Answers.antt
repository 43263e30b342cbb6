use Rattle.text_lines.proofs.TextLemmas.{items_all}
use Rattle.text_lines.proofs.lines.Lines.of_text.Goals as goal

pub returns : goal.returns
returns g c = record { items = items_all g.G.Grammar.reading g.G.Grammar.entry_of c.args.text.now }
