use Rattle.std.proofs.Common.{[]}
use Rattle.feed_lines.proofs.Texts.{texts_none, texts_grown}
use Rattle.feed_lines.proofs.laws.texts_grow_by_the_item.Goals as goal

pub returns-clause-none : goal.returns-clause-none
returns-clause-none g c = λ text. texts_none text []

pub returns-clause-more : goal.returns-clause-more
returns-clause-more g c = texts_grown
