use Rattle.std.proofs.Common.{ap, ◌∙◌, ◌++◌, take, arith}
use Rattle.std.proofs.lemmas.List.{append-nil}
use Rattle.feed_lines.specs.Show.{number_field}
use Rattle.feed_lines.proofs.Putting.{front_of, back_of}
use Rattle.feed_lines.proofs.lines.put_number_field.Goals as goal

pub returns-clause-text : goal.returns-clause-text
returns-clause-text c = front_of _ _ _ _ _ _ (omega arith) c.number.ensures ∙ ap (λ t. take c.args.at c.args.out.now ++ t) (append-nil (number_field c.args.name.now c.args.value))

pub returns-clause-rest : goal.returns-clause-rest
returns-clause-rest c = back_of _ _ _ _ _ _ (omega arith) c.number.ensures
