use Rattle.std.proofs.Common.{ap, sym, subst, ◌∙◌, rules, ◌≡◌, Ok, None}
use Rattle.pitch_messages.specs.declared.message.Message.{Message}
use Rattle.pitch_messages.specs.Reading.{reads, row_of}
use Rattle.pitch_messages.specs.Raw.{kind_of}
use Rattle.pitch_messages.specs.Writing.{written}
use Rattle.pitch_messages.specs.layers.Rewriting.{HasItsVariant}
use Rattle.pitch_messages.proofs.Rows.{unsaid}
use Rattle.pitch_messages.proofs.writing.write.Goals as goal

pub returns-in-Other-clause-written : goal.returns-in-Other-clause-written
unfolding written
returns-in-Other-clause-written c = search rules

pub returns-in-Other-clause-reads_back : goal.returns-in-Other-clause-reads_back
returns-in-Other-clause-reads_back c is =
    let none : row_of (kind_of c.in-Other.raw) ≡ None = subst HasItsVariant c.in-Other.is is in
    ap reads c.copy.ensures ∙ sym (unsaid c.in-Other.raw none) ∙ ap (λ (m : Message). Ok m) (sym c.in-Other.is)
