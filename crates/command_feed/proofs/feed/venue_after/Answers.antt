use Rattle.std.proofs.Common.{[], inl, inr, ◌∙◌}
use Rattle.command_feed.proofs.Accepted.{text_messages}
use Rattle.command_feed.proofs.feed.venue_after.Goals as goal

pub returns-in-Ok-clause-ok : goal.returns-in-Ok-clause-ok
returns-in-Ok-clause-ok c =
    let all = c.in-Ok.ensures.ok [] c.make-venue.ensures.stands in
    record { all = all.all; accepts = text_messages c.args.text.now c.of_text.result c.of_text.ensures.items ∙ all.accepts; stands = all.stands }

pub returns-in-Err-clause-err : goal.returns-in-Err-clause-err
returns-in-Err-clause-err c = elim (c.in-Err.ensures.err [] c.make-venue.ensures.stands) [
  | inl memory ↦ inl memory
  | inr refused ↦ inr (text_messages c.args.text.now c.of_text.result c.of_text.ensures.items ∙ refused)
]
