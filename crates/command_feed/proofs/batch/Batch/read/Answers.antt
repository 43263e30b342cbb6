use Rattle.std.proofs.Common.{◌∷◌, length, Result, inr, ap, ◌∙◌}
use Rattle.pitch_text.specs.declared.command.CommandEntry.{CommandEntry}
use Rattle.text_lines.specs.Text.{all_of}
use Rattle.text_lines.specs.declared.fault.TextError.{TextError}
use Rattle.command_feed.proofs.Accepted.{batch_more, batch_count, batch_fault}
use Rattle.command_feed.proofs.batch.Batch.read.Goals as goal

pub reads-preserved : goal.reads-preserved
reads-preserved c =
    let first = c.in-Some.ensures.steps ∙ ap (λ (i : Result CommandEntry TextError). i ∷ c.next.new.self) c.in-Ok.is in
    let before = c.reads.self.entries.items in
    let after = c.push.new.self.entries.items in
    let grown = c.in_ok-push-in-Ok.ensures in
    record {
      read = batch_more (all_of c.args.items.now) before after c.reads.items c.next.new.self c.in-Ok.entry c.reads.invariant.read first grown;
      count = batch_count (length c.args.items.now) before after c.reads.items c.next.new.self c.in-Ok.entry c.reads.invariant.count first grown;
    }

pub returns-in-Err-clause-err : goal.returns-in-Err-clause-err
returns-in-Err-clause-err c =
    let first = c.in-Some.ensures.steps ∙ ap (λ (i : Result CommandEntry TextError). i ∷ c.next.new.self) c.in-Err.is in
    inr (batch_fault (all_of c.args.items.now) c.reads.self.entries.items c.reads.items c.next.new.self c.in-Err.fault c.from.result c.reads.invariant.read first c.from.ensures)
