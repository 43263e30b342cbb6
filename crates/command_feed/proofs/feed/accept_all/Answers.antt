use Rattle.std.proofs.Common.{◌≡◌, List, ap, sym, ◌∙◌}
use Rattle.pitch_text.specs.declared.command.CommandEntry.{CommandEntry}
use Rattle.text_lines.specs.Text.{all_of}
use Rattle.command_feed.specs.layers.Accepting.{with_before}
use Rattle.command_feed.proofs.Accepted.{takes_batch}
use Rattle.command_feed.proofs.feed.accept_all.Goals as goal

pub batches-preserved : goal.batches-preserved
batches-preserved c =
    let value = c.deref.ensures.value in
    let kept = c.look_up.ensures in
    let same : c.deref.result.now ≡ c.read.new.self.entries.items = cc in
    let left = all_of c.batches.items in
    let more = all_of c.read.new.items in
    let ahead = c.in_ok-read.ensures.read ∙ ap (λ (es : List CommandEntry). with_before es more) (sym same) in
    record {
      takes = λ accepted stands.
          takes_batch accepted (all_of c.args.items) left more c.deref.result.now c.batches.venue c.accept_entries.new.venue ahead (c.batches.invariant.takes accepted stands) c.in_default.ensures.ok;
      unit = c.in_default.ensures.unit ∙ c.batches.invariant.unit;
    }
