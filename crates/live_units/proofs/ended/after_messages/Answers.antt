use Rattle.std.proofs.Common.{◌≡◌, suc, List, length, ap, arith}
use Rattle.pitch_model.specs.History.{Raw}
use Rattle.live_units.proofs.Ends.{ends_all, ends_more, ends_none}
use Rattle.live_units.proofs.ended.after_messages.Goals as goal

pub messages-init : goal.messages-init
messages-init c = record {
  within = (let w = c.requires in omega arith);
  ends = λ E is. ends_none c.args.first c.args.sequence c.args.raws E is;
}

pub messages-preserved : goal.messages-preserved
messages-preserved c =
    let split = c.in-Some.ensures.0 in
    let shorter : length c.messages.raws ≡ suc (length c.next_raw.new.self) = ap (λ (rs : List Raw). length rs) split in
    let within = c.messages.invariant.within in
    record {
      within = omega arith;
      ends = λ E is. ends_more c.messages.lowest c.after_message-lowest.result c.args.sequence c.messages.next c.args.raws c.messages.raws c.next_raw.new.self c.in-Some.raw.now E split c.after_message-lowest.ensures (c.messages.invariant.ends E is);
    }

pub returns : goal.returns
returns c = λ E is. ends_all c.messages.lowest c.args.sequence c.messages.next c.args.raws c.messages.raws E c.in_default.ensures.0 (c.messages.invariant.ends E is)
