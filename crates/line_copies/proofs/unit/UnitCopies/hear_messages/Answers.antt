use Rattle.std.proofs.Common.{◌≡◌, suc, List, length, ap, arith}
use Rattle.pitch_model.specs.History.{Raw}
use Rattle.line_copies.proofs.Keeping.{along_none, along_more, along_keeps, along_told}
use Rattle.line_copies.proofs.unit.UnitCopies.hear_messages.Goals as goal

pub messages-init : goal.messages-init
messages-init c = record {
  within = (let w = c.requires in omega arith);
  along = λ E keeps. along_none c.args.self.now c.args.first c.args.raws E keeps;
}

pub messages-preserved : goal.messages-preserved
messages-preserved c =
    let split = c.in-Some.ensures.0 in
    let shorter : length c.messages.raws ≡ suc (length c.next_raw.new.self) = ap (λ (rs : List Raw). length rs) split in
    let within = c.messages.invariant.within in
    record {
      within = omega arith;
      along = λ E keeps. along_more c.messages.self c.hear.new.self c.args.first c.messages.sequence c.args.raws c.messages.raws c.next_raw.new.self c.in-Some.raw.now c.messages.told c.hear.result c.or-told.result E
          split c.hear.ensures.kept c.hear.ensures.told c.or-told.ensures (c.messages.invariant.along E keeps);
    }

pub returns-clause-keeps : goal.returns-clause-keeps
returns-clause-keeps c = λ E keeps. along_keeps c.messages.self c.args.first c.messages.sequence c.args.raws c.messages.raws c.messages.told E c.in_default.ensures.0 (c.messages.invariant.along E keeps)

pub returns-clause-told : goal.returns-clause-told
returns-clause-told c = λ E keeps. along_told c.messages.self c.args.first c.messages.sequence c.args.raws c.messages.raws c.messages.told E c.in_default.ensures.0 (c.messages.invariant.along E keeps)
