use Rattle.pitch_messages.proofs.Chains.{raws_are_raw}
use Rattle.pitch_messages.proofs.raws.Raws.of_block.Goals as goal

pub invariant_of-result : goal.invariant_of-result
invariant_of-result c = record {
  many = c.requires.many;
  whole = c.requires.whole;
  raws = raws_are_raw c.args.count c.args.body.now (λ k. (c.type_inv.body k).fits);
}
