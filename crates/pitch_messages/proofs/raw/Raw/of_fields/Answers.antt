use Rattle.std.proofs.Common.{arith, []}
use Rattle.pitch_messages.proofs.Fields.{filled_within, filled_more}
use Rattle.pitch_messages.proofs.raw.Raw.of_fields.Goals as goal

pub prove-unreachable-requires : goal.prove-unreachable-requires
prove-unreachable-requires c =
    omega (arith, filled_within c.args.kind c.fields.at c.fields.field-index c.fields.bytes c.args.fields.now (record { ref_ptr = (0, 0); now = [] }) c.fields.invariant c.fields-test.true c.requires)

pub fields-preserved : goal.fields-preserved
fields-preserved c =
    filled_more c.args.kind c.fields.at c.fields.field-index c.fields.bytes c.copy_from_slice.new.self c.args.fields.now _ c.fields.invariant c.fields-test.true c.if-prove.false c.copy_from_slice.ensures.after
