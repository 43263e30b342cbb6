use Rattle.std.proofs.Common.{take}
use Rattle.pitch_messages.specs.layers.Chains.{joined}
use Rattle.pitch_messages.proofs.Fields.{Filled}
use Rattle.pitch_messages.proofs.raw.Raw.of_fields.Given as goal

abbrev pub invariant-fields : goal.invariant-fields
invariant-fields l = Filled l.kind l.at l.bytes (joined (take l.field-index l.fields))
