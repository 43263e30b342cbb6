use Rattle.run_audit.proofs.Fronts.{taken_is, none_taken}
use Rattle.run_audit.proofs.naming.take_number.Goals as goal

pub returns-then-value-le4294967295 : goal.returns-then-value-le4294967295
returns-then-value-le4294967295 c n more small e =
    taken_is c.args.bytes.now c.split_at.result.0.now c.split_at.result.1.now more c.length_before.result n c.in-Some.value c.number.result c.number.ensures c.in-Some.is small e c.length_before.ensures.value c.split_at.ensures.front c.split_at.ensures.back

pub returns-in-None : goal.returns-in-None
returns-in-None c n more small e =
    none_taken c.args.bytes.now c.split_at.result.0.now c.split_at.result.1.now more c.length_before.result n c.number.result c.number.ensures c.in-None.is small e c.length_before.ensures.value c.split_at.ensures.front c.split_at.ensures.back
