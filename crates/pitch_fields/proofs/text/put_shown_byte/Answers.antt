use Rattle.std.proofs.Common.{arith}
use Rattle.pitch_fields.proofs.Placing.{untouched}
use Rattle.pitch_fields.proofs.text.put_shown_byte.Goals as goal

pub returns-clause-rest : goal.returns-clause-rest
returns-clause-rest c =
    untouched c.args.out.now c.put_text-escaped.new.out c.put_hex.new.out c.put_text-escaped.result c.put_hex.result
    c.put_hex.ensures.rest c.put_text-escaped.ensures.rest (omega (arith, c.put_hex.ensures.end))
