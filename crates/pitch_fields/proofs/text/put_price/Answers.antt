use Rattle.std.proofs.Common.{arith, ◌/◌, lit<}
use Rattle.std.proofs.lemmas.Fmt.{length-decimal-le}
use Rattle.pitch_fields.proofs.Placing.{untouched}
use Rattle.pitch_fields.proofs.text.put_price.Goals as goal

-- whole dollars have at most 16 digits
pub prove-unreachable-requires : goal.prove-unreachable-requires
prove-unreachable-requires c = omega (arith, length-decimal-le 16 (c.ten_thousandths-all.result / 10000) (lit< tt) (omega arith) (omega arith))

pub returns-clause-rest : goal.returns-clause-rest
returns-clause-rest c =
    untouched c.args.out.now c.put_number-point.new.out c.put_text.new.out c.put_number-point.result c.put_text.result
    c.put_text.ensures.rest c.put_number-point.ensures.rest
    (omega (arith, c.put_text.ensures.end))
