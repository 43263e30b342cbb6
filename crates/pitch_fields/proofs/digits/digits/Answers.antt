use Rattle.std.proofs.Common.{arith}
use Rattle.pitch_fields.proofs.Decimals.{more_digits}
use Rattle.pitch_fields.proofs.digits.digits.Goals as goal

pub returns-in-100-to-999-clause-count : goal.returns-in-100-to-999-clause-count
returns-in-100-to-999-clause-count c = more_digits 3 c.args.value (omega arith) (omega arith) (omega arith) (omega arith)

pub returns-in-1000-to-9999-clause-count : goal.returns-in-1000-to-9999-clause-count
returns-in-1000-to-9999-clause-count c = more_digits 4 c.args.value (omega arith) (omega arith) (omega arith) (omega arith)

pub returns-in-10000-to-99999-clause-count : goal.returns-in-10000-to-99999-clause-count
returns-in-10000-to-99999-clause-count c = more_digits 5 c.args.value (omega arith) (omega arith) (omega arith) (omega arith)

pub returns-in-100000-to-999999-clause-count : goal.returns-in-100000-to-999999-clause-count
returns-in-100000-to-999999-clause-count c = more_digits 6 c.args.value (omega arith) (omega arith) (omega arith) (omega arith)

pub returns-in-1000000-to-9999999-clause-count : goal.returns-in-1000000-to-9999999-clause-count
returns-in-1000000-to-9999999-clause-count c = more_digits 7 c.args.value (omega arith) (omega arith) (omega arith) (omega arith)

pub returns-in-10000000-to-99999999-clause-count : goal.returns-in-10000000-to-99999999-clause-count
returns-in-10000000-to-99999999-clause-count c = more_digits 8 c.args.value (omega arith) (omega arith) (omega arith) (omega arith)

pub returns-in-100000000-to-999999999-clause-count : goal.returns-in-100000000-to-999999999-clause-count
returns-in-100000000-to-999999999-clause-count c = more_digits 9 c.args.value (omega arith) (omega arith) (omega arith) (omega arith)

pub returns-in-1000000000-to-9999999999-clause-count : goal.returns-in-1000000000-to-9999999999-clause-count
returns-in-1000000000-to-9999999999-clause-count c = more_digits 10 c.args.value (omega arith) (omega arith) (omega arith) (omega arith)

pub returns-in-10000000000-to-99999999999-clause-count : goal.returns-in-10000000000-to-99999999999-clause-count
returns-in-10000000000-to-99999999999-clause-count c = more_digits 11 c.args.value (omega arith) (omega arith) (omega arith) (omega arith)

pub returns-in-100000000000-to-999999999999-clause-count : goal.returns-in-100000000000-to-999999999999-clause-count
returns-in-100000000000-to-999999999999-clause-count c = more_digits 12 c.args.value (omega arith) (omega arith) (omega arith) (omega arith)

pub returns-in-1000000000000-to-9999999999999-clause-count : goal.returns-in-1000000000000-to-9999999999999-clause-count
returns-in-1000000000000-to-9999999999999-clause-count c = more_digits 13 c.args.value (omega arith) (omega arith) (omega arith) (omega arith)

pub returns-in-10000000000000-to-99999999999999-clause-count : goal.returns-in-10000000000000-to-99999999999999-clause-count
returns-in-10000000000000-to-99999999999999-clause-count c = more_digits 14 c.args.value (omega arith) (omega arith) (omega arith) (omega arith)

pub returns-in-100000000000000-to-999999999999999-clause-count : goal.returns-in-100000000000000-to-999999999999999-clause-count
returns-in-100000000000000-to-999999999999999-clause-count c = more_digits 15 c.args.value (omega arith) (omega arith) (omega arith) (omega arith)

pub returns-in-1000000000000000-to-9999999999999999-clause-count : goal.returns-in-1000000000000000-to-9999999999999999-clause-count
returns-in-1000000000000000-to-9999999999999999-clause-count c = more_digits 16 c.args.value (omega arith) (omega arith) (omega arith) (omega arith)

pub returns-in-10000000000000000-to-99999999999999999-clause-count : goal.returns-in-10000000000000000-to-99999999999999999-clause-count
returns-in-10000000000000000-to-99999999999999999-clause-count c = more_digits 17 c.args.value (omega arith) (omega arith) (omega arith) (omega arith)

pub returns-in-100000000000000000-to-999999999999999999-clause-count : goal.returns-in-100000000000000000-to-999999999999999999-clause-count
returns-in-100000000000000000-to-999999999999999999-clause-count c = more_digits 18 c.args.value (omega arith) (omega arith) (omega arith) (omega arith)

pub returns-in-1000000000000000000-to-9999999999999999999-clause-count : goal.returns-in-1000000000000000000-to-9999999999999999999-clause-count
returns-in-1000000000000000000-to-9999999999999999999-clause-count c = more_digits 19 c.args.value (omega arith) (omega arith) (omega arith) (omega arith)

pub returns-in_default-clause-count : goal.returns-in_default-clause-count
returns-in_default-clause-count c = more_digits 20 c.args.value (omega arith) (omega arith) (omega arith) (omega arith)
