use Rattle.std.proofs.Common.{◌+◌, decimal, drop}
use Rattle.pitch_fields.proofs.Placing.{behind}
use Rattle.pitch_fields.proofs.text.put_number.Goals as goal

pub returns-clause-rest : goal.returns-clause-rest
returns-clause-rest c =
    behind c.write_digits-start.new.buf (decimal c.args.value) (drop (c.args.at + c.digits.result) c.args.out.now) c.write_digits-start.result (c.args.at + c.digits.result) c.write_digits-start.ensures.written c.write_digits-start.ensures.start
