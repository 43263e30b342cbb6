use Rattle.pitch_messages.proofs.Chains.{stepped_on}
use Rattle.pitch_messages.proofs.raws.Raws.after.Goals as goal

pub passed-preserved : goal.passed-preserved
passed-preserved c = stepped_on c.args.self.now c.passed.raws c.next_raw.new.self c.next_raw.result c.passed.counter c.passed.invariant c.next_raw.ensures
