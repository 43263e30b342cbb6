use Rattle.std.proofs.Common.{map, string_bytes}
use Rattle.pitch_tool.proofs.Closing.{closes_failed, causes_done, causes_failed, unfinished}
use Rattle.pitch_tool.proofs.program.close.Goals as goal

pub returns-in-Err-clause-ends : goal.returns-in-Err-clause-ends
returns-in-Err-clause-ends g c = closes_failed (map string_bytes c.args.words.now) c.in-Err.failure c.say_why.result _ c.in-Err.ensures.runs c.say_why.ensures

pub returns-in-Err-clause-quiet : goal.returns-in-Err-clause-quiet
returns-in-Err-clause-quiet g c = λ done. absurd (unfinished c.in-Err.failure c.say_why.result _ c.say_why.ensures done)

pub returns-in-Ok-clause-causes : goal.returns-in-Ok-clause-causes
returns-in-Ok-clause-causes g c = causes_done _ c.in-Ok.ensures.read_cause c.in-Ok.ensures.write_cause c.in-Ok.ensures.net_cause c.in-Ok.ensures.net_still

pub returns-in-Err-clause-causes : goal.returns-in-Err-clause-causes
returns-in-Err-clause-causes g c = causes_failed c.in-Err.failure c.say_why.result _ c.say_why.ensures c.in-Err.ensures.read_cause c.in-Err.ensures.write_cause c.in-Err.ensures.net_cause c.in-Err.ensures.net_still
