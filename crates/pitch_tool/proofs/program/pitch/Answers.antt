use Rattle.std.proofs.Common.{map, string_bytes}
use Rattle.pitch_tool.proofs.Completing.{closes_whole, closes_refused, closes_unknown}
use Rattle.pitch_tool.proofs.program.pitch.Goals as goal

pub returns-clause-complete : goal.returns-clause-complete
returns-clause-complete g c = λ form is sound.
    closes_whole (map string_bytes c.args.words.now) c.close.result _ form c.close.ensures.ends c.close.ensures.causes is sound

pub returns-clause-refused : goal.returns-clause-refused
returns-clause-refused g c = λ form trouble is wrong.
    closes_refused (map string_bytes c.args.words.now) c.close.result _ form trouble c.close.ensures.ends c.close.ensures.causes is wrong

pub returns-clause-unknown : goal.returns-clause-unknown
returns-clause-unknown g c = closes_unknown (map string_bytes c.args.words.now) c.close.result _ c.close.ensures.ends
