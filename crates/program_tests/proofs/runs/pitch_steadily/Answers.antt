use Rattle.pitch_tool.proofs.Completing.{unless_one}
use Rattle.program_tests.proofs.runs.pitch_steadily.Goals as goal

pub returns-clause-complete : goal.returns-clause-complete
returns-clause-complete g c = λ form is sound. unless_one (c.pitch.ensures.complete form is sound)

pub returns-clause-refused : goal.returns-clause-refused
returns-clause-refused g c = λ form trouble is wrong. unless_one (c.pitch.ensures.refused form trouble is wrong)
