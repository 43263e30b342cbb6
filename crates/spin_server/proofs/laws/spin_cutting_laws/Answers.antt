use Rattle.session_ends.proofs.Cuts.{closes_once, answers_once}
use Rattle.spin_server.specs.Serving.{spin_answer}
use Rattle.spin_server.proofs.laws.spin_cutting_laws.Goals as goal

pub returns-clause-closes : goal.returns-clause-closes
returns-clause-closes c = closes_once

pub returns-clause-answers : goal.returns-clause-answers
returns-clause-answers c = λ s es a b views more spin each. answers_once s (spin_answer s) es a b views views more spin each
