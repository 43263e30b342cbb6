use Rattle.session_ends.proofs.Runs.{rises_to, rises_nowhere}
use Rattle.spin_server.specs.layers.Looking.{ServedLater}
use Rattle.spin_server.proofs.Serves.{later_order}
use Rattle.spin_server.proofs.Shelving.{one_served, later_both}
use Rattle.spin_server.proofs.laws.image_look_laws.Goals as goal

pub returns-clause-one : goal.returns-clause-one
returns-clause-one c = one_served

pub returns-clause-rises : goal.returns-clause-rises
returns-clause-rises c = rises_nowhere ServedLater later_order later_both

pub returns-clause-piece : goal.returns-clause-piece
returns-clause-piece c = λ shelf view now views shown later rises.
    let same = one_served shelf view now shown later (rises_to ServedLater later_order view views now rises) in
    (same, rises_nowhere ServedLater later_order later_both view now views rises same)
