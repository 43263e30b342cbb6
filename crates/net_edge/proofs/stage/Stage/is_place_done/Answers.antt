use Rattle.std.proofs.Common.{sym, ap, ◌∙◌}
use Rattle.net_edge.specs.declared.turn.Place.{Place}
use Rattle.net_edge.specs.layers.Playing.{is_place_done}
use Rattle.net_edge.proofs.Groups.{done_by}
use Rattle.net_edge.proofs.stage.Stage.is_place_done.Goals as goal

pub returns-in-End : goal.returns-in-End
returns-in-End g c = λ s base calls now at.
    c.is_done.ensures now.world at.holds ∙ done_by c.in-End.at now c.args.self.now.ended at.ended ∙ sym (ap (λ (p : Place). is_place_done p now) c.in-End.is)
