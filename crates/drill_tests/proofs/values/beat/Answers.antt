use Rattle.std.proofs.Common.{[], List, ℕ, sym, ◌∙◌, subst}
use Rattle.pitch_model.specs.History.{Raw}
use Rattle.heard_items.specs.Datagrams.{IsPiece}
use Rattle.venue_core.specs.Plan.{plan}
use Rattle.drill_tests.proofs.values.beat.Goals as goal

pub of_bytes-requires : goal.of_bytes-requires
of_bytes-requires g c =
    let V : List Raw = plan g.R.DrillRun.number g.R.DrillRun.unit g.R.DrillRun.count in
    let bytes : List ℕ = c.beat-heartbeat.result in
    let own : IsPiece V c.make-venue.result.unit bytes = c.pieces_are_honest.ensures.more [] V c.make-venue.result.unit bytes (c.beat-heartbeat.ensures.piece [] 0 c.make-venue.ensures.stands) in
    subst (λ (u : ℕ). IsPiece V u bytes) (c.make-venue.ensures.unit ∙ sym c.requires) own
