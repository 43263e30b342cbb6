use Rattle.std.proofs.Common.{◌≡◌, List, sym, subst}
use Rattle.pitch_model.specs.History.{Raw}
use Rattle.venue_core.specs.Plan.{plan}
use Rattle.drill_client.specs.layers.Following.{Follows, ImageParts, IsImageOf, imaged_whole}
use Rattle.drill_client.proofs.hearing.hear_spin_image.Goals as goal

pub returns : goal.returns
returns g c H E f =
    let V : List Raw = plan g.R.DrillRun.number g.R.DrillRun.unit g.R.DrillRun.count in
    let e = c.into_parts-sequence.ensures in
    let parts : ImageParts = record { sequence = c.into_parts-sequence.result.0; orders = c.into_parts-sequence.result.1; raws = c.into_parts-sequence.result.2.items } in
    let same : parts ≡ c.args.image = λ i. record { sequence = e.sequence i; orders = e.orders i; raws = e.raws i } in
    subst (λ (p : ImageParts). Follows c.hear_image.new.client H V (imaged_whole p.sequence p.orders p.raws E)) same
    (c.in_ok-hear_image.ensures V (subst (IsImageOf V) (sym same) e.image) H E f)
