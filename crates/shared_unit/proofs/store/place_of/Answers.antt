use Rattle.std.proofs.Common.{sym}
use Rattle.std.proofs.lemmas.Bool.{ne_eqb}
use Rattle.shared_unit.proofs.Copying.{none_more}
use Rattle.shared_unit.proofs.store.place_of.Goals as goal

pub places-preserved : goal.places-preserved
places-preserved c = none_more c.args.sequence c.args.pictures.now.items c.places.i c.in-Some.picture.now c.places.invariant (sym c.in-Some.ensures) (ne_eqb _ _ c.if-picture-sequence.false)
