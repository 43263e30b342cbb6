use Rattle.heard_items.proofs.Datagrams.{venues_after, venues_slice}
use Rattle.heard_items.proofs.laws.slices_are_the_venues.Goals as goal

pub returns-clause-rest : goal.returns-clause-rest
returns-clause-rest c = venues_after

pub returns-clause-slice : goal.returns-clause-slice
returns-clause-slice c = venues_slice
