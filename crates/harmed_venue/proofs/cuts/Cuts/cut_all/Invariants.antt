use Rattle.std.proofs.Common.{◌≡◌, Bool, true}
use Rattle.harmed_venue.proofs.Sending.{partly}
use Rattle.harmed_venue.proofs.cuts.Cuts.cut_all.Given as goal

abbrev pub invariant-places : goal.invariant-places
invariant-places l = l.cut-items ≡ partly (λ (cut : Bool). true) l.fn.self.places.items l.cut-index
