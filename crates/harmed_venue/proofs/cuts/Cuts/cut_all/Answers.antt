use Rattle.std.proofs.Common.{◌≡◌, ℕ, ◌<◌, Bool, true, List, length, set, ap, ◌∙◌, arith}
use Rattle.harmed_venue.proofs.Sending.{partly_all, partly_set, written_back}
use Rattle.harmed_venue.proofs.cuts.Cuts.cut_all.Goals as goal

pub places-init : goal.places-init
places-init c = c.deref_mut-cut-items.ensures.value

pub places-preserved : goal.places-preserved
places-preserved c =
    let old : List Bool = c.args.self.now.places.items in
    let i : ℕ = c.places.cut-index in
    let same : length c.deref_mut-cut-items.result.now ≡ length old = ap (λ (l : List Bool). length l) c.deref_mut-cut-items.ensures.value in
    let within : i < length old = omega arith in
    ap (λ (l : List Bool). set l i true) c.places.invariant ∙ partly_set (λ (cut : Bool). true) old i true within

pub returns-clause-places : goal.returns-clause-places
returns-clause-places c =
    let old : List Bool = c.args.self.now.places.items in
    let same : length c.deref_mut-cut-items.result.now ≡ length old = ap (λ (l : List Bool). length l) c.deref_mut-cut-items.ensures.value in
    let size : length c.places.cut-items ≡ length old = c.places.auto.cut-items ∙ same in
    written_back c.places.cut-items old c.args.self.now.places.len size c.args.self.now.places.ok.0
    ∙ c.places.invariant ∙ partly_all (λ (cut : Bool). true) old c.places.cut-index (omega arith)
