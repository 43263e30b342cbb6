use Rattle.std.proofs.Common.{◌≡◌, ℕ, ◌<◌, ◌≤◌, List, length, set, get_or, take, refl, ap, ◌∙◌, arith}
use Rattle.std.proofs.lemmas.List.{take_all}
use Rattle.harmed_venue.specs.Harmed.{all_held}
use Rattle.harmed_venue.specs.Lines.{LineNow, held_back, let_go, sendings}
use Rattle.harmed_venue.proofs.Calling.{makes_as, makes_none}
use Rattle.harmed_venue.proofs.Sending.{makes_held, partly_all, partly_get, partly_set, written_back}
use Rattle.harmed_venue.proofs.lines.HarmedLines.let_go.Goals as goal

pub lines-init : goal.lines-init
lines-init g c = record {
  lines = c.deref_mut-line-items.ensures.value ∙ c.self.view_is;
  makes = makes_none (g.N.VenueNet.calls c.args.net.now);
  still = refl;
}

pub lines-preserved : goal.lines-preserved
lines-preserved g c =
    let old : List LineNow = c.args.self.now in
    let i : ℕ = c.lines.line-index in
    let d : LineNow = c.line-item.result in
    let same : length c.deref_mut-line-items.result.now ≡ length old = ap (λ (l : List LineNow). length l) (c.deref_mut-line-items.ensures.value ∙ c.self.view_is) in
    let within : i < length old = omega arith in
    let found : get_or c.lines.line-items i d ≡ get_or old i d = ap (λ (l : List LineNow). get_or l i d) c.lines.invariant.lines ∙ partly_get let_go old i d in
    record {
      lines = ap (λ (l : LineNow). set c.lines.line-items i l) (c.let_go.ensures.line ∙ ap let_go found)
          ∙ ap (λ (l : List LineNow). set l i (let_go (get_or old i d))) c.lines.invariant.lines ∙ partly_set let_go old i d within;
      makes = makes_held (g.N.VenueNet.calls c.args.net.now) (g.N.VenueNet.calls c.lines.net) (g.N.VenueNet.calls c.let_go.new.net) old i d within
          c.lines.invariant.makes (makes_as (g.N.VenueNet.calls c.lines.net) (g.N.VenueNet.calls c.let_go.new.net) _ _ (ap (λ (l : LineNow). sendings l (held_back l.held)) found) c.let_go.ensures.makes);
      still = c.let_go.ensures.still ∙ c.lines.invariant.still;
    }

pub returns-clause-lines : goal.returns-clause-lines
returns-clause-lines g c =
    let old : List LineNow = c.args.self.now in
    let same : length c.deref_mut-line-items.result.now ≡ length old = ap (λ (l : List LineNow). length l) (c.deref_mut-line-items.ensures.value ∙ c.self.view_is) in
    let inner : length c.self.inside.lines.items ≡ length old = ap (λ (l : List LineNow). length l) c.self.view_is in
    let size : length c.lines.line-items ≡ length c.self.inside.lines.items = omega arith in
    written_back c.lines.line-items c.self.inside.lines.items c.self.inside.lines.len size c.self.inside.lines.ok.0
    ∙ c.lines.invariant.lines ∙ partly_all let_go old c.lines.line-index (omega arith)

pub returns-clause-makes : goal.returns-clause-makes
returns-clause-makes g c =
    let old : List LineNow = c.args.self.now in
    let same : length c.deref_mut-line-items.result.now ≡ length old = ap (λ (l : List LineNow). length l) (c.deref_mut-line-items.ensures.value ∙ c.self.view_is) in
    let past : length old ≤ c.lines.line-index = omega arith in
    makes_as (g.N.VenueNet.calls c.args.net.now) (g.N.VenueNet.calls c.lines.net) (all_held (take c.lines.line-index old)) (all_held old)
    (ap (λ (l : List LineNow). all_held l) (take_all c.lines.line-index old past)) c.lines.invariant.makes

pub returns-clause-still : goal.returns-clause-still
returns-clause-still g c = c.lines.invariant.still
