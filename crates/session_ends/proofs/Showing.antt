-- Views that are shown one after another.
use Rattle.std.proofs.Common.{Bool, refl, ◌∙◌}
use Rattle.session_ends.specs.layers.Showing.{ShowsLater, Lasts}
use Rattle.session_ends.proofs.Runs.{IsOrder}

-- the same view
pub shown_same : {V : Type 0} (Later : V → V → Type 0) → IsOrder Later → (shown : V → Type 0) (view : V) → shown view → ShowsLater Later shown view
shown_same Later o shown view s = record { now = view; later = o.same view; shows = s }

-- one that is not before another, which is not before a third
pub shown_then : {V : Type 0} (Later : V → V → Type 0) → IsOrder Later → (between shown : V → Type 0) (view : V) → ShowsLater Later between view → ((v : V) → between v → ShowsLater Later shown v) → ShowsLater Later shown view
shown_then Later o between shown view first more =
    let next = more first.now first.shows in
    record { now = next.now; later = o.then view first.now next.now first.later next.later; shows = next.shows }

-- the same source
pub lasts_same : {L V : Type 0} (still : Bool) (shows : L → V → Type 0) (Later : V → V → Type 0) → IsOrder Later → (source : L) → Lasts still shows Later source source
lasts_same still shows Later o source = record { same = λ on. refl; left = λ view s. shown_same Later o (shows source) view s }

-- one that comes after another
pub lasts_then : {L V : Type 0} (still : Bool) (shows : L → V → Type 0) (Later : V → V → Type 0) → IsOrder Later → (first old new : L) → Lasts still shows Later first old → Lasts still shows Later old new → Lasts still shows Later first new
lasts_then still shows Later o first old new a b = record {
  same = λ on. b.same on ∙ a.same on;
  left = λ view s. shown_then Later o (shows old) (shows new) view (a.left view s) b.left;
}
