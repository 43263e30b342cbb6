-- What can be seen of a source once it was looked at.
use Rattle.std.specs.Prelude.{◌≡◌, Bool, true}

-- a view is shown that is not before another
pub record ShowsLater {V : Type 0} (Later : V → V → Type 0) (shown : V → Type 0) (view : V) :
    Type 0 where
  pub now : V
  pub later : Later view now
  pub shows : shown now

-- a source to which nobody else pushes stays as it was; and of every view that the first shows, one
-- is shown now that is not before it
pub record Lasts {L V : Type 0} (still : Bool) (shows : L → V → Type 0) (Later : V → V → Type 0)
    (first now : L) : Type 0 where
  pub same : still ≡ true → now ≡ first
  pub left : (view : V) → shows first view → ShowsLater Later (shows now) view
