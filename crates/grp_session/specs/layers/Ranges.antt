-- What asking a proxy's store for a range does.
use Rattle.std.specs.Prelude.{◌≡◌, ℕ, Bool, ◌+◌, ◌-◌, ◌≤◌, List, ◌++◌, length, take, drop}
use Rattle.std.specs.List.{flat_map, AllByRecursion}
use Rattle.unit_packets.specs.Packing.{IsPacking}
use Rattle.gap_store.specs.Look.{View}
use Rattle.gap_store.specs.layers.Looking.{IsLater}
use Rattle.grp_session.specs.Budget.{Limits, Spent}
use Rattle.grp_session.specs.Asking.{status_here, datagrams_of, spent_after}

-- a request of the unit was answered at a view that is not before that of the call
pub record IsAsked (unit : ℕ)
    (there : Bool) (l : Limits) (sequence count : ℕ) (spent : Spent) (view : View) (status : ℕ)
    (counted : Spent → Type 0) (shown : View → Type 0) (before after : List (List ℕ)) : Type 0 where
  pub now : View
  pub later : IsLater view now
  pub shows : shown now
  pub answer : status ≡ status_here there l now spent sequence count
  pub lines : after ≡ before ++ datagrams_of status unit now sequence count
  pub counts : counted (spent_after status spent)

-- ---- The gap line
-- datagrams of a unit are the packing of some of the messages, from a sequence on
pub record IsPackedRange (unit : ℕ) (messages datagrams : List (List ℕ)) : Type 0 where
  pub first : ℕ
  pub count : ℕ
  pub known : 1 ≤ first
  pub there : first + count ≤ length messages + 1
  pub packing : IsPacking unit first (take count (drop (first - 1) messages)) datagrams

-- they are the packings of such ranges, one range after another
pub record ArePackedRanges (unit : ℕ) (messages datagrams : List (List ℕ)) : Type 0 where
  pub ranges : List (List (List ℕ))
  pub each : AllByRecursion (IsPackedRange unit messages) ranges
  pub joined : datagrams ≡ flat_map (λ (range : List (List ℕ)). range) ranges
