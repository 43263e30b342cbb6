-- What comes over a net, of calls that are listed.
use Rattle.std.specs.Prelude.{◌≡◌, ℕ, ◌<◌, ◌≤◌, List, [], ◌∷◌, length, take, Bool, true, false}
use Rattle.std.specs.Prelude.{Option, None, Some}
use Rattle.pitch_io.specs.declared.net.NetTaken.{NetTaken}
use Rattle.pitch_io.specs.declared.net.NetTaken.TheVariants as taken
use Rattle.pitch_io.specs.Nets.{Call}

-- where the net lists its calls after this one, the newest first, it listed them before, and this
-- one was added
abbrev pub ListsCall : Option (List Call) → Option (List Call) → Call → Type 0
ListsCall old None call = Unit {0}
ListsCall None (Some calls) call = ⊥
ListsCall (Some before) (Some calls) call = calls ≡ call ∷ before

-- the bytes that came, of a slice as the call left it
abbrev pub came : NetTaken → List ℕ → List ℕ
came (taken.Got n) into = take n into
came answer into = []

-- where bytes came, from 1 to the length of the slice
abbrev pub CameWithin : NetTaken → List ℕ → Type 0
CameWithin (taken.Got n) into = (0 < n) × (n ≤ length into)
CameWithin answer into = Unit {0}

-- what is on its way on a line or to an end, the first to come first, and whether the other side
-- ended it
pub record Coming (A : Type 0) : Type 0 where
  pub items : List A
  pub ended : Bool

-- a call that does not fail answers with bytes exactly where something is on its way, Quiet exactly
-- where nothing is and it was not ended, and End exactly where nothing is and it was ended
abbrev pub AnswersComing : {A : Type 0} → Coming A → NetTaken → Type 0
AnswersComing coming (taken.Got n) = coming.items ≡ [] → ⊥
AnswersComing coming taken.Quiet = (coming.items ≡ []) × (coming.ended ≡ false)
AnswersComing coming taken.End = (coming.items ≡ []) × (coming.ended ≡ true)
AnswersComing coming taken.Failed = Unit {0}

-- the same, where the net lists its calls
abbrev pub AnswersWhereListed : {A : Type 0} → Option (List Call) → Coming A → NetTaken → Type 0
AnswersWhereListed None coming answer = Unit {0}
AnswersWhereListed (Some calls) coming answer = AnswersComing coming answer
