-- What a look-up of a range answers, whoever else pushes meanwhile.
use Rattle.std.specs.Prelude.{◌≡◌, ℕ, List, [], ◌++◌, length, nat_eq, Option, None, Some}
use Rattle.std.specs.Prelude.{if◌then◌else◌}
use Rattle.unit_packets.specs.Packing.{IsPacking, packed}
use Rattle.gap_store.specs.declared.found.Found.{Found}
use Rattle.gap_store.specs.declared.found.Found.TheVariants.{Kept, Ahead, NotKept}
use Rattle.gap_store.specs.Look.{View, oldest, look, slice_of}

-- what is handed out
abbrev pub given : Found → View → ℕ → ℕ → List (List ℕ)
given Kept v first count = slice_of v first count
given (Ahead last) v first count = []
given (NotKept least) v first count = []

-- the answer is that at a view, and what is handed out was appended
pub record AnswersLook (v : View) (first count : ℕ) (found : Found) (before after : List (List ℕ)) :
    Type 0 where
  pub answer : found ≡ look v first count
  pub given : after ≡ before ++ given (look v first count) v first count

-- a later view has more messages, and keeps as many
pub record IsLater (old new : View) : Type 0 where
  pub more : List (List ℕ)
  pub messages : new.messages ≡ old.messages ++ more
  pub kept : new.kept ≡ old.kept

-- the answer is that at a view after the call, which is not before that of the call
pub record LooksAt (shown : View → Type 0)
    (old : View) (first count : ℕ) (found : Found) (before after : List (List ℕ)) : Type 0 where
  pub now : View
  pub later : IsLater old now
  pub shows : shown now
  pub answer : found ≡ look now first count
  pub given : after ≡ before ++ given (look now first count) now first count

-- the same where nothing is handed out
pub record FindsAt (shown : View → Type 0) (old : View) (first count : ℕ) (found : Found) :
    Type 0 where
  pub now : View
  pub later : IsLater old now
  pub shows : shown now
  pub answer : found ≡ look now first count

-- messages were packed into datagrams of a unit, the first of them with this sequence, and these
-- appended
pub record PacksRange (unit first : ℕ) (raws : List (List ℕ)) (before after : List (List ℕ)) :
    Type 0 where
  pub packing : IsPacking unit first raws (packed unit first raws)
  pub appended : after ≡ before ++ packed unit first raws

-- the answer is that at a view, and what is handed out was packed, from the range's first sequence
-- on, and appended
pub record AnswersPack (v : View)
    (unit first count : ℕ) (found : Found) (before after : List (List ℕ)) : Type 0 where
  pub answer : found ≡ look v first count
  pub packs : PacksRange unit first (given (look v first count) v first count) before after

-- the same at a view after the call, which is not before that of the call
pub record PacksAt (shown : View → Type 0) (old : View)
    (unit first count : ℕ) (found : Found) (before after : List (List ℕ)) : Type 0 where
  pub now : View
  pub later : IsLater old now
  pub shows : shown now
  pub answer : found ≡ look now first count
  pub packs : PacksRange unit first (given (look now first count) now first count) before after

-- the oldest sequence that is kept; none before the first message
abbrev pub first_kept : View → Option ℕ
first_kept v = if nat_eq (length v.messages) 0 then None else Some (oldest v)

-- ---- Laws
-- a later view with as many messages is the same
abbrev pub OneView : Type 0
OneView =
    (view now : View) → IsLater view now → length now.messages ≡ length view.messages → now ≡ view
