-- All that happens to a shared unit, in one order, and what each end knows of it.
use Rattle.std.specs.Prelude.{◌≡◌, ℕ, ◌≤◌, Bool, false, true, List, [], ◌∷◌, ◌++◌, length}
use Rattle.std.specs.Prelude.{flat_map, sum_by, slice_get, IfSome}
use mathlib.Core.List.{IsPrefix}
use Rattle.pitch_model.specs.Advertising.{Operation}

-- the writer is given a right; it does an operation, which takes that right and gives the next; it
-- publishes the oldest that it has not published yet; or the server with this number begins an
-- answer. A right is named by the cell whose pen it is.
pub data Moment : Type 0 where
  Opening : (right : ℕ) → Moment
  Doing : (operation : Operation) → (right : ℕ) → Moment
  Publishing : Moment
  Answering : (server : ℕ) → Moment

-- the operation that is done, as a list of one or none
abbrev pub done_at : Moment → List Operation
done_at (Opening right) = []
done_at (Doing operation right) = operation ∷ []
done_at Publishing = []
done_at (Answering server) = []

-- the history: the operations that were done, the first first
abbrev pub history_in : List Moment → List Operation
history_in moments = flat_map done_at moments

-- the right that is given, as a list of one or none
abbrev pub right_at : Moment → List ℕ
right_at (Opening right) = right ∷ []
right_at (Doing operation right) = right ∷ []
right_at Publishing = []
right_at (Answering server) = []

-- the rights that were given, the first first
abbrev pub rights_in : List Moment → List ℕ
rights_in moments = flat_map right_at moments

-- the operation that is published, as a number
abbrev pub published_at : Moment → ℕ
published_at (Opening right) = 0
published_at (Doing operation right) = 0
published_at Publishing = 1
published_at (Answering server) = 0

-- how many operations were published
abbrev pub published_in : List Moment → ℕ
published_in moments = sum_by published_at moments

-- this happened after all that was seen and something; so many operations were published before it
pub record HappensAfter (moment : Moment) (seen now : List Moment) (published : ℕ) : Type 0 where
  pub between : List Moment
  pub now_is : now ≡ (seen ++ between) ++ moment ∷ []
  pub published_is : published ≡ published_in (seen ++ between)

-- ---- What is known
-- what is told: a history, and all that its writer saw happen
pub record Account : Type 0 where
  pub history : List Operation
  pub moments : List Moment

-- all operations of a history were published, as far as was seen
abbrev pub IsPublished : List Operation → List Moment → Type 0
IsPublished history moments = length history ≤ published_in moments

-- a writer has a history, and all that it saw happen. It was cut off where it had no memory to
-- publish an operation
pub record Writing : Type 0 where
  pub cut_off : Bool
  pub history : List Operation
  pub moments : List Moment

-- all else is as it was
abbrev pub cut : Writing → Writing
cut writer = record writer { cut_off = true }

-- a server has a number. It knows the longest history that it has answered from or was told of, all
-- that it saw happen, and whether it was cut off: could not have what was published
pub record Sight : Type 0 where
  pub number : ℕ
  pub cut_off : Bool
  pub history : List Operation
  pub moments : List Moment

-- nothing was seen yet
pub record IsNew (server : Sight) : Type 0 where
  pub reaches : server.cut_off ≡ false
  pub history : server.history ≡ []
  pub moments : server.moments ≡ []

-- the number of each is its place, from 0
abbrev pub AreNumbered : List Sight → Type 0
AreNumbered servers =
    (place : ℕ) → IfSome (slice_get servers place) (λ server. server.number ≡ place)

-- the server with this number began an answer after all that it had seen and something. The history
-- which it answers from has at least what was published by then, and is the beginning of what was
-- done.
pub record IsNewest (server : ℕ) (seen now : List Moment) (history : List Operation) : Type 0 where
  pub between : List Moment
  pub begun : IsPrefix ((seen ++ between) ++ Answering server ∷ []) now
  pub newest : published_in (seen ++ between) ≤ length history
  pub done : IsPrefix history (history_in now)

-- the server answered so; one that was cut off does so no more
pub record AnswersNewest (old new : Sight) : Type 0 where
  pub answer : IsNewest old.number old.moments new.moments new.history
  pub number : new.number ≡ old.number
  pub reached : old.cut_off ≡ false
  pub reaches : new.cut_off ≡ false
