-- How a client ends that follows one venue's messages V.
use Rattle.std.specs.Prelude.{◌≡◌, ℕ, ◌≤◌, ◌<◌, List, length, Some}
use Rattle.std.specs.List.{AllByRecursion}
use Rattle.std.specs.FinMap.{len}
use Rattle.pitch_fields.specs.Fields.{AreBytes}
use Rattle.pitch_fields.specs.Limits.{last_sequence}
use Rattle.pitch_model.specs.Book.{book_after}
use Rattle.pitch_model.specs.History.{Entry, Raw, Asked, spin_of}
use Rattle.pitch_model.specs.Honest.{Honest}
use Rattle.pitch_model.specs.Image.{image}
use Rattle.pitch_model.specs.Levels.{shares}
use Rattle.pitch_model.specs.Reach.{reach}
use Rattle.pitch_model.specs.Status.{status_of, top_of}
use Rattle.pitch_model.specs.declared.status.Status.TheVariants.{Current}
use Rattle.client_core.specs.Tracks.{Tracks, Keeps}
use Rattle.client_core.specs.declared.client.UnitClient.{UnitClient}
use Rattle.feed_lines.specs.UnitLine.{unit_line}

-- it was told of all messages and lacks some, and has just asked for the image of all
pub record AsksForAll (client : UnitClient) (H : ℕ) (V : List Raw) : Type 0 where
  pub history : List Entry
  pub tracks : Tracks client H history
  pub honest : Honest image V history
  pub keeps : Keeps client V
  pub bytes : AllByRecursion AreBytes V
  pub few : length V ≤ last_sequence
  pub top_is : top_of history ≡ Some (length V)
  pub below : reach H history < length V
  pub asked : spin_of history ≡ Asked (length V)

-- it has all messages, and knows it
pub record IsAtEnd (client : UnitClient) (H : ℕ) (V : List Raw) : Type 0 where
  pub history : List Entry
  pub tracks : Tracks client H history
  pub honest : Honest image V history
  pub keeps : Keeps client V
  pub status_is : status_of H history ≡ Current (length V)
  pub reach_is : reach H history ≡ length V

-- the line of a unit that has all messages: it is current at the last of them, with the number of
-- orders and the shares that they leave
abbrev pub whole_line : ℕ → List Raw → List ℕ
whole_line unit V =
    unit_line unit (Current (length V)) (len (book_after V).orders) (shares (book_after V))
