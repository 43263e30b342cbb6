-- What a caller can tell of a client beside its history.
use Rattle.std.specs.Prelude.{◌≡◌, ℕ, ◌+◌, ◌≤◌, List}
use Rattle.std.specs.FinMap.{len}
use Rattle.pitch_model.specs.Book.{Book}
use Rattle.pitch_model.specs.History.{Entry, Raw}
use Rattle.client_core.specs.Applying.{Applies}
use Rattle.client_core.specs.declared.client.UnitClient.{UnitClient}
use Rattle.client_core.specs.Tracks.{Tracks, Keeps}

-- the sequence up to which it has every message
abbrev pub reached : UnitClient → ℕ
reached c = c.hold.floor

-- how many messages it holds
abbrev pub held_number : UnitClient → ℕ
held_number c = len c.hold.held

-- its book
abbrev pub current_book : UnitClient → Book
current_book c = c.book.book

-- how many orders are open in its book
abbrev pub open_orders : UnitClient → ℕ
open_orders c = len c.book.book.orders

-- how many new orders its book takes without memory
abbrev pub spare_of : UnitClient → ℕ
spare_of c = c.book.spare

-- what a caller can tell of the client is as before; its book may have taken more room
pub record IsAsBefore (c c' : UnitClient) : Type 0 where
  pub tracks : (H : ℕ) (E : List Entry) → Tracks c H E → Tracks c' H E
  pub keeps : (V : List Raw) → Keeps c V → Keeps c' V
  pub reached_is : reached c' ≡ reached c
  pub held_is : held_number c' ≡ held_number c
  pub book_is : current_book c' ≡ current_book c
  pub spare : spare_of c ≤ spare_of c'

-- its book and what it holds are just as before
pub record IsStill (c c' : UnitClient) : Type 0 where
  pub hold_is : c'.hold ≡ c.hold
  pub book_is : c'.book ≡ c.book

-- it applied these messages in their order
abbrev pub Applied : UnitClient → UnitClient → List Raw → Type 0
Applied c c' raws = Applies (reached c) (reached c') c.book c'.book raws

-- beyond what is held, room that served so many messages and more now serves those more
abbrev pub KeepsRoom : UnitClient → UnitClient → ℕ → Type 0
KeepsRoom c c' count =
    (more : ℕ) → (count + held_number c) + more ≤ spare_of c → held_number c' + more ≤ spare_of c'

-- likewise the room of a list to which the applied messages are appended
abbrev pub KeepsListRoom : UnitClient → UnitClient → ℕ → ℕ → ℕ → Type 0
KeepsListRoom c c' count spare spare' =
    (more : ℕ) → (count + held_number c) + more ≤ spare → held_number c' + more ≤ spare'
