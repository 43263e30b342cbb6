-- What hearing does to a client, in the words of its contracts. Whatever it stood for before is
-- meant, and each venue whose messages its book and hold were.
use Rattle.std.specs.Prelude.{◌≡◌, ℕ, ◌+◌, List, [], drop, take}
use Rattle.unit_packets.specs.Blocks.{Block}
use Rattle.pitch_model.specs.Book.{Book}
use Rattle.pitch_model.specs.History.{Entry, Raw}
use Rattle.pitch_model.specs.Honest.{Honest}
use Rattle.pitch_model.specs.Reach.{reach}
use Rattle.heard_items.specs.Changes.{block_change}
use Rattle.heard_items.specs.HeardBlocks.{heard_block}
use Rattle.heard_items.specs.declared.change.Change.{Change}
use Rattle.client_core.specs.layers.Blocks.{Carries}
use Rattle.client_core.specs.Venues.{IsImage}
use Rattle.client_core.specs.Client.{held_number}
use Rattle.client_core.specs.Tracks.{Tracks, Keeps}
use Rattle.client_core.specs.declared.client.UnitClient.{UnitClient}

-- P holds of each history for which the client stands, and of its hold's places
abbrev pub OfHistory : UnitClient → (ℕ → List Entry → Type 0) → Type 0
OfHistory c P = (H : ℕ) (E : List Entry) → Tracks c H E → P H E

-- the answer is what is told of each such history
abbrev pub IsToldBy : UnitClient → {A : Type 0} → (ℕ → List Entry → A) → A → Type 0
IsToldBy c told answer = (H : ℕ) (E : List Entry) → Tracks c H E → answer ≡ told H E

-- it then stands for what `more` makes of its history
abbrev pub Hears : UnitClient → UnitClient → (List Entry → List Entry) → Type 0
Hears c c' more = (H : ℕ) (E : List Entry) → Tracks c H E → Tracks c' H (more E)

-- its book and what it holds stay the messages of the venue
abbrev pub StillKeeps : UnitClient → UnitClient → Type 0
StillKeeps c c' = (V : List Raw) → Keeps c V → Keeps c' V

-- so they do where what it then stands for is honest
abbrev pub KeepsHonest : UnitClient → UnitClient → (List Entry → List Entry) → Type 0
KeepsHonest c c' more =
    (Image : List Raw → ℕ → List Raw) (V : List Raw) (E : List Entry)
    → Honest Image V (more E) → Keeps c V → Keeps c' V

-- so they do where an image, too, leaves the venue's book
abbrev pub KeepsImaged : UnitClient → UnitClient → (List Entry → List Entry) → Type 0
KeepsImaged c c' more =
    (Image : List Raw → ℕ → List Raw) (V : List Raw) → IsImage Image V → (H : ℕ) (E : List Entry)
    → Tracks c H E → Honest Image V (more E) → Keeps c V → Keeps c' V

-- where it is honest, P holds of the venue's messages from the old reach to the new one
abbrev pub OfReached :
    UnitClient → (List Entry → List Entry) → (List Raw → Type 0) → Type 0
OfReached c more P =
    (Image : List Raw → ℕ → List Raw) (V : List Raw) (H : ℕ) (E : List Entry)
    → Tracks c H E → Honest Image V (more E) → Keeps c V
    → P (drop (reach H E) (take (reach H (more E)) V))

-- ---- A block
-- P holds of the block that carries these messages from this sequence on
abbrev pub OfBlock : ℕ → List Raw → (Block → Type 0) → Type 0
OfBlock sequence raws P = (block : Block) → Carries block sequence raws → P block

-- it then stands for its history and the block
abbrev pub HearsBlock : UnitClient → UnitClient → Block → Type 0
HearsBlock c c' block = Hears c c' (heard_block block)

-- where that is honest, its book and what it holds stay the venue's
abbrev pub KeepsBlock : UnitClient → UnitClient → Block → Type 0
KeepsBlock c c' block = KeepsHonest c c' (heard_block block)

-- the answer is what the block changes
abbrev pub Changes : UnitClient → Change → Block → Type 0
Changes c change block = IsToldBy c (λ H E. block_change H E block) change

-- ---- What is noted of the messages that are applied
-- nothing was noted
abbrev pub NotesNothing : {N : Type 0} → (N → N → Book → List Raw → Type 0) → N → N → Type 0
NotesNothing noted first last = (book : Book) → noted first last book []

-- as many can be noted as before
abbrev pub StillCanNote : {N : Type 0} → (N → ℕ → Type 0) → N → N → Type 0
StillCanNote can_note first last = (count : ℕ) → can_note first count → can_note last count

-- beyond what is held, room to note so many messages and more now serves those more
abbrev pub KeepsNoteRoom : {N : Type 0} → (N → ℕ → Type 0)
    → UnitClient → UnitClient → ℕ → N → N → Type 0
KeepsNoteRoom can_note c c' count first last =
    (more : ℕ) → can_note first ((count + held_number c) + more)
    → can_note last (held_number c' + more)
