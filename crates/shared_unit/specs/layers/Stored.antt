-- What is published: the last messages, and the images of the last ten sequences that were
-- advertised.
use Rattle.std.specs.Prelude.{◌≡◌, ℕ, ◌+◌, ◌==◌, ◌<◌, ◌≤◌, false, true, List, [], ◌∷◌, ◌++◌, length}
use Rattle.std.specs.Prelude.{map, Option, None, Some, IfSome, nat_eq, if◌then◌else◌}
use Rattle.std.specs.List.{AllByRecursion}
use Rattle.std.specs.Option.{option_map}
use Rattle.std.specs.Set.{is_member}
use Rattle.std.specs.Arc.{arc_value}
use Rattle.circular_buffer.specs.Buffer.{buffer, keep_last}
use Rattle.gap_store.specs.Look.{View, store_of}
use Rattle.pitch_fields.specs.Limits.{last_sequence}
use Rattle.pitch_model.specs.Advertising.{Operation, Accept, Advertise, accepted_by, advertised_by}
use Rattle.pitch_model.specs.Advertising.{last_ten}
use Rattle.pitch_model.specs.History.{adds}
use Rattle.pitch_model.specs.Image.{image}
use Rattle.pitch_messages.specs.Room.{Roomy}
use Rattle.shared_unit.specs.declared.published.Picture.{Picture}
use Rattle.shared_unit.specs.declared.published.Shelves.{Shelves}
use Rattle.shared_unit.specs.declared.published.What.{What}
use Rattle.shared_unit.specs.declared.published.What.TheVariants as what
use Rattle.shared_unit.specs.layers.Histories.{kept_at, then_done}

-- the operation that is published
abbrev pub operation_of : What → Operation
operation_of (what.Message raw) = Accept raw
operation_of (what.Image picture) = Advertise
operation_of what.Again = Advertise

-- ---- Images
abbrev pub sequence_of : Picture → ℕ
sequence_of p = p.sequence

-- the messages of an image, where it has them
abbrev pub raws_in : Picture → Option (List (List ℕ))
raws_in p = option_map (λ shared. (arc_value {X = Roomy (List ℕ)} shared).items) p.raws

-- it is the image through its sequence
pub record IsPicture (messages : List (List ℕ)) (p : Picture) : Type 0 where
  pub within : p.sequence ≤ length messages
  pub orders : p.orders ≡ adds (image messages p.sequence)
  pub raws : IfSome (raws_in p) (λ raws. raws ≡ image messages p.sequence)

-- of another share nothing differs but that it may have no messages
pub record SamePicture (p q : Picture) : Type 0 where
  pub sequence : q.sequence ≡ p.sequence
  pub orders : q.orders ≡ p.orders
  pub raws : IfSome (raws_in q) (λ raws. raws_in p ≡ Some raws)

-- ---- One operation
-- the sequences that are served once it was published
abbrev pub served_with : List ℕ → What → List ℕ
served_with served (what.Message raw) = served
served_with served (what.Image picture) = last_ten (served ++ picture.sequence ∷ [])
served_with served what.Again = served

-- what is published after a history: a message; the image of all messages, whose sequence was not
-- advertised before; or that sequence again, where it was
abbrev pub ComesAfter : What → List Operation → Type 0
ComesAfter (what.Message raw) before = Unit {0}
ComesAfter (what.Image picture) before =
    IsPicture (accepted_by before) picture × (picture.sequence ≡ length (accepted_by before))
    × (is_member nat_eq (advertised_by before) picture.sequence ≡ false)
ComesAfter what.Again before =
    is_member nat_eq (advertised_by before) (length (accepted_by before)) ≡ true

-- there are sequences for all messages
abbrev pub HasSequences : List Operation → Type 0
HasSequences history = length (accepted_by history) ≤ last_sequence

-- the history ends with what is published
pub record EndsWith (published : What) (history : List Operation) : Type 0 where
  pub before : List Operation
  pub is : then_done before (operation_of published) ≡ history
  pub follows : ComesAfter published before
  pub few : HasSequences history

-- the history ends with what is published; where that is nothing, there is no history
abbrev pub EndsOrIsNothing : Option What → List Operation → Type 0
EndsOrIsNothing None history = history ≡ []
EndsOrIsNothing (Some published) history = EndsWith published history

-- ---- What a copy keeps
-- nothing was accepted or advertised
abbrev pub AreBlank : ℕ → Shelves → Type 0
AreBlank kept shelves =
    (shelves.gaps ≡ store_of (kept_at kept [])) × (shelves.pictures ≡ buffer [] 10)

-- what is kept stands for a history: the last messages, and the images of the last ten sequences
pub record StandFor (kept : ℕ) (shelves : Shelves) (history : List Operation) : Type 0 where
  pub ten : shelves.pictures.capacity ≡ 10
  pub gaps_are : shelves.gaps ≡ store_of (kept_at kept history)
  pub pictures_are : map sequence_of shelves.pictures.items ≡ last_ten (advertised_by history)
  pub right : AllByRecursion (IsPicture (accepted_by history)) shelves.pictures.items

-- there is a sequence for what is taken in
abbrev pub HasRoomFor : What → Shelves → Type 0
HasRoomFor (what.Message raw) shelves = shelves.gaps.pushed < last_sequence
HasRoomFor (what.Image picture) shelves = Unit {0}
HasRoomFor what.Again shelves = Unit {0}

-- what is published was taken in
abbrev pub IsTakenIn : What → Shelves → Shelves → Type 0
IsTakenIn (what.Message raw) old new =
    ((v : View) → old.gaps ≡ store_of v → new.gaps ≡ store_of
    (record { messages = v.messages ++ raw ∷ []; kept = v.kept })) × (new.pictures ≡ old.pictures)
IsTakenIn (what.Image picture) old new =
    (new.gaps ≡ old.gaps) × ((q : Picture) × SamePicture picture q × (new.pictures ≡ buffer
    (keep_last old.pictures.capacity (old.pictures.items ++ q ∷ [])) old.pictures.capacity))
IsTakenIn what.Again old new = new ≡ old

-- what a published operation makes of the history of a copy: the history that it ends, where that
-- is the copy's with one operation more
abbrev pub grown_by : List Operation → List Operation → List Operation
grown_by history published = if length published == length history + 1 then published else history
