-- What holds of every path: its images are whole, and what is carried on is a path again.
use Rattle.std.specs.Prelude.{◌≡◌, Bool, ℕ, ◌≤◌, List, [], ◌∷◌, ◌++◌, length, map, replicate}
use Rattle.pitch_fields.specs.Limits.{last_sequence}
use Rattle.std.specs.List.{AllByRecursion}
use Rattle.pitch_model.specs.History.{Entry, Raw, SpinFinished, bad_image, spin_of}
use Rattle.pitch_model.specs.Honest.{Honest}
use Rattle.pitch_model.specs.Image.{image}
use Rattle.heard_items.specs.declared.item.Item.{Item}
use Rattle.heard_items.specs.declared.change.ImageEnd.TheVariants as end
use Rattle.heard_items.specs.Heard.{heard, heard_all}
use Rattle.heard_items.specs.Changes.{image_end}
use Rattle.pitch_fields.specs.Fields.{AreBytes}
use Rattle.session_ends.specs.Closing.{Setup}
use Rattle.session_ends.specs.Ending.{Ending}
use Rattle.session_ends.specs.Events.{Fed, Pumped}
use Rattle.spin_server.specs.Served.{Served}
use Rattle.spin_server.specs.Serving.{Serving, SpinStands, runs}
use Rattle.client_links.specs.Telling.{without_spare}
use Rattle.client_links.specs.Linking.{NoLookup, LinkStands}
use Rattle.spin_path.specs.Paths.{all_said, Move, path_of, AreMoves, Serves, Links}
use Rattle.spin_path.specs.Paths.{Takes}

-- ---- The law
-- no entry of a history ends a bad image
abbrev pub NoneBad : List Entry → Type 0
NoneBad [] = Unit {0}
NoneBad (SpinFinished sequence ∷ E) = (bad_image (spin_of E) sequence ≡ []) × NoneBad E
NoneBad (entry ∷ E) = NoneBad E

-- the messages of a unit: bytes, and as many as have sequences
pub record IsFeed (V : List Raw) : Type 0 where
  pub bytes : AllByRecursion AreBytes V
  pub top : length V ≤ last_sequence

-- a history whose images are all the venue's, and none of them bad
pub record HasWholeImages (V : List Raw) (E : List Entry) : Type 0 where
  pub honest : Honest image V E
  pub never : NoneBad E

abbrev pub ImagesAreWhole : Type 0
ImagesAreWhole = (V : List Raw) (setup : Setup) (moves : List Move)
    → IsFeed V → AreMoves V setup moves → HasWholeImages V (path_of setup moves).history

-- ---- What a caller needs besides
-- so no change says that an image was bad
abbrev pub NeverAnswered : Type 0
NeverAnswered = (H : ℕ) (E : List Entry) (item : Item) (promised got : ℕ)
    → NoneBad (heard item E) → image_end H E item ≡ end.Bad promised got → ⊥

-- more messages take nothing away
abbrev pub MovesStay : Type 0
MovesStay = (V more : List Raw) (setup : Setup) (moves : List Move)
    → AreMoves V setup moves → AreMoves (V ++ more) setup moves

-- the client may hear all that was told at once
abbrev pub takes_all : Setup → List Move → List Move
takes_all setup moves = replicate (length (path_of setup moves).told) Takes ++ moves

abbrev pub AllAreTaken : Type 0
AllAreTaken = (V : List Raw) (setup : Setup) (moves : List Move) → AreMoves V setup moves
    → AreMoves V setup (takes_all setup moves)
    × (path_of setup (takes_all setup moves) ≡ record (path_of setup moves) {
      told = [];
      history = heard_all (path_of setup moves).told (path_of setup moves).history;
    })

-- a list's room for more is not heard
abbrev pub SpareIsUnheard : Type 0
SpareIsUnheard =
    (items : List Item) (E : List Entry) → heard_all (map without_spare items) E ≡ heard_all items E

-- ---- What the two ends do
-- it was fed a piece, and then asked for the next block: these are moves, it stands for them, what
-- it says by them was appended, and there is more to come where a spin still runs
pub record ServesOn (V : List Raw) (setup : Setup) (moves : List Move)
    (piece : List ℕ) (new : Serving) (before after : List ℕ) (more : Bool) : Type 0 where
  pub views : List Served
  pub are : AreMoves V setup (Serves Pumped ∷ Serves (Fed piece views) ∷ moves)
  pub stands : SpinStands new
      (path_of setup (Serves Pumped ∷ Serves (Fed piece views) ∷ moves)).served
  pub said : List ℕ
  pub appended : after ≡ before ++ said
  pub says : all_said (path_of setup moves).setup
      (path_of setup (Serves Pumped ∷ Serves (Fed piece views) ∷ moves)).served
      ≡ all_said (path_of setup moves).setup (path_of setup moves).served ++ said
  pub goes_on : more ≡ runs (path_of setup moves).setup
      (path_of setup (Serves Pumped ∷ Serves (Fed piece views) ∷ moves)).served

-- a link was fed a piece, and the client heard all that it told
abbrev pub carries : Setup → List Move → List ℕ → List Move
carries setup moves piece = takes_all setup (Links (Fed piece NoLookup) ∷ moves)

-- these are moves, the link stands for them, and the client has heard these items, and so no bad
-- image
pub record CarriesOn (V : List Raw) (setup : Setup)
    (moves : List Move) (piece : List ℕ) (new : Ending) (items : List Item) : Type 0 where
  pub are : AreMoves V setup (carries setup moves piece)
  pub stands : LinkStands new (path_of setup (carries setup moves piece)).linked
  pub told : (path_of setup (carries setup moves piece)).told ≡ []
  pub heard : (path_of setup (carries setup moves piece)).history
      ≡ heard_all items (path_of setup moves).history
  pub whole : HasWholeImages V (heard_all items (path_of setup moves).history)
