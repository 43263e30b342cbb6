-- A client's history over its connections to spin servers, one after another, whose bytes are only
-- delayed or cut.
use Rattle.std.specs.Prelude.{◌≡◌, ℕ, ◌+◌, ◌≤◌, ◌<◌, List, [], ◌∷◌, ◌++◌, length, Some}
use Rattle.std.specs.List.{AllByRecursion}
use Rattle.session_ends.specs.declared.role.Role.TheVariants as role
use Rattle.session_ends.specs.Closing.{Setup}
use Rattle.session_ends.specs.Events.{Event, Fed, Told, fed_of}
use Rattle.session_ends.specs.Events as event
use Rattle.session_ends.specs.Sending.{sent_at_tick}
use Rattle.pitch_model.specs.History.{Entry, Raw, Message, Next, SpinDown, Advertised, SpinReply}
use Rattle.pitch_model.specs.History.{ImageMessages, SpinFinished}
use Rattle.pitch_model.specs.Honest.{message_at}
use Rattle.heard_items.specs.declared.item.Item.{Item}
use Rattle.heard_items.specs.Heard.{heard}
use Rattle.spin_server.specs.Served.{Served}
use Rattle.spin_server.specs.Serving.{spin_sends}
use Rattle.client_links.specs.Linking.{Lookups, link_setup, link_tells}

-- ---- The server's bytes
-- what a spin server sends at an event
abbrev pub says_at : Setup → Event (List Served) → List (Event (List Served)) → List ℕ
says_at s event.Ticked before = sent_at_tick (spin_sends s) s before
says_at s event before = spin_sends s event before

-- all that it sent, in order
abbrev pub all_said : Setup → List (Event (List Served)) → List ℕ
all_said s [] = []
all_said s (event ∷ before) = all_said s before ++ says_at s event before

-- ---- What the client hears
-- the present connection, with what happened at its two ends, what its link told that the client
-- has not heard yet, in order, and the client's history; events and entries have the newest first.
-- Between two connections stands one at which nothing happened yet
pub record Path : Type 0 where
  pub setup : Setup
  pub served : List (Event (List Served))
  pub linked : List (Event Lookups)
  pub told : List Item
  pub history : List Entry

-- nothing happened yet
abbrev pub begun : Setup → List Entry → Path
begun setup E = record { setup = setup; served = []; linked = []; told = []; history = E }

pub data Move : Type 0 where
  -- something happens at the server's end
  Serves : (event : Event (List Served)) → Move
  -- something happens at the client's end: where bytes come in, its link tells of them
  Links : (event : Event Lookups) → Move
  -- the client hears the next item that its link told, if there is one
  Takes : Move
  -- the connection ends, and what was not heard yet is dropped; the next server is made so
  Cuts : (setup : Setup) → Move
  -- the client hears or does something else
  Hears : (entry : Entry) → Move

-- what a link tells at an event
abbrev pub link_told_at : ℕ → Event Lookups → List (Event Lookups) → List Item
link_told_at unit (Fed bytes seen) before = link_tells (link_setup role.SpinLink unit) before bytes
link_told_at unit event before = []

abbrev pub taken : Path → List Item → Path
taken p [] = p
taken p (item ∷ items) = record p { told = items; history = heard item p.history }

abbrev pub moved : Move → Path → Path
moved (Serves event) p = record p { served = event ∷ p.served }
moved (Links event) p = record p {
  linked = event ∷ p.linked;
  told = p.told ++ link_told_at p.setup.unit event p.linked;
}
moved Takes p = taken p p.told
moved (Cuts setup) p = begun setup (SpinDown ∷ p.history)
moved (Hears entry) p = record p { history = entry ∷ p.history }

abbrev pub path_of : Setup → List Move → Path
path_of setup [] = begun setup []
path_of setup (move ∷ moves) = moved move (path_of setup moves)

-- ---- Which moves there are, where V are the messages that the venue accepted
-- what a server could see: the first of them, and no sequence past these
pub record IsShown (V : List Raw) (view : Served) : Type 0 where
  pub more : List Raw
  pub messages_are : V ≡ view.messages ++ more
  pub within : AllByRecursion (λ n. n ≤ length view.messages) view.advertised

pub record IsSpinServer (s : Setup) : Type 0 where
  pub role_is : s.role ≡ role.SpinServer
  pub unit_is : s.unit < 256

abbrev pub MayServe : List Raw → Event (List Served) → Type 0
MayServe V (Fed bytes views) = AllByRecursion (IsShown V) views
MayServe V (Told sequence) = sequence ≤ length V
MayServe V event = Unit {0}

-- the link is fed what the server sent, in order, in any pieces, up to any place
abbrev pub MayLink : Path → Event Lookups → Type 0
MayLink p (Fed bytes seen) =
    (later : List ℕ) × (all_said p.setup p.served ≡ (fed_of p.linked ++ bytes) ++ later)
MayLink p event = Unit {0}

-- anything but what a spin server tells; the messages and heartbeats are the venue's
abbrev pub MayHear : List Raw → Entry → Type 0
MayHear V (Message sequence raw) = message_at V sequence ≡ Some raw
MayHear V (Next next) = next ≤ length V + 1
MayHear V SpinDown = ⊥
MayHear V (Advertised sequence) = ⊥
MayHear V (SpinReply sequence orders accepted) = ⊥
MayHear V (ImageMessages raws) = ⊥
MayHear V (SpinFinished sequence) = ⊥
MayHear V entry = Unit {0}

abbrev pub MayMove : List Raw → Path → Move → Type 0
MayMove V p (Serves event) = MayServe V event
MayMove V p (Links event) = MayLink p event
MayMove V p Takes = Unit {0}
MayMove V p (Cuts setup) = IsSpinServer setup
MayMove V p (Hears entry) = MayHear V entry

abbrev pub AreMoves : List Raw → Setup → List Move → Type 0
AreMoves V setup [] = IsSpinServer setup
AreMoves V setup (move ∷ moves) = MayMove V (path_of setup moves) move × AreMoves V setup moves
