-- What an end does with all that its stream says.
use Rattle.std.specs.Prelude.{◌≡◌, ℕ, Bool, ◌||◌, List, [], ◌∷◌, None, MatchOption}
use Rattle.std.specs.List.{list_any}
use Rattle.unit_packets.specs.Feeding.{fed_fault}
use Rattle.session_ends.specs.declared.inbox.Heard.{Heard}
use Rattle.session_ends.specs.Closing.{Setup, cause_of, first_cause, logs_in}
use Rattle.session_ends.specs.Ending.{Ending}
use Rattle.session_ends.specs.Inboxes.{HasTaken}
use Rattle.session_ends.specs.Sending.{some_bytes}
use Rattle.session_ends.specs.layers.Hearing.{TakesPiece}

-- a desk, the source in which it looks up, and what was said so far
pub record At (D L : Type 0) : Type 0 where
  pub desk : D
  pub source : L
  pub said : List ℕ

-- what the stream says is answered, one after another; nothing after what closes the end
abbrev pub Drives : {X : Type 0} → (Setup → Bool → Heard → X → X → Type 0)
    → Setup → Bool → List Heard → X → X → Type 0
Drives answered s logged [] from to = to ≡ from
Drives {X} answered s logged (item ∷ items) from to =
    (next : X) × (answered s logged item from next × MatchOption (cause_of s logged item)
    (Drives answered s (logged || logs_in s.role item) items next to) (λ closed. to ≡ next))

-- an end after it has heard all of a piece, against the end before it
pub record Pieced (old new : Ending) (piece said : List ℕ) (items : List Heard) : Type 0 where
  pub setup_is : new.setup ≡ old.setup
  pub closed_is : new.closed ≡ first_cause old.setup old.logged items
  pub logged_is : new.closed ≡ None
      → new.logged ≡ (old.logged || list_any (logs_in old.setup.role) items)
  pub heard_is : new.heard ≡ (old.heard || some_bytes piece)
  pub silent_is : new.silent ≡ old.silent
  pub sent_is : new.sent ≡ (old.sent || some_bytes said)

-- an open end heard a piece: its inbox took it in, and what the stream says more was answered
pub record HearsPiece {X : Type 0} (answered : Setup → Bool → Heard → X → X → Type 0)
    (old new : Ending) (piece said : List ℕ) (from to : X) : Type 0 where
  pub items : List Heard
  pub takes : (fed : List ℕ) → HasTaken old.inbox fed
      → fed_fault fed ≡ None → TakesPiece fed piece new.inbox [] items
  pub did : Pieced old new piece said items
  pub drives : Drives answered old.setup old.logged items from to
