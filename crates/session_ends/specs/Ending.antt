-- What an end keeps of what happened to it.
use Rattle.std.specs.Prelude.{◌≡◌, ℕ, Bool, not, List, Option, None}
use Rattle.session_ends.specs.declared.closed.Closed.{Closed}
use Rattle.session_ends.specs.Closing.{Setup, closed_of, logged_in}
use Rattle.session_ends.specs.Events.{Event, fed_of, is_quiet, silence}
use Rattle.session_ends.specs.Inboxes.{Inboxed, HasTaken}
use Rattle.session_ends.specs.Sending.{sent_since}

-- what it is made with; its inbox; whether a login was accepted; why it closed; whether bytes came
-- since the last tick; how many silent ticks came last; whether something was sent since the last
-- tick
pub record Ending : Type 0 where
  pub setup : Setup
  pub inbox : Inboxed
  pub logged : Bool
  pub closed : Option Closed
  pub heard : Bool
  pub silent : ℕ
  pub sent : Bool

-- the same, as what is known of the events
pub record Known : Type 0 where
  pub fed : List ℕ
  pub logged : Bool
  pub closed : Option Closed
  pub quiet : Bool
  pub silence : ℕ
  pub sent : Bool

abbrev pub known_of : {X : Type 0}
    → (Event X → List (Event X) → List ℕ) → Setup → List (Event X) → Known
known_of sends s es = record {
  fed = fed_of es;
  logged = logged_in s.role es;
  closed = closed_of s es;
  quiet = is_quiet es;
  silence = silence es;
  sent = sent_since sends s.role es;
}

-- while an end is open it keeps all of this
pub record Open (v : Ending) (k : Known) : Type 0 where
  pub inbox_is : HasTaken v.inbox k.fed
  pub logged_is : v.logged ≡ k.logged
  pub heard_is : v.heard ≡ not k.quiet
  pub silent_is : v.silent ≡ k.silence
  pub sent_is : v.sent ≡ k.sent

-- an end stands for what is known of its events; of what came after it closed it keeps nothing
pub record EndKnows (v : Ending) (k : Known) : Type 0 where
  pub closed_is : v.closed ≡ k.closed
  pub still : v.closed ≡ None → Open v k
