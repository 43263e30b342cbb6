-- What closes an end of a session.
use Rattle.std.specs.Prelude.{ℕ, Bool, false, not, ◌||◌, ◌&&◌, ◌==◌, nat_le, List, [], ◌∷◌, ◌++◌}
use Rattle.std.specs.Prelude.{length, Option, None, Some, option_map, if◌then◌else◌}
use Rattle.std.specs.List.{list_any}
use Rattle.std.specs.Str.{bytes_eq}
use Rattle.unit_packets.specs.Causes.{counted}
use Rattle.pitch_messages.specs.declared.session.SessionMessage.{SessionMessage}
use Rattle.pitch_messages.specs.declared.session.SessionMessage.TheVariants.{Login, LoginReply}
use Rattle.pitch_messages.specs.declared.session.SessionMessage.TheVariants.{GapRequest, GapReply}
use Rattle.pitch_messages.specs.declared.session.SessionMessage.TheVariants.{SpinAvailable}
use Rattle.pitch_messages.specs.declared.session.SessionMessage.TheVariants.{SpinRequest, SpinReply}
use Rattle.pitch_messages.specs.declared.session.SessionMessage.TheVariants.{SpinFinished}
use Rattle.session_ends.specs.declared.account.Account.{Account}
use Rattle.session_ends.specs.declared.closed.Closed.{Closed}
use Rattle.session_ends.specs.declared.closed.CloseCause.{CloseCause}
use Rattle.session_ends.specs.declared.closed.CloseCause.TheVariants.{Short, NotLoggedIn, Refused}
use Rattle.session_ends.specs.declared.closed.CloseCause.TheVariants.{Silent}
use Rattle.session_ends.specs.declared.role.Role.{Role}
use Rattle.session_ends.specs.declared.role.Said.{Said}
use Rattle.session_ends.specs.declared.role.Said.TheVariants.{Skipped, TooShort, Message}
use Rattle.session_ends.specs.declared.inbox.Heard.{Heard}
use Rattle.session_ends.specs.declared.inbox.Heard.TheVariants as heard
use Rattle.session_ends.specs.Events.{Event, Fed, Ticked, fed_of, silence}
use Rattle.session_ends.specs.Items.{closed_at, stream_items}
use Rattle.session_ends.specs.Saying.{said_to, heard_by, is_login}

-- what an end is made with; a link has no accounts
pub record Setup : Type 0 where
  pub role : Role
  pub unit : ℕ
  pub accounts : List Account
  pub in_use : Bool

-- ---- Logins
abbrev pub has_sub : List ℕ → Account → Bool
has_sub sub account = bytes_eq account.sub sub

abbrev pub is_theirs : List ℕ → List ℕ → List ℕ → Account → Bool
is_theirs sub user password account =
    has_sub sub account && (bytes_eq account.user user && bytes_eq account.password password)

-- how a login is answered where one was accepted before, or not: `S` where no account has the sub
-- id, `N` where none has all three, `B` where the session is in use, else `A` ("Login Response
-- Message"; their order is this project's own)
unfoldable pub login_status : Setup → Bool → List ℕ → List ℕ → List ℕ → ℕ
login_status s logged sub user password =
    if not (list_any (has_sub sub) s.accounts) then 83
    else if not (list_any (is_theirs sub user password) s.accounts) then 78
    else if s.in_use || logged then 66
    else 65

-- ---- Causes
-- every status other than `A` is a rejection
abbrev pub refused : ℕ → Option CloseCause
refused status = if status == 65 then None else Some (Refused status)

-- a request before an accepted login
abbrev pub too_early : Bool → Option CloseCause
too_early logged = if logged then None else Some NotLoggedIn

-- why a message closes an end that reads it
abbrev pub cause_of_message : Setup → Bool → SessionMessage → Option CloseCause
cause_of_message s logged (Login sub user password) =
    refused (login_status s logged sub user password)
cause_of_message s logged (GapRequest unit sequence count) = too_early logged
cause_of_message s logged (SpinRequest sequence) = too_early logged
cause_of_message s logged (LoginReply status) = refused status
cause_of_message s logged (GapReply unit sequence count status) = None
cause_of_message s logged (SpinAvailable sequence) = None
cause_of_message s logged (SpinReply sequence orders status) = None
cause_of_message s logged (SpinFinished sequence) = None

-- a message that is too short closes the end, whatever else
abbrev pub cause_of_said : Setup → Bool → Said → Option CloseCause
cause_of_said s logged Skipped = None
cause_of_said s logged TooShort = Some Short
cause_of_said s logged (Message message) = cause_of_message s logged message

-- why what the stream says next closes the end
abbrev pub cause_of : Setup → Bool → Heard → Option Closed
cause_of s logged (heard.Message place raw) =
    option_map (λ cause. closed_at cause place) (cause_of_said s logged (said_to s.role raw))
cause_of s logged heard.BlockEnd = None
cause_of s logged (heard.Broken closed) = Some closed

-- a login that does not close the end was accepted
abbrev pub logs_in : Role → Heard → Bool
logs_in role item = is_login (heard_by role item)

abbrev pub or_else : Option Closed → Option Closed → Option Closed
or_else None later = later
or_else (Some closed) later = Some closed

-- the first cause of several
abbrev pub first_cause : Setup → Bool → List Heard → Option Closed
first_cause s logged [] = None
first_cause s logged (item ∷ items) =
    or_else (cause_of s logged item) (first_cause s (logged || logs_in s.role item) items)

-- ---- Over events
-- what closes an end at an event, if it was open before
abbrev pub closes_at : {X : Type 0} → Setup → Event X → List (Event X) → Option Closed
closes_at s (Fed bytes seen) before = first_cause s false (stream_items (fed_of before ++ bytes))
closes_at s Ticked before =
    if nat_le 5 (silence (Ticked ∷ before))
    then Some (closed_at Silent (counted (length (fed_of before)))) else None
closes_at s event before = None

-- an end closes at the first cause, for ever
abbrev pub closed_of : {X : Type 0} → Setup → List (Event X) → Option Closed
closed_of s [] = None
closed_of s (event ∷ before) = or_else (closed_of s before) (closes_at s event before)

-- while the end is open: a login was accepted
abbrev pub logged_in : {X : Type 0} → Role → List (Event X) → Bool
logged_in role es = list_any (logs_in role) (stream_items (fed_of es))
