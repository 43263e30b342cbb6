-- The sessions of a venue's end with its proxy, or with its Spin Server. Each has the number that
-- whoever owns the sockets gave it.
use Rattle.std.specs.Prelude.{ℕ, ◌==◌, List, [], ◌∷◌, ◌++◌, map, drop, Option, None, Some}
use Rattle.std.specs.Prelude.{if◌then◌else◌}
use Rattle.session_ends.specs.Closing.{Setup, closed_of}
use Rattle.session_ends.specs.Events.{Event}
use Rattle.session_ends.specs.declared.closed.Closed.{Closed}

-- a session: its number, what happened at its server, the newest first, and what the server said
-- that was not put yet
pub record Session (X : Type 0) : Type 0 where
  pub id : ℕ
  pub happened : List (Event X)
  pub waiting : List ℕ

-- nothing happened yet
abbrev pub new_session : {X : Type 0} → ℕ → Session X
new_session id = record { id = id; happened = []; waiting = [] }

-- ---- One of them
-- the session of a number, where there is one
abbrev pub session_of : {X : Type 0} → ℕ → List (Session X) → Option (Session X)
session_of id [] = None
session_of id (session ∷ sessions) =
    if session.id == id then Some session else session_of id sessions

-- that one becomes another; where there is none, nothing does
abbrev pub at_session : {X : Type 0}
    → ℕ → (Session X → Session X) → List (Session X) → List (Session X)
at_session id becomes [] = []
at_session id becomes (session ∷ sessions) =
    if session.id == id then becomes session ∷ sessions
    else session ∷ at_session id becomes sessions

-- all others
abbrev pub without : {X : Type 0} → ℕ → List (Session X) → List (Session X)
without id [] = []
without id (session ∷ sessions) =
    if session.id == id then sessions else session ∷ without id sessions

-- a session is made; one that had its number has ended
abbrev pub with_new : {X : Type 0} → ℕ → List (Session X) → List (Session X)
with_new id sessions = without id sessions ++ new_session id ∷ []

-- ---- What happens
-- something happens at a session's server, which then says this
abbrev pub happens_at : {X : Type 0}
    → (Event X → List (Event X) → List ℕ) → Event X → Session X → Session X
happens_at says event session = record {
  id = session.id;
  happened = event ∷ session.happened;
  waiting = session.waiting ++ says event session.happened;
}

-- at all servers
abbrev pub happens_at_all : {X : Type 0}
    → (Event X → List (Event X) → List ℕ) → Event X → List (Session X) → List (Session X)
happens_at_all says event sessions = map (happens_at says event) sessions

-- so many bytes of what waits are put
abbrev pub puts : {X : Type 0} → ℕ → Session X → Session X
puts count session = record {
  id = session.id;
  happened = session.happened;
  waiting = drop count session.waiting;
}

-- ---- What is seen of one
-- what waits to be put to it; nothing where there is none
abbrev pub waiting_in : {X : Type 0} → Option (Session X) → List ℕ
waiting_in None = []
waiting_in (Some session) = session.waiting

-- why its server closed, if it did
abbrev pub closed_in : {X : Type 0} → Setup → Option (Session X) → Option Closed
closed_in setup None = None
closed_in setup (Some session) = closed_of setup session.happened
