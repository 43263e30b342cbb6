-- Rounds with the Gap Request Proxy alone, and how many of them a client needs.
use Rattle.std.specs.Prelude.{◌≡◌, ℕ, zero, suc, ◌+◌, ◌/◌, ◌≤◌, ◌<◌, Bool, List, [], ◌∷◌, ◌++◌}
use Rattle.std.specs.Prelude.{length, reverse, None, Some, unwrap_or, if◌then◌else◌}
use Rattle.std.specs.List.{sum_by}
use Rattle.pitch_io.specs.declared.line.Line.TheVariants.{A, Gap}
use Rattle.pitch_text.specs.declared.verb.Session.TheVariants.{Grp, Spin}
use Rattle.pitch_text.specs.declared.verb.Verb.{Verb}
use Rattle.pitch_text.specs.declared.verb.Verb.TheVariants as verbs
use Rattle.pitch_model.specs.declared.ask.Ask.TheVariants as asks
use Rattle.pitch_model.specs.Asking.{ask_of}
use Rattle.pitch_model.specs.History.{Entry}
use Rattle.pitch_model.specs.Reach.{reach}
use Rattle.pitch_model.specs.Status.{top_of}
use Rattle.heard_items.specs.Heard.{is_fresh}
use Rattle.grp_session.specs.Budget.{Spent, limit_reached, next_second}
use Rattle.world_model.specs.State.{State}
use Rattle.world_model.specs.Verbs.{state_of}
use Rattle.world_model.specs.declared.limits.Limits.{Limits}

-- ---- The verbs
-- the connections are cut, the gap line's datagrams come, and a new connection with the proxy logs
-- in. The first verb comes first.
abbrev pub proxy_login : List Verb
proxy_login =
    verbs.Cut Grp ∷ verbs.Cut Spin ∷ verbs.Rest Gap
    ∷ verbs.Connect Grp ∷ verbs.Up Grp None ∷ verbs.Down Grp None ∷ []

-- what is pending goes out after some verbs, which stand newest first, and the heartbeat behind it
-- comes to the client
abbrev pub with_heartbeat : ℕ → Limits → List Verb → List Verb
with_heartbeat unit limits done =
    verbs.Deliver A (length (state_of unit limits (verbs.Beat ∷ verbs.Flush ∷ done)).sent)
    ∷ verbs.Beat ∷ verbs.Flush ∷ done

-- a second passes, what the client asks for is carried up and the reply down, and the datagrams
-- come
abbrev pub proxy_round : List Verb
proxy_round = verbs.Tick ∷ verbs.Up Grp None ∷ verbs.Down Grp None ∷ verbs.Rest Gap ∷ []

-- after some verbs, which stand newest first, comes the login, and then so many rounds
abbrev pub with_rounds : ℕ → List Verb → List Verb
with_rounds zero done = reverse proxy_login ++ done
with_rounds (suc n) done = reverse proxy_round ++ with_rounds n done

-- the state then
abbrev pub state_after : ℕ → Limits → List Verb → ℕ → State
state_after unit limits done n = state_of unit limits (with_rounds n done)

-- ---- How many rounds
-- a run of missing messages that has ended, as a list of its length; where none is missing, of none
abbrev pub ended_run : ℕ → List ℕ
ended_run zero = []
ended_run (suc n) = suc n ∷ []

-- the lengths of the runs of missing messages, where `left` messages follow the k-th and the last
-- `run` up to it are missing
abbrev pub runs_on : (ℕ → Bool) → ℕ → ℕ → ℕ → List ℕ
runs_on missing k run zero = ended_run run
runs_on missing k run (suc left) =
    if missing (suc k) then runs_on missing (suc k) (suc run) left
    else (ended_run run ++ runs_on missing (suc k) 0 left)

-- the runs of messages that a client lacks up to the last that it was told of
abbrev pub missing_runs : ℕ → List Entry → List ℕ
missing_runs H E = runs_on (is_fresh H E) 0 0 (unwrap_or (top_of E) 0)

-- a request is for at most 100 messages of one run
abbrev pub rounds_for : ℕ → ℕ
rounds_for run = (run + 99) / 100

-- the rounds that all runs need
abbrev pub rounds_needed : ℕ → List Entry → ℕ
rounds_needed H E = sum_by rounds_for (missing_runs H E)

-- ---- What is asked of the proxy, and what a round brings
-- the proxy keeps all messages after the client's reach
abbrev pub KeepsMissing : Limits → State → Type 0
KeepsMissing limits s = length s.venue.messages ≤ reach limits.hold s.client.heard + limits.kept

-- in each of so many rounds a request is accepted: after the login the proxy keeps what the client
-- lacks, and at no tick a limit is reached
pub record AreAccepted (unit : ℕ) (limits : Limits) (done : List Verb) (rounds : ℕ) : Type 0 where
  pub kept : KeepsMissing limits (state_after unit limits done 0)
  pub allowed : (n : ℕ) → n < rounds → limit_reached
      (record { second = limits.second; minute = limits.minute; day = limits.day })
      (next_second (state_after unit limits done n).venue.spent) ≡ None

-- the limits leave so many requests, one a second, whenever those before were accepted
pub record AreLeft (limits : Limits) (spent : Spent) (rounds : ℕ) : Type 0 where
  pub second : 1 ≤ limits.second
  pub minute : length spent.accepted + rounds ≤ limits.minute
  pub day : length spent.accepted + rounds ≤ limits.day

-- from one history to a later one a client asked the proxy for the messages after its reach, at
-- least one of them, and got all that it asked for
pub record BringsAsked (H : ℕ) (E F : List Entry) : Type 0 where
  pub count : ℕ
  pub some : 1 ≤ count
  pub asked : ask_of H E ≡ Some (asks.Gap (reach H E + 1) count)
  pub came : reach H E + count ≤ reach H F
