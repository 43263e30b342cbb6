-- What comes to a venue's end, what it then stands for, and what it hands out.
use Rattle.std.specs.Prelude.{ℕ, ◌+◌, true, List, [], ◌∷◌, ◌++◌, length, replicate, Option}
use Rattle.std.specs.Prelude.{None, Some}
use Rattle.unit_packets.specs.BlockBytes.{block_bytes, heartbeat_block}
use Rattle.pitch_text.specs.declared.command.Command.{Command}
use Rattle.pitch_model.specs.Advertising.{with_sequence}
use Rattle.pitch_model.specs.History.{Raw}
use Rattle.venue_core.specs.Commands.{raw_of}
use Rattle.venue_core.specs.Refusals.{refusal}
use Rattle.venue_core.specs.declared.error.VenueError.{VenueError}
use Rattle.session_ends.specs.Answering.{Answer, no_answer}
use Rattle.session_ends.specs.Events.{Event, Fed, Ticked, Pumped, Told}
use Rattle.session_ends.specs.Sending.{new_items}
use Rattle.grp_session.specs.Budget.{Limits, Spent, next_second}
use Rattle.grp_session.specs.Serving.{Source, proxy_answer}
use Rattle.spin_server.specs.Served.{Served}
use Rattle.unit_market.specs.Markets.{Journal, kept_view}
use Rattle.unit_market.specs.Views.{image_view, pending}
use Rattle.venue_end.specs.Servers.{limits_of, proxy_setup, proxy_says, spin_says}
use Rattle.venue_end.specs.Sessions.{Session, session_of, at_session, without, with_new}
use Rattle.venue_end.specs.Sessions.{happens_at, happens_at_all, puts}
use Rattle.venue_end.specs.declared.setup.VenueSetup.{VenueSetup}

-- the messages that the venue accepted, how many of them it sent, and the distinct sequences whose
-- images it advertised; the tick, and the ticks at which gap requests were accepted, whichever
-- session asked; and the sessions
pub record VenueState : Type 0 where
  pub messages : List Raw
  pub sent : ℕ
  pub advertised : List ℕ
  pub spent : Spent
  pub proxies : List (Session Source)
  pub spins : List (Session (List Served))

-- nothing came yet
abbrev pub nothing_came : VenueState
nothing_came = record {
  messages = [];
  sent = 0;
  advertised = [];
  spent = record { now = 0; accepted = [] };
  proxies = [];
  spins = [];
}

-- what comes to an end: a command; that what was accepted is sent, a heartbeat, or that the image
-- of all messages is advertised; of each session, by its number, that its connection was made,
-- bytes of it, that so many bytes of what waits were put, and that it was cut; that a Spin Server
-- is asked for the next block of its image; a second; and that all sessions are cut
pub data VenueCame : Type 0 where
  Commanded : (command : Command) → VenueCame
  Flushed : VenueCame
  Beaten : VenueCame
  Advertised : VenueCame
  ProxyMade : (id : ℕ) → VenueCame
  ProxyTook : (id : ℕ) → (bytes : List ℕ) → VenueCame
  ProxyPut : (id : ℕ) → (count : ℕ) → VenueCame
  ProxyCut : (id : ℕ) → VenueCame
  SpinMade : (id : ℕ) → VenueCame
  SpinTook : (id : ℕ) → (bytes : List ℕ) → VenueCame
  SpinPumped : (id : ℕ) → VenueCame
  SpinPut : (id : ℕ) → (count : ℕ) → VenueCame
  SpinCut : (id : ℕ) → VenueCame
  Second : VenueCame
  AllCut : VenueCame

-- ---- The venue
-- what its market has
abbrev pub journal_in : VenueSetup → VenueState → Journal
journal_in s now = record {
  unit = s.unit;
  kept = s.kept;
  messages = now.messages;
  sent = now.sent;
  advertised = now.advertised;
}

-- a command that is refused changes nothing; else its message is accepted
abbrev pub commanded_on : Option VenueError → Command → VenueState → VenueState
commanded_on (Some error) command now = now
commanded_on None command now = record now { messages = now.messages ++ raw_of command ∷ [] }

-- the image of all messages is advertised, and every Spin Server is told of it
abbrev pub image_advertised : VenueSetup → VenueState → VenueState
image_advertised s now = record now {
  advertised = with_sequence now.advertised (length now.messages);
  spins = happens_at_all (spin_says s) (Told (length now.messages)) now.spins;
}

-- ---- The proxy
-- what it has when bytes come to a session: all messages of a journal, of which so many of the last
-- are kept; the limits, and what was spent
abbrev pub gap_source : Journal → Limits → Spent → List (Event Source) → List ℕ → Source
gap_source j limits spent before bytes = record {
  there = true;
  views = replicate (length (new_items before bytes)) (kept_view j);
  limits = limits;
  spent = spent;
}

-- here all messages that were accepted by then, and what all sessions spent by then
abbrev pub proxy_source : VenueSetup → VenueState → List (Event Source) → List ℕ → Source
proxy_source s now before bytes =
    gap_source (journal_in s now) (limits_of s) now.spent before bytes

-- what it answers to them: nothing where there is no session
abbrev pub answers_in : VenueSetup → VenueState → List ℕ → Option (Session Source) → Answer Spent
answers_in s now bytes None = no_answer now.spent
answers_in s now bytes (Some session) =
    proxy_answer (proxy_setup s) session.happened bytes (proxy_source s now session.happened bytes)

abbrev pub proxy_fed : VenueSetup → VenueState → List ℕ → Session Source → Session Source
proxy_fed s now bytes session =
    happens_at (proxy_says s) (Fed bytes (proxy_source s now session.happened bytes)) session

abbrev pub proxy_took : VenueSetup → ℕ → List ℕ → VenueState → VenueState
proxy_took s id bytes now = record now {
  spent = (answers_in s now bytes (session_of id now.proxies)).knows;
  proxies = at_session id (proxy_fed s now bytes) now.proxies;
}

-- ---- The Spin Server
-- what it sees when bytes come to a session: all messages that were accepted by then, and of the
-- advertised sequences the last ten
abbrev pub spin_views : VenueState → List (Event (List Served)) → List ℕ → List Served
spin_views now before bytes =
    replicate (length (new_items before bytes)) (image_view now.messages now.advertised)

abbrev pub spin_fed : VenueSetup
    → VenueState → List ℕ → Session (List Served) → Session (List Served)
spin_fed s now bytes session =
    happens_at (spin_says s) (Fed bytes (spin_views now session.happened bytes)) session

-- ---- A second
-- the budget's next second begins, and every server ticks
abbrev pub second_passed : VenueSetup → VenueState → VenueState
second_passed s now = record now {
  spent = next_second now.spent;
  proxies = happens_at_all (proxy_says s) Ticked now.proxies;
  spins = happens_at_all (spin_says s) Ticked now.spins;
}

-- ---- All that comes
-- what an end stands for once this came
abbrev pub venue_step : VenueSetup → VenueCame → VenueState → VenueState
venue_step s (Commanded command) now = commanded_on (refusal now.messages command) command now
venue_step s Flushed now = record now { sent = length now.messages }
venue_step s Beaten now = now
venue_step s Advertised now = image_advertised s now
venue_step s (ProxyMade id) now = record now { proxies = with_new id now.proxies }
venue_step s (ProxyTook id bytes) now = proxy_took s id bytes now
venue_step s (ProxyPut id count) now =
    record now { proxies = at_session id (puts count) now.proxies }
venue_step s (ProxyCut id) now = record now { proxies = without id now.proxies }
venue_step s (SpinMade id) now = record now { spins = with_new id now.spins }
venue_step s (SpinTook id bytes) now =
    record now { spins = at_session id (spin_fed s now bytes) now.spins }
venue_step s (SpinPumped id) now =
    record now { spins = at_session id (happens_at (spin_says s) Pumped) now.spins }
venue_step s (SpinPut id count) now = record now { spins = at_session id (puts count) now.spins }
venue_step s (SpinCut id) now = record now { spins = without id now.spins }
venue_step s Second now = second_passed s now
venue_step s AllCut now = record now { proxies = []; spins = [] }

-- and of all that came, the newest first
abbrev pub venue_after : VenueSetup → List VenueCame → VenueState
venue_after s [] = nothing_came
venue_after s (came ∷ before) = venue_step s came (venue_after s before)

-- ---- What it hands out
-- on lines A and B when this comes: what was accepted and not sent yet, packed; or a heartbeat,
-- which tells the first sequence that was not sent
abbrev pub on_lines : VenueSetup → VenueCame → VenueState → List (List ℕ)
on_lines s Flushed now = pending (journal_in s now)
on_lines s Beaten now = block_bytes (heartbeat_block s.unit (now.sent + 1)) ∷ []
on_lines s came now = []

-- on the gap line: the ranges of the requests that are accepted
abbrev pub on_gap_line : VenueSetup → VenueCame → VenueState → List (List ℕ)
on_gap_line s (ProxyTook id bytes) now =
    (answers_in s now bytes (session_of id now.proxies)).lines
on_gap_line s came now = []
