-- What holds after any verbs: of the number of ticks and of what the venue's end has of messages,
-- advertised sequences and spent requests; and of the client's end.
use Rattle.std.proofs.Common.{◌≡◌, ℕ, zero, suc, ◌+◌, Bool, true, false, cond, List, [], ◌∷◌, ◌++◌, length, take, drop, refl, Option, Some, None}
use Rattle.std.specs.List.{AllByRecursion, flat_map}
use Rattle.unit_packets.specs.Blocks.{Block}
use Rattle.unit_packets.specs.Cutting.{blocks_of}
use Rattle.pitch_io.specs.declared.line.Line.{Line}
use Rattle.pitch_text.specs.declared.command.Command.{Command}
use Rattle.pitch_text.specs.declared.verb.Session.{Session as SessionKind}
use Rattle.pitch_text.specs.declared.verb.Session.TheVariants.{Grp, Spin}
use Rattle.pitch_text.specs.declared.verb.Verb.{Verb}
use Rattle.pitch_text.specs.declared.verb.Verb.TheVariants as verbs
use Rattle.pitch_model.specs.Advertising.{with_sequence}
use Rattle.pitch_model.specs.History.{Raw}
use Rattle.venue_core.specs.Commands.{raw_of}
use Rattle.venue_core.specs.Refusals.{refusal}
use Rattle.venue_core.specs.declared.error.VenueError.{VenueError}
use Rattle.grp_session.specs.Budget.{Spent, next_second}
use Rattle.grp_session.specs.Serving.{Source}
use Rattle.client_end.specs.Came.{Came, EndState, Heard, end_step}
use Rattle.client_end.specs.Came as client_came
use Rattle.sending_end.specs.Waiting.{made, took, ended}
use Rattle.venue_end.specs.Came.{VenueState, Commanded, SpinTook, answers_in, commanded_on, venue_step}
use Rattle.venue_end.specs.Sessions.{Session, session_of}
use Rattle.world_model.specs.Ends.{venue_setup, client_setup, the_session, stands, server_made, server_put, server_cut, server_waits, at_client}
use Rattle.world_model.specs.State.{State, start, up_waits, up_taken, datagrams_on, passed_on}
use Rattle.world_model.specs.Verbs.{done, next_state, state_of, venue_has, client_has, hears, hears_block, numbered, delivered_on, opened, ends, settled, pumped, pumps, server_fed, link_fed, seconds}
use Rattle.world_model.specs.declared.limits.Limits.{Limits}
use Rattle.world_model.specs.declared.outcome.Outcome.TheVariants as outcome
use Rattle.world_laws.specs.Spending.{ticks_in}
use Rattle.world_laws.proofs.Joined.{carries, either}

-- a verb's command is of this kind
abbrev pub Says : (Command → Type 0) → Verb → Type 0
Says Ok (verbs.Command command) = Ok command
Says Ok verb = Unit {0}

module _ (unit : ℕ) (limits : Limits) (Ok : Command → Type 0) (V : ℕ → List Raw → List ℕ → Spent → Type 0) (C : EndState → Type 0)
    (fed : (n : ℕ) (now : VenueState) (bytes : List ℕ) (o : Option (Session Source)) → V n now.messages now.advertised now.spent → V n now.messages now.advertised (answers_in (venue_setup unit limits) now bytes o).knows)
    (accept : (n : ℕ) (messages : List Raw) (advertised : List ℕ) (t : Spent) (c : Command) → Ok c → refusal messages c ≡ None → V n messages advertised t → V n (messages ++ raw_of c ∷ []) advertised t)
    (advertise : (n : ℕ) (messages : List Raw) (advertised : List ℕ) (t : Spent) → V n messages advertised t → V n messages (with_sequence advertised (length messages)) t)
    (second : (n : ℕ) (messages : List Raw) (advertised : List ℕ) (t : Spent) → V n messages advertised t → V (n + 1) messages advertised (next_second t))
    (client : (came : Came) (now : EndState) → C now → C (end_step (client_setup unit limits) came now)) where
  abbrev OfVenue : ℕ → VenueState → Type 0
  OfVenue n now = V n now.messages now.advertised now.spent

  abbrev Holds : ℕ → State → Type 0
  Holds n s = OfVenue n s.venue × C s.client

  command : (n : ℕ) (c : Command) (now : VenueState) → Ok c → OfVenue n now → OfVenue n (venue_step (venue_setup unit limits) (Commanded c) now)
  command n c now ok v = by (refusal now.messages c) refl
    where
      by : (o : Option VenueError) → refusal now.messages c ≡ o → OfVenue n (commanded_on o c now)
      by None fine = accept n now.messages now.advertised now.spent c ok fine v
      by (Some error) refused = v

  made_holds : (n : ℕ) (session : SessionKind) (now : VenueState) → OfVenue n now → OfVenue n (venue_step (venue_setup unit limits) (server_made session) now)
  made_holds n Grp now v = v
  made_holds n Spin now v = v

  cut_holds : (n : ℕ) (session : SessionKind) (now : VenueState) → OfVenue n now → OfVenue n (venue_step (venue_setup unit limits) (server_cut session) now)
  cut_holds n Grp now v = v
  cut_holds n Spin now v = v

  put_holds : (n : ℕ) (session : SessionKind) (k : ℕ) (now : VenueState) → OfVenue n now → OfVenue n (venue_step (venue_setup unit limits) (server_put session k) now)
  put_holds n Grp k now v = v
  put_holds n Spin k now v = v

  hears_holds : (n : ℕ) (line : Line) (blocks : List Block) (s : State) → Holds n s → Holds n (hears unit limits line blocks s)
  hears_holds n line [] s h = h
  hears_holds n line (block ∷ blocks) s h = hears_holds n line blocks (hears_block unit limits line block s) (h.0, client (Heard block) s.client h.1)

  pumped_holds : (n k : ℕ) (s : State) → Holds n s → Holds n (pumped unit limits k s)
  pumped_holds n zero s h = h
  pumped_holds n (suc k) s h = pumped_holds n k s h

  settled_holds : (n : ℕ) (session : SessionKind) (s : State) → Holds n s → Holds n (settled unit limits session s)
  settled_holds n session s h = by (stands session s.client)
    where
      by : (b : Bool) → Holds n (cond b s (venue_has unit limits (server_cut session) s))
      by true = h
      by false = (cut_holds n session s.venue h.0, h.1)

  taken_holds : (n : ℕ) (session : SessionKind) (k : ℕ) (s : State) → Holds n s → Holds n (up_taken session k s)
  taken_holds n Grp k s h = h
  taken_holds n Spin k s h = h

  fed_holds : (n : ℕ) (session : SessionKind) (bytes : List ℕ) (s : State) → Holds n s → Holds n (server_fed unit limits session bytes s)
  fed_holds n Grp bytes s h = (fed n s.venue bytes (session_of the_session s.venue.proxies) h.0, h.1)
  fed_holds n Spin bytes s h =
      let x : State = venue_has unit limits (SpinTook the_session bytes) s in
      pumped_holds n (pumps (venue_setup unit limits) (session_of the_session x.venue.spins)) x h

  pub verb_holds : (verb : Verb) (before : List Verb) (s : State) → Says Ok verb → Holds (ticks_in before) s → Holds (ticks_in (verb ∷ before)) (next_state unit limits verb s)
  verb_holds (verbs.Command c) before s ok h = (command (ticks_in before) c s.venue ok h.0, h.1)
  verb_holds (verbs.Setup hold kept second minute day) before s ok h = h
  verb_holds verbs.Flush before s ok h = h
  verb_holds verbs.Beat before s ok h = h
  verb_holds (verbs.Deliver line number) before s ok h = by (numbered (datagrams_on s line) number)
    where
      by : (o : Option (List ℕ)) → Holds (ticks_in before) (delivered_on unit limits line number o s).state
      by None = h
      by (Some datagram) = hears_holds (ticks_in before) line (blocks_of datagram) s h
  verb_holds (verbs.Rest line) before s ok h = hears_holds (ticks_in before) line (flat_map blocks_of (drop (passed_on s.passed line) (datagrams_on s line))) s h
  verb_holds (verbs.Connect session) before s ok h =
      either (Holds (ticks_in before)) (stands session s.client) (done outcome.AlreadyOpen s) (done outcome.Opened (opened unit limits session s)) h
      (made_holds (ticks_in before) session s.venue h.0, client (made (at_client session)) s.client h.1)
  verb_holds (verbs.Cut session) before s ok h =
      either (Holds (ticks_in before)) (stands session s.client) (done outcome.Cut (ends unit limits session s)) (done outcome.NotOpen s)
      (cut_holds (ticks_in before) session s.venue h.0, client (ended (at_client session)) s.client h.1) h
  verb_holds (verbs.Up session bytes) before s ok h =
      carries (Holds (ticks_in before)) (stands session s.client) bytes (up_waits session s) (λ k. server_fed unit limits session (take k (up_waits session s)) (up_taken session k s)) s h
      (λ k. fed_holds (ticks_in before) session (take k (up_waits session s)) (up_taken session k s) (taken_holds (ticks_in before) session k s h))
  verb_holds (verbs.Down session bytes) before s ok h =
      let waiting : List ℕ = server_waits session s.venue in
      carries (Holds (ticks_in before)) (stands session s.client) bytes waiting (λ k. link_fed unit limits session (take k waiting) (venue_has unit limits (server_put session k) s)) s h
      (λ k. settled_holds (ticks_in before) session (client_has unit limits (took (at_client session) (take k waiting)) (venue_has unit limits (server_put session k) s))
      (put_holds (ticks_in before) session k s.venue h.0, client (took (at_client session) (take k waiting)) s.client h.1))
  verb_holds verbs.Advertise before s ok h = (advertise (ticks_in before) s.venue.messages s.venue.advertised s.venue.spent h.0, h.1)
  verb_holds verbs.Tick before s ok h =
      let n : ℕ = ticks_in before + 1 in
      settled_holds n Spin (settled unit limits Grp (seconds unit limits s)) (settled_holds n Grp (seconds unit limits s) (second (ticks_in before) s.venue.messages s.venue.advertised s.venue.spent h.0, client client_came.Second s.client h.1))
  verb_holds verbs.Show before s ok h = h
  verb_holds (verbs.Quote symbol) before s ok h = h

  pub all_hold : (done : List Verb) → AllByRecursion (Says Ok) done → V 0 [] [] start.venue.spent → C client_came.nothing_came → Holds (ticks_in done) (state_of unit limits done)
  all_hold [] said v c = (v, c)
  all_hold (verb ∷ before) said v c = verb_holds verb before (state_of unit limits before) said.0 (all_hold before said.1 v c)

-- ---- What verbs say
pub says : (P : Verb → Type 0) (Ok : Command → Type 0) → ((command : Command) → P (verbs.Command command) → Ok command) → (verb : Verb) → P verb → Says Ok verb
says P Ok fits (verbs.Command command) is = fits command is
says P Ok fits (verbs.Setup hold kept second minute day) is = tt
says P Ok fits verbs.Flush is = tt
says P Ok fits verbs.Beat is = tt
says P Ok fits (verbs.Deliver line number) is = tt
says P Ok fits (verbs.Rest line) is = tt
says P Ok fits (verbs.Connect session) is = tt
says P Ok fits (verbs.Cut session) is = tt
says P Ok fits (verbs.Up session bytes) is = tt
says P Ok fits (verbs.Down session bytes) is = tt
says P Ok fits verbs.Advertise is = tt
says P Ok fits verbs.Tick is = tt
says P Ok fits verbs.Show is = tt
says P Ok fits (verbs.Quote symbol) is = tt

-- some command or other
pub all_say : (done : List Verb) → AllByRecursion (Says (λ command. Unit {0})) done
all_say [] = tt
all_say (verb ∷ done) = (says (λ verb. Unit {0}) (λ command. Unit {0}) (λ command is. tt) verb tt, all_say done)

-- ---- Verbs that are no command leave the venue's messages as they are
abbrev pub NoCommand : Command → Type 0
NoCommand command = ⊥

pub messages_stay : (unit : ℕ) (limits : Limits) (later before : List Verb) → AllByRecursion (Says NoCommand) later → (state_of unit limits (later ++ before)).venue.messages ≡ (state_of unit limits before).venue.messages
messages_stay unit limits [] before none = refl
messages_stay unit limits (verb ∷ later) before none =
    let s : State = state_of unit limits (later ++ before) in
    let V : List Raw = (state_of unit limits before).venue.messages in
    (verb_holds unit limits NoCommand (λ n messages advertised t. messages ≡ V) (λ now. Unit {0}) (λ n now bytes o v. v) (λ n messages advertised t command is fine v. absurd is) (λ n messages advertised t v. v) (λ n messages advertised t v. v)
    (λ came now c. c) verb [] s none.0 (messages_stay unit limits later before none.1, tt)).0
