-- Each unit of a storm ends current at the last message of its plan.
use Rattle.std.proofs.Common.{◌≡◌, ℕ, zero, suc, ◌+◌, ◌-◌, ◌<◌, ◌≤◌, Bool, true, false, cond, List, [], ◌∷◌, ◌++◌, length, take, drop, refl, sym, ap, ◌∙◌, subst, arith, Option, Some, None, reverse, append_assoc, ◌==◌, ◌%◌}
use Rattle.std.specs.List.{AllByRecursion, flat_map}
use Rattle.std.specs.FinMap.{len}
use Rattle.std.proofs.lemmas.List.{append-nil, reverse-append}
use Rattle.pitch_fields.proofs.Lists.{all_append}
use Rattle.pitch_io.specs.declared.line.Line.{Line}
use Rattle.pitch_io.specs.declared.line.Line.TheVariants as lines
use Rattle.pitch_text.specs.WellFormed.{IsVerb}
use Rattle.pitch_text.specs.declared.command.Command.{Command}
use Rattle.pitch_text.specs.declared.verb.ScheduleEntry.{ScheduleEntry}
use Rattle.pitch_text.specs.declared.verb.Session.{Session}
use Rattle.pitch_text.specs.declared.verb.Session.TheVariants.{Grp, Spin}
use Rattle.pitch_text.specs.declared.verb.Verb.{Verb}
use Rattle.pitch_text.specs.declared.verb.Verb.TheVariants as verbs
use Rattle.pitch_model.specs.declared.status.Status.{Status}
use Rattle.pitch_model.specs.declared.status.Status.TheVariants.{Current}
use Rattle.pitch_model.specs.Book.{Book, book_after}
use Rattle.pitch_model.specs.Levels.{shares}
use Rattle.pitch_model.specs.Status.{status_of}
use Rattle.unit_packets.specs.Blocks.{Block}
use Rattle.unit_packets.specs.Cutting.{blocks_of}
use Rattle.feed_lines.specs.UnitLine.{unit_line}
use Rattle.drill_client.specs.DrillText.{drill_line, drill_text}
use Rattle.sending_end.specs.Waiting.{took}
use Rattle.sending_end.specs.declared.session.Session.TheVariants.{Proxy}
use Rattle.venue_core.specs.Commands.{raw_of}
use Rattle.venue_core.specs.Plan.{plan, plan_command}
use Rattle.venue_core.specs.Refusals.{refusal}
use Rattle.venue_core.specs.declared.error.VenueError.{VenueError}
use Rattle.venue_core.proofs.PlanAccepted.{plan_accepted}
use Rattle.venue_core.proofs.PlanBooks.{plan_begins, plan_next, plan_length}
use Rattle.venue_end.specs.Came.{VenueState, commanded_on, venue_step}
use Rattle.venue_end.specs.declared.setup.VenueSetup.{VenueSetup}
use Rattle.world_model.specs.Ends.{venue_setup, client_setup, server_put, server_cut, server_waits, stands}
use Rattle.world_model.specs.State.{State, up_taken, datagrams_on, passed_on}
use Rattle.world_model.specs.Verbs.{done, next_state, state_of, venue_has, client_has, hears, hears_block, delivered_on, numbered, opened, settled, server_fed, seconds, client_book}
use Rattle.world_model.specs.declared.limits.Limits.{Limits}
use Rattle.world_model.specs.declared.outcome.Outcome.TheVariants as outcome
use Rattle.world_laws.proofs.Finish.{proxy_cut_current, proxy_cut_accepted, book_of_all}
use Rattle.world_laws.proofs.Joined.{carries, either, second_spin}
use Rattle.world_laws.proofs.Reached.{AreSayable, sayable_verbs}
use Rattle.schedule_replay.specs.Replay.{verbs_of, limits_of}
use Rattle.storm_replay.specs.Ended.{whole_text}
use Rattle.storm_replay.specs.layers.Limits.{most_units, most_steps}
use Rattle.storm_replay.specs.Storm.{start_verbs, step_verbs, end_verbs, arrival, arrives_at_once, arrives_late, tenth_verbs}
use Rattle.storm_replay.specs.StormText.{storm_line}
use Rattle.storm_replay.specs.Summary.{state_line, ended_line, ended_lines, storm_lines, storm_text}
use Rattle.storm_replay.specs.layers.Units.{unit_steps, unit_course}
use Rattle.storm_replay.proofs.Naming.{verbs_are}
use Rattle.storm_replay.proofs.Reading.{step_given}

-- ---- Verbs that are no command
-- the messages stay, and where no connection with a Spin Server stood none does
abbrev Stays : State → State → Type 0
Stays s x = (x.venue.messages ≡ s.venue.messages) × (s.client.spin ≡ None → x.client.spin ≡ None)

cut_messages : (s : VenueSetup) (session : Session) (now : VenueState) → (venue_step s (server_cut session) now).messages ≡ now.messages
cut_messages s Grp now = refl
cut_messages s Spin now = refl

module _ (unit : ℕ) (limits : Limits) (s : State) where
  same : Stays s s
  same = (refl, λ e. e)

  hears_stays : (line : Line) (blocks : List Block) (x : State) → Stays s x → Stays s (hears unit limits line blocks x)
  hears_stays line [] x k = k
  hears_stays line (block ∷ blocks) x k = hears_stays line blocks (hears_block unit limits line block x) k

  settled_stays : (session : Session) (x : State) → Stays s x → Stays s (settled unit limits session x)
  settled_stays session x k = by (stands session x.client)
    where
      by : (b : Bool) → Stays s (cond b x (venue_has unit limits (server_cut session) x))
      by true = k
      by false = (cut_messages (venue_setup unit limits) session x.venue ∙ k.0, k.1)

  stays_open : Stays s (next_state unit limits (verbs.Connect Grp) s)
  stays_open = either (Stays s) (stands Grp s.client) (done outcome.AlreadyOpen s) (done outcome.Opened (opened unit limits Grp s)) same same

  stays_up : Stays s (next_state unit limits (verbs.Up Grp None) s)
  stays_up = carries (Stays s) (stands Grp s.client) None s.grp_up (λ n. server_fed unit limits Grp (take n s.grp_up) (up_taken Grp n s)) s same (λ n. same)

  stays_down : Stays s (next_state unit limits (verbs.Down Grp None) s)
  stays_down =
      let waiting : List ℕ = server_waits Grp s.venue in
      let fed : ℕ → State = λ n. client_has unit limits (took Proxy (take n waiting)) (venue_has unit limits (server_put Grp n) s) in
      carries (Stays s) (stands Grp s.client) None waiting (λ n. settled unit limits Grp (fed n)) s same (λ n. settled_stays Grp (fed n) same)

  stays_deliver : (line : Line) (number : ℕ) → Stays s (next_state unit limits (verbs.Deliver line number) s)
  stays_deliver line number = by (numbered (datagrams_on s line) number)
    where
      by : (o : Option (List ℕ)) → Stays s (delivered_on unit limits line number o s).state
      by None = same
      by (Some datagram) = hears_stays line (blocks_of datagram) s same

  stays_rest : (line : Line) → Stays s (next_state unit limits (verbs.Rest line) s)
  stays_rest line = hears_stays line (flat_map blocks_of (drop (passed_on s.passed line) (datagrams_on s line))) s same

  stays_tick : Stays s (next_state unit limits verbs.Tick s)
  stays_tick =
      let passed : State = seconds unit limits s in
      settled_stays Spin (settled unit limits Grp passed) (settled_stays Grp passed (refl, second_spin (client_setup unit limits) s.client))

-- ---- Several verbs, the first of which comes first
abbrev after : ℕ → Limits → List Verb → State → State
after unit limits [] s = s
after unit limits (verb ∷ more) s = after unit limits more (next_state unit limits verb s)

after_both : (unit : ℕ) (limits : Limits) (xs ys : List Verb) (s : State) → after unit limits (xs ++ ys) s ≡ after unit limits ys (after unit limits xs s)
after_both unit limits [] ys s = refl
after_both unit limits (x ∷ xs) ys s = after_both unit limits xs ys (next_state unit limits x s)

-- the states of verbs that stand newest first
state_after : (unit : ℕ) (limits : Limits) (xs before : List Verb) → state_of unit limits (reverse xs ++ before) ≡ after unit limits xs (state_of unit limits before)
state_after unit limits [] before = refl
state_after unit limits (x ∷ xs) before =
    ap (λ (l : List Verb). state_of unit limits (l ++ before)) (reverse-append (x ∷ []) xs)
    ∙ ap (state_of unit limits) (append_assoc (reverse xs) (x ∷ []) before)
    ∙ state_after unit limits xs (x ∷ before)

-- ---- A step
-- after so many steps
pub record Stepped (number unit k : ℕ) (s : State) : Type 0 where
  pub messages_are : s.venue.messages ≡ plan number unit k
  pub alone : s.client.spin ≡ None

stepped_stays : (number unit k : ℕ) (s x : State) → Stepped number unit k s → Stays s x → Stepped number unit k x
stepped_stays number unit k s x a b = record { messages_are = b.0 ∙ a.messages_are; alone = b.1 a.alone }

one_before : (k : ℕ) → k ≡ suc k - 1
one_before k = omega arith

module _ (number unit : ℕ) (limits : Limits) where
  started : Stepped number unit 0 (after unit limits start_verbs (state_of unit limits []))
  started =
      let s0 : State = state_of unit limits [] in
      let s1 = next_state unit limits (verbs.Connect Grp) s0 in
      let s2 = next_state unit limits (verbs.Up Grp None) s1 in
      let zero_steps : Stepped number unit 0 s0 = record { messages_are = sym (plan_begins number unit); alone = refl } in
      stepped_stays number unit 0 s2 _ (stepped_stays number unit 0 s1 s2 (stepped_stays number unit 0 s0 s1 zero_steps (stays_open unit limits s0)) (stays_up unit limits s1)) (stays_down unit limits s2)

  -- a command of the plan makes a message, which is sent
  commanded : (k : ℕ) (s : State) → suc k ≤ 400000 → Stepped number unit k s → Stepped number unit (suc k) (next_state unit limits verbs.Flush (next_state unit limits (verbs.Command (plan_command number unit (suc k))) s))
  commanded k s low a =
      let command : Command = plan_command number unit (suc k) in
      let fine : refusal s.venue.messages command ≡ None = ap (λ (V : List (List ℕ)). refusal V command) a.messages_are ∙ ap (λ (m : ℕ). refusal (plan number unit m) command) (one_before k) ∙ plan_accepted number unit (suc k) (omega arith) low in
      record {
        messages_are = ap (λ (o : Option VenueError). (commanded_on o command s.venue).messages) fine ∙ ap (λ (V : List (List ℕ)). V ++ raw_of command ∷ []) a.messages_are ∙ sym (plan_next number unit k (suc k) refl);
        alone = a.alone;
      }

  arrives : (k : ℕ) (line : Line) (index : ℕ) (b : Bool) (s : State) → Stepped number unit k s → Stepped number unit k (after unit limits (arrival line index b) s)
  arrives k line index true s a = stepped_stays number unit k s _ a (stays_deliver unit limits s line index)
  arrives k line index false s a = a

  tenth : (k index : ℕ) (s : State) → Stepped number unit k s → Stepped number unit k (after unit limits (tenth_verbs index) s)
  tenth k index s a = by (index % 10 == 0)
    where
      by : (b : Bool) → Stepped number unit k (after unit limits (cond b (verbs.Tick ∷ verbs.Up Grp None ∷ verbs.Down Grp None ∷ verbs.Rest lines.Gap ∷ []) []) s)
      by true =
          let s1 = next_state unit limits verbs.Tick s in
          let s2 = next_state unit limits (verbs.Up Grp None) s1 in
          let s3 = next_state unit limits (verbs.Down Grp None) s2 in
          stepped_stays number unit k s3 _ (stepped_stays number unit k s2 s3 (stepped_stays number unit k s1 s2 (stepped_stays number unit k s s1 a (stays_tick unit limits s)) (stays_up unit limits s1)) (stays_down unit limits s2)) (stays_rest unit limits s3 lines.Gap)
      by false = a

  step : (k : ℕ) (s : State) → suc k ≤ 400000 → Stepped number unit k s → Stepped number unit (suc k) (after unit limits (step_verbs number unit (suc k)) s)
  step k s low a =
      let xs : List Verb = arrival lines.A (suc k) (arrives_at_once number unit (suc k)) in
      let ys : List Verb = arrival lines.B (suc k - 3) (arrives_late number unit (suc k)) in
      let zs : List Verb = tenth_verbs (suc k) in
      let s1 : State = next_state unit limits verbs.Flush (next_state unit limits (verbs.Command (plan_command number unit (suc k))) s) in
      let a1 = commanded k s low a in
      let s2 : State = after unit limits xs s1 in
      let a2 = arrives (suc k) lines.A (suc k) (arrives_at_once number unit (suc k)) s1 a1 in
      let s3 : State = after unit limits ys s2 in
      let a3 = arrives (suc k) lines.B (suc k - 3) (arrives_late number unit (suc k)) s2 a2 in
      let a4 = tenth (suc k) (suc k) s3 a3 in
      subst (Stepped number unit (suc k)) (sym (after_both unit limits xs (ys ++ zs) s1 ∙ after_both unit limits ys zs s2)) a4

  steps : (k : ℕ) (s : State) → k ≤ 400000 → Stepped number unit 0 s → Stepped number unit k (after unit limits (unit_steps number unit k) s)
  unfolding unit_steps
  steps zero s low a = a
  steps (suc k) s low a =
      subst (Stepped number unit (suc k)) (sym (after_both unit limits (unit_steps number unit k) (step_verbs number unit (suc k)) s))
      (step k (after unit limits (unit_steps number unit k) s) low (steps k s (omega (arith, low)) a))

-- ---- A unit
-- all that comes before the end
abbrev course_before : ℕ → ℕ → ℕ → List Verb
course_before number unit k = reverse (start_verbs ++ unit_steps number unit k)

stepped_before : (number unit k : ℕ) (limits : Limits) → k ≤ 400000 → Stepped number unit k (state_of unit limits (course_before number unit k))
stepped_before number unit k limits low =
    let xs : List Verb = start_verbs ++ unit_steps number unit k in
    let is : state_of unit limits (reverse xs) ≡ after unit limits (unit_steps number unit k) (after unit limits start_verbs (state_of unit limits [])) =
    ap (state_of unit limits) (sym (append-nil (reverse xs))) ∙ state_after unit limits xs [] ∙ after_both unit limits start_verbs (unit_steps number unit k) (state_of unit limits []) in
    subst (Stepped number unit k) (sym is) (steps number unit limits k (after unit limits start_verbs (state_of unit limits [])) low (started number unit limits))

course_is : (number unit k : ℕ) → reverse (unit_course number unit k) ≡ reverse (end_verbs k) ++ course_before number unit k
course_is number unit k =
    ap (λ (l : List Verb). reverse l) (sym (append_assoc start_verbs (unit_steps number unit k) (end_verbs k)))
    ∙ reverse-append (start_verbs ++ unit_steps number unit k) (end_verbs k)

-- a schedule can have these verbs
steps_given : (number unit k : ℕ) → k ≤ most_steps → AllByRecursion IsVerb (unit_steps number unit k)
unfolding unit_steps
steps_given number unit zero few = tt
steps_given number unit (suc k) few = all_append IsVerb (unit_steps number unit k) (step_verbs number unit (suc k)) (steps_given number unit k (omega (arith, few))) (step_given number unit (suc k) (omega arith) few)

turned : (xs : List Verb) → AllByRecursion IsVerb xs → AllByRecursion IsVerb (reverse xs)
turned [] all = tt
turned (x ∷ xs) all = subst (AllByRecursion IsVerb) (sym (reverse-append (x ∷ []) xs)) (all_append IsVerb (reverse xs) (x ∷ []) (turned xs all.1) (all.0, tt))

-- what a unit does before its proxy is cut
abbrev course_told : ℕ → ℕ → ℕ → List Verb
course_told number unit k = verbs.Deliver lines.A (k + 1) ∷ verbs.Beat ∷ course_before number unit k

told_sayable : (number unit k : ℕ) → k ≤ most_steps → AreSayable (course_told number unit k)
told_sayable number unit k few =
    (tt, (tt, sayable_verbs (course_before number unit k) (turned (start_verbs ++ unit_steps number unit k) (all_append IsVerb start_verbs (unit_steps number unit k) (tt, (tt, (tt, tt))) (steps_given number unit k few)))))

-- then it has its plan, and no connection with a Spin Server
stepped_told : (number unit k : ℕ) (limits : Limits) → k ≤ 400000 → Stepped number unit k (state_of unit limits (course_told number unit k))
stepped_told number unit k limits low =
    let before : State = state_of unit limits (course_before number unit k) in
    let beaten : State = next_state unit limits verbs.Beat before in
    let beat : Stays before beaten = (refl, λ e. e) in
    stepped_stays number unit k beaten _ (stepped_stays number unit k before beaten (stepped_before number unit k limits low) beat) (stays_deliver unit limits beaten lines.A (k + 1))

-- the line of a unit that did its course
pub unit_whole : (number unit steps : ℕ) (limits : Limits) → unit < 256 → steps ≤ most_steps → state_line unit limits (state_of unit limits (reverse (unit_course number unit steps))) ≡ drill_line number unit steps
unfolding state_line drill_line
unit_whole number unit steps limits small few =
    let told : List Verb = course_told number unit steps in
    let a = stepped_told number unit steps limits (omega (arith, few)) in
    let x : State = state_of unit limits (reverse (end_verbs steps) ++ course_before number unit steps) in
    let accepted : x.venue.messages ≡ plan number unit steps = proxy_cut_accepted unit limits told ∙ a.messages_are in
    let many : length (state_of unit limits told).venue.messages ≡ length (plan number unit steps) = ap (λ (V : List (List ℕ)). length V) a.messages_are in
    let status : status_of limits.hold x.client.heard ≡ Current (length (plan number unit steps)) = proxy_cut_current unit limits told small (told_sayable number unit steps few) a.alone ∙ ap Current many in
    let book : client_book limits x ≡ book_after (plan number unit steps) = book_of_all limits x (plan number unit steps) accepted status in
    ap (λ (l : List Verb). state_line unit limits (state_of unit limits l)) (course_is number unit steps)
    ∙ ap (λ (o : Status). unit_line unit o (len (client_book limits x).orders) (shares (client_book limits x))) (status ∙ ap Current (plan_length number unit steps))
    ∙ ap (λ (b : Book). unit_line unit (Current steps) (len b.orders) (shares b)) book

-- ---- All units
ended_whole : (number units steps unit : ℕ) → steps ≤ most_steps → 1 ≤ unit → unit ≤ units → unit < 256 → ended_line (reverse (storm_lines number units steps)) unit ≡ drill_line number unit steps
ended_whole number units steps unit few least most small =
    let before : List ScheduleEntry = reverse (storm_lines number units steps) in
    let limits : Limits = limits_of (verbs_of unit before) in
    ap (λ (l : List Verb). state_line unit limits (state_of unit limits l)) (verbs_are number units steps unit least most)
    ∙ unit_whole number unit steps limits small few

lines_whole : (number units steps k : ℕ) → units ≤ most_units → steps ≤ most_steps → k ≤ units → ended_lines (reverse (storm_lines number units steps)) k ≡ drill_text number k steps
unfolding ended_lines drill_text
lines_whole number units steps zero small few most = refl
lines_whole number units steps (suc k) small few most =
    let before : List ScheduleEntry = reverse (storm_lines number units steps) in
    ap (λ (l : List ℕ). l ++ ended_line before (suc k)) (lines_whole number units steps k small few (omega (arith, most)))
    ∙ ap (λ (l : List ℕ). drill_text number k steps ++ l) (ended_whole number units steps (suc k) few (omega arith) most (omega (arith, most, small)))

-- the summary says of each unit that it has all
pub storm_whole : (number units steps : ℕ) → units ≤ most_units → steps ≤ most_steps → storm_text number units steps ≡ whole_text number units steps
storm_whole number units steps small few =
    ap (λ (l : List ℕ). storm_line number units steps ++ l) (lines_whole number units steps units small few (omega arith))
