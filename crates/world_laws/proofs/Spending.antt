-- No more requests are accepted than the limits allow.
use Rattle.std.proofs.Common.{◌≡◌, ◌≢◌, ℕ, suc, ◌+◌, ◌/◌, ◌≤◌, ◌<◌, Bool, true, false, not, List, [], ◌∷◌, length, refl, sym, ap, ◌∙◌, subst, arith, Option, Some, None, ◌⊎◌, inl, inr, nat_eq, cond}
use Rattle.std.specs.Prelude.{nat_lt, nat_le, unwrap_or, is_some, ◌==◌, ◌||◌, if◌then◌else◌}
use Rattle.std.specs.List.{AllByRecursion}
use Rattle.std.proofs.lemmas.Bool.{cases_eq, ne_eqb, eq-eqb, leb-false}
use Rattle.pitch_text.specs.declared.verb.Verb.{Verb}
use Rattle.pitch_messages.specs.declared.session.SessionMessage.{SessionMessage}
use Rattle.pitch_messages.specs.declared.session.SessionMessage.TheVariants.{Login, LoginReply, GapRequest, GapReply, SpinAvailable, SpinRequest, SpinReply, SpinFinished}
use Rattle.session_ends.specs.Answering.{Answer, no_answer, answers}
use Rattle.session_ends.specs.Closing.{Setup, closed_of, cause_of, logs_in, logged_in}
use Rattle.session_ends.specs.Saying.{heard_by}
use Rattle.session_ends.specs.Sending.{new_items}
use Rattle.session_ends.specs.declared.inbox.Heard.{Heard}
use Rattle.session_ends.specs.declared.role.Said.{Said}
use Rattle.session_ends.specs.declared.role.Said.TheVariants.{Skipped, TooShort, Message}
use Rattle.gap_store.specs.Look.{View, look}
use Rattle.gap_store.specs.declared.found.Found.{Found}
use Rattle.gap_store.specs.declared.found.Found.TheVariants.{Kept, Ahead, NotKept}
use Rattle.grp_session.specs.Asking.{gap_status, status_here, status_found, spent_after}
use Rattle.grp_session.specs.Budget.{Spent, how_many, this_second, this_minute, next_second, spending}
use Rattle.grp_session.specs.Budget as budget
use Rattle.grp_session.specs.Serving.{Source, grp_answer, said_answer, message_answer, request_answer}
use Rattle.venue_end.specs.Came.{VenueState, answers_in, proxy_source}
use Rattle.venue_end.specs.Servers.{proxy_setup}
use Rattle.venue_end.specs.Sessions.{Session}
use Rattle.world_model.specs.Ends.{venue_setup}
use Rattle.world_model.specs.Verbs.{state_of}
use Rattle.world_model.specs.declared.limits.Limits.{Limits}
use Rattle.world_laws.specs.Spending.{ticks_in, SpendsWithin}
use Rattle.world_laws.proofs.EachVerb.{all_hold, all_say}

abbrev limits_of : Limits → budget.Limits
limits_of l = record { second = l.second; minute = l.minute; day = l.day }

-- ---- Counts
pub none_passes : (p : ℕ → Bool) (n : ℕ) (ticks : List ℕ) → ((t : ℕ) → t ≤ n → p t ≡ false) → AllByRecursion (λ tick. tick ≤ n) ticks → how_many p ticks ≡ 0
none_passes p n [] fails all = refl
none_passes p n (t ∷ ticks) fails all = ap (λ (b : Bool). cond b (suc (how_many p ticks)) (how_many p ticks)) (fails t all.0) ∙ none_passes p n ticks fails all.1

later : (n m : ℕ) (ticks : List ℕ) → n ≤ m → AllByRecursion (λ tick. tick ≤ n) ticks → AllByRecursion (λ tick. tick ≤ m) ticks
later n m [] le all = tt
later n m (t ∷ ticks) le all = (omega (arith, all.0), later n m ticks le all.1)

counts_one : (p : ℕ → Bool) (t : ℕ) (ticks : List ℕ) → p t ≡ true → how_many p (t ∷ ticks) ≡ suc (how_many p ticks)
counts_one p t ticks h = ap (λ (b : Bool). cond b (suc (how_many p ticks)) (how_many p ticks)) h

-- ---- A second passes
minute_later : (l : Limits) (s : Spent) → this_minute s ≤ l.minute → AllByRecursion (λ tick. tick ≤ s.now) s.accepted → ((s.now + 1) / 60 ≡ s.now / 60) ⊎ ((s.now + 1) / 60 ≢ s.now / 60) → this_minute (next_second s) ≤ l.minute
minute_later l s few past (inl same) = subst (λ (q : ℕ). how_many (λ tick. nat_eq (tick / 60) q) s.accepted ≤ l.minute) (sym same) few
minute_later l s few past (inr other) =
    let none = none_passes (λ tick. nat_eq (tick / 60) ((s.now + 1) / 60)) s.now s.accepted (λ t le. ne_eqb (t / 60) ((s.now + 1) / 60) (λ e. other (omega (arith, e, le)))) past in
    omega (arith, none)

second_passes : (l : Limits) (n : ℕ) (s : Spent) → SpendsWithin l n s → SpendsWithin l (n + 1) (next_second s)
second_passes l n s w = record {
  now_is = ap (λ (k : ℕ). k + 1) w.now_is;
  second = let none = none_passes (λ tick. nat_eq tick (s.now + 1)) s.now s.accepted (λ t le. ne_eqb t (s.now + 1) (λ e. omega (arith, e, le))) w.past in omega (arith, none);
  minute = minute_later l s w.minute w.past (cases_eq ((s.now + 1) / 60) (s.now / 60));
  day = w.day;
  past = later s.now (s.now + 1) s.accepted (omega arith) w.past;
}

-- ---- A request is accepted
record IsFree (l : Limits) (s : Spent) : Type 0 where
  day : length s.accepted < l.day
  minute : this_minute s < l.minute
  second : this_second s < l.second

accepts : (l : Limits) (n : ℕ) (s : Spent) → SpendsWithin l n s → IsFree l s → SpendsWithin l n (spending s)
accepts l n s w free = record {
  now_is = w.now_is;
  second = let one = counts_one (λ tick. nat_eq tick s.now) s.now s.accepted (eq-eqb s.now s.now refl) in let few = free.second in omega (arith, one, few);
  minute = let one = counts_one (λ tick. nat_eq (tick / 60) (s.now / 60)) s.now s.accepted (eq-eqb (s.now / 60) (s.now / 60) refl) in let few = free.minute in omega (arith, one, few);
  day = let few = free.day in omega (arith, few);
  past = (omega arith, w.past);
}

abbrev limit_by : (day minute second : Bool) → Option ℕ
limit_by day minute second = if day then Some 68 else if minute then Some 77 else if second then Some 83 else None

abbrev status_by : (there many empty : Bool) → ℕ → ℕ
status_by there many empty found = if not there then 85 else if many then 67 else if empty then 79 else found

limit_of : (a b c : Bool) → unwrap_or (limit_by a b c) 65 ≡ 65 → (a ≡ false) × (b ≡ false) × (c ≡ false)
limit_of true b c e = absurd (omega (arith, e))
limit_of false true c e = absurd (omega (arith, e))
limit_of false false true e = absurd (omega (arith, e))
limit_of false false false e = (refl, refl, refl)

free_found : (l : Limits) (s : Spent) (found : Found) → status_found (limits_of l) s found ≡ 65 → IsFree l s
free_found l s Kept e =
    let no = limit_of (nat_le l.day (length s.accepted)) (nat_le l.minute (this_minute s)) (nat_le l.second (this_second s)) e in
    record { day = leb-false l.day (length s.accepted) no.0; minute = leb-false l.minute (this_minute s) no.1; second = leb-false l.second (this_second s) no.2 }
free_found l s (Ahead last) e = absurd (omega (arith, e))
free_found l s (NotKept first) e = absurd (omega (arith, e))

free_after : (there many empty : Bool) (l : Limits) (s : Spent) (found : Found) → status_by there many empty (status_found (limits_of l) s found) ≡ 65 → IsFree l s
free_after false many empty l s found e = absurd (omega (arith, e))
free_after true true empty l s found e = absurd (omega (arith, e))
free_after true false true l s found e = absurd (omega (arith, e))
free_after true false false l s found e = free_found l s found e

free_where : (mine there : Bool) (l : Limits) (view : View) (s : Spent) (sequence count : ℕ) → gap_status mine there (limits_of l) view s sequence count ≡ 65 → IsFree l s
unfolding status_here
free_where false there l view s sequence count e = absurd (omega (arith, e))
free_where true there l view s sequence count e = free_after there (nat_lt 100 count) ((count == 0) || (sequence == 0)) l s (look view sequence count) e

spent_by : (l : Limits) (n : ℕ) (s : Spent) (status : ℕ) → SpendsWithin l n s → (status ≡ 65 → IsFree l s) → (status ≡ 65) ⊎ (status ≢ 65) → SpendsWithin l n (spent_after status s)
spent_by l n s status w free (inl is) = subst (λ (b : Bool). SpendsWithin l n (if b then spending s else s)) (sym (eq-eqb status 65 is)) (accepts l n s w (free is))
spent_by l n s status w free (inr other) = subst (λ (b : Bool). SpendsWithin l n (if b then spending s else s)) (sym (ne_eqb status 65 other)) w

-- ---- Bytes come to the proxy
module _ (setup : Setup) (there : Bool) (l : Limits) (n : ℕ) where
  requested : (view : View) (s : Spent) (unit sequence count : ℕ) → SpendsWithin l n s → SpendsWithin l n (request_answer setup there (limits_of l) view s unit sequence count).knows
  requested view s unit sequence count w =
      let status : ℕ = gap_status (unit == setup.unit) there (limits_of l) view s sequence count in
      spent_by l n s status w (free_where (unit == setup.unit) there l view s sequence count) (cases_eq status 65)

  requested_where : (logged : Bool) (view : View) (s : Spent) (unit sequence count : ℕ) → SpendsWithin l n s
      → SpendsWithin l n (if logged then request_answer setup there (limits_of l) view s unit sequence count else no_answer s).knows
  requested_where false view s unit sequence count w = w
  requested_where true view s unit sequence count w = requested view s unit sequence count w

  messaged : (logged : Bool) (view : View) (s : Spent) (message : SessionMessage) → SpendsWithin l n s → SpendsWithin l n (message_answer setup there (limits_of l) logged s view message).knows
  messaged logged view s (Login sub user password) w = w
  messaged logged view s (GapRequest unit sequence count) w = requested_where logged view s unit sequence count w
  messaged logged view s (LoginReply status) w = w
  messaged logged view s (GapReply unit sequence count status) w = w
  messaged logged view s (SpinAvailable sequence) w = w
  messaged logged view s (SpinRequest sequence) w = w
  messaged logged view s (SpinReply sequence orders status) w = w
  messaged logged view s (SpinFinished sequence) w = w

  said : (logged : Bool) (view : View) (s : Spent) (what : Said) → SpendsWithin l n s → SpendsWithin l n (said_answer setup there (limits_of l) logged s view what).knows
  said logged view s (Message message) w = messaged logged view s message w
  said logged view s Skipped w = w
  said logged view s TooShort w = w

  either : (b : Bool) (s : Spent) (more : Answer Spent) → SpendsWithin l n s → SpendsWithin l n more.knows → SpendsWithin l n (if b then no_answer s else more).knows
  either true s more w m = w
  either false s more w m = m

  answered : (views : List View) (items : List Heard) (logged : Bool) (s : Spent) → SpendsWithin l n s → SpendsWithin l n (answers setup (grp_answer setup there (limits_of l)) logged s views items).knows
  answered [] items logged s w = w
  answered (view ∷ views) [] logged s w = w
  answered (view ∷ views) (item ∷ items) logged s w =
      let one : Answer Spent = grp_answer setup there (limits_of l) logged s view item in
      let first : SpendsWithin l n one.knows = said logged view s (heard_by setup.role item) w in
      either (is_some (cause_of setup logged item)) one.knows (answers setup (grp_answer setup there (limits_of l)) (logged || logs_in setup.role item) one.knows views items) first
      (answered views items (logged || logs_in setup.role item) one.knows first)

fed : (unit : ℕ) (l : Limits) (n : ℕ) (now : VenueState) (bytes : List ℕ) (o : Option (Session Source)) → SpendsWithin l n now.spent → SpendsWithin l n (answers_in (venue_setup unit l) now bytes o).knows
fed unit l n now bytes None w = w
fed unit l n now bytes (Some session) w =
    let setup : Setup = proxy_setup (venue_setup unit l) in
    let source : Source = proxy_source (venue_setup unit l) now session.happened bytes in
    let items : List Heard = new_items session.happened bytes in
    let logged : Bool = logged_in setup.role session.happened in
    either setup true l n (is_some (closed_of setup session.happened)) now.spent (answers setup (grp_answer setup true (limits_of l)) logged now.spent source.views items) w
    (answered setup true l n source.views items logged now.spent w)

-- ---- All verbs
pub spends_within : (unit : ℕ) (l : Limits) (done : List Verb) → SpendsWithin l (ticks_in done) (state_of unit l done).venue.spent
spends_within unit l done =
    (all_hold unit l (λ command. Unit {0}) (λ n messages advertised t. SpendsWithin l n t) (λ now. Unit {0}) (fed unit l) (λ n messages advertised t command is fine w. w) (λ n messages advertised t w. w)
    (λ n messages advertised t w. second_passes l n t w) (λ came now c. c) done (all_say done) (record { now_is = refl; second = omega arith; minute = omega arith; day = omega arith; past = tt }) tt).0
