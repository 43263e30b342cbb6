-- Rounds with the proxy alone, one after another: each brings what was asked for, and one round less
-- is needed.
use Rattle.std.proofs.Common.{◌≡◌, ℕ, zero, suc, ◌+◌, ◌-◌, ◌/◌, ◌^◌, ◌<◌, ◌≤◌, Bool, true, false, cond, List, [], ◌∷◌, ◌++◌, length, take, drop, reverse, refl, sym, ap, ◌∙◌, subst, arith, max, inl, inr, Option, Some, None, nat_eq, unwrap_or, length-append}
use Rattle.std.specs.List.{AllByRecursion, flat_map}
use Rattle.std.proofs.lemmas.Bool.{cases_lt, eq-eqb, ne_eqb, lt-leb}
use Rattle.std.proofs.lemmas.List.{length-take-le, length-drop}
use Rattle.std.proofs.Math.Seq.{drop-append_seam}
use Rattle.pitch_fields.proofs.Lists.{all_take, all_drop}
use Rattle.pitch_fields.specs.Limits.{last_sequence}
use Rattle.pitch_messages.specs.Raw.{IsRaw}
use Rattle.pitch_io.specs.declared.line.Line.TheVariants.{Gap}
use Rattle.pitch_text.specs.declared.verb.Session.TheVariants.{Grp, Spin}
use Rattle.pitch_text.specs.declared.verb.Verb.{Verb}
use Rattle.pitch_text.specs.declared.verb.Verb.TheVariants as verbs
use Rattle.unit_packets.specs.Cutting.{blocks_of}
use Rattle.unit_packets.specs.Packing.{packed}
use Rattle.unit_packets.proofs.OnePacking.{packing_is_computed}
use Rattle.pitch_model.specs.declared.status.Status.TheVariants.{Current, Behind}
use Rattle.pitch_model.specs.Book.{book_after}
use Rattle.pitch_model.specs.History.{Entry, Raw, Message, GrpUp}
use Rattle.pitch_model.specs.Reach.{reach}
use Rattle.pitch_model.specs.Status.{top_of, status_at, status_of}
use Rattle.pitch_model.proofs.Honesty.{honest_top}
use Rattle.pitch_model.proofs.Topmost.{reach_le_top}
use Rattle.pitch_model.specs.Image.{image}
use Rattle.heard_items.specs.Datagrams.{heard_blocks}
use Rattle.heard_items.specs.Heard.{heard_messages, is_fresh}
use Rattle.heard_items.proofs.Answered.{messages_raise}
use Rattle.session_ends.specs.Events.{Event}
use Rattle.gap_store.specs.Look.{slice_of}
use Rattle.grp_session.specs.Asking.{status_here}
use Rattle.grp_session.specs.Budget.{Spent, IsPast, how_many, this_second, this_minute, limit_reached, next_second, spending}
use Rattle.grp_session.specs.Serving.{Source}
use Rattle.client_links.specs.Linking.{Lookups}
use Rattle.venue_end.specs.Servers.{limits_of}
use Rattle.world_model.specs.Ends.{venue_setup}
use Rattle.world_model.specs.State.{State}
use Rattle.world_model.specs.Verbs.{next_state, state_of, client_book}
use Rattle.world_model.specs.declared.limits.Limits.{Limits}
use Rattle.world_laws.specs.Rounds.{proxy_login, proxy_round, with_rounds, state_after, rounds_needed, KeepsMissing, AreAccepted, AreLeft, BringsAsked}
use Rattle.world_laws.proofs.Asked.{HasProxy, Lacks, lacks, count, accepted_here}
use Rattle.world_laws.proofs.Brought.{packing_brings}
use Rattle.world_laws.proofs.EachVerb.{messages_stay}
use Rattle.world_laws.proofs.Finish.{current_reach}
use Rattle.world_laws.proofs.GapPassed.{gap_within}
use Rattle.world_laws.proofs.Joined.{cut_grp, cut_spin, no_proxy, no_spin_server}
use Rattle.world_laws.proofs.Missing.{reached_not_fresh, messages_missing, messages_top}
use Rattle.world_laws.proofs.ProxyRound.{Idle, logged_server, logged_link, login_state, login_idle, Answered, answered, answered_heard, answers_round}
use Rattle.world_laws.proofs.ProxyRun.{seen_view}
use Rattle.world_laws.proofs.ProxyVerbs.{apart, at, rest_came, rest_notes, rest_step, with_heard}
use Rattle.world_laws.proofs.Quiet.{quiet}
use Rattle.world_laws.proofs.Reached.{AreSayable, reached, reached_whole}
use Rattle.world_laws.proofs.Spending.{none_passes, spends_within}
use Rattle.world_laws.proofs.Runs.{sum_on, skip, beyond, one_less}

-- a connection with the proxy stands alone, nothing waits, and the client has all that is on the gap
-- line
pub record Stands (unit : ℕ) (limits : Limits) (x : State) : Type 0 where
  pub server : List (Event Source)
  pub link : List (Event Lookups)
  pub is : x ≡ at [] [] server link x
  pub idle : Idle unit limits server link
  pub has : HasProxy x.client.heard
  pub gap_is : x.passed.gap ≡ length x.replayed

-- ---- Messages say nothing of the ends
messages_has : (first : ℕ) (raws : List Raw) (E : List Entry) → HasProxy E → HasProxy (heard_messages first raws E)
messages_has first [] E has = has
messages_has first (raw ∷ raws) E has = messages_has (first + 1) raws (Message first raw ∷ E) (record { up = has.up; free = has.free; spin = has.spin })

-- ---- One round
abbrev pub after_round : ℕ → Limits → State → State
after_round unit limits x = next_state unit limits (verbs.Rest Gap) (next_state unit limits (verbs.Down Grp None) (next_state unit limits (verbs.Up Grp None) (next_state unit limits verbs.Tick x)))

-- after the round of a state the client has what it asked for
pub record Came (unit : ℕ) (limits : Limits) (x y : State) (count : ℕ) : Type 0 where
  pub stands : Stands unit limits y
  pub spent_is : y.venue.spent ≡ spending (next_second x.venue.spent)
  pub raws : List Raw
  pub many : length raws ≡ count
  pub heard_is : y.client.heard ≡ heard_messages (reach limits.hold x.client.heard + 1) raws (answered_heard (reach limits.hold x.client.heard + 1) count x.client.heard)

module _ (unit : ℕ) (small : unit < 256) (limits : Limits) (x : State) (o : Stands unit limits x) (top count : ℕ) (lack : Lacks limits.hold x.client.heard top count)
    (raws : AllByRecursion IsRaw x.venue.messages) (long : length x.venue.messages ≤ last_sequence) (within : top ≤ length x.venue.messages)
    (kept : length x.venue.messages ≤ reach limits.hold x.client.heard + limits.kept) (free : limit_reached (limits_of (venue_setup unit limits)) (next_second x.venue.spent) ≡ None) where
  abbrev first : ℕ
  first = reach limits.hold x.client.heard + 1

  abbrev part : List Raw
  part = slice_of (seen_view limits x.venue) (reach limits.hold x.client.heard + 1) count

  small_first : first < 256 ^ 4
  small_first = let i = lack.within in omega (arith, i, long, within)

  few_count : count < 256 ^ 2
  few_count = let m = lack.most in omega (arith, m)

  accepted : status_here true (limits_of (venue_setup unit limits)) (seen_view limits x.venue) (next_second x.venue.spent) first count ≡ 65
  accepted =
      let some = lack.some in
      let i = lack.within in
      accepted_here (limits_of (venue_setup unit limits)) (seen_view limits x.venue) (next_second x.venue.spent) first count (omega arith) some lack.most (omega (arith, i, within)) (omega (arith, kept)) free

  part_length : length part ≡ count
  part_length =
      let i = lack.within in
      let dropped = length-drop (first - 1) x.venue.messages in
      length-take-le count (drop (first - 1) x.venue.messages) (omega (arith, dropped, i, within))

  part_raws : AllByRecursion IsRaw part
  part_raws = all_take IsRaw count (drop (first - 1) x.venue.messages) (all_drop IsRaw (first - 1) x.venue.messages raws)

  abbrev later : List Entry
  later = answered_heard first count x.client.heard

  -- it is asked for and answered, and is then on the gap line
  replies : Answered unit limits first count x (at [] [] o.server o.link x)
  replies = answers_round unit limits o.server o.link x o.idle first count small_first few_count lack.ask accepted

  abbrev replied : State
  replied = answered unit limits first count x

  rest_is : drop x.passed.gap replied.replayed ≡ packed unit first part
  rest_is = ap (λ (n : ℕ). drop n (x.replayed ++ packed unit first part)) o.gap_is ∙ drop-append_seam x.replayed (packed unit first part)

  line_brings : heard_blocks (flat_map blocks_of (drop x.passed.gap replied.replayed)) later ≡ heard_messages first part later
  line_brings =
      let i = lack.within in
      ap (λ (ds : List (List ℕ)). heard_blocks (flat_map blocks_of ds) later) rest_is
      ∙ packing_brings unit first part (packed unit first part) later (omega arith)
      (packing_is_computed unit first part small part_raws (inr (inr (omega (arith, part_length, i, within, long)))))

  round_state : after_round unit limits x ≡ at [] [] replies.server replies.link (rest_came (rest_notes unit limits (at [] [] replies.server replies.link replied)) replied)
  round_state = ap (after_round unit limits) o.is ∙ ap (next_state unit limits (verbs.Rest Gap)) replies.is ∙ rest_step unit limits (at [] [] replies.server replies.link replied)

  round_heard : (after_round unit limits x).client.heard ≡ heard_messages first part later
  round_heard = ap (λ (y : State). y.client.heard) round_state ∙ line_brings

  pub came : Came unit limits x (after_round unit limits x) count
  came = record {
    stands = record {
      server = replies.server;
      link = replies.link;
      is = round_state ∙ ap (λ (y : State). at [] [] replies.server replies.link y) (sym round_state);
      idle = replies.idle;
      has = subst HasProxy (sym round_heard) (messages_has first part later (record { up = o.has.up; free = refl; spin = o.has.spin }));
      gap_is =
          let g = o.gap_is in
          let longer : length x.replayed ≤ length replied.replayed = omega (arith, length-append x.replayed (packed unit first part)) in
          let most : max (length replied.replayed) x.passed.gap ≡ length replied.replayed = omega (arith, g, longer) in
          ap (λ (y : State). y.passed.gap) round_state ∙ most ∙ sym (ap (λ (y : State). length y.replayed) round_state);
    };
    spent_is = ap (λ (y : State). y.venue.spent) round_state;
    raws = part;
    many = part_length;
    heard_is = round_heard;
  }

-- ---- What it leaves missing
module _ (unit : ℕ) (limits : Limits) (x y : State) (top count : ℕ) (one : 1 ≤ limits.hold) (told : top_of x.client.heard ≡ Some top) (lack : Lacks limits.hold x.client.heard top count) (C : Came unit limits x y count) where
  abbrev H : ℕ
  H = limits.hold

  abbrev E : List Entry
  E = x.client.heard

  abbrev F : List Entry
  F = heard_messages (reach H E + 1) C.raws (answered_heard (reach H E + 1) count E)

  then_missing : (j : ℕ) → is_fresh H F j ≡ beyond (is_fresh H E) (reach H E + count) j
  then_missing j =
      let m = C.many in
      messages_missing H (reach H E + 1) (reach H E + count) C.raws (answered_heard (reach H E + 1) count E) one (omega arith) (omega (arith, m)) j

  pub then_told : top_of y.client.heard ≡ Some top
  then_told =
      let m = C.many in
      let i = lack.within in
      ap top_of C.heard_is ∙ messages_top (reach H E + 1) top C.raws (answered_heard (reach H E + 1) count E) told (omega (arith, m, i))

  pub then_reach : reach H E + count ≤ reach H y.client.heard
  then_reach =
      let m = C.many in
      let up = messages_raise H (reach H E + 1) C.raws (answered_heard (reach H E + 1) count E) one (omega arith) in
      subst (λ (G : List Entry). reach H E + count ≤ reach H G) (sym C.heard_is) (omega (arith, up, m))

  pub then_needed : rounds_needed H E ≡ suc (rounds_needed H y.client.heard)
  then_needed =
      let falls = one_less (is_fresh H E) (reach H E) count top lack.none lack.all lack.some lack.most lack.within lack.ends in
      let same : is_fresh H y.client.heard ≡ beyond (is_fresh H E) (reach H E + count) = ap (is_fresh H) C.heard_is ∙ (λ i j. then_missing j i) in
      ap (λ (q : Option ℕ). sum_on (is_fresh H E) 0 0 (unwrap_or q 0)) told ∙ falls
      ∙ ap suc (ap (λ (p : ℕ → Bool). sum_on p 0 0 top) (sym same) ∙ ap (λ (q : Option ℕ). sum_on (is_fresh H y.client.heard) 0 0 (unwrap_or q 0)) (sym then_told))

-- ---- Behind
none_needed : (p : ℕ → Bool) (top : ℕ) → ((j : ℕ) → j ≤ top → p j ≡ false) → sum_on p 0 0 top ≡ 0
none_needed p top none = skip p top 0 0 top top (omega arith) (omega arith) (λ j above below. none j below)

-- where rounds are needed, the client is behind
pub behind_by : (H : ℕ) (E : List Entry) → 1 ≤ rounds_needed H E → (top : ℕ) × ((top_of E ≡ Some top) × (reach H E < top))
behind_by H E some = by (top_of E) refl some
  where
    by : (q : Option ℕ) → top_of E ≡ q → 1 ≤ sum_on (is_fresh H E) 0 0 (unwrap_or q 0) → (top : ℕ) × ((top_of E ≡ Some top) × (reach H E < top))
    by None is few = absurd (omega (arith, few))
    by (Some top) is few = elim (cases_lt (reach H E) top) [
      | inl behind ↦ (top, (is, behind))
      | inr all ↦ let none = none_needed (is_fresh H E) top (λ j below. reached_not_fresh H E j (omega (arith, below, all))) in absurd (omega (arith, none, few))
    ]

-- where none is, it is current at the top
pub current_by : (H top : ℕ) (E : List Entry) → HasProxy E → top_of E ≡ Some top → rounds_needed H E ≡ 0 → status_of H E ≡ Current top
current_by H top E has told none =
    let most = reach_le_top H E in
    let top_is : unwrap_or (top_of E) 0 ≡ top = ap (λ o. unwrap_or o 0) told in
    let is : reach H E ≡ top = elim (cases_lt (reach H E) top) [
      | inl behind ↦
          let lack = lacks H E has top told behind in
          let falls = one_less (is_fresh H E) (reach H E) (count H E has top told behind) top lack.none lack.all lack.some lack.most lack.within lack.ends in
          let same = ap (λ (q : Option ℕ). sum_on (is_fresh H E) 0 0 (unwrap_or q 0)) told in
          absurd (omega (arith, none, same, falls))
      | inr all ↦ omega (arith, most, top_is, all)
    ] in
    ap (status_at (reach H E)) told
    ∙ ap (λ m. status_at m (Some top)) is
    ∙ ap (λ b. cond b (Current top) (Behind top top)) (eq-eqb top top refl)

-- ---- A second with no request yet
passing_few : (p : ℕ → Bool) (ticks : List ℕ) → how_many p ticks ≤ length ticks
passing_few p [] = omega arith
passing_few p (t ∷ ticks) = by (p t) (passing_few p ticks)
  where
    by : (b : Bool) → how_many p ticks ≤ length ticks → cond b (suc (how_many p ticks)) (how_many p ticks) ≤ suc (length ticks)
    by true few = omega (arith, few)
    by false few = omega (arith, few)

-- where few enough were accepted in all, no limit is reached in the next one
limits_free : (unit : ℕ) (limits : Limits) (t : Spent) → IsPast t → length t.accepted < limits.day → length t.accepted < limits.minute → 1 ≤ limits.second → limit_reached (limits_of (venue_setup unit limits)) (next_second t) ≡ None
limits_free unit limits t past day minute second =
    let few = passing_few (λ tick. nat_eq (tick / 60) ((t.now + 1) / 60)) t.accepted in
    let none = none_passes (λ tick. nat_eq tick (t.now + 1)) t.now t.accepted (λ k below. ne_eqb k (t.now + 1) (λ e. omega (arith, e, below))) past in
    (λ i. cond (lt-leb limits.day (length t.accepted) day i) (Some 68) (cond (lt-leb limits.minute (this_minute (next_second t)) (omega (arith, few, minute)) i) (Some 77) (cond (lt-leb limits.second (this_second (next_second t)) (omega (arith, none, second)) i) (Some 83) None)))

-- ---- After the login
pub sayable_rounds : (n : ℕ) (done : List Verb) → AreSayable done → AreSayable (with_rounds n done)
sayable_rounds zero done said = (tt, (tt, (tt, (tt, (tt, (tt, said))))))
sayable_rounds (suc n) done said = (tt, (tt, (tt, (tt, sayable_rounds n done said))))

module _ (unit : ℕ) (limits : Limits) (done : List Verb) where
  -- the connections are cut
  abbrev cut : State
  cut = state_of unit limits (verbs.Cut Spin ∷ verbs.Cut Grp ∷ done)

  -- and the gap line's datagrams came
  abbrev pub base : State
  base = state_of unit limits (verbs.Rest Gap ∷ verbs.Cut Spin ∷ verbs.Cut Grp ∷ done)

  rested : base ≡ record (rest_came (rest_notes unit limits cut) cut) { begun = true }
  rested = rest_step unit limits cut

  base_grp : base.client.grp ≡ None
  base_grp = ap (λ (y : State). y.client.grp) rested ∙ (cut_spin unit limits (state_of unit limits (verbs.Cut Grp ∷ done))).stays ∙ (cut_grp unit limits (state_of unit limits done)).gone

  base_spin : base.client.spin ≡ None
  base_spin = ap (λ (y : State). y.client.spin) rested ∙ (cut_spin unit limits (state_of unit limits (verbs.Cut Grp ∷ done))).gone

  base_apart : base ≡ apart base
  base_apart =
      let p = no_proxy unit limits (verbs.Rest Gap ∷ verbs.Cut Spin ∷ verbs.Cut Grp ∷ done) base_grp in
      let q = no_spin_server unit limits (verbs.Rest Gap ∷ verbs.Cut Spin ∷ verbs.Cut Grp ∷ done) base_spin in
      (λ i. record base {
        venue = record base.venue { proxies = p.sessions i; spins = q.sessions i };
        client = record base.client { grp = p.link i; spin = q.link i };
        grp_up = p.up i;
        spin_up = q.up i;
      })

  start_state : state_after unit limits done 0 ≡ at [] [] (logged_server unit limits base) (logged_link unit limits base) (with_heard (GrpUp ∷ base.client.heard) base)
  start_state =
      ap (λ (y : State). next_state unit limits (verbs.Down Grp None) (next_state unit limits (verbs.Up Grp None) (next_state unit limits (verbs.Connect Grp) y))) base_apart
      ∙ login_state unit limits base

  start_heard : (state_after unit limits done 0).client.heard ≡ GrpUp ∷ base.client.heard
  start_heard = ap (λ (y : State). y.client.heard) start_state

  -- nothing more is accepted meanwhile
  pub messages_after : (n : ℕ) → (state_after unit limits done n).venue.messages ≡ (state_of unit limits done).venue.messages
  messages_after zero = messages_stay unit limits (reverse proxy_login) done (tt, (tt, (tt, (tt, (tt, (tt, tt))))))
  messages_after (suc n) = messages_stay unit limits (reverse proxy_round) (with_rounds n done) (tt, (tt, (tt, (tt, tt)))) ∙ messages_after n

  start : Stands unit limits (state_after unit limits done 0)
  start =
      let q = quiet unit limits (verbs.Rest Gap ∷ verbs.Cut Spin ∷ verbs.Cut Grp ∷ done) in
      let w = gap_within unit limits (verbs.Cut Spin ∷ verbs.Cut Grp ∷ done) in
      let most : max (length cut.replayed) cut.passed.gap ≡ length cut.replayed = omega (arith, w) in
      let passed : base.passed.gap ≡ length base.replayed = ap (λ (y : State). y.passed.gap) rested ∙ most ∙ sym (ap (λ (y : State). length y.replayed) rested) in
      record {
        server = logged_server unit limits base;
        link = logged_link unit limits base;
        is = start_state ∙ ap (λ (y : State). at [] [] (logged_server unit limits base) (logged_link unit limits base) y) (sym start_state);
        idle = login_idle unit limits base;
        has = subst HasProxy (sym start_heard) (record { up = refl; free = (q.grp base_grp).free; spin = (q.spin base_spin).down });
        gap_is = ap (λ (y : State). y.passed.gap) start_state ∙ passed ∙ sym (ap (λ (y : State). length y.replayed) start_state);
      }

-- ---- Round by round
module _ (unit : ℕ) (small : unit < 256) (limits : Limits) (done : List Verb) (said : AreSayable done) where
  abbrev after : ℕ → State
  after n = state_after unit limits done n

  -- the top is within the venue's messages
  top_within : (n top : ℕ) → top_of (after n).client.heard ≡ Some top → top ≤ length (after n).venue.messages
  top_within n top told =
      let most = honest_top image (after n).venue.messages (after n).client.heard (reached_whole unit small limits (with_rounds n done) (sayable_rounds n done said)).honest in
      let is : unwrap_or (top_of (after n).client.heard) 0 ≡ top = ap (λ q. unwrap_or q 0) told in
      omega (arith, most, is)

  module _ (one : 1 ≤ limits.hold) where
    abbrev N : ℕ
    N = rounds_needed limits.hold (state_after unit limits done 0).client.heard

    -- n rounds were carried
    record Progress (n : ℕ) : Type 0 where
      stands : Stands unit limits (state_after unit limits done n)
      left : rounds_needed limits.hold (state_after unit limits done n).client.heard + n ≡ rounds_needed limits.hold (state_after unit limits done 0).client.heard
      up : reach limits.hold (state_after unit limits done 0).client.heard ≤ reach limits.hold (state_after unit limits done n).client.heard
      told : top_of (state_after unit limits done n).client.heard ≡ top_of (state_after unit limits done 0).client.heard
      spends : length (state_after unit limits done n).venue.spent.accepted ≡ length (state_after unit limits done 0).venue.spent.accepted + n

    record Steps (n : ℕ) : Type 0 where
      progress : Progress (suc n)
      brings : BringsAsked limits.hold (state_after unit limits done n).client.heard (state_after unit limits done (suc n)).client.heard

    -- at the tick after n rounds no limit is reached
    abbrev IsFree : ℕ → Type 0
    IsFree n = limit_reached (limits_of (venue_setup unit limits)) (next_second (state_after unit limits done n).venue.spent) ≡ None

    begins : Progress 0
    begins = record { stands = start unit limits done; left = omega arith; up = omega arith; told = refl; spends = omega arith }

    steps : (n : ℕ) → Progress n → n < N → KeepsMissing limits (state_after unit limits done 0) → IsFree n → Steps n
    steps n P short kept free =
        let x : State = after n in
        let left = P.left in
        let b = behind_by limits.hold x.client.heard (omega (arith, left, short)) in
        let top : ℕ = b.0 in
        let lack = lacks limits.hold x.client.heard P.stands.has top b.1.0 b.1.1 in
        let many : ℕ = count limits.hold x.client.heard P.stands.has top b.1.0 b.1.1 in
        let same : length x.venue.messages ≡ length (after 0).venue.messages = ap (λ (V : List Raw). length V) (messages_after unit limits done n ∙ sym (messages_after unit limits done 0)) in
        let feed = reached unit limits (with_rounds n done) (sayable_rounds n done said) in
        let up = P.up in
        let C : Came unit limits x (after (suc n)) many =
        came unit small limits x P.stands top many lack feed.raws feed.few (top_within n top b.1.0) (omega (arith, kept, same, up)) free in
        let needed = then_needed unit limits x (after (suc n)) top many one b.1.0 lack C in
        let rise = then_reach unit limits x (after (suc n)) top many one b.1.0 lack C in
        record {
          progress = record {
            stands = C.stands;
            left = omega (arith, needed, left);
            up = omega (arith, up, rise);
            told = then_told unit limits x (after (suc n)) top many one b.1.0 lack C ∙ sym b.1.0 ∙ P.told;
            spends = let one_more = ap (λ (t : Spent). length t.accepted) C.spent_is in let before = P.spends in omega (arith, one_more, before);
          };
          brings = record { count = many; some = lack.some; asked = lack.ask; came = rise };
        }

    goes : (n : ℕ) → n ≤ N → KeepsMissing limits (state_after unit limits done 0) → ((k : ℕ) → k < n → IsFree k) → Progress n
    goes zero short kept free = begins
    goes (suc n) short kept free = (steps n (goes n (omega (arith, short)) kept (λ k less. free k (omega (arith, less)))) short kept (free n (omega arith))).progress

    pub each_brings : (n : ℕ) → n < N → AreAccepted unit limits done (n + 1) → BringsAsked limits.hold (state_after unit limits done n).client.heard (state_after unit limits done (n + 1)).client.heard
    each_brings n short all =
        let one_more : suc n ≡ n + 1 = omega arith in
        let S = steps n (goes n (omega (arith, short)) all.kept (λ k less. all.allowed k (omega (arith, less)))) short all.kept (all.allowed n (omega arith)) in
        subst (λ (m : ℕ). BringsAsked limits.hold (after n).client.heard (after m).client.heard) one_more S.brings

    pub left_needed : (n : ℕ) → n ≤ N → AreAccepted unit limits done n → rounds_needed limits.hold (state_after unit limits done n).client.heard + n ≡ N
    left_needed n short all = (goes n short all.kept all.allowed).left

    -- after all of them
    module _ (n top : ℕ) (is : n ≡ N) (all : AreAccepted unit limits done n) (told : top_of (state_after unit limits done 0).client.heard ≡ Some top) where
      last : Progress n
      last = goes n (omega (arith, is)) all.kept all.allowed

      pub ends_current : status_of limits.hold (state_after unit limits done n).client.heard ≡ Current top
      ends_current = let left = last.left in current_by limits.hold top (after n).client.heard last.stands.has (last.told ∙ told) (omega (arith, left, is))

      -- its book is then the one that the messages up to the top leave
      pub ends_book : client_book limits (state_after unit limits done n) ≡ book_after (take top (state_of unit limits done).venue.messages)
      ends_book =
          let reached_top = current_reach limits.hold top (after n).client.heard ends_current in
          let messages = messages_after unit limits done n in
          (λ i. book_after (take (reached_top i) (messages i)))

    -- ---- Where the limits leave enough
    module _ (kept : KeepsMissing limits (state_after unit limits done 0)) where
      free_at : (n m : ℕ) → Progress m → m < n → AreLeft limits (state_after unit limits done 0).venue.spent n → IsFree m
      free_at n m P less left =
          let spends = P.spends in
          let minute = left.minute in
          let day = left.day in
          limits_free unit limits (after m).venue.spent (spends_within unit limits (with_rounds m done)).past (omega (arith, spends, day, less)) (omega (arith, spends, minute, less)) left.second

      allowed_to : (n : ℕ) → n ≤ N → AreLeft limits (state_after unit limits done 0).venue.spent n → (k : ℕ) → k < n → IsFree k
      allowed_to zero short left k less = absurd (omega (arith, less))
      allowed_to (suc n) short left k less =
          let minute = left.minute in
          let day = left.day in
          let before = allowed_to n (omega (arith, short)) (record { second = left.second; minute = omega (arith, minute); day = omega (arith, day) }) in
          elim (cases_lt k n) [
            | inl earlier ↦ before k earlier
            | inr last ↦
                let is : n ≡ k = omega (arith, less, last) in
                subst IsFree is (free_at (suc n) n (goes n (omega (arith, short)) kept before) (omega arith) left)
          ]

      pub limits_allow : (n : ℕ) → n ≤ N → AreLeft limits (state_after unit limits done 0).venue.spent n → AreAccepted unit limits done n
      limits_allow n short left = record { kept = kept; allowed = allowed_to n short left }
