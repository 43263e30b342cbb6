-- A recovery ends, wherever it begins: the client is current at all that the venue accepted.
use Rattle.std.proofs.Common.{◌≡◌, ℕ, zero, suc, ◌-◌, ◌<◌, ◌≤◌, Bool, true, false, ◌||◌, cond, List, [], ◌∷◌, ◌++◌, length, drop, refl, sym, ap, ◌∙◌, subst, arith, Option, Some, None, nat_eq, ◌==◌, reverse, take}
use Rattle.std.specs.List.{AllByRecursion, list_any, slice_get}
use Rattle.std.specs.Set.{is_member}
use Rattle.std.proofs.lemmas.Bool.{eq-eqb, or_left, or_right}
use Rattle.std.proofs.lemmas.List.Folds.{list_any-append}
use Rattle.std.proofs.lemmas.List.{take_all}
use Rattle.std.proofs.lemmas.Option.{none-some, same_Some, slice_get_past, slice_get_within}
use Rattle.pitch_fields.proofs.Lists.{all_drop, all_split, all_get}
use Rattle.pitch_text.specs.declared.verb.Session.TheVariants.{Grp, Spin}
use Rattle.pitch_text.specs.declared.verb.Verb.{Verb}
use Rattle.pitch_text.specs.declared.verb.Verb.TheVariants as verbs
use Rattle.pitch_model.specs.declared.status.Status.TheVariants.{Current, Behind}
use Rattle.pitch_model.specs.Reach.{reach}
use Rattle.pitch_model.specs.Book.{book_after}
use Rattle.pitch_model.specs.Advertising.{last_ten, newest_of, with_sequence, accepted_by, advertised_by}
use Rattle.pitch_model.proofs.Advertising.{advertised_within, newest_repeats}
use Rattle.pitch_model.specs.History.{Entry, Raw}
use Rattle.pitch_model.specs.Honest.{Honest}
use Rattle.pitch_model.specs.Image.{image}
use Rattle.pitch_model.specs.Status.{top_of, status_at, status_of}
use Rattle.spin_path.specs.PathLaws.{IsFeed}
use Rattle.world_laws.specs.Recovery.{recovery}
use Rattle.world_model.specs.State.{State}
use Rattle.world_model.specs.Verbs.{next_state, state_of, client_book}
use Rattle.world_model.specs.declared.limits.Limits.{Limits}
use Rattle.world_laws.proofs.EachVerb.{messages_stay}
use Rattle.world_laws.proofs.Joined.{cut_grp, cut_spin, no_proxy, no_spin_server}
use Rattle.world_laws.proofs.Quiet.{quiet}
use Rattle.world_laws.proofs.Reached.{Advertises, AreSayable, advertises_all, reached, reached_feed, reached_whole}
use Rattle.world_laws.proofs.Recovered.{whole, whole_current}
use Rattle.world_laws.proofs.RoundVerbs.{at}

-- ---- Lists
last_dropped : (j : ℕ) (xs : List ℕ) (x : ℕ) → slice_get xs (length xs - 1) ≡ Some x → j < length xs → slice_get (drop j xs) (length (drop j xs) - 1) ≡ Some x
last_dropped zero xs x at less = at
last_dropped (suc j) [] x at less = absurd (omega arith)
last_dropped (suc j) (y ∷ ys) x at less =
    let e : length (y ∷ ys) - 1 ≡ suc (length ys - 1) = omega (arith, less) in
    last_dropped j ys x (sym (ap (slice_get (y ∷ ys)) e) ∙ at) (omega (arith, less))

any_at : (xs : List ℕ) (i n : ℕ) → slice_get xs i ≡ Some n → list_any (λ k. k == n) xs ≡ true
any_at [] i n at = absurd (none-some n (sym (slice_get_past [] i (omega arith)) ∙ at))
any_at (x ∷ xs) zero n at = or_left (x == n) (list_any (λ k. k == n) xs) (eq-eqb x n (same_Some x n at))
any_at (x ∷ xs) (suc i) n at = or_right (x == n) (list_any (λ k. k == n) xs) (any_at xs i n at)

newest_ten : (xs : List ℕ) (n : ℕ) → newest_of xs ≡ Some n → newest_of (last_ten xs) ≡ Some n
newest_ten xs n at = let within = slice_get_within xs (length xs - 1) n at in last_dropped (length xs - 10) xs n at (omega (arith, within))

-- the newest sequence is served
newest_served : (xs : List ℕ) (n : ℕ) → newest_of xs ≡ Some n → list_any (λ k. k == n) (last_ten (last_ten xs)) ≡ true
newest_served xs n at = let ys = last_ten (last_ten xs) in any_at ys (length ys - 1) n (newest_ten (last_ten xs) n (newest_ten xs n at))

-- ---- All that was accepted was advertised last
with_has : (A : List ℕ) (n : ℕ) → is_member nat_eq (with_sequence A n) n ≡ true
with_has A n = by (is_member nat_eq A n) refl
  where
    by : (b : Bool) → is_member nat_eq A n ≡ b → is_member nat_eq (cond b A (A ++ n ∷ [])) n ≡ true
    by true is = is
    by false is = list_any-append (nat_eq n) A (n ∷ []) ∙ or_right (list_any (nat_eq n) A) (nat_eq n n || false) (or_left (nat_eq n n) false (eq-eqb n n refl))

with_all : (P : ℕ → Type 0) (A : List ℕ) (n : ℕ) → AllByRecursion P (with_sequence A n) → AllByRecursion P A
with_all P A n = by (is_member nat_eq A n)
  where
    by : (b : Bool) → AllByRecursion P (cond b A (A ++ n ∷ [])) → AllByRecursion P A
    by true all = all
    by false all = (all_split P A (n ∷ []) all).0

module _ (V : List Raw) (A : List ℕ) (tells : Advertises V (with_sequence A (length V))) where
  many : length (accepted_by tells.operations) ≡ length V
  many = ap (λ (l : List Raw). length l) tells.accepted_is

  newest_is : newest_of (with_sequence A (length V)) ≡ Some (length V)
  newest_is =
      let there : is_member nat_eq (advertised_by tells.operations) (length (accepted_by tells.operations)) ≡ true =
      ap (λ (l : List ℕ). is_member nat_eq l (length (accepted_by tells.operations))) tells.advertised_is ∙ ap (is_member nat_eq (with_sequence A (length V))) many ∙ with_has A (length V) in
      ap newest_of (sym tells.advertised_is) ∙ newest_repeats tells.operations there ∙ ap Some many

  all_within : AllByRecursion (λ m. m ≤ length V) A
  all_within =
      with_all (λ m. m ≤ length V) A (length V)
      (subst (λ (n : ℕ). AllByRecursion (λ m. m ≤ n) (with_sequence A (length V))) many
      (subst (λ (l : List ℕ). AllByRecursion (λ m. m ≤ length (accepted_by tells.operations)) l) tells.advertised_is (advertised_within tells.operations)))

  old_within : (m : ℕ) → newest_of (last_ten A) ≡ Some m → m ≤ length V
  old_within m is = all_get (λ m. m ≤ length V) (last_ten A) (length (last_ten A) - 1) m (all_drop (λ m. m ≤ length V) (length A - 10) A all_within) is

-- ---- The round ends current
-- after the round all is as it was, but for what was advertised
abbrev pub after_round : ℕ → Limits → State → State
after_round unit limits s = next_state unit limits (verbs.Down Spin None) (next_state unit limits (verbs.Up Spin None) (next_state unit limits verbs.Tick (next_state unit limits (verbs.Down Spin None) (next_state unit limits verbs.Advertise
    (next_state unit limits (verbs.Up Spin None) (next_state unit limits (verbs.Connect Spin) s))))))

-- its verbs, before others
abbrev round_verbs : List Verb
round_verbs = verbs.Down Spin None ∷ verbs.Up Spin None ∷ verbs.Tick ∷ verbs.Down Spin None ∷ verbs.Advertise ∷ verbs.Up Spin None ∷ verbs.Connect Spin ∷ []

round_messages : (unit : ℕ) (limits : Limits) (before : List Verb) → (after_round unit limits (state_of unit limits before)).venue.messages ≡ (state_of unit limits before).venue.messages
round_messages unit limits before = messages_stay unit limits round_verbs before (tt, (tt, (tt, (tt, (tt, (tt, (tt, tt)))))))

pub round_current : (unit : ℕ) (limits : Limits) (before : List Verb) → unit < 256 → AreSayable before → (state_of unit limits before).begun ≡ true → (state_of unit limits before).client.grp ≡ None → (state_of unit limits before).client.spin ≡ None
    → status_of limits.hold (after_round unit limits (state_of unit limits before)).client.heard ≡ Current (length (state_of unit limits before).venue.messages)
round_current unit limits before small said begun grp spin =
    let s : State = state_of unit limits before in
    let V : List Raw = s.venue.messages in
    let A : List ℕ = s.venue.advertised in
    let x : State = after_round unit limits s in
    let after : List Verb = round_verbs ++ before in
    let honest : Honest image x.venue.messages x.client.heard = (reached_whole unit small limits after (tt, (tt, (tt, (tt, (tt, (tt, (tt, said)))))))).honest in
    let venues : IsFeed V = reached_feed unit limits before said in
    let tells : Advertises V (with_sequence A (length V)) = advertises_all V A (reached unit limits before said).advertises in
    let q = quiet unit limits before in
    let off = q.spin spin in
    let old = old_within V A tells in
    let served = newest_served (with_sequence A (length V)) (length V) (newest_is V A tells) in
    let no_grp = no_proxy unit limits before grp in
    let no_spin = no_spin_server unit limits before spin in
    let same : s ≡ at s s.venue.spent A None s.client.heard =
    (λ i. record s { begun = begun i; venue = record s.venue { proxies = no_grp.sessions i; spins = no_spin.sessions i }; client = record s.client { grp = grp i; spin = spin i }; grp_up = no_grp.up i; spin_up = no_spin.up i }) in
    let y : State = whole unit small limits s s.venue.spent A s.client.heard venues old served (q.grp grp).down off.idle off.none in
    let is : x ≡ y = ap (after_round unit limits) same in
    ap (λ (z : State). status_of limits.hold z.client.heard) is
    ∙ whole_current unit small limits s s.venue.spent A s.client.heard venues old served (q.grp grp).down off.idle off.none
    (subst (λ (z : State). Honest image V z.client.heard) is (subst (λ (W : List Raw). Honest image W x.client.heard) (round_messages unit limits before) honest))

-- ---- Both finishes
module _ (unit : ℕ) (limits : Limits) (done : List Verb) where
  -- the messages that were accepted before the round
  abbrev pub accepted : List Raw
  accepted = (state_of unit limits done).venue.messages

  -- the proxy is cut, where no connection with a Spin Server stands
  abbrev pub proxy_cut : State
  proxy_cut = after_round unit limits (state_of unit limits (verbs.Cut Grp ∷ done))

  grp_cut_messages : (state_of unit limits (verbs.Cut Grp ∷ done)).venue.messages ≡ accepted
  grp_cut_messages = messages_stay unit limits (verbs.Cut Grp ∷ []) done (tt, tt)

  pub proxy_cut_accepted : proxy_cut.venue.messages ≡ accepted
  proxy_cut_accepted = round_messages unit limits (verbs.Cut Grp ∷ done) ∙ grp_cut_messages

  pub proxy_cut_current : unit < 256 → AreSayable done → (state_of unit limits done).client.spin ≡ None → status_of limits.hold proxy_cut.client.heard ≡ Current (length accepted)
  proxy_cut_current small said none =
      let cut = cut_grp unit limits (state_of unit limits done) in
      round_current unit limits (verbs.Cut Grp ∷ done) small (tt, said) refl cut.gone (cut.stays ∙ none) ∙ ap (λ (V : List Raw). Current (length V)) grp_cut_messages

  -- both are cut
  abbrev recovered : State
  recovered = state_of unit limits (reverse recovery ++ done)

  both_cut : (state_of unit limits (verbs.Cut Spin ∷ verbs.Cut Grp ∷ done)).venue.messages ≡ accepted
  both_cut = messages_stay unit limits (verbs.Cut Spin ∷ verbs.Cut Grp ∷ []) done (tt, (tt, tt))

  recovered_accepted : recovered.venue.messages ≡ accepted
  recovered_accepted = round_messages unit limits (verbs.Cut Spin ∷ verbs.Cut Grp ∷ done) ∙ both_cut

  pub recovery_current : unit < 256 → AreSayable done → status_of limits.hold recovered.client.heard ≡ Current (length accepted)
  recovery_current small said =
      let one = cut_grp unit limits (state_of unit limits done) in
      let two = cut_spin unit limits (state_of unit limits (verbs.Cut Grp ∷ done)) in
      round_current unit limits (verbs.Cut Spin ∷ verbs.Cut Grp ∷ done) small (tt, (tt, said)) refl (two.stays ∙ one.gone) two.gone ∙ ap (λ (V : List Raw). Current (length V)) both_cut

-- ---- The book
current_at : (r n : ℕ) (o : Option ℕ) → status_at r o ≡ Current n → r ≡ n
current_at r n None e = cc (e)
current_at r n (Some top) e = by (nat_eq r top) e
  where
    by : (b : Bool) → cond b (Current r) (Behind r top) ≡ Current n → r ≡ n
    by true f = cc (f)
    by false f = cc (f)

-- a client that is current at a place has reached it
pub current_reach : (H n : ℕ) (E : List Entry) → status_of H E ≡ Current n → reach H E ≡ n
current_reach H n E is = current_at (reach H E) n (top_of E) is

-- the book of a client that is current at the last of the messages is that of all
pub book_of_all : (limits : Limits) (x : State) (V : List Raw) → x.venue.messages ≡ V → status_of limits.hold x.client.heard ≡ Current (length V) → client_book limits x ≡ book_after V
book_of_all limits x V accepted is =
    ap (λ (n : ℕ). book_after (take n x.venue.messages)) (current_reach limits.hold (length V) x.client.heard is)
    ∙ ap (λ (W : List Raw). book_after (take (length V) W)) accepted
    ∙ ap book_after (take_all (length V) V (omega arith))

pub recovery_book : (unit : ℕ) (limits : Limits) (done : List Verb) → unit < 256 → AreSayable done → client_book limits (state_of unit limits (reverse recovery ++ done)) ≡ book_after (state_of unit limits done).venue.messages
recovery_book unit limits done small said =
    book_of_all limits (state_of unit limits (reverse recovery ++ done)) (state_of unit limits done).venue.messages (recovered_accepted unit limits done) (recovery_current unit limits done small said)
