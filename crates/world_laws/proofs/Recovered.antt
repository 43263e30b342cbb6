-- A client that lost its connections is current after one round with a Spin Server, at all that the
-- venue accepted.
use Rattle.std.proofs.Common.{◌≡◌, ℕ, ◌<◌, ◌≤◌, Bool, true, false, ◌&&◌, ◌||◌, not, cond, List, [], ◌∷◌, length, refl, sym, ap, ◌∙◌, subst, arith, max, Option, Some, None, inl, inr, nat_lt, unwrap_or}
use Rattle.std.proofs.lemmas.Bool.{eq-eqb, ne_eqb, lt-ltb, and_from, cases_lt}
use Rattle.pitch_fields.specs.Limits.{last_sequence}
use Rattle.pitch_text.specs.declared.verb.Session.TheVariants.{Spin as SpinSession}
use Rattle.pitch_text.specs.declared.verb.Verb.TheVariants as verbs
use Rattle.pitch_model.specs.declared.ask.Ask.TheVariants as asks
use Rattle.pitch_model.specs.declared.status.Status.TheVariants.{Current, Behind}
use Rattle.pitch_model.specs.Advertising.{last_ten, newest_of, with_sequence}
use Rattle.pitch_model.specs.Asking.{ask_of, ask_with, spin_or_gap, gap_or_none, wants, is_grp_up, is_spin_up, is_idle, advertised_of}
use Rattle.pitch_model.specs.History.{Entry, NoSpin, spin_of}
use Rattle.pitch_model.specs.History as entry
use Rattle.pitch_model.specs.Honest.{Honest}
use Rattle.pitch_model.specs.Image.{image}
use Rattle.pitch_model.specs.Reach.{reach}
use Rattle.pitch_model.specs.Status.{raised, top_of, status_at, status_of}
use Rattle.pitch_model.proofs.Honesty.{honest_top}
use Rattle.pitch_model.proofs.Topmost.{reach_le_top}
use Rattle.grp_session.specs.Budget.{Spent, next_second}
use Rattle.spin_server.specs.Served.{is_served}
use Rattle.heard_items.specs.Heard.{heard_all}
use Rattle.spin_path.specs.PathLaws.{IsFeed}
use Rattle.world_model.specs.State.{State}
use Rattle.world_model.specs.Verbs.{next_state}
use Rattle.world_model.specs.declared.limits.Limits.{Limits}
use Rattle.world_laws.proofs.Lasting.{Lasts, verb_lasts, reached_lasts, IsTold, told_lasts}
use Rattle.world_laws.proofs.ImageRound.{SpinConnection}
use Rattle.world_laws.proofs.RoundVerbs.{at}
use Rattle.world_laws.proofs.ImageTaken.{login_items, newest, c3, c6, E1, advertised_state, told_state, asked_state, served_state, image_reached}

-- ---- What was heard of a login and an advertised sequence
told_spin : (n : ℕ) (o : Option ℕ) (E : List Entry) → spin_of (heard_all (login_items o n) E) ≡ spin_of E
told_spin n None E = refl
told_spin n (Some m) E = refl

told_up : (n : ℕ) (o : Option ℕ) (E : List Entry) → is_spin_up (heard_all (login_items o n) E) ≡ true
told_up n None E = refl
told_up n (Some m) E = refl

told_grp : (n : ℕ) (o : Option ℕ) (E : List Entry) → is_grp_up (heard_all (login_items o n) E) ≡ is_grp_up E
told_grp n None E = refl
told_grp n (Some m) E = refl

told_newest : (n : ℕ) (o : Option ℕ) (E : List Entry) → ((m : ℕ) → o ≡ Some m → m ≤ n) → advertised_of E ≡ None → advertised_of (heard_all (login_items o n) E) ≡ Some n
told_newest n None E few none = ap (raised (n ∷ [])) none
told_newest n (Some m) E few none =
    let le = few m refl in
    ap (λ (x : Option ℕ). raised (n ∷ []) (raised (m ∷ []) x)) none ∙ ap Some (omega (arith, le))

-- the advertised sequence was told of
pub told_by : (n : ℕ) (o : Option ℕ) → (q : ℕ) × ((raised (n ∷ []) o ≡ Some q) × (n ≤ q))
told_by n None = (n, (refl, omega arith))
told_by n (Some t) = (max n t, (refl, omega arith))

told_top : (n : ℕ) (o : Option ℕ) (E : List Entry) → IsTold n (heard_all (login_items o n) E)
told_top n None E = told_by n (top_of E)
told_top n (Some m) E = told_by n (raised (m ∷ []) (top_of E))

-- ---- The ask
asks_image : (H n q : ℕ) (F : List Entry) → top_of F ≡ Some q → n ≤ q → reach H F < n → is_grp_up F ≡ false → is_spin_up F ≡ true → spin_of F ≡ NoSpin → advertised_of F ≡ Some n → ask_of H F ≡ Some (asks.Spin n)
asks_image H n q F top le below grp up none newest =
    ap (ask_with H F) top
    ∙ ap (λ (b : Bool). cond b None (spin_or_gap H F q (advertised_of F))) (ne_eqb (reach H F) q (λ e. omega (arith, e, le, below)))
    ∙ ap (spin_or_gap H F q) newest
    ∙ ap (λ (b : Bool). cond b (Some (asks.Spin n)) (gap_or_none H F q))
    (and_from (wants H F q || not (is_grp_up F)) (is_spin_up F && (is_idle (spin_of F) && nat_lt (reach H F) n)) (ap (λ (b : Bool). wants H F q || not b) grp ∙ or_true (wants H F q))
    (and_from (is_spin_up F) (is_idle (spin_of F) && nat_lt (reach H F) n) up (and_from (is_idle (spin_of F)) (nat_lt (reach H F) n) (ap is_idle none) (lt-ltb (reach H F) n below))))
  where
    or_true : (b : Bool) → (b || true) ≡ true
    or_true true = refl
    or_true false = refl

-- ---- The round
module _ (unit : ℕ) (small : unit < 256) (limits : Limits) (s : State) (t : Spent) (A : List ℕ) (E : List Entry) (venues : IsFeed s.venue.messages)
    (old : (m : ℕ) → newest_of (last_ten A) ≡ Some m → m ≤ length s.venue.messages) (served : is_served (record { messages = s.venue.messages; advertised = last_ten (with_sequence A (length s.venue.messages)) }) (length s.venue.messages) ≡ true)
    (grp : is_grp_up E ≡ false) (idle : spin_of E ≡ NoSpin) (none : advertised_of E ≡ None) where
  abbrev n : ℕ
  n = length s.venue.messages

  abbrev H : ℕ
  H = limits.hold

  pub few : (m : ℕ) → newest_of (last_ten A) ≡ Some m → m ≤ last_sequence
  few m is = let le = old m is in let top = venues.top in omega (arith, le, top)

  abbrev F : List Entry
  F = E1 unit small limits s t A E venues few

  abbrev A' : List ℕ
  A' = with_sequence A n

  abbrev k3 : SpinConnection
  k3 = c3 unit small limits s t A E venues few

  -- after an open, an up, an advertise and a down
  abbrev begun : State
  begun = next_state unit limits (verbs.Down SpinSession None) (next_state unit limits verbs.Advertise (next_state unit limits (verbs.Up SpinSession None) (next_state unit limits (verbs.Connect SpinSession) (at s t A None E))))

  begun_is : begun ≡ at s t A' (Some k3) F
  begun_is = ap (next_state unit limits (verbs.Down SpinSession None)) (advertised_state unit small limits s t A E) ∙ told_state unit small limits s t A E venues few

  abbrev pub whole : State
  whole = next_state unit limits (verbs.Down SpinSession None) (next_state unit limits (verbs.Up SpinSession None) (next_state unit limits verbs.Tick begun))

  -- what lasts of a history holds of it then, whatever is asked
  whole_lasts : (P : List Entry → Type 0) → Lasts P → P F → P whole.client.heard
  whole_lasts P lasts p =
      let ticked : State = next_state unit limits verbs.Tick begun in
      let at_begun : P begun.client.heard = subst (λ (x : State). P x.client.heard) (sym begun_is) p in
      verb_lasts P lasts unit limits (verbs.Down SpinSession None) (next_state unit limits (verbs.Up SpinSession None) ticked)
      (verb_lasts P lasts unit limits (verbs.Up SpinSession None) ticked (verb_lasts P lasts unit limits verbs.Tick begun at_begun))

  told_now : IsTold n F
  told_now = told_top n (newest unit small limits s t A E) E

  pub whole_told : IsTold n whole.client.heard
  whole_told = whole_lasts (IsTold n) (told_lasts n) told_now

  pub whole_reached : n ≤ reach H whole.client.heard
  whole_reached = elim (cases_lt (reach H F) n) [
    | inl below ↦
        let q = told_now in
        let o = newest unit small limits s t A E in
        let ask : ask_of H F ≡ Some (asks.Spin n) =
        asks_image H n q.0 F q.1.0 q.1.1 below (told_grp n o E ∙ grp) (told_up n o E) (told_spin n o E ∙ idle) (told_newest n o E old none) in
        let is : whole ≡ next_state unit limits (verbs.Down SpinSession None) (at s (next_second t) A' (Some (c6 unit small limits s t A E venues few served)) (entry.Ticked (Some (asks.Spin n)) ∷ F)) =
        ap (λ (x : State). next_state unit limits (verbs.Down SpinSession None) (next_state unit limits (verbs.Up SpinSession None) (next_state unit limits verbs.Tick x))) begun_is
        ∙ ap (λ (x : State). next_state unit limits (verbs.Down SpinSession None) (next_state unit limits (verbs.Up SpinSession None) x)) (asked_state unit small limits s t A E venues few ask)
        ∙ ap (next_state unit limits (verbs.Down SpinSession None)) (served_state unit small limits s t A E venues few served) in
        image_reached unit small limits s t A E venues few served whole is
    | inr known ↦ whole_lasts (λ G. n ≤ reach H G) (reached_lasts H n) known
  ]

  -- what was heard is honest: then it is current at all that was accepted
  pub whole_current : Honest image s.venue.messages whole.client.heard → status_of H whole.client.heard ≡ Current n
  whole_current honest =
      let q = whole_told in
      let r = whole_reached in
      let top : unwrap_or (top_of whole.client.heard) 0 ≡ q.0 = ap (λ o. unwrap_or o 0) q.1.0 in
      let most = honest_top image s.venue.messages whole.client.heard honest in
      let within = reach_le_top H whole.client.heard in
      let le = q.1.1 in
      let top_is : q.0 ≡ n = omega (arith, top, most, le) in
      let reach_is : reach H whole.client.heard ≡ n = omega (arith, r, within, top, most) in
      ap (status_at (reach H whole.client.heard)) (q.1.0 ∙ ap Some top_is)
      ∙ ap (λ (m : ℕ). status_at m (Some n)) reach_is
      ∙ ap (λ (b : Bool). cond b (Current n) (Behind n n)) (eq-eqb n n refl)
