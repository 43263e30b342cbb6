-- A client that is behind asks for what it lacks, and what it asks for raises its reach.
use Rattle.std.proofs.Common.{◌≡◌, ◌≢◌, ℕ, suc, ◌+◌, ◌-◌, ◌≤◌, ◌<◌, Bool, true, false, ◌&&◌, ◌||◌, not, cond, List, [], ◌∷◌, eqb, ltb, min, refl, sym, ap, ◌∙◌, subst, inl, inr, arith, Option, Some, None, unwrap_or, option_map, is_some}
use Rattle.std.proofs.lemmas.Bool.{and_parts, and_from, false≢true, both_ways, eq-eqb, lt-ltb, ltb-true, cases_Bool, cases_lt, cases_eq}
use Rattle.std.proofs.lemmas.Option.{none-some, same_Some}
use Rattle.pitch_model.specs.declared.ask.Ask.{Ask}
use Rattle.pitch_model.specs.declared.ask.Ask.TheVariants.{Gap, Spin}
use Rattle.pitch_model.specs.declared.status.Status.TheVariants.{Current, Behind}
use Rattle.pitch_model.specs.History.{Entry, Raw, SpinFinished, spin_of, image_finished}
use Rattle.pitch_model.specs.Reach.{SinceOverflow, is_seen, reach_of, held_of, since_overflow, reach, is_held}
use Rattle.pitch_model.specs.Status.{status_at, status_of, top_of}
use Rattle.pitch_model.specs.Asking.{is_grp_up, is_spin_up, owes, advertised_of, wants, least_held, is_idle, gap_ask, asks_spin, gap_or_none, spin_or_gap, ask_with, ask_of}
use Rattle.pitch_model.specs.Recovering.{IsGapAsk, IsSpinAsk}
use Rattle.pitch_model.proofs.Reaching.{member_le_largest, next_unseen}
use Rattle.pitch_model.proofs.Topmost.{reach_le_top, part_le_top}
use Rattle.pitch_model.proofs.Rises.{reach_rises}
use Rattle.pitch_model.proofs.Least.{least_member, least_there, member_held}
use Rattle.pitch_model.proofs.Draining.{taken_drains}

-- ---- Behind
-- a client that is behind was told of a top that is not its reach
behind_is : (r n top : ℕ) (o : Option ℕ) → status_at r o ≡ Behind n top → (r ≡ n) × ((o ≡ Some top) × (eqb r top ≡ false))
behind_is r n top None e = cc (e)
behind_is r n top (Some t) e = by (eqb r t) refl e
  where
    by : (b : Bool) → eqb r t ≡ b → cond b (Current r) (Behind r t) ≡ Behind n top → (r ≡ n) × ((Some t ≡ Some top) × (eqb r top ≡ false))
    by true is f = cc (f)
    by false is f =
        let n_is : r ≡ n = cc (f) in
        let top_is : t ≡ top = cc (f) in
        (n_is, (ap Some top_is, ap (eqb r) (sym top_is) ∙ is))

-- it asks by what was advertised
behind_asks : (H : ℕ) (E : List Entry) (n top : ℕ) → status_of H E ≡ Behind n top → ask_of H E ≡ spin_or_gap H E top (advertised_of E)
behind_asks H E n top e =
    let b = behind_is (reach H E) n top (top_of E) e in
    ap (ask_with H E) b.1.0 ∙ ap (λ c. cond c None (spin_or_gap H E top (advertised_of E))) b.1.1

-- the proxy is up and owes no reply: something is asked
pub behind_with_proxy : (H : ℕ) (E : List Entry) (n top : ℕ) → status_of H E ≡ Behind n top → is_grp_up E ≡ true → owes E ≡ false → is_some (ask_of H E) ≡ true
behind_with_proxy H E n top e up free = ap is_some (behind_asks H E n top e) ∙ by (advertised_of E)
  where
    ready : (is_grp_up E && not (owes E)) ≡ true
    ready = and_from (is_grp_up E) (not (owes E)) up (ap not free)

    gap : is_some (gap_or_none H E top) ≡ true
    gap = ap (λ b. is_some (cond b (Some (gap_ask (reach H E) (least_held H E) top)) None)) ready

    either : (b : Bool) (s : ℕ) → is_some (cond b (Some (Spin s)) (gap_or_none H E top)) ≡ true
    either true s = refl
    either false s = gap

    by : (o : Option ℕ) → is_some (spin_or_gap H E top o) ≡ true
    by None = gap
    by (Some s) = either (asks_spin H E top s) s

-- the Spin Server is up, no spin is under way, and an image above the reach is advertised and
-- wanted: it is asked for
pub behind_with_images : (H : ℕ) (E : List Entry) (n top sequence : ℕ) → status_of H E ≡ Behind n top → is_spin_up E ≡ true → is_idle (spin_of E) ≡ true → advertised_of E ≡ Some sequence → n < sequence → (wants H E top || not (is_grp_up E)) ≡ true → ask_of H E ≡ Some (Spin sequence)
behind_with_images H E n top sequence e up idle newest above want =
    let b = behind_is (reach H E) n top (top_of E) e in
    let r = b.0 in
    let l = lt-ltb (reach H E) sequence (omega (arith, r, above)) in
    behind_asks H E n top e ∙ ap (spin_or_gap H E top) newest
    ∙ ap (λ c. cond c (Some (Spin sequence)) (gap_or_none H E top))
    (and_from (wants H E top || not (is_grp_up E)) (is_spin_up E && (is_idle (spin_of E) && ltb (reach H E) sequence)) want
    (and_from (is_spin_up E) (is_idle (spin_of E) && ltb (reach H E) sequence) up (and_from (is_idle (spin_of E)) (ltb (reach H E) sequence) idle l)))

-- ---- What is asked
-- an ask comes of being behind
asked_by : (H : ℕ) (E : List Entry) (a : Ask) → ask_of H E ≡ Some a → (top : ℕ) × ((top_of E ≡ Some top) × ((eqb (reach H E) top ≡ false) × (spin_or_gap H E top (advertised_of E) ≡ Some a)))
asked_by H E a e = by (top_of E) refl e
  where
    by : (o : Option ℕ) → top_of E ≡ o → ask_with H E o ≡ Some a → (top : ℕ) × ((top_of E ≡ Some top) × ((eqb (reach H E) top ≡ false) × (spin_or_gap H E top (advertised_of E) ≡ Some a)))
    by None is f = absurd (none-some a f)
    by (Some top) is f = inner (eqb (reach H E) top) refl f
      where
        inner : (b : Bool) → eqb (reach H E) top ≡ b → cond b None (spin_or_gap H E top (advertised_of E)) ≡ Some a → (t : ℕ) × ((top_of E ≡ Some t) × ((eqb (reach H E) t ≡ false) × (spin_or_gap H E t (advertised_of E) ≡ Some a)))
        inner true same g = absurd (none-some a g)
        inner false other g = (top, (is, (other, g)))

gap_from : (H : ℕ) (E : List Entry) (top first count : ℕ) (o : Option ℕ) → spin_or_gap H E top o ≡ Some (Gap first count) → gap_or_none H E top ≡ Some (Gap first count)
gap_from H E top first count None e = e
gap_from H E top first count (Some s) e = by (asks_spin H E top s) e
  where
    by : (b : Bool) → cond b (Some (Spin s)) (gap_or_none H E top) ≡ Some (Gap first count) → gap_or_none H E top ≡ Some (Gap first count)
    by true f = cc (f)
    by false f = f

gap_parts : (b : Bool) (a a' : Ask) → cond b (Some a) None ≡ Some a' → (b ≡ true) × (a ≡ a')
gap_parts true a a' e = (refl, same_Some a a' e)
gap_parts false a a' e = absurd (none-some a' e)

-- a sequence that is held has the least one at or below it
held_least : (H : ℕ) (E : List Entry) (k : ℕ) → is_held H E k ≡ true → (m : ℕ) × (least_held H E ≡ Some m) × (m ≤ k)
held_least H E k held = least_there (held_of (since_overflow H E)) k (member_held (since_overflow H E) k ∙ held)

-- the least one held is above the message after the reach, and at most the top
least_between : (H : ℕ) (E : List Entry) (m : ℕ) → least_held H E ≡ Some m → (reach H E + 1 < m) × (m ≤ unwrap_or (top_of E) 0)
least_between H E m least =
    let P : SinceOverflow = since_overflow H E in
    let both = and_parts (ltb (reach_of P) m) (is_seen P m) (sym (member_held P m) ∙ least_member (held_of P) m least) in
    let above = ltb-true (reach_of P) m both.0 in
    let apart : m ≢ suc (reach_of P) = (λ e. both_ways _ (next_unseen P) (subst (λ i. is_seen P i ≡ true) e both.1)) in
    let most = member_le_largest P.seen m both.1 in
    let within = part_le_top H E in
    (elim (cases_eq m (suc (reach_of P))) [ inl same ↦ absurd (apart same) | inr other ↦ omega arith ], omega arith)

-- what is asked for with a gap request
gap_count : ℕ → Option ℕ → ℕ → ℕ
gap_count n least top = min 100 (unwrap_or (option_map (λ k. k - 1) least) top - n)

pub gap_is : (H : ℕ) (E : List Entry) (first count : ℕ) → ask_of H E ≡ Some (Gap first count) → IsGapAsk H E first count
gap_is H E first count e = from (least_held H E) refl
  where
    a : (top : ℕ) × ((top_of E ≡ Some top) × ((eqb (reach H E) top ≡ false) × (spin_or_gap H E top (advertised_of E) ≡ Some (Gap first count))))
    a = asked_by H E (Gap first count) e

    top : ℕ
    top = a.0

    n : ℕ
    n = reach H E

    parts : ((is_grp_up E && not (owes E)) ≡ true) × (gap_ask n (least_held H E) top ≡ Gap first count)
    parts = gap_parts (is_grp_up E && not (owes E)) (gap_ask n (least_held H E) top) (Gap first count) (gap_from H E top first count (advertised_of E) a.1.1.1)

    ends : (is_grp_up E ≡ true) × (not (owes E) ≡ true)
    ends = and_parts (is_grp_up E) (not (owes E)) parts.0

    free : owes E ≡ false
    free = not_true (owes E) ends.1
      where
        not_true : (b : Bool) → not b ≡ true → b ≡ false
        not_true true f = absurd (false≢true f)
        not_true false f = refl

    top_is : unwrap_or (top_of E) 0 ≡ top
    top_is = ap (λ o. unwrap_or o 0) a.1.0

    below : n < top
    below =
        let le = reach_le_top H E in
        let t = top_is in
        elim (cases_eq n top) [ inl same ↦ absurd (both_ways _ a.1.1.0 (eq-eqb n top same)) | inr other ↦ omega (arith, le, t, other) ]

    from : (o : Option ℕ) → least_held H E ≡ o → IsGapAsk H E first count
    from None is =
        let gap : gap_ask n None top ≡ Gap first count = subst (λ o. gap_ask n o top ≡ Gap first count) is parts.1 in
        let first_is : n + 1 ≡ first = cc (gap) in
        let count_is : min 100 (top - n) ≡ count = cc (gap) in
        let t = top_is in
        let b = below in
        record {
          first_is = sym first_is;
          some = omega (arith, count_is, b);
          most = omega (arith, count_is);
          within = omega (arith, first_is, count_is, t, b);
          lacking = λ k at before. elim (cases_Bool (is_held H E k)) [
            | inl held ↦ let l = held_least H E k held in absurd (none-some l.0 (sym is ∙ l.1))
            | inr not_held ↦ not_held
          ];
          is_up = ends.0;
          is_free = free;
        }
    from (Some m) is =
        let gap : gap_ask n (Some m) top ≡ Gap first count = subst (λ o. gap_ask n o top ≡ Gap first count) is parts.1 in
        let first_is : n + 1 ≡ first = cc (gap) in
        let count_is : min 100 ((m - 1) - n) ≡ count = cc (gap) in
        let t = top_is in
        let between = least_between H E m is in
        let up = between.0 in
        let most = between.1 in
        record {
          first_is = sym first_is;
          some = omega (arith, count_is, up);
          most = omega (arith, count_is);
          within = omega (arith, first_is, count_is, t, up, most);
          lacking = λ k at before. elim (cases_Bool (is_held H E k)) [
            | inl held ↦
                let l = held_least H E k held in
                let same : m ≡ l.0 = same_Some m l.0 (sym is ∙ l.1) in
                let le = l.2 in
                absurd (omega (arith, same, le, before, first_is, count_is, up))
            | inr not_held ↦ not_held
          ];
          is_up = ends.0;
          is_free = free;
        }

-- what is asked for with a spin request
pub spin_is : (H : ℕ) (E : List Entry) (sequence : ℕ) → ask_of H E ≡ Some (Spin sequence) → IsSpinAsk H E sequence
spin_is H E sequence e = by (advertised_of E) refl a.1.1.1
  where
    a : (top : ℕ) × ((top_of E ≡ Some top) × ((eqb (reach H E) top ≡ false) × (spin_or_gap H E top (advertised_of E) ≡ Some (Spin sequence))))
    a = asked_by H E (Spin sequence) e

    top : ℕ
    top = a.0

    no_spin : (b : Bool) → cond b (Some (gap_ask (reach H E) (least_held H E) top)) None ≡ Some (Spin sequence) → ⊥
    no_spin true f = cc (f)
    no_spin false f = none-some (Spin sequence) f

    by : (o : Option ℕ) → advertised_of E ≡ o → spin_or_gap H E top o ≡ Some (Spin sequence) → IsSpinAsk H E sequence
    by None is f = absurd (no_spin (is_grp_up E && not (owes E)) f)
    by (Some s) is f = inner (asks_spin H E top s) refl f
      where
        inner : (b : Bool) → asks_spin H E top s ≡ b → cond b (Some (Spin s)) (gap_or_none H E top) ≡ Some (Spin sequence) → IsSpinAsk H E sequence
        inner true asks g =
            let same : s ≡ sequence = cc (g) in
            let one = and_parts (wants H E top || not (is_grp_up E)) (is_spin_up E && (is_idle (spin_of E) && ltb (reach H E) s)) asks in
            let two = and_parts (is_spin_up E) (is_idle (spin_of E) && ltb (reach H E) s) one.1 in
            let three = and_parts (is_idle (spin_of E)) (ltb (reach H E) s) two.1 in
            let above = ltb-true (reach H E) s three.1 in
            record { newest = is ∙ ap Some same; above = omega (arith, same, above); is_up = two.0; is_free = three.0 }
        inner false asks g = absurd (no_spin (is_grp_up E && not (owes E)) g)

-- ---- What an answer does
-- a finished image leaves the reach at its sequence or above
pub image_raises : (H : ℕ) (E : List Entry) (sequence s : ℕ) (raws : List Raw) → image_finished (spin_of E) sequence ≡ (s, raws) ∷ [] → s ≤ reach H (SpinFinished sequence ∷ E)
image_raises H E sequence s raws finished =
    let rise = reach_rises H E (SpinFinished sequence) in
    elim (cases_lt (reach H E) s) [
      | inl above ↦ (taken_drains H E sequence s raws finished above).runs.up
      | inr old ↦ omega (arith, old, rise)
    ]
