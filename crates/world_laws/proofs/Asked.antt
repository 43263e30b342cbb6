-- What a client asks the proxy for, where the Spin Server is down, and that the proxy accepts it.
use Rattle.std.proofs.Common.{◌≡◌, ◌⊎◌, ℕ, suc, ◌+◌, ◌-◌, ◌<◌, ◌≤◌, Bool, true, false, ◌&&◌, ◌||◌, not, cond, List, length, refl, sym, ap, ◌∙◌, arith, min, inl, inr, Option, Some, None, nat_lt, unwrap_or, option_map, eqb}
use Rattle.std.proofs.lemmas.Bool.{ne_eqb, and_from, and_parts, false≢true, cases_eq, cases_lt, le-ltb}
use Rattle.pitch_model.specs.declared.ask.Ask.TheVariants as asks
use Rattle.pitch_model.specs.Asking.{is_grp_up, is_spin_up, owes, advertised_of, ask_of, ask_with, spin_or_gap, gap_or_none, gap_ask, asks_spin, wants, is_idle, least_held}
use Rattle.pitch_model.specs.History.{Entry, spin_of}
use Rattle.pitch_model.specs.Reach.{since_overflow, held_of, reach, is_held}
use Rattle.pitch_model.specs.Recovering.{IsGapAsk}
use Rattle.pitch_model.specs.Status.{top_of}
use Rattle.pitch_model.proofs.Least.{least_member, member_held}
use Rattle.pitch_model.proofs.Recovering.{gap_is}
use Rattle.heard_items.specs.Heard.{is_fresh}
use Rattle.gap_store.specs.Look.{View, oldest, look}
use Rattle.gap_store.specs.declared.found.Found.TheVariants.{Kept, Ahead, NotKept}
use Rattle.grp_session.specs.Asking.{status_here, status_found}
use Rattle.grp_session.specs.Budget.{Limits, Spent, limit_reached}
use Rattle.world_laws.proofs.Missing.{held_not_fresh, reached_not_fresh, unheld_fresh}

-- a client of the proxy alone: the proxy is up and owes no reply, and the Spin Server is down
pub record HasProxy (E : List Entry) : Type 0 where
  pub up : is_grp_up E ≡ true
  pub free : owes E ≡ false
  pub spin : is_spin_up E ≡ false

-- what it lacks: nothing up to r, then c messages, which are asked for; and these are 100, or reach
-- the top, or stop before one that is held
pub record Lacks (H : ℕ) (E : List Entry) (top count : ℕ) : Type 0 where
  pub ask : ask_of H E ≡ Some (asks.Gap (reach H E + 1) count)
  pub some : 1 ≤ count
  pub most : count ≤ 100
  pub within : reach H E + count ≤ top
  pub none : (j : ℕ) → j ≤ reach H E → is_fresh H E j ≡ false
  pub all : (j : ℕ) → reach H E < j → j ≤ reach H E + count → is_fresh H E j ≡ true
  pub ends : (count ≡ 100) ⊎ ((reach H E + count ≡ top) ⊎ (is_fresh H E (suc (reach H E + count)) ≡ false))

module _ (H : ℕ) (E : List Entry) (has : HasProxy E) (top : ℕ) (told : top_of E ≡ Some top) (behind : reach H E < top) where
  abbrev r : ℕ
  r = reach H E

  and_false : (b : Bool) → (b && false) ≡ false
  and_false true = refl
  and_false false = refl

  gap : gap_or_none H E top ≡ Some (gap_ask (reach H E) (least_held H E) top)
  gap = ap (λ (b : Bool). cond b (Some (gap_ask (reach H E) (least_held H E) top)) None) (and_from (is_grp_up E) (not (owes E)) has.up (ap not has.free))

  no_spin : (n : ℕ) → asks_spin H E top n ≡ false
  no_spin n = ap (λ (b : Bool). (wants H E top || not (is_grp_up E)) && (b && (is_idle (spin_of E) && nat_lt (reach H E) n))) has.spin ∙ and_false (wants H E top || not (is_grp_up E))

  by_advertised : (o : Option ℕ) → spin_or_gap H E top o ≡ Some (gap_ask (reach H E) (least_held H E) top)
  by_advertised None = gap
  by_advertised (Some n) = ap (λ (b : Bool). cond b (Some (asks.Spin n)) (gap_or_none H E top)) (no_spin n) ∙ gap

  asks_gap : ask_of H E ≡ Some (gap_ask (reach H E) (least_held H E) top)
  asks_gap =
      ap (ask_with H E) told
      ∙ ap (λ (b : Bool). cond b None (spin_or_gap H E top (advertised_of E))) (ne_eqb (reach H E) top (λ e. omega (arith, e, behind)))
      ∙ by_advertised (advertised_of E)

  count_for : Option ℕ → ℕ
  count_for o = min 100 (unwrap_or (option_map (λ k. k - 1) o) top - reach H E)

  pub count : ℕ
  unfolding count_for
  count = count_for (least_held H E)

  is_ask : ask_of H E ≡ Some (asks.Gap (reach H E + 1) count)
  unfolding count count_for
  is_ask = asks_gap

  is_gap : IsGapAsk H E (reach H E + 1) count
  is_gap = gap_is H E (reach H E + 1) count is_ask

  in_top : reach H E + count ≤ top
  in_top =
      let w = is_gap.within in
      let t : unwrap_or (top_of E) 0 ≡ top = ap (λ (o : Option ℕ). unwrap_or o 0) told in
      omega (arith, w, t)

  stops : (o : Option ℕ) → least_held H E ≡ o → (count_for o ≡ 100) ⊎ ((reach H E + count_for o ≡ top) ⊎ (is_fresh H E (suc (reach H E + count_for o)) ≡ false))
  unfolding count_for
  stops None is = elim (cases_eq (min 100 (top - r)) 100) [
    | inl e ↦ inl e
    | inr less ↦ inr (inl (omega (arith, less, behind)))
  ]
  stops (Some k) is = elim (cases_eq (min 100 ((k - 1) - r)) 100) [
    | inl e ↦ inl e
    | inr less ↦
        let held : is_held H E k ≡ true = sym (member_held (since_overflow H E) k) ∙ least_member (held_of (since_overflow H E)) k is in
        let above : reach H E < k = held_above k held in
        let at : k ≡ suc (r + min 100 ((k - 1) - r)) = omega (arith, less, above) in
        inr (inr (ap (is_fresh H E) (sym at) ∙ held_not_fresh H E k held))
  ]
    where
      held_above : (k : ℕ) → is_held H E k ≡ true → reach H E < k
      held_above k held = elim (cases_lt (reach H E) k) [
        | inl above ↦ above
        | inr below ↦ absurd (false≢true (sym (le-ltb (reach H E) k below) ∙ (and_parts (nat_lt (reach H E) k) _ held).0))
      ]

  pub lacks : Lacks H E top count
  unfolding count
  lacks = record {
    ask = is_ask;
    some = is_gap.some;
    most = is_gap.most;
    within = in_top;
    none = reached_not_fresh H E;
    all = λ j above below. unheld_fresh H E j above (is_gap.lacking j (omega (arith, above)) (omega (arith, below)));
    ends = stops (least_held H E) refl;
  }

-- ---- The proxy's status
pub accepted_here : (l : Limits) (view : View) (t : Spent) (first count : ℕ) → 1 ≤ first → 1 ≤ count → count ≤ 100 → first + count ≤ length view.messages + 1 → length view.messages + 1 ≤ first + view.kept → limit_reached l t ≡ None
    → status_here true l view t first count ≡ 65
unfolding status_here
accepted_here l view t first count low some most within kept free =
    let found : look view first count ≡ Kept =
    ap (λ (b : Bool). cond b (Ahead (length view.messages)) (cond (nat_lt first (oldest view)) (NotKept (oldest view)) Kept)) (le-ltb (length view.messages) (first + count - 1) (omega (arith, within, low, some)))
    ∙ ap (λ (b : Bool). cond b (NotKept (oldest view)) Kept) (le-ltb first (oldest view) (omega (arith, kept, low))) in
    ap (λ (b : Bool). cond b 67 (cond (eqb count 0 || eqb first 0) 79 (status_found l t (look view first count)))) (le-ltb 100 count most)
    ∙ (λ i. cond (ne_eqb count 0 (λ e. omega (arith, e, some)) i || ne_eqb first 0 (λ e. omega (arith, e, low)) i) 79 (status_found l t (look view first count)))
    ∙ ap (status_found l t) found
    ∙ ap (λ (o : Option ℕ). unwrap_or o 65) free
