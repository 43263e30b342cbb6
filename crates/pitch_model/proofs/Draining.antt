-- An entry that raises the reach, and what follows behind it.
use Rattle.std.proofs.Common.{◌≡◌, ℕ, suc, ◌+◌, ◌≤◌, ◌<◌, Bool, true, false, ◌&&◌, cond, List, [], ◌∷◌, ltb, refl, sym, ap, ◌∙◌, subst, inl, inr, arith, add-one}
use Rattle.std.proofs.lemmas.Bool.{and_parts, and_from, and_right, lt-ltb, le-ltb, cases_lt}
use Rattle.std.proofs.lemmas.Bool.Decides.{nat_tests}
use Rattle.pitch_model.specs.History.{Entry, Raw, Message, SpinFinished, spin_of, image_finished}
use Rattle.pitch_model.specs.Reach.{SinceOverflow, grown, is_seen, reach_of, held_count, since_overflow, reach, is_held, is_overflow, sequences}
use Rattle.pitch_model.specs.layers.Settling.{Draining}
use Rattle.pitch_model.specs.layers.Steps.{RunsOn, Drains}
use Rattle.pitch_model.proofs.Reaching.{reach_is, joined_reach, next_unseen}
use Rattle.pitch_model.proofs.Steps.{step_next, step_taken}
use Rattle.pitch_model.proofs.Entries.{settled_at}
use Rattle.pitch_model.proofs.Counting.{held_le, held_few}

-- ---- A floor that may be short of the reach
module _ (P : SinceOverflow) (n : ℕ) (has : ℕ → Bool) (D : Draining P n has) where
  pub floor_up : n ≤ reach_of P
  floor_up = (reach_is P).greatest n D.joined

  pub run_held : (j : ℕ) → n < j → j ≤ reach_of P → has j ≡ true
  run_held j above below =
      let J = joined_reach P in
      let a = D.anchors J.anchor J.is_anchored in
      D.held j ∙ and_from (ltb n j) (is_seen P j) (lt-ltb n j above) (J.run j (omega arith) below)

  pub stop_unheld : has (reach_of P + 1) ≡ false
  stop_unheld = ap has (add-one (reach_of P)) ∙ D.held (suc (reach_of P)) ∙ and_right (ltb n (suc (reach_of P))) (is_seen P (suc (reach_of P))) (next_unseen P)

  pub rest_held : (k : ℕ) → (ltb (reach_of P) k && is_seen P k) ≡ (ltb (reach_of P) k && has k)
  rest_held k = let h = D.held k in let up = floor_up in elim (cases_lt (reach_of P) k) [ inl above ↦ grind (arith, nat_tests, above, up, h) | inr below ↦ grind (arith, nat_tests, below) ]

  pub runs_on : RunsOn P n has
  runs_on = record { up = floor_up; run = run_held; stop = stop_unheld; rest = rest_held }

-- ---- The next message
module _ (H : ℕ) (E : List Entry) (k : ℕ) (raw : Raw) (one : 1 ≤ H) (next : k ≡ reach H E + 1) where
  with_next : SinceOverflow
  with_next = grown (since_overflow H E) [] (k ∷ [])

  drains_next : Draining with_next k (is_held H E)
  unfolding with_next
  drains_next = step_next (since_overflow H E) (reach H E) k (is_held H E) (settled_at H E) (next ∙ add-one (reach H E))

  no_more : held_count with_next ≤ held_count (since_overflow H E)
  unfolding with_next
  no_more =
      let up = floor_up with_next k (is_held H E) drains_next in
      held_le with_next (since_overflow H E) (λ j t.
      let both = and_parts (ltb (reach_of with_next) j) (is_seen with_next j) t in
      let rest = rest_held with_next k (is_held H E) drains_next j in
      (and_parts (ltb (reach_of with_next) j) (is_held H E j) (sym rest ∙ t)).1)

  next_calm : is_overflow H E (Message k raw) ≡ false
  unfolding with_next
  next_calm = let few = held_few H E one in let no = no_more in le-ltb H (held_count with_next) (omega arith)
      -- the next message is applied, with those that were held behind it

  pub next_drains : Drains H E (Message k raw) k
  unfolding with_next
  next_drains = record {
    calm = next_calm;
    runs = subst (λ (b : Bool). RunsOn (cond b (record { base = reach_of with_next; images = []; seen = k ∷ [] }) with_next) k (is_held H E)) (sym next_calm) (runs_on with_next k (is_held H E) drains_next);
  }

-- ---- A finished image
runs_from : (P : SinceOverflow) (s : ℕ) (had : ℕ → Bool) → RunsOn P s (λ j. ltb s j && had j) → RunsOn P s had
runs_from P s had R = record {
  up = R.up;
  run = λ j above below. (and_parts (ltb s j) (had j) (R.run j above below)).1;
  stop = let up = R.up in let stop = R.stop in let l = lt-ltb s (reach_of P + 1) (omega arith) in grind (arith, nat_tests, stop, l);
  rest = λ k. let up = R.up in let rest = R.rest k in elim (cases_lt (reach_of P) k) [
    | inl above ↦ let l = lt-ltb s k (omega arith) in grind (arith, nat_tests, rest, l)
    | inr below ↦ grind (arith, nat_tests, below)
  ];
}

-- an image above the reach joins what is held behind it
pub taken_drains : (H : ℕ) (E : List Entry) (sequence s : ℕ) (raws : List Raw) → image_finished (spin_of E) sequence ≡ (s, raws) ∷ [] → reach H E < s → Drains H E (SpinFinished sequence) s
taken_drains H E sequence s raws finished above =
    let has : ℕ → Bool = λ j. ltb s j && is_held H E j in
    let G = grown (since_overflow H E) (s ∷ []) [] in
    let D = step_taken (since_overflow H E) (reach H E) s (is_held H E) (settled_at H E) has above (λ j. refl) in
    let R = runs_from G s (is_held H E) (runs_on G s has D) in
    record {
      calm = refl;
      runs = subst (λ (is : List (ℕ × List Raw)). RunsOn (grown (since_overflow H E) (sequences is) []) s (is_held H E)) (sym finished) R;
    }
