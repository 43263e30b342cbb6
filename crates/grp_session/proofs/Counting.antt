-- Counts of ticks.
use Rattle.std.proofs.Common.{◌≡◌, ℕ, suc, ◌+◌, ◌/◌, ◌%◌, ◌<◌, ◌≤◌, Bool, true, false, cond, List, [], ◌∷◌, refl, sym, ap, ◌∙◌, arith, nat_eq, ◌⊎◌, inl, inr}
use Rattle.std.specs.List.{AllByRecursion}
use Rattle.std.proofs.lemmas.Bool.{ne_eqb, eq-eqb}
use Rattle.grp_session.specs.Budget.{how_many, Spent, Counts, Counted, next_second, spending}

none_passes : (p : ℕ → Bool) (n : ℕ) (ticks : List ℕ) → ((t : ℕ) → t ≤ n → p t ≡ false) → AllByRecursion (λ tick. tick ≤ n) ticks → how_many p ticks ≡ 0
none_passes p n [] fails all = refl
none_passes p n (t ∷ ticks) fails all = ap (λ (b : Bool). cond b (suc (how_many p ticks)) (how_many p ticks)) (fails t all.0) ∙ none_passes p n ticks fails all.1

later : (n m : ℕ) (ticks : List ℕ) → n ≤ m → AllByRecursion (λ tick. tick ≤ n) ticks → AllByRecursion (λ tick. tick ≤ m) ticks
later n m [] le all = tt
later n m (t ∷ ticks) le all = (omega (arith, all.0), later n m ticks le all.1)

same_minute : (n : ℕ) → n % 60 < 59 → (n + 1) / 60 ≡ n / 60
same_minute n h = omega arith

next_minute : (n t : ℕ) → n % 60 ≡ 59 → t ≤ n → nat_eq (t / 60) ((n + 1) / 60) ≡ false
next_minute n t h le = ne_eqb (t / 60) ((n + 1) / 60) (λ e. omega arith)

pub counted_tick : (old new : Counts) (s : Spent) → Counted old s → new.second ≡ 0 → new.day ≡ old.day
    → ((new.phase ≡ old.phase + 1) × (old.phase < 59) × (new.minute ≡ old.minute)) ⊎ ((old.phase ≡ 59) × (new.phase ≡ 0) × (new.minute ≡ 0)) → Counted new (next_second s)
counted_tick old new s c second day (inl h) =
    let m : (s.now + 1) / 60 ≡ s.now / 60 = same_minute s.now (omega (arith, c.phase, h.1)) in
    record {
      phase = omega (arith, c.phase, h.0, h.1);
      second = second ∙ sym (none_passes (λ tick. nat_eq tick (s.now + 1)) s.now s.accepted (λ t le. ne_eqb t (s.now + 1) (λ e. omega arith)) c.past);
      minute = h.2 ∙ c.minute ∙ ap (λ (q : ℕ). how_many (λ tick. nat_eq (tick / 60) q) s.accepted) (sym m);
      day = day ∙ c.day;
      past = later s.now (s.now + 1) s.accepted (omega arith) c.past;
    }
counted_tick old new s c second day (inr h) =
    record {
      phase = omega (arith, c.phase, h.0, h.1);
      second = second ∙ sym (none_passes (λ tick. nat_eq tick (s.now + 1)) s.now s.accepted (λ t le. ne_eqb t (s.now + 1) (λ e. omega arith)) c.past);
      minute = h.2 ∙ sym (none_passes (λ tick. nat_eq (tick / 60) ((s.now + 1) / 60)) s.now s.accepted (λ t le. next_minute s.now t (sym c.phase ∙ h.0) le) c.past);
      day = day ∙ c.day;
      past = later s.now (s.now + 1) s.accepted (omega arith) c.past;
    }

counts_one : (p : ℕ → Bool) (t : ℕ) (ticks : List ℕ) → p t ≡ true → how_many p (t ∷ ticks) ≡ suc (how_many p ticks)
counts_one p t ticks h = ap (λ (b : Bool). cond b (suc (how_many p ticks)) (how_many p ticks)) h

pub counted_spend : (old new : Counts) (s : Spent) → Counted old s → new.phase ≡ old.phase → new.second ≡ old.second + 1 → new.minute ≡ old.minute + 1 → new.day ≡ old.day + 1 → Counted new (spending s)
counted_spend old new s c phase second minute day = record {
  phase = phase ∙ c.phase;
  second = omega (arith, second, c.second, counts_one (λ tick. nat_eq tick s.now) s.now s.accepted (eq-eqb s.now s.now refl));
  minute = omega (arith, minute, c.minute, counts_one (λ tick. nat_eq (tick / 60) (s.now / 60)) s.now s.accepted (eq-eqb (s.now / 60) (s.now / 60) refl));
  day = omega (arith, day, c.day);
  past = (omega arith, c.past);
}
