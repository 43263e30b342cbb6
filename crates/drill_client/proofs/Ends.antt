-- A history at its end.
use Rattle.std.proofs.Common.{◌≡◌, ◌≢◌, ℕ, ◌+◌, ◌-◌, ◌<◌, ◌≤◌, max, Bool, true, false, cond, ◌==◌, ◌&&◌, nat_lt, List, [], ◌∷◌, length, take, Option, None, Some, unwrap_or, refl, sym, ap, ◌∙◌, subst, arith}
use Rattle.std.proofs.lemmas.Bool.{cond-true, cond-false, eqb-true}
use Rattle.std.proofs.lemmas.Bool.Decides.{nat_tests}
use Rattle.std.proofs.Math.Bool.{or-true}
use Rattle.pitch_model.specs.History.{Entry, Raw, Spinning, Running, Asked, NoSpin, spin_of, spin_more, spin_replied, adds, can_promise, image_finished, SpinReply, ImageMessages, SpinFinished}
use Rattle.pitch_model.specs.Honest.{Honest, AreImages}
use Rattle.pitch_model.specs.Image.{image}
use Rattle.pitch_model.specs.Reach.{reach, sequences}
use Rattle.pitch_model.specs.Status.{raised, top_of, status_at, status_of}
use Rattle.pitch_model.specs.Asking.{ask_of, ask_with, spin_or_gap, asks_spin, wants, gap_or_none}
use Rattle.pitch_model.specs.declared.ask.Ask.TheVariants.{Spin}
use Rattle.pitch_model.specs.declared.status.Status.TheVariants.{Current, Behind}
use Rattle.pitch_model.specs.layers.Steps.{Drains}
use Rattle.pitch_model.proofs.Draining.{taken_drains}
use Rattle.pitch_model.proofs.Honesty.{honest_top}
use Rattle.pitch_model.proofs.Topmost.{reach_le_top}
use Rattle.drill_client.specs.layers.Following.{imaged_whole}
use Rattle.drill_client.specs.layers.Told.{is_behind, told_all}

-- ---- What a client knows once it was told of all
told_top : (C : ℕ) (top : Option ℕ) → unwrap_or top 0 ≤ C → raised (C ∷ []) (raised ((C + 1 - 1) ∷ []) top) ≡ Some C
told_top C None le = let e : max C (C + 1 - 1) ≡ C = omega arith in ap (λ (n : ℕ). Some n) e
told_top C (Some t) le = let e : max C (max (C + 1 - 1) t) ≡ C = omega (arith, le) in ap (λ (n : ℕ). Some n) e

itself : (n : ℕ) → (n == n) ≡ true
itself n = grind (arith, nat_tests)

current_at : (n C : ℕ) (top : Option ℕ) → n ≡ C → top ≡ Some C → status_at n top ≡ Current C
current_at n C top is at =
    ap (status_at n) at ∙ ap (λ (k : ℕ). status_at k (Some C)) is ∙ cond-true (C == C) (Current C) (Behind C C) (itself C)

module _ (H : ℕ) (V : List Raw) (E : List Entry) (honest : Honest image V E) where
  abbrev pub told : List Entry
  told = told_all (length V) E

  pub told_honest : Honest image V told
  told_honest = (omega arith, (omega arith, (tt, (tt, (tt, honest)))))

  pub top_told : top_of told ≡ Some (length V)
  top_told = told_top (length V) (top_of E) (honest_top image V E honest)

  reach_within : reach H told ≤ length V
  reach_within = let a = reach_le_top H told in let b = honest_top image V told told_honest in omega (arith, a, b)

  -- not behind is current
  pub told_current : is_behind (status_of H told) ≡ false → reach H told ≡ length V
  told_current f = by (reach H told == length V) refl
    where
      by : (b : Bool) → (reach H told == length V) ≡ b → reach H told ≡ length V
      by true t = eqb-true (reach H told) (length V) t
      by false t =
          let s : status_of H told ≡ Behind (reach H told) (length V) =
          ap (status_at (reach H told)) top_told ∙ cond-false (reach H told == length V) (Current (reach H told)) (Behind (reach H told) (length V)) t in
          absurd (apart (sym (ap is_behind s) ∙ f))
        where
          apart : true ≡ false → ⊥
          apart e = cc

  pub told_status : reach H told ≡ length V → status_of H told ≡ Current (length V)
  told_status is = current_at (reach H told) (length V) (top_of told) is top_told

  -- behind is below
  pub told_below : is_behind (status_of H told) ≡ true → reach H told < length V
  told_below t = by (reach H told == length V) refl
    where
      by : (b : Bool) → (reach H told == length V) ≡ b → reach H told < length V
      by true e =
          let s : status_of H told ≡ Current (length V) = told_status (eqb-true (reach H told) (length V) e) in
          absurd (apart (sym t ∙ ap is_behind s))
        where
          apart : true ≡ false → ⊥
          apart e = cc
      by false f = let ne : reach H told ≢ length V = λ e. unequal e f in omega (arith, ne, reach_within)
        where
          unequal : reach H told ≡ length V → (reach H told == length V) ≡ false → ⊥
          unequal e f = grind (arith, nat_tests, e, f)

  -- then the image of all is asked for
  pub told_ask : reach H told < length V → ask_of H told ≡ Some (Spin (length V))
  told_ask below =
      let ne : (reach H told == length V) ≡ false = grind (arith, nat_tests, below) in
      let lt : nat_lt (reach H told) (length V) ≡ true = grind (arith, nat_tests, below) in
      let allowed : asks_spin H told (length V) (length V) ≡ true = ap (λ (b : Bool). b && nat_lt (reach H told) (length V)) (or-true (wants H told (length V))) ∙ lt in
      ap (ask_with H told) top_told
      ∙ cond-false (reach H told == length V) None (spin_or_gap H told (length V) (Some (length V))) ne
      ∙ cond-true (asks_spin H told (length V) (length V)) (Some (Spin (length V))) (gap_or_none H told (length V)) allowed

-- ---- What it knows once it has the image
replied : (C orders : ℕ) → can_promise C orders ≡ true → spin_replied (Asked C) C orders true ≡ Running C orders []
replied C orders can =
    cond-true (C == C) (cond (can_promise C orders) (Running C orders []) NoSpin) (Asked C) (itself C)
    ∙ cond-true (can_promise C orders) (Running C orders []) NoSpin can

module _ (H : ℕ) (V : List Raw) (E : List Entry) (honest : Honest image V E) (below : reach H E < length V) (can : can_promise (length V) (adds (image V (length V))) ≡ true) (asked : spin_of E ≡ Asked (length V)) (top : top_of E ≡ Some (length V)) where
  abbrev raws : List Raw
  raws = image V (length V)

  abbrev orders : ℕ
  orders = adds (image V (length V))

  abbrev before : List Entry
  before = ImageMessages raws ∷ SpinReply (length V) orders true ∷ E

  abbrev pub whole : List Entry
  whole = imaged_whole (length V) orders raws E

  running : spin_of before ≡ Running (length V) orders raws
  running =
      ap (λ (s : Spinning). spin_more (spin_replied s (length V) orders true) raws) asked
      ∙ ap (λ (s : Spinning). spin_more s raws) (replied (length V) orders can)

  finished : image_finished (spin_of before) (length V) ≡ (length V, raws) ∷ []
  finished =
      ap (λ (s : Spinning). image_finished s (length V)) running
      ∙ ap (λ (t : Bool). cond (t && (orders == orders)) ((length V, raws) ∷ []) []) (itself (length V))
      ∙ ap (λ (t : Bool). cond t ((length V, raws) ∷ []) []) (itself orders)

  pub whole_honest : Honest image V whole
  whole_honest = (subst (AreImages image V) (sym finished) (omega arith, refl), (tt, (tt, honest)))

  pub whole_reach : reach H whole ≡ length V
  whole_reach =
      let drains : Drains H before (SpinFinished (length V)) (length V) = taken_drains H before (length V) (length V) raws finished below in
      let up = drains.runs.up in
      let a = reach_le_top H whole in
      let b = honest_top image V whole whole_honest in
      omega (arith, up, a, b)

  whole_top : top_of whole ≡ Some (length V)
  whole_top =
      let e : max (length V) (length V) ≡ length V = omega arith in
      ap (λ (images : List (ℕ × List Raw)). raised (sequences images) (top_of before)) finished
      ∙ ap (raised (length V ∷ [])) top
      ∙ ap (λ (n : ℕ). Some n) e

  pub whole_status : status_of H whole ≡ Current (length V)
  whole_status = current_at (reach H whole) (length V) (top_of whole) whole_reach whole_top

pub all_taken : (V : List Raw) → take (length V) V ≡ V
all_taken [] = refl
all_taken (raw ∷ V) = ap (λ (l : List Raw). raw ∷ l) (all_taken V)
