-- The lines of a storm.
use Rattle.std.proofs.Common.{◌≡◌, ℕ, zero, suc, ◌+◌, ◌-◌, ◌/◌, ◌%◌, ◌^◌, ◌<◌, ◌≤◌, ◌==◌, List, [], ◌∷◌, ◌++◌, take, Option, None, Some, refl, sym, ap, ◌∙◌, arith, append_assoc}
use Rattle.std.specs.List.{slice_get}
use Rattle.std.proofs.lemmas.Bool.{cond_both}
use Rattle.std.proofs.lemmas.List.{map-append, append-nil}
use Rattle.std.proofs.lemmas.List.Concat.{flat_map-append}
use Rattle.std.proofs.lemmas.Option.{same_Some}
use Rattle.pitch_fields.specs.declared.side.Side.{Side}
use Rattle.pitch_fields.specs.declared.side.Side.TheVariants.{Buy, Sell}
use Rattle.pitch_text.specs.declared.verb.Verb.{Verb}
use Rattle.pitch_text.specs.Printing.{entry_text}
use Rattle.pitch_text.specs.WellFormed.{IsSymbol, IsOrder, IsCommand}
use Rattle.venue_core.specs.Plan.{plan_price, plan_order, plan_at, plan_command}
use Rattle.venue_core.proofs.PlanEffects.{quantity_most, price_most, symbol_case}
use Rattle.storm_replay.specs.declared.verbs.Part.{Part}
use Rattle.storm_replay.specs.declared.verbs.Part.TheVariants.{Step}
use Rattle.storm_replay.specs.layers.Parts.{part_verbs, part_by_each}
use Rattle.storm_replay.specs.Storm.{entries_for, storm_steps, by_each}
use Rattle.pitch_text.specs.Printing.{lines_text}

-- ---- Lists of lines
pub lines_more : (xs ys : List (ℕ × Verb)) → lines_text (xs ++ ys) ≡ lines_text xs ++ lines_text ys
lines_more xs ys = flat_map-append (λ (e : ℕ × Verb). entry_text e.0 e.1 ++ 10 ∷ []) xs ys

pub verbs_more : (unit : ℕ) (xs ys : List Verb) → lines_text (entries_for unit (xs ++ ys)) ≡ lines_text (entries_for unit xs) ++ lines_text (entries_for unit ys)
verbs_more unit xs ys = ap lines_text (map-append (λ (v : Verb). (unit, v)) xs ys) ∙ lines_more (entries_for unit xs) (entries_for unit ys)

pub units_next : (number units unit : ℕ) (part : Part) → unit ≡ suc units → lines_text (part_by_each number unit part) ≡ lines_text (part_by_each number units part) ++ lines_text (entries_for unit (part_verbs number part unit))
unfolding by_each
units_next number units unit part e =
    ap (λ (u : ℕ). lines_text (part_by_each number u part)) e
    ∙ lines_more (part_by_each number units part) (entries_for (suc units) (part_verbs number part (suc units)))
    ∙ ap (λ (u : ℕ). lines_text (part_by_each number units part) ++ lines_text (entries_for u (part_verbs number part u))) (sym e)

pub steps_next : (number units steps step : ℕ) → step ≡ suc steps → lines_text (storm_steps number units step) ≡ lines_text (storm_steps number units steps) ++ lines_text (part_by_each number units (Step step))
unfolding storm_steps
steps_next number units steps step e =
    ap (λ (s : ℕ). lines_text (storm_steps number units s)) e
    ∙ lines_more (storm_steps number units steps) (part_by_each number units (Step (suc steps)))
    ∙ ap (λ (s : ℕ). lines_text (storm_steps number units steps) ++ lines_text (part_by_each number units (Step s))) (sym e)

-- ---- Commands of the plan are ones that some line gives
order_given : (number unit i : ℕ) (side : Side) (price : ℕ) → i < 2 ^ 32 → price ≤ 200000 → IsOrder (plan_order number unit i side price)
order_given number unit i side price few low = record {
  id = omega (arith, few);
  quantity = (let q = quantity_most number unit i in omega (arith, q));
  symbol = symbol_case IsSymbol i (refl, refl) (refl, refl) (refl, refl);
  price = omega (arith, low);
  participant = (refl, refl);
}

given_at : (number unit i j k : ℕ) → i < 2 ^ 32 → IsCommand (plan_at number unit i j k)
given_at number unit i j k few =
    let p = price_most number i in
    let q = quantity_most number unit i in
    cond_both (k == 0) _ _ IsCommand (λ t. omega arith) (λ f0.
    cond_both (k == 1) _ _ IsCommand (λ t. (order_given number unit i Buy (plan_price number i) few (omega (arith, p)), omega arith)) (λ f1.
    cond_both (k == 2) _ _ IsCommand (λ t. (order_given number unit i Sell (plan_price number i + 10000) few (omega (arith, p)), omega arith)) (λ f2.
    cond_both (k == 3) _ _ IsCommand (λ t. (omega (arith, few), omega arith, omega (arith, few), omega arith)) (λ f3.
    cond_both (k == 4) _ _ IsCommand (λ t. (omega (arith, few), omega arith, omega arith)) (λ f4.
    cond_both (k == 5) _ _ IsCommand (λ t. (omega (arith, few), omega (arith, q), omega (arith, p), omega arith)) (λ f5.
    cond_both (k == 6) _ _ IsCommand (λ t. (order_given number unit i Buy (plan_price number i + 1) few (omega (arith, p)), omega arith)) (λ f6.
    cond_both (j % 2 == 0) _ _ IsCommand (λ t. (omega (arith, few), omega arith))
    (λ f. (order_given number unit i Buy (plan_price number i) few (omega (arith, p)), refl, refl, omega (arith, few), omega arith)))))))))

pub plan_given : (number unit i : ℕ) → i < 2 ^ 32 → IsCommand (plan_command number unit i)
unfolding plan_command
plan_given number unit i few = given_at number unit i ((i - 1) / 8) ((i - 1) % 8) few

-- ---- One more
put_after : (old new more xs ys zs : List ℕ) → new ≡ old ++ xs → more ≡ new ++ ys → xs ++ ys ≡ zs → more ≡ old ++ zs
put_after old new more xs ys zs e f g = f ∙ ap (λ (l : List ℕ). l ++ ys) e ∙ append_assoc old xs ys ∙ ap (λ (l : List ℕ). old ++ l) g

none_some : (v : Verb) → ◌≡◌ {A = Option Verb} None (Some v) → ⊥
none_some v e = cc

-- the lines of one more verb
lines_taken : (unit : ℕ) (verbs : List Verb) (i : ℕ) (v : Verb) → slice_get verbs i ≡ Some v → lines_text (entries_for unit (take i verbs)) ++ (entry_text unit v ++ 10 ∷ []) ≡ lines_text (entries_for unit (take (suc i) verbs))
lines_taken unit [] i v at = absurd (none_some v at)
lines_taken unit (w ∷ verbs) zero v at = rw append-nil (ap (λ (x : Verb). entry_text unit x ++ 10 ∷ []) (sym (same_Some w v at)))
lines_taken unit (w ∷ verbs) (suc i) v at =
    append_assoc (entry_text unit w ++ 10 ∷ []) (lines_text (entries_for unit (take i verbs))) (entry_text unit v ++ 10 ∷ [])
    ∙ ap (λ (l : List ℕ). (entry_text unit w ++ 10 ∷ []) ++ l) (lines_taken unit verbs i v at)

pub verbs_step : (unit : ℕ) (verbs : List Verb) (i j : ℕ) (v : Verb) (old new more : List ℕ) → slice_get verbs i ≡ Some v → j ≡ suc i → new ≡ old ++ lines_text (entries_for unit (take i verbs)) → more ≡ new ++ (entry_text unit v ++ 10 ∷ [])
    → more ≡ old ++ lines_text (entries_for unit (take j verbs))
verbs_step unit verbs i j v old new more at e is put =
    put_after old new more (lines_text (entries_for unit (take i verbs))) (entry_text unit v ++ 10 ∷ []) (lines_text (entries_for unit (take j verbs))) is put
    (lines_taken unit verbs i v at ∙ ap (λ (k : ℕ). lines_text (entries_for unit (take k verbs))) (sym e))

pub units_step : (number unit next : ℕ) (part : Part) (old new more : List ℕ) → next ≡ suc unit → new ≡ old ++ lines_text (part_by_each number unit part) → more ≡ new ++ lines_text (entries_for next (part_verbs number part next))
    → more ≡ old ++ lines_text (part_by_each number next part)
units_step number unit next part old new more e is put =
    put_after old new more (lines_text (part_by_each number unit part)) (lines_text (entries_for next (part_verbs number part next))) (lines_text (part_by_each number next part)) is put (sym (units_next number unit next part e))

pub steps_step : (number units step next : ℕ) (old new more : List ℕ) → next ≡ suc step → new ≡ old ++ lines_text (storm_steps number units step) → more ≡ new ++ lines_text (part_by_each number units (Step next))
    → more ≡ old ++ lines_text (storm_steps number units next)
steps_step number units step next old new more e is put =
    put_after old new more (lines_text (storm_steps number units step)) (lines_text (part_by_each number units (Step next))) (lines_text (storm_steps number units next)) is put (sym (steps_next number units step next e))

pub none_yet : (number units : ℕ) (old : List ℕ) → old ≡ old ++ lines_text (storm_steps number units 0)
unfolding storm_steps
none_yet number units old = rw append-nil refl

pub no_units : (number : ℕ) (part : Part) (old : List ℕ) → old ≡ old ++ lines_text (part_by_each number 0 part)
unfolding by_each
no_units number part old = rw append-nil refl
