-- The plan as a market plays it.
use Rattle.std.proofs.Common.{◌≡◌, ℕ, ◌+◌, ◌-◌, ◌≤◌, ◌<◌, List, [], ◌∷◌, ◌++◌, take, drop, Option, None, Some, sym, ap, ◌∙◌, subst, arith}
use Rattle.std.specs.List.{slice_get}
use Rattle.std.proofs.lemmas.List.{take-append-drop}
use Rattle.std.proofs.Math.Seq.{drop-append_seam}
use Rattle.unit_packets.specs.Packing.{packed}
use Rattle.pitch_model.specs.History.{Raw}
use Rattle.venue_core.specs.Commands.{raw_of}
use Rattle.venue_core.specs.Plan.{plan, plan_command}
use Rattle.venue_core.specs.Stands.{last_of}
use Rattle.venue_core.proofs.PlanBooks.{plan_length, plan_step}
use Rattle.venue_core.proofs.PlanBytes.{plan_at_place, plan_prefix}
use Rattle.std.specs.FinMap.{len}
use Rattle.std.proofs.lemmas.Option.{same_Some}
use Rattle.pitch_model.specs.Book.{book_after}
use Rattle.pitch_model.specs.Levels.{shares}
use Rattle.pitch_model.specs.declared.status.Status.TheVariants.{Current}
use Rattle.feed_lines.specs.UnitLine.{unit_line}
use Rattle.drill_client.specs.layers.Ending.{whole_line}
use Rattle.drill_client.specs.DrillText.{drill_line}
use Rattle.drill_client.specs.layers.Played.{command_datagrams}

-- a longer plan goes on after a shorter one
pub plan_grows : (number unit index count : ℕ) → index ≤ count → plan number unit index ++ drop index (plan number unit count) ≡ plan number unit count
plan_grows number unit index count le =
    let e : index + (count - index) ≡ count = omega (arith, le) in
    let prefix : take index (plan number unit count) ≡ plan number unit index = subst (λ (n : ℕ). take index (plan number unit n) ≡ plan number unit index) e (plan_prefix number unit index (count - index)) in
    ap (λ (V : List Raw). V ++ drop index (plan number unit count)) (sym prefix) ∙ take-append-drop index (plan number unit count)

pub plan_last : (number unit index : ℕ) → 1 ≤ index → last_of (plan number unit index) ≡ Some (raw_of (plan_command number unit index))
plan_last number unit index low =
    let below : index - 1 < index = omega (arith, low) in
    let e : index - 1 + 1 ≡ index = omega (arith, low) in
    ap (λ (n : ℕ). slice_get (plan number unit index) (n - 1)) (plan_length number unit index)
    ∙ plan_at_place number unit index (index - 1) below
    ∙ ap (λ (i : ℕ). Some (raw_of (plan_command number unit i))) e

-- it is what is sent where those before it were sent
pub packed_one : (number unit index : ℕ) → 1 ≤ index → packed unit (index - 1 + 1) (drop (index - 1) (plan number unit index)) ≡ command_datagrams number unit index
packed_one number unit index low =
    let first : index - 1 + 1 ≡ index = omega (arith, low) in
    let raws : List Raw = raw_of (plan_command number unit index) ∷ [] in
    let last : drop (index - 1) (plan number unit index) ≡ raws =
    ap (λ (V : List Raw). drop (index - 1) V) (plan_step number unit index low)
    ∙ ap (λ (n : ℕ). drop n (plan number unit (index - 1) ++ raws)) (sym (plan_length number unit (index - 1)))
    ∙ drop-append_seam (plan number unit (index - 1)) raws in
    ap (λ (V : List Raw). packed unit (index - 1 + 1) V) last ∙ ap (λ (n : ℕ). packed unit n raws) first

-- ---- Its last message
pub last_is : (number unit index : ℕ) (raw : Raw) → 1 ≤ index → Some raw ≡ last_of (plan number unit index) → raw ≡ raw_of (plan_command number unit index)
last_is number unit index raw low at = same_Some raw (raw_of (plan_command number unit index)) (at ∙ plan_last number unit index low)

pub last_is_there : (number unit index : ℕ) → 1 ≤ index → None ≡ last_of (plan number unit index) → ⊥
last_is_there number unit index low at = apart (at ∙ plan_last number unit index low)
  where
    apart : {raw : Raw} → ◌≡◌ {A = Option Raw} None (Some raw) → ⊥
    apart e = cc

-- ---- The line of a unit
pub line_is : (number unit count : ℕ) → whole_line unit (plan number unit count) ≡ drill_line number unit count
unfolding drill_line
line_is number unit count =
    ap (λ (n : ℕ). unit_line unit (Current n) (len (book_after (plan number unit count)).orders) (shares (book_after (plan number unit count)))) (plan_length number unit count)
