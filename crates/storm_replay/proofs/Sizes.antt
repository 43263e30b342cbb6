-- How long a storm's schedule is.
use Rattle.std.proofs.Common.{◌≡◌, ℕ, zero, suc, ◌+◌, ◌-◌, ◌*◌, ◌/◌, ◌%◌, ◌^◌, ◌<◌, ◌≤◌, Bool, true, false, not, ◌==◌, List, [], ◌∷◌, ◌++◌, length, refl, ap, arith, length-append, decimal}
use Rattle.std.proofs.lemmas.Bool.{cond_both}
use Rattle.std.proofs.lemmas.Fmt.{length-decimal-le}
use Rattle.pitch_fields.specs.Price.{price_digits}
use Rattle.pitch_fields.specs.declared.side.Side.{Side}
use Rattle.pitch_fields.specs.declared.side.Side.TheVariants.{Buy, Sell}
use Rattle.pitch_io.specs.declared.line.Line.TheVariants as lines
use Rattle.pitch_text.specs.declared.command.Command.{Command}
use Rattle.pitch_text.specs.declared.command.Command.TheVariants as commands
use Rattle.pitch_text.specs.declared.verb.Verb.{Verb}
use Rattle.pitch_text.specs.Printing.{name_of, command_words, verb_words, spaced, entry_text, lines_text}
use Rattle.venue_core.specs.Losses.{is_lost}
use Rattle.venue_core.specs.Plan.{plan_quantity, plan_price, plan_symbol, plan_order, plan_at, plan_command}
use Rattle.venue_core.proofs.PlanEffects.{quantity_most, price_most, symbol_case}
use Rattle.storm_replay.specs.declared.verbs.Part.{Part}
use Rattle.storm_replay.specs.declared.verbs.Part.TheVariants.{Start, Step, End}
use Rattle.storm_replay.specs.layers.Parts.{part_verbs, part_by_each}
use Rattle.storm_replay.specs.Storm.{start_verbs, arrival, arrives_late, tenth_verbs, step_verbs, end_verbs, entries_for, storm_steps, storm_schedule, by_each}
use Rattle.storm_replay.proofs.Storms.{lines_more}
use Rattle.storm_replay.specs.layers.Parts.{IsPart}

-- ---- Words
-- a space and a word, for each
size : List (List ℕ) → ℕ
size [] = 0
size (w ∷ ws) = 1 + length w + size ws

spaced_size : (ws : List (List ℕ)) → length (spaced ws) ≡ size ws
unfolding size
spaced_size [] = refl
spaced_size (w ∷ ws) = let rest = spaced_size ws in let l = length-append (32 ∷ w) (spaced ws) in omega (arith, rest, l)

five : (n : ℕ) → n < 10 ^ 5 → length (decimal n) ≤ 5
five n few = length-decimal-le 5 n (omega arith) few (omega (arith, few))

priced : (p : ℕ) → p ≤ 200000 → length (price_digits p) ≤ 7
priced p low =
    let l = length-append (decimal (p / 10000)) (46 ∷ (48 + p % 10000 / 1000) ∷ (48 + p % 10000 / 100 % 10) ∷ (48 + p % 10000 / 10 % 10) ∷ (48 + p % 10000 % 10) ∷ []) in
    let d = length-decimal-le 2 (p / 10000) (omega arith) (omega (arith, low)) (omega (arith, low)) in
    omega (arith, l, d)

named : (i : ℕ) → length (name_of (plan_symbol i)) ≤ 8
named i = symbol_case (λ s. length (name_of s) ≤ 8) i (omega arith) (omega arith) (omega arith)

-- ---- Commands of the plan
add_size : (number unit i : ℕ) (side : Side) (price : ℕ) → i ≤ 10000 → price ≤ 200000 → size (command_words (commands.Add (plan_order number unit i side price) 0)) ≤ 80
unfolding size
add_size number unit i side price few low =
    let a = five i (omega (arith, few)) in
    let q = quantity_most number unit i in
    let b = five (plan_quantity number unit i) (omega (arith, q)) in
    let c = named i in
    let d = priced price low in
    omega (arith, a, b, c, d)

trade_size : (number unit i : ℕ) → i ≤ 10000 → size (command_words (commands.Trade (plan_order number unit i Buy (plan_price number i)) i 0)) ≤ 80
unfolding size
trade_size number unit i few =
    let a = five i (omega (arith, few)) in
    let q = quantity_most number unit i in
    let p = price_most number i in
    let b = five (plan_quantity number unit i) (omega (arith, q)) in
    let c = named i in
    let d = priced (plan_price number i) (omega (arith, p)) in
    omega (arith, a, b, c, d)

three_size : (n a b c : ℕ) → a < 10 ^ 5 → b < 10 ^ 5 → c < 10 ^ 5 → length (decimal a) + length (decimal b) + length (decimal c) ≤ 15
three_size n a b c fa fb fc = let x = five a fa in let y = five b fb in let z = five c fc in omega (arith, x, y, z)

exec_size : (id execution : ℕ) → id < 10 ^ 5 → execution < 10 ^ 5 → size (command_words (commands.Exec id 50 execution 0)) ≤ 80
unfolding size
exec_size id execution few less = let a = five id few in let b = five 50 (omega arith) in let c = five execution less in omega (arith, a, b, c)

reduce_size : (id : ℕ) → id < 10 ^ 5 → size (command_words (commands.Reduce id 20 0)) ≤ 80
unfolding size
reduce_size id few = let a = five id few in let b = five 20 (omega arith) in omega (arith, a, b)

modify_size : (id quantity price : ℕ) → id < 10 ^ 5 → quantity < 10 ^ 5 → price ≤ 200000 → size (command_words (commands.Modify id quantity price true 0)) ≤ 80
unfolding size
modify_size id quantity price few less low = let a = five id few in let b = five quantity less in let d = priced price low in omega (arith, a, b, d)

delete_size : (id : ℕ) → id < 10 ^ 5 → size (command_words (commands.Delete id 0)) ≤ 80
unfolding size
delete_size id few = let a = five id few in omega (arith, a)

time_size : (second : ℕ) → second < 10 ^ 5 → size (command_words (commands.Time second)) ≤ 80
unfolding size
time_size second few = let a = five second few in omega (arith, a)

abbrev IsShort : Command → Type 0
IsShort command = size (command_words command) ≤ 80

at_size : (number unit i j k : ℕ) → i ≤ 10000 → IsShort (plan_at number unit i j k)
at_size number unit i j k few =
    let p = price_most number i in
    let q = quantity_most number unit i in
    cond_both (k == 0) _ _ IsShort (λ t. time_size (34200 + j % 50000) (omega arith)) (λ f0.
    cond_both (k == 1) _ _ IsShort (λ t. add_size number unit i Buy (plan_price number i) few (omega (arith, p))) (λ f1.
    cond_both (k == 2) _ _ IsShort (λ t. add_size number unit i Sell (plan_price number i + 10000) few (omega (arith, p))) (λ f2.
    cond_both (k == 3) _ _ IsShort (λ t. exec_size (i - 2) i (omega (arith, few)) (omega (arith, few))) (λ f3.
    cond_both (k == 4) _ _ IsShort (λ t. reduce_size (i - 2) (omega (arith, few))) (λ f4.
    cond_both (k == 5) _ _ IsShort (λ t. modify_size (i - 4) (plan_quantity number unit i) (plan_price number i) (omega (arith, few)) (omega (arith, q)) (omega (arith, p))) (λ f5.
    cond_both (k == 6) _ _ IsShort (λ t. add_size number unit i Buy (plan_price number i + 1) few (omega (arith, p))) (λ f6.
    cond_both (j % 2 == 0) _ _ IsShort (λ t. delete_size (i - 1) (omega (arith, few))) (λ f. trade_size number unit i few))))))))

command_size : (number unit i : ℕ) → i ≤ 10000 → size (command_words (plan_command number unit i)) ≤ 80
unfolding plan_command
command_size number unit i few = at_size number unit i ((i - 1) / 8) ((i - 1) % 8) few

-- ---- Verbs
weight : List Verb → ℕ
weight [] = 0
weight (v ∷ verbs) = 3 + size (verb_words v) + weight verbs

weight_more : (xs ys : List Verb) → weight (xs ++ ys) ≡ weight xs + weight ys
unfolding weight
weight_more [] ys = omega arith
weight_more (x ∷ xs) ys = let rest = weight_more xs ys in omega (arith, rest)

unit_size : (unit : ℕ) (verbs : List Verb) → unit ≤ 16 → length (lines_text (entries_for unit verbs)) ≤ weight verbs
unfolding weight entry_text
unit_size unit [] few = omega arith
unit_size unit (v ∷ verbs) few =
    let rest = unit_size unit verbs few in
    let a = length-append (entry_text unit v ++ 10 ∷ []) (lines_text (entries_for unit verbs)) in
    let b = length-append (entry_text unit v) (10 ∷ []) in
    let c = length-append (decimal unit) (spaced (verb_words v)) in
    let d = length-decimal-le 2 unit (omega arith) (omega (arith, few)) (omega (arith, few)) in
    let e = spaced_size (verb_words v) in
    omega (arith, rest, a, b, c, d, e)

a_size : (index : ℕ) (comes : Bool) → index < 10 ^ 5 → weight (arrival lines.A index comes) ≤ 16
unfolding weight size
a_size index true few = let d = five index few in omega (arith, d)
a_size index false few = omega arith

b_size : (index : ℕ) (comes : Bool) → index < 10 ^ 5 → weight (arrival lines.B index comes) ≤ 16
unfolding weight size
b_size index true few = let d = five index few in omega (arith, d)
b_size index false few = omega arith

tenth_size : (index : ℕ) → weight (tenth_verbs index) ≤ 80
unfolding weight size
tenth_size index = cond_both (index % 10 == 0) _ _ (λ (verbs : List Verb). weight verbs ≤ 80) (λ t. omega arith) (λ f. omega arith)

step_size : (number unit index : ℕ) → index ≤ 10000 → weight (step_verbs number unit index) ≤ 400
unfolding weight size
step_size number unit index few =
    let late : List Verb = arrival lines.B (index - 3) (arrives_late number unit index) in
    let c = command_size number unit index few in
    let a = a_size index (not (is_lost number unit index 1)) (omega (arith, few)) in
    let b = b_size (index - 3) (arrives_late number unit index) (omega (arith, few)) in
    let t = tenth_size index in
    let m = weight_more (arrival lines.A index (not (is_lost number unit index 1))) (late ++ tenth_verbs index) in
    let n = weight_more late (tenth_verbs index) in
    omega (arith, c, a, b, t, m, n)

start_size : weight start_verbs ≤ 400
unfolding weight size
start_size = omega arith

end_size : (steps : ℕ) → steps ≤ 10000 → weight (end_verbs steps) ≤ 400
unfolding weight size
end_size steps few = let d = five (steps + 1) (omega (arith, few)) in omega (arith, d)

part_size : (number unit : ℕ) (part : Part) → IsPart part → weight (part_verbs number part unit) ≤ 400
part_size number unit Start small = start_size
part_size number unit (Step index) small = step_size number unit index small.1
part_size number unit (End steps) small = end_size steps small

-- ---- The whole
units_size : (number units : ℕ) (part : Part) → units ≤ 16 → IsPart part → length (lines_text (part_by_each number units part)) ≤ 400 * units
unfolding by_each
units_size number zero part few small = omega arith
units_size number (suc unit) part few small =
    let before = units_size number unit part (omega (arith, few)) small in
    let more = ap (λ (l : List ℕ). length l) (lines_more (part_by_each number unit part) (entries_for (suc unit) (part_verbs number part (suc unit)))) in
    let l = length-append (lines_text (part_by_each number unit part)) (lines_text (entries_for (suc unit) (part_verbs number part (suc unit)))) in
    let own = unit_size (suc unit) (part_verbs number part (suc unit)) few in
    let p = part_size number (suc unit) part small in
    omega (arith, before, more, l, own, p)

steps_size : (number units steps : ℕ) → units ≤ 16 → steps ≤ 10000 → length (lines_text (storm_steps number units steps)) ≤ 6400 * steps
unfolding storm_steps
steps_size number units zero few low = omega arith
steps_size number units (suc index) few low =
    let before = steps_size number units index few (omega (arith, low)) in
    let more = ap (λ (l : List ℕ). length l) (lines_more (storm_steps number units index) (part_by_each number units (Step (suc index)))) in
    let l = length-append (lines_text (storm_steps number units index)) (lines_text (part_by_each number units (Step (suc index)))) in
    let own = units_size number units (Step (suc index)) few (omega arith, low) in
    omega (arith, before, more, l, own, few)

pub storm_size : (number units steps : ℕ) → units ≤ 16 → steps ≤ 10000 → length (storm_schedule number units steps) ≤ 67108864
storm_size number units steps few low =
    let start : List (ℕ × Verb) = part_by_each number units Start in
    let course : List (ℕ × Verb) = storm_steps number units steps in
    let end : List (ℕ × Verb) = part_by_each number units (End steps) in
    let a = ap (λ (l : List ℕ). length l) (lines_more start (course ++ end)) in
    let b = length-append (lines_text start) (lines_text (course ++ end)) in
    let c = ap (λ (l : List ℕ). length l) (lines_more course end) in
    let d = length-append (lines_text course) (lines_text end) in
    let x = units_size number units Start few tt in
    let y = steps_size number units steps few low in
    let z = units_size number units (End steps) few low in
    omega (arith, a, b, c, d, x, y, z, few, low)
