-- The messages of the plan are bytes, and each stands at its place.
use Rattle.std.proofs.Common.{◌≡◌, ◌≢◌, ℕ, zero, suc, ◌+◌, ◌*◌, ◌%◌, ◌<◌, ◌≤◌, Bool, true, false, cond, ◌==◌, List, [], ◌∷◌, ◌++◌, length, take, codes, Option, None, Some, refl, sym, ap, ◌∙◌, subst, arith}
use Rattle.std.specs.Prelude.{IfSome}
use Rattle.std.specs.List.{AllByRecursion, slice_get}
use Rattle.std.proofs.lemmas.Bool.{eqb-true}
use Rattle.std.proofs.lemmas.Bool.Decides.{nat_tests}
use Rattle.std.proofs.lemmas.List.{take-append-le, take_all}
use Rattle.pitch_fields.proofs.Lists.{all_push, get_last}
use Rattle.pitch_fields.specs.declared.side.Side.{Side}
use Rattle.pitch_fields.specs.declared.side.Side.TheVariants.{Buy, Sell}
use Rattle.pitch_messages.specs.declared.order.Order.{Order}
use Rattle.pitch_messages.specs.Forms.{flags_of, add_in_form, add_message, short_price, trade_in_form, trade_message, reduce_message, modify_in_form, modify_message}
use Rattle.pitch_messages.specs.Writing.{written}
use Rattle.pitch_fields.specs.Fields.{AreBytes}
use Rattle.pitch_messages.proofs.Widths.{message_bytes}
use Rattle.pitch_messages.specs.declared.message.Message.TheVariants.{Time, AddLong, AddShort, Executed, ReduceShort, ModifyLong, ModifyShort, Delete, TradeLong, TradeShort, AddExpanded, TradeExpanded}
use Rattle.pitch_text.specs.declared.command.Command.{Command}
use Rattle.pitch_text.specs.declared.command.Command.TheVariants as commands
use Rattle.venue_core.specs.Commands.{raw_of}
use Rattle.venue_core.specs.Plan.{plan_quantity, plan_price, plan_order, plan_command, plan}
use Rattle.venue_core.proofs.PlanEffects.{symbol_case, alpha, beta, gamma, blank, alpha_six, beta_six}
use Rattle.venue_core.proofs.PlanBooks.{plan_length, first_command, second_command, third_command, fourth_command, fifth_command, sixth_command, seventh_command, eighth_even, eighth_odd}
use Rattle.venue_core.proofs.PlanAccepted.{OfRound, by_place}

-- ---- Bytes of messages
flag_byte : (b : Bool) → cond b 1 0 < 256
flag_byte true = omega arith
flag_byte false = omega arith

add_bytes : (six : Option (List ℕ)) (cents : Option ℕ) (order : Order) → IfSome six AreBytes → AreBytes order.symbol → AreBytes order.participant → AreBytes (written (add_in_form six cents order 0))
add_bytes None cents order six symbol participant =
    message_bytes (AddExpanded 0 order.id order.side order.quantity order.symbol order.price (flags_of order.display) order.participant)
    (omega arith, (omega arith, (tt, (tt, (tt, (tt, (symbol, (tt, (flag_byte order.display, (participant, tt))))))))))
add_bytes (Some s) None order six symbol participant =
    message_bytes (AddLong 0 order.id order.side order.quantity s order.price (flags_of order.display))
    (omega arith, (omega arith, (tt, (tt, (tt, (tt, (six, (tt, (flag_byte order.display, tt)))))))))
add_bytes (Some s) (Some cents) order six symbol participant =
    message_bytes (AddShort 0 order.id order.side order.quantity s cents (flags_of order.display))
    (omega arith, (omega arith, (tt, (tt, (tt, (tt, (six, (tt, (flag_byte order.display, tt)))))))))

trade_bytes : (six : Option (List ℕ)) (cents : Option ℕ) (order : Order) (execution : ℕ) → IfSome six AreBytes → AreBytes order.symbol → AreBytes (written (trade_in_form six cents order execution 0))
trade_bytes None cents order execution six symbol =
    message_bytes (TradeExpanded 0 order.id order.side order.quantity order.symbol order.price execution) (omega arith, (omega arith, (tt, (tt, (tt, (tt, (symbol, (tt, (tt, tt)))))))))
trade_bytes (Some s) None order execution six symbol =
    message_bytes (TradeLong 0 order.id order.side order.quantity s order.price execution) (omega arith, (omega arith, (tt, (tt, (tt, (tt, (six, (tt, (tt, tt)))))))))
trade_bytes (Some s) (Some cents) order execution six symbol =
    message_bytes (TradeShort 0 order.id order.side order.quantity s cents execution) (omega arith, (omega arith, (tt, (tt, (tt, (tt, (six, (tt, (tt, tt)))))))))

modify_bytes : (cents : Option ℕ) (id quantity price : ℕ) → AreBytes (written (modify_in_form cents id quantity price true 0))
modify_bytes None id quantity price = message_bytes (ModifyLong 0 id quantity price 1) (omega arith, (omega arith, (tt, (tt, (tt, (tt, (omega arith, tt)))))))
modify_bytes (Some cents) id quantity price = message_bytes (ModifyShort 0 id quantity cents 1) (omega arith, (omega arith, (tt, (tt, (tt, (tt, (omega arith, tt)))))))

-- ---- Bytes of commands
abbrev AreRaw : Command → Type 0
AreRaw command = AreBytes (raw_of command)

time_raw : (second : ℕ) → AreRaw (commands.Time second)
time_raw second = message_bytes (Time second) (omega arith, (omega arith, (tt, tt)))

add_raw : (number unit i : ℕ) (side : Side) (price : ℕ) → AreRaw (commands.Add (plan_order number unit i side price) 0)
unfolding add_message
add_raw number unit i side price =
    let quantity : ℕ = plan_quantity number unit i in
    symbol_case (λ s. AreRaw (commands.Add (record (plan_order number unit i side price) { symbol = s }) 0)) i
    (add_bytes (Some (codes "ALPHA ")) (short_price quantity price) (record (plan_order number unit i side price) { symbol = codes "ALPHA   " }) alpha_six alpha blank)
    (add_bytes (Some (codes "BETA  ")) (short_price quantity price) (record (plan_order number unit i side price) { symbol = codes "BETA    " }) beta_six beta blank)
    (add_bytes None (short_price quantity price) (record (plan_order number unit i side price) { symbol = codes "GAMMADLT" }) tt gamma blank)

trade_raw : (number unit i price : ℕ) → AreRaw (commands.Trade (plan_order number unit i Buy price) i 0)
unfolding trade_message
trade_raw number unit i price =
    let quantity : ℕ = plan_quantity number unit i in
    symbol_case (λ s. AreRaw (commands.Trade (record (plan_order number unit i Buy price) { symbol = s }) i 0)) i
    (trade_bytes (Some (codes "ALPHA ")) (short_price quantity price) (record (plan_order number unit i Buy price) { symbol = codes "ALPHA   " }) i alpha_six alpha)
    (trade_bytes (Some (codes "BETA  ")) (short_price quantity price) (record (plan_order number unit i Buy price) { symbol = codes "BETA    " }) i beta_six beta)
    (trade_bytes None (short_price quantity price) (record (plan_order number unit i Buy price) { symbol = codes "GAMMADLT" }) i tt gamma)

exec_raw : (id quantity execution : ℕ) → AreRaw (commands.Exec id quantity execution 0)
exec_raw id quantity execution = message_bytes (Executed 0 id quantity execution) (omega arith, (omega arith, (tt, (tt, (tt, (tt, tt))))))

reduce_raw : (id : ℕ) → AreRaw (commands.Reduce id 20 0)
unfolding reduce_message
reduce_raw id = message_bytes (ReduceShort 0 id 20) (omega arith, (omega arith, (tt, (tt, (tt, tt)))))

modify_raw : (id quantity price : ℕ) → AreRaw (commands.Modify id quantity price true 0)
unfolding modify_message
modify_raw id quantity price = modify_bytes (short_price quantity price) id quantity price

delete_raw : (id : ℕ) → AreRaw (commands.Delete id 0)
delete_raw id = message_bytes (Delete 0 id) (omega arith, (omega arith, (tt, (tt, tt))))

-- ---- The plan
abbrev InBytes : ℕ → ℕ → ℕ → Type 0
InBytes number unit i = AreRaw (plan_command number unit i)

raw_as : (number unit i : ℕ) (command : Command) → plan_command number unit i ≡ command → AreRaw command → InBytes number unit i
raw_as number unit i command is all = subst AreRaw (sym is) all

round_bytes : (number unit j : ℕ) → 8 * j + 8 ≤ 400000 → OfRound (InBytes number unit) j
round_bytes number unit j low = record {
  at_1 = raw_as number unit (8 * j + 1) _ (first_command number unit j) (time_raw (34200 + j % 50000));
  at_2 = raw_as number unit (8 * j + 2) _ (second_command number unit j) (add_raw number unit (8 * j + 2) Buy (plan_price number (8 * j + 2)));
  at_3 = raw_as number unit (8 * j + 3) _ (third_command number unit j) (add_raw number unit (8 * j + 3) Sell (plan_price number (8 * j + 3) + 10000));
  at_4 = raw_as number unit (8 * j + 4) _ (fourth_command number unit j) (exec_raw (8 * j + 2) 50 (8 * j + 4));
  at_5 = raw_as number unit (8 * j + 5) _ (fifth_command number unit j) (reduce_raw (8 * j + 3));
  at_6 = raw_as number unit (8 * j + 6) _ (sixth_command number unit j) (modify_raw (8 * j + 2) (plan_quantity number unit (8 * j + 6)) (plan_price number (8 * j + 6)));
  at_7 = raw_as number unit (8 * j + 7) _ (seventh_command number unit j) (add_raw number unit (8 * j + 7) Buy (plan_price number (8 * j + 7) + 1));
  at_8 = by (j % 2 == 0) refl;
}
  where
    by : (b : Bool) → (j % 2 == 0) ≡ b → InBytes number unit (8 * j + 8)
    by true t = raw_as number unit (8 * j + 8) _ (eighth_even number unit j t) (delete_raw (8 * j + 7))
    by false f = raw_as number unit (8 * j + 8) _ (eighth_odd number unit j f) (trade_raw number unit (8 * j + 8) (plan_price number (8 * j + 8)))

pub plan_bytes : (number unit count : ℕ) → count ≤ 400000 → AllByRecursion AreBytes (plan number unit count)
unfolding plan
plan_bytes number unit zero low = tt
plan_bytes number unit (suc count) low =
    all_push AreBytes (plan number unit count) (raw_of (plan_command number unit (suc count))) (plan_bytes number unit count (omega (arith, low))) (by_place (InBytes number unit) (round_bytes number unit) (suc count) (omega arith) low)

-- ---- Places
before : (raws : List (List ℕ)) (raw : List ℕ) (i : ℕ) → i < length raws → slice_get (raws ++ raw ∷ []) i ≡ slice_get raws i
before [] raw i lt = absurd (omega (arith, lt))
before (first ∷ raws) raw zero lt = refl
before (first ∷ raws) raw (suc i) lt = before raws raw i (omega (arith, lt))

-- message i + 1 is that of command i + 1
pub plan_at_place : (number unit count i : ℕ) → i < count → slice_get (plan number unit count) i ≡ Some (raw_of (plan_command number unit (i + 1)))
unfolding plan
plan_at_place number unit zero i lt = absurd (omega (arith, lt))
plan_at_place number unit (suc count) i lt = by (λ lower. plan_at_place number unit count i lower) (i == count) refl
  where
    raws : List (List ℕ)
    raws = plan number unit count

    size : length raws ≡ count
    size = plan_length number unit count

    at_end : i ≡ count → slice_get (raws ++ raw_of (plan_command number unit (suc count)) ∷ []) i ≡ Some (raw_of (plan_command number unit (i + 1)))
    at_end e =
        let same : i ≡ length raws = omega (arith, e, size) in
        let next : suc count ≡ i + 1 = omega (arith, e) in
        ap (slice_get (raws ++ raw_of (plan_command number unit (suc count)) ∷ [])) same ∙ get_last raws (raw_of (plan_command number unit (suc count))) ∙ ap (λ (k : ℕ). Some (raw_of (plan_command number unit k))) next

    by : (i < count → slice_get raws i ≡ Some (raw_of (plan_command number unit (i + 1)))) → (b : Bool) → (i == count) ≡ b → slice_get (raws ++ raw_of (plan_command number unit (suc count)) ∷ []) i ≡ Some (raw_of (plan_command number unit (i + 1)))
    by rec true t = at_end (eqb-true i count t)
    by rec false f =
        let ne : i ≢ count = λ e. apart i count e f in
        let lower : i < count = omega (arith, lt, ne) in
        before raws (raw_of (plan_command number unit (suc count))) i (omega (arith, lower, size)) ∙ rec lower
      where
        apart : (m n : ℕ) → m ≡ n → (m == n) ≡ false → ⊥
        apart m n e f = grind (arith, nat_tests, e, f)

-- what comes first of a plan is a shorter plan
pub plan_prefix : (number unit n more : ℕ) → take n (plan number unit (n + more)) ≡ plan number unit n
unfolding plan
plan_prefix number unit n zero =
    let e : n + 0 ≡ n = omega arith in
    ap (λ (k : ℕ). take n (plan number unit k)) e ∙ take_all n (plan number unit n) (let l = plan_length number unit n in omega (arith, l))
plan_prefix number unit n (suc more) =
    let e : n + suc more ≡ suc (n + more) = omega arith in
    let l = plan_length number unit (n + more) in
    ap (λ (k : ℕ). take n (plan number unit k)) e
    ∙ take-append-le n (plan number unit (n + more)) (raw_of (plan_command number unit (suc (n + more))) ∷ []) (omega (arith, l))
    ∙ plan_prefix number unit n more
