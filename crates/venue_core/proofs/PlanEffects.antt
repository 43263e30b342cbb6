-- What the message of each kind of command of the plan says and does.
use Rattle.std.proofs.Common.{◌≡◌, ℕ, ◌/◌, ◌%◌, ◌^◌, ◌<◌, ◌≤◌, Bool, true, cond, ◌==◌, ◌&&◌, nat_le, List, length, codes, Option, None, Some, Ok, refl, sym, ap, ◌∙◌, subst, arith}
use Rattle.std.proofs.lemmas.Bool.{cond_both}
use Rattle.std.proofs.lemmas.Bool.Decides.{nat_tests}
use Rattle.pitch_fields.specs.Fields.{AreBytes}
use Rattle.pitch_fields.specs.Price.{short_of}
use Rattle.pitch_fields.specs.Name.{six_of}
use Rattle.pitch_fields.specs.declared.side.Side.{Side}
use Rattle.pitch_fields.specs.declared.side.Side.TheVariants.{Buy}
use Rattle.pitch_messages.specs.declared.order.Order.{Order}
use Rattle.pitch_messages.specs.declared.message.Message.{Message}
use Rattle.pitch_messages.specs.declared.message.Message.TheVariants.{ModifyShort, TradeShort, TradeExpanded, Time, Executed, ReduceShort, Delete}
use Rattle.pitch_messages.specs.Forms.{short_price, trade_in_form, trade_message, reduce_message, modify_in_form, modify_message}
use Rattle.pitch_messages.specs.Reading.{reads}
use Rattle.pitch_messages.specs.Writing.{written}
use Rattle.pitch_messages.proofs.RoundTrip.{message_back}
use Rattle.pitch_model.specs.Book.{Book, Effect, ShowsSecond, AddsOrder, ChangesOrder, RemovesOrder, DoesNothing, long_price, after, after_read, after_effect, effect_of}
use Rattle.pitch_model.specs.declared.order_change.OrderChange.TheVariants.{Reduced, Modified}
use Rattle.pitch_model.specs.layers.Widths.{FitsWire}
use Rattle.pitch_model.proofs.Images.{add_message_adds, add_message_reads}
use Rattle.pitch_text.specs.declared.command.Command.{Command}
use Rattle.pitch_text.specs.declared.command.Command.TheVariants as commands
use Rattle.venue_core.specs.Commands.{message_of, raw_of}
use Rattle.venue_core.specs.Plan.{plan_quantity, plan_price, plan_symbol, plan_order}

-- the message of a command is read as such, and has this effect
pub record Does (command : Command) (effect : Effect) : Type 0 where
  pub known : reads (raw_of command) ≡ Ok (message_of command)
  pub does : effect_of (message_of command) ≡ effect

pub done : (command : Command) (effect : Effect) (book : Book) → Does command effect → after book (raw_of command) ≡ after_effect book effect
unfolding after
done command effect book it = ap (after_read book) it.known ∙ ap (after_effect book) it.does

-- ---- Numbers and symbols of the plan
pub quantity_least : (number unit i : ℕ) → 100 ≤ plan_quantity number unit i
unfolding plan_quantity
quantity_least number unit i = omega arith

pub quantity_most : (number unit i : ℕ) → plan_quantity number unit i ≤ 499
unfolding plan_quantity
quantity_most number unit i = omega arith

pub price_most : (number i : ℕ) → plan_price number i ≤ 119900
unfolding plan_price
price_most number i = omega arith

pub price_cents : (number i : ℕ) → plan_price number i % 100 ≡ 0
unfolding plan_price
price_cents number i = omega arith

pub symbol_case : (P : List ℕ → Type 0) (i : ℕ) → P (codes "ALPHA   ") → P (codes "BETA    ") → P (codes "GAMMADLT") → P (plan_symbol i)
symbol_case P i a b c =
    cond_both (i % 3 == 0) (codes "ALPHA   ") (cond (i % 3 == 1) (codes "BETA    ") (codes "GAMMADLT")) P (λ t. a)
    (λ f. cond_both (i % 3 == 1) (codes "BETA    ") (codes "GAMMADLT") P (λ t. b) (λ g. c))

pub alpha : AreBytes (codes "ALPHA   ")
alpha = (omega arith, (omega arith, (omega arith, (omega arith, (omega arith, (omega arith, (omega arith, (omega arith, tt))))))))

pub beta : AreBytes (codes "BETA    ")
beta = (omega arith, (omega arith, (omega arith, (omega arith, (omega arith, (omega arith, (omega arith, (omega arith, tt))))))))

pub gamma : AreBytes (codes "GAMMADLT")
gamma = (omega arith, (omega arith, (omega arith, (omega arith, (omega arith, (omega arith, (omega arith, (omega arith, tt))))))))

pub blank : AreBytes (codes "    ")
blank = (omega arith, (omega arith, (omega arith, (omega arith, tt))))

pub alpha_six : AreBytes (codes "ALPHA ")
alpha_six = (omega arith, (omega arith, (omega arith, (omega arith, (omega arith, (omega arith, tt))))))

pub beta_six : AreBytes (codes "BETA  ")
beta_six = (omega arith, (omega arith, (omega arith, (omega arith, (omega arith, (omega arith, tt))))))

pub fits_wire : (number unit i : ℕ) (side : Side) (price : ℕ) → i ≤ 400000 → price ≤ 200000 → FitsWire (plan_order number unit i side price)
fits_wire number unit i side price few low = record {
  id = omega (arith, few);
  quantity = omega (arith, quantity_most number unit i);
  symbol = symbol_case (λ s. length s ≡ 8) i refl refl refl;
  price = omega (arith, low);
  participant = refl;
  symbol_bytes = symbol_case AreBytes i alpha beta gamma;
  participant_bytes = blank;
}

pub cheap : (quantity price : ℕ) → quantity ≤ 65535 → price ≤ 6553500 → price % 100 ≡ 0 → short_price quantity price ≡ Some (price / 100)
cheap quantity price few low cents =
    let few_true : nat_le quantity 65535 ≡ true = grind (arith, nat_tests, few) in
    let low_true : nat_le price 6553500 ≡ true = grind (arith, nat_tests, low) in
    let cents_true : (price % 100 == 0) ≡ true = grind (arith, nat_tests, cents) in
    ap (λ (b : Bool). cond b (short_of price) None) few_true
    ∙ ap (λ (b : Bool). cond (b && nat_le price 6553500) (Some (price / 100)) None) cents_true
    ∙ ap (λ (b : Bool). cond b (Some (price / 100)) None) low_true

-- ---- Commands
pub time_does : (second : ℕ) → second < 256 ^ 4 → Does (commands.Time second) (ShowsSecond second)
time_does second fits = record { known = message_back (Time second) (fits, tt); does = refl }

pub add_does : (order : Order) → FitsWire order → Does (commands.Add order 0) (AddsOrder order)
add_does order fits = record { known = add_message_reads order fits; does = add_message_adds order fits }

pub exec_does : (id quantity execution : ℕ) → id ≤ 400000 → quantity ≤ 499 → execution ≤ 400000 → Does (commands.Exec id quantity execution 0) (ChangesOrder id (Reduced quantity))
exec_does id quantity execution low few lower = record {
  known = message_back (Executed 0 id quantity execution) (omega arith, (omega (arith, low), (omega (arith, few), (omega (arith, lower), tt))));
  does = refl;
}

pub reduce_does : (id : ℕ) → id ≤ 400000 → Does (commands.Reduce id 20 0) (ChangesOrder id (Reduced 20))
unfolding reduce_message
reduce_does id low = record { known = message_back (ReduceShort 0 id 20) (omega arith, (omega (arith, low), (omega arith, tt))); does = refl }

pub modify_does : (id quantity price : ℕ) → id ≤ 400000 → quantity ≤ 499 → price ≤ 6553500 → price % 100 ≡ 0 → Does (commands.Modify id quantity price true 0) (ChangesOrder id (Modified quantity price true))
unfolding modify_message
modify_does id quantity price low few cheap_enough cents =
    let short : modify_message id quantity price true 0 ≡ ModifyShort 0 id quantity (price / 100) 1 = ap (λ (o : Option ℕ). modify_in_form o id quantity price true 0) (cheap quantity price (omega (arith, few)) cheap_enough cents) in
    let whole : long_price (price / 100) ≡ price = omega (arith, cents) in
    record {
      known = subst (λ (m : Message). reads (written m) ≡ Ok m) (sym short) (message_back (ModifyShort 0 id quantity (price / 100) 1) (omega arith, (omega (arith, low), (omega (arith, few), (omega (arith, cheap_enough), (tt, tt))))));
      does = ap effect_of short ∙ ap (λ (p : ℕ). ChangesOrder id (Modified quantity p true)) whole;
    }

pub delete_does : (id : ℕ) → id ≤ 400000 → Does (commands.Delete id 0) (RemovesOrder id)
delete_does id low = record { known = message_back (Delete 0 id) (omega arith, (omega (arith, low), tt)); does = refl }

-- a trade of an order with this symbol
abbrev trade_of : ℕ → ℕ → ℕ → List ℕ → Command
trade_of number unit i symbol = commands.Trade (record (plan_order number unit i Buy (plan_price number i)) { symbol = symbol }) i 0

trade_short_does : (number unit i : ℕ) (symbol six : List ℕ) → i ≤ 400000 → six_of symbol ≡ Some six → length six ≡ 6 → Does (trade_of number unit i symbol) DoesNothing
unfolding trade_message
trade_short_does number unit i symbol six low at size =
    let order : Order = record (plan_order number unit i Buy (plan_price number i)) { symbol = symbol } in
    let quantity : ℕ = plan_quantity number unit i in
    let price : ℕ = plan_price number i in
    let few = quantity_most number unit i in
    let cheap_enough = price_most number i in
    let short : trade_message order i 0 ≡ TradeShort 0 i Buy quantity six (price / 100) i =
    ap (λ (s : Option (List ℕ)). trade_in_form s (short_price quantity price) order i 0) at
    ∙ ap (λ (o : Option ℕ). trade_in_form (Some six) o order i 0) (cheap quantity price (omega (arith, few)) (omega (arith, cheap_enough)) (price_cents number i)) in
    record {
      known = subst (λ (m : Message). reads (written m) ≡ Ok m) (sym short)
          (message_back (TradeShort 0 i Buy quantity six (price / 100) i) (omega arith, (omega (arith, low), (tt, (omega (arith, few), (size, (omega (arith, cheap_enough), (omega (arith, low), tt))))))));
      does = ap effect_of short;
    }

trade_expanded_does : (number unit i : ℕ) (symbol : List ℕ) → i ≤ 400000 → six_of symbol ≡ None → length symbol ≡ 8 → Does (trade_of number unit i symbol) DoesNothing
unfolding trade_message
trade_expanded_does number unit i symbol low at size =
    let order : Order = record (plan_order number unit i Buy (plan_price number i)) { symbol = symbol } in
    let quantity : ℕ = plan_quantity number unit i in
    let price : ℕ = plan_price number i in
    let few = quantity_most number unit i in
    let cheap_enough = price_most number i in
    let expanded : trade_message order i 0 ≡ TradeExpanded 0 i Buy quantity symbol price i =
    ap (λ (s : Option (List ℕ)). trade_in_form s (short_price quantity price) order i 0) at in
    record {
      known = subst (λ (m : Message). reads (written m) ≡ Ok m) (sym expanded)
          (message_back (TradeExpanded 0 i Buy quantity symbol price i) (omega arith, (omega (arith, low), (tt, (omega (arith, few), (size, (omega (arith, cheap_enough), (omega (arith, low), tt))))))));
      does = ap effect_of expanded;
    }

pub trade_does : (number unit i : ℕ) → i ≤ 400000 → Does (commands.Trade (plan_order number unit i Buy (plan_price number i)) i 0) DoesNothing
trade_does number unit i low =
    symbol_case (λ symbol. Does (trade_of number unit i symbol) DoesNothing) i
    (trade_short_does number unit i (codes "ALPHA   ") (codes "ALPHA ") low refl refl)
    (trade_short_does number unit i (codes "BETA    ") (codes "BETA  ") low refl refl)
    (trade_expanded_does number unit i (codes "GAMMADLT") low refl refl)
