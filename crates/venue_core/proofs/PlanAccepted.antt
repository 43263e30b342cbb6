-- Each of the first 400,000 commands of the plan is accepted.
use Rattle.std.proofs.Common.{◌≡◌, ◌≢◌, ℕ, zero, suc, ◌+◌, ◌-◌, ◌*◌, ◌/◌, ◌%◌, ◌<◌, ◌≤◌, Bool, true, false, not, cond, ◌==◌, ◌&&◌, ◌||◌, nat_lt, List, [], ◌∷◌, length, codes, Option, None, Some, is_some, Ok, refl, sym, ap, ◌∙◌, subst, arith}
use Rattle.std.proofs.lemmas.Bool.Decides.{nat_tests}
use Rattle.std.proofs.lemmas.List.Folds.{list_any-append}
use Rattle.std.specs.FinMap as finite
use Rattle.std.proofs.Math.Bool.{or-false}
use Rattle.pitch_fields.specs.declared.side.Side.{Side}
use Rattle.pitch_fields.specs.declared.side.Side.TheVariants.{Buy, Sell}
use Rattle.pitch_messages.specs.Reading.{reads}
use Rattle.pitch_messages.specs.declared.order.Order.{Order}
use Rattle.pitch_fields.specs.Name.{is_well_formed, is_participant}
use Rattle.pitch_model.specs.Book.{Book, Effect, reduced_by, book_after}
use Rattle.pitch_model.proofs.Books.{book_after_len}
use Rattle.pitch_text.specs.declared.command.Command.{Command}
use Rattle.pitch_text.specs.declared.command.Command.TheVariants as commands
use Rattle.venue_core.specs.declared.error.VenueError.TheVariants.{Ended, ZeroQuantity, BadSymbol, KnownId, UnknownId, TooMuch, BookFull, SequencesSpent}
use Rattle.venue_core.specs.Commands.{message_of, raw_of, ends_session}
use Rattle.venue_core.specs.Refusals.{reads_end, is_ended, are_spent, has_no_shares, has_bad_name, adds_open_order, names_no_order, takes_too_much, shares_of, excess, overfills, refused_if, first_refusal, refusal}
use Rattle.venue_core.specs.Plan.{plan_quantity, plan_price, plan_order, plan_command, plan}
use Rattle.venue_core.specs.Planned.{buy_left, sell_left, second_buy}
use Rattle.venue_core.proofs.Accepting.{ends_by_message}
use Rattle.venue_core.proofs.PlanEffects.{Does, quantity_least, quantity_most, price_most, price_cents, symbol_case, fits_wire, time_does, add_does, exec_does, reduce_does, modify_does, delete_does, trade_does}
use Rattle.venue_core.proofs.PlanBooks.{Orders, plan_length, get_other, first_command, second_command, third_command, fourth_command, fifth_command, sixth_command, seventh_command, eighth_even, eighth_odd, first_order, second_order, orders_2, orders_3, orders_4, orders_5, orders_6, orders_7, clock, book_of, finds_first, finds_second, finds_reduced, finds_third, stands_1, stands_2, stands_3, stands_4, stands_5, stands_6, stands_7}
use Rattle.venue_core.proofs.PlanLeft.{Left, left_none, left_after}

-- ---- Places
-- what holds at each place of round j
pub record OfRound (P : ℕ → Type 0) (j : ℕ) : Type 0 where
  pub at_1 : P (8 * j + 1)
  pub at_2 : P (8 * j + 2)
  pub at_3 : P (8 * j + 3)
  pub at_4 : P (8 * j + 4)
  pub at_5 : P (8 * j + 5)
  pub at_6 : P (8 * j + 6)
  pub at_7 : P (8 * j + 7)
  pub at_8 : P (8 * j + 8)

pick : (P : ℕ → Type 0) (j k : ℕ) → k < 8 → OfRound P j → P (8 * j + (k + 1))
pick P j zero low all = all.at_1
pick P j (suc zero) low all = all.at_2
pick P j (suc (suc zero)) low all = all.at_3
pick P j (suc (suc (suc zero))) low all = all.at_4
pick P j (suc (suc (suc (suc zero)))) low all = all.at_5
pick P j (suc (suc (suc (suc (suc zero))))) low all = all.at_6
pick P j (suc (suc (suc (suc (suc (suc zero)))))) low all = all.at_7
pick P j (suc (suc (suc (suc (suc (suc (suc zero))))))) low all = all.at_8
pick P j (suc (suc (suc (suc (suc (suc (suc (suc k)))))))) low all = absurd (omega (arith, low))

-- what holds at each place of each of the first 50,000 rounds holds of each of the first 400,000 commands
pub by_place : (P : ℕ → Type 0) → ((j : ℕ) → 8 * j + 8 ≤ 400000 → OfRound P j) → (i : ℕ) → 1 ≤ i → i ≤ 400000 → P i
by_place P all i some few =
    let at : 8 * ((i - 1) / 8) + ((i - 1) % 8 + 1) ≡ i = omega (arith, some) in
    subst P at (pick P ((i - 1) / 8) ((i - 1) % 8) (omega arith) (all ((i - 1) / 8) (omega (arith, few, some))))

-- ---- Each message is read as what the command says
abbrev IsKnown : ℕ → ℕ → ℕ → Type 0
IsKnown number unit i = reads (raw_of (plan_command number unit i)) ≡ Ok (message_of (plan_command number unit i))

known_as : (number unit i : ℕ) (command : Command) (effect : Effect) → plan_command number unit i ≡ command → Does command effect → IsKnown number unit i
known_as number unit i command effect is does = subst (λ (c : Command). reads (raw_of c) ≡ Ok (message_of c)) (sym is) does.known

round_known : (number unit j : ℕ) → 8 * j + 8 ≤ 400000 → OfRound (IsKnown number unit) j
round_known number unit j low = record {
  at_1 = known_as number unit (8 * j + 1) (commands.Time (34200 + j % 50000)) _ (first_command number unit j) (time_does (34200 + j % 50000) (omega arith));
  at_2 = known_as number unit (8 * j + 2) _ _ (second_command number unit j)
      (add_does (plan_order number unit (8 * j + 2) Buy (plan_price number (8 * j + 2))) (fits_wire number unit (8 * j + 2) Buy (plan_price number (8 * j + 2)) (omega (arith, low)) (let p = price_most number (8 * j + 2) in omega (arith, p))));
  at_3 = known_as number unit (8 * j + 3) _ _ (third_command number unit j)
      (add_does (plan_order number unit (8 * j + 3) Sell (plan_price number (8 * j + 3) + 10000)) (fits_wire number unit (8 * j + 3) Sell (plan_price number (8 * j + 3) + 10000) (omega (arith, low)) (let p = price_most number (8 * j + 3) in omega (arith, p))));
  at_4 = known_as number unit (8 * j + 4) _ _ (fourth_command number unit j) (exec_does (8 * j + 2) 50 (8 * j + 4) (omega (arith, low)) (omega arith) (omega (arith, low)));
  at_5 = known_as number unit (8 * j + 5) _ _ (fifth_command number unit j) (reduce_does (8 * j + 3) (omega (arith, low)));
  at_6 = known_as number unit (8 * j + 6) _ _ (sixth_command number unit j)
      (modify_does (8 * j + 2) (plan_quantity number unit (8 * j + 6)) (plan_price number (8 * j + 6)) (omega (arith, low)) (quantity_most number unit (8 * j + 6)) (let p = price_most number (8 * j + 6) in omega (arith, p)) (price_cents number (8 * j + 6)));
  at_7 = known_as number unit (8 * j + 7) _ _ (seventh_command number unit j)
      (add_does (second_buy number unit j) (fits_wire number unit (8 * j + 7) Buy (plan_price number (8 * j + 7) + 1) (omega (arith, low)) (let p = price_most number (8 * j + 7) in omega (arith, p))));
  at_8 = by (j % 2 == 0) refl;
}
  where
    by : (b : Bool) → (j % 2 == 0) ≡ b → IsKnown number unit (8 * j + 8)
    by true t = known_as number unit (8 * j + 8) _ _ (eighth_even number unit j t) (delete_does (8 * j + 7) (omega (arith, low)))
    by false f = known_as number unit (8 * j + 8) _ _ (eighth_odd number unit j f) (trade_does number unit (8 * j + 8) low)

pub plan_known : (number unit i : ℕ) → 1 ≤ i → i ≤ 400000 → IsKnown number unit i
plan_known number unit i = by_place (IsKnown number unit) (round_known number unit) i

-- ---- No command of the plan ends the session
GoesOn : ℕ → ℕ → ℕ → Type 0
GoesOn number unit i = ends_session (plan_command number unit i) ≡ false

round_goes_on : (number unit j : ℕ) → 8 * j + 8 ≤ 400000 → OfRound (GoesOn number unit) j
unfolding GoesOn
round_goes_on number unit j low = record {
  at_1 = ap ends_session (first_command number unit j);
  at_2 = ap ends_session (second_command number unit j);
  at_3 = ap ends_session (third_command number unit j);
  at_4 = ap ends_session (fourth_command number unit j);
  at_5 = ap ends_session (fifth_command number unit j);
  at_6 = ap ends_session (sixth_command number unit j);
  at_7 = ap ends_session (seventh_command number unit j);
  at_8 = by (j % 2 == 0) refl;
}
  where
    by : (b : Bool) → (j % 2 == 0) ≡ b → GoesOn number unit (8 * j + 8)
    by true t = ap ends_session (eighth_even number unit j t)
    by false f = ap ends_session (eighth_odd number unit j f)

pub plan_goes_on : (number unit n : ℕ) → n ≤ 400000 → is_ended (plan number unit n) ≡ false
unfolding plan GoesOn
plan_goes_on number unit zero low = refl
plan_goes_on number unit (suc n) low =
    let raw : List ℕ = raw_of (plan_command number unit (suc n)) in
    list_any-append (λ (raw : List ℕ). reads_end (reads raw)) (plan number unit n) (raw ∷ [])
    ∙ ap (λ (b : Bool). b || (reads_end (reads raw) || false)) (plan_goes_on number unit n (omega (arith, low)))
    ∙ or-false (reads_end (reads raw))
    ∙ ap reads_end (plan_known number unit (suc n) (omega arith) low)
    ∙ ends_by_message (plan_command number unit (suc n))
    ∙ by_place (GoesOn number unit) (round_goes_on number unit) (suc n) (omega arith) low

-- ---- What lets a command through
-- none of the refusals that speak of the command and the book holds
pub record Goes (book : Book) (command : Command) : Type 0 where
  pub shares : has_no_shares command ≡ false
  pub name : has_bad_name command ≡ false
  pub fresh : adds_open_order book command ≡ false
  pub found : names_no_order book command ≡ false
  pub enough : takes_too_much book command ≡ None

has_room : (book : Book) (command : Command) → finite.len book.orders < 1000000 → overfills book command ≡ false
has_room book (commands.Time second) few = refl
has_room book (commands.Add order offset) few = grind (arith, nat_tests, few)
has_room book (commands.Exec id quantity execution offset) few = refl
has_room book (commands.ExecAt id quantity remaining execution price offset) few = refl
has_room book (commands.Reduce id quantity offset) few = refl
has_room book (commands.Modify id quantity price display offset) few = refl
has_room book (commands.Delete id offset) few = refl
has_room book (commands.Trade order execution offset) few = refl
has_room book (commands.Break execution offset) few = refl
has_room book (commands.Clear offset) few = refl
has_room book (commands.EndSession offset) few = refl
has_room book (commands.Status symbol halt sho offset) few = refl

accepted : (V : List (List ℕ)) (command : Command) → is_ended V ≡ false → Goes (book_after V) command → overfills (book_after V) command ≡ false → are_spent (length V) ≡ false → refusal V command ≡ None
accepted V command on goes room left = λ s. first_refusal (refused_if (on s) Ended ∷ refused_if (goes.shares s) ZeroQuantity ∷ refused_if (goes.name s) BadSymbol ∷ refused_if (goes.fresh s) KnownId ∷ refused_if (goes.found s) UnknownId
    ∷ goes.enough s ∷ refused_if (room s) BookFull ∷ refused_if (left s) SequencesSpent ∷ [])

-- command i is accepted
abbrev pub IsAccepted : ℕ → ℕ → ℕ → Type 0
IsAccepted number unit i = refusal (plan number unit (i - 1)) (plan_command number unit i) ≡ None

accepted_at : (number unit n i : ℕ) (command : Command) (book : Book) → i ≡ suc n → i ≤ 400000 → plan_command number unit i ≡ command → book_after (plan number unit n) ≡ book → Goes book command → IsAccepted number unit i
accepted_at number unit n i command book e low is at goes =
    let before : i - 1 ≡ n = omega (arith, e) in
    let size = plan_length number unit n in
    let few : finite.len (book_after (plan number unit n)).orders < 1000000 = (let l = book_after_len (plan number unit n) in omega (arith, l, size, e, low)) in
    let left : are_spent (length (plan number unit n)) ≡ false = (let ne : length (plan number unit n) ≢ 4294967294 = λ f. omega (arith, f, size, e, low) in grind (arith, nat_tests, ne)) in
    ap (λ (k : ℕ). refusal (plan number unit k) (plan_command number unit i)) before
    ∙ ap (refusal (plan number unit n)) is
    ∙ accepted (plan number unit n) command (plan_goes_on number unit n (omega (arith, e, low))) (subst (λ (b : Book). Goes b command) (sym at) goes) (has_room (book_after (plan number unit n)) command few) left

-- ---- The commands of round j, where the orders m were open before it
some_shares : (quantity : ℕ) → 100 ≤ quantity → (quantity == 0) ≡ false
some_shares quantity most = let ne : quantity ≢ 0 = λ e. omega (arith, e, most) in grind (arith, nat_tests, ne)

add_goes : (number unit i : ℕ) (side : Side) (price : ℕ) (book : Book) → finite.get book.orders i ≡ None → Goes book (commands.Add (plan_order number unit i side price) 0)
add_goes number unit i side price book none = record {
  shares = some_shares (plan_quantity number unit i) (quantity_least number unit i);
  name = symbol_case (λ s. not (is_well_formed s && is_participant (codes "    ")) ≡ false) i refl refl refl;
  fresh = ap (λ (o : Option Order). is_some o) none;
  found = refl;
  enough = refl;
}

enough_held : (asked held : ℕ) → asked ≤ held → excess asked held ≡ None
enough_held asked held le =
    let f : nat_lt held asked ≡ false = grind (arith, nat_tests, le) in
    ap (λ (b : Bool). cond b (Some (TooMuch asked held)) None) f

module _ (number unit j : ℕ) (low : 8 * j + 8 ≤ 400000) (left : Left number unit j) where
  m : Orders
  m = (book_after (plan number unit (8 * j))).orders

  -- no order with this id or a later one is open before the round
  none : (k : ℕ) → 0 < k → finite.get m (8 * j + k) ≡ None
  unfolding m
  none k some = left_none number unit j left (8 * j + k) (omega (arith, some))

  none_third : finite.get (orders_6 number unit j m) (8 * j + 7) ≡ None
  none_third =
      get_other (orders_5 number unit j m) (8 * j + 2) (buy_left number unit j) (8 * j + 7) (λ e. omega (arith, e))
      ∙ get_other (orders_4 number unit j m) (8 * j + 3) (sell_left number unit j) (8 * j + 7) (λ e. omega (arith, e))
      ∙ get_other (orders_3 number unit j m) (8 * j + 2) (reduced_by 50 (first_order number unit j m)) (8 * j + 7) (λ e. omega (arith, e))
      ∙ get_other (orders_2 number unit j m) (8 * j + 3) (second_order number unit j m) (8 * j + 7) (λ e. omega (arith, e))
      ∙ get_other m (8 * j + 2) (first_order number unit j m) (8 * j + 7) (λ e. omega (arith, e))
      ∙ none 7 (omega arith)

  none_second : finite.get (orders_2 number unit j m) (8 * j + 3) ≡ None
  none_second = get_other m (8 * j + 2) (first_order number unit j m) (8 * j + 3) (λ e. omega (arith, e)) ∙ none 3 (omega arith)

  round_accepted : OfRound (IsAccepted number unit) j
  unfolding m
  round_accepted =
      let s1 = stands_1 number unit j m (book_after (plan number unit (8 * j))).second low refl in
      let s2 = stands_2 number unit j m low s1 in
      let s3 = stands_3 number unit j m low s2 in
      let s4 = stands_4 number unit j m low s3 in
      let s5 = stands_5 number unit j m low s4 in
      let s6 = stands_6 number unit j m low s5 in
      let s7 = stands_7 number unit j m low s6 in
      record {
        at_1 = accepted_at number unit (8 * j) (8 * j + 1) (commands.Time (clock number unit j m)) (book_after (plan number unit (8 * j))) (omega arith) (omega (arith, low)) (first_command number unit j) refl
            (record { shares = refl; name = refl; fresh = refl; found = refl; enough = refl });
        at_2 = accepted_at number unit (8 * j + 1) (8 * j + 2) (commands.Add (first_order number unit j m) 0) (book_of number unit j m m) (omega arith) (omega (arith, low)) (second_command number unit j) s1
            (add_goes number unit (8 * j + 2) Buy (plan_price number (8 * j + 2)) (book_of number unit j m m) (none 2 (omega arith)));
        at_3 = accepted_at number unit (8 * j + 2) (8 * j + 3) (commands.Add (second_order number unit j m) 0) (book_of number unit j m (orders_2 number unit j m)) (omega arith) (omega (arith, low)) (third_command number unit j) s2
            (add_goes number unit (8 * j + 3) Sell (plan_price number (8 * j + 3) + 10000) (book_of number unit j m (orders_2 number unit j m)) none_second);
        at_4 = accepted_at number unit (8 * j + 3) (8 * j + 4) (commands.Exec (8 * j + 2) 50 (8 * j + 4) 0) (book_of number unit j m (orders_3 number unit j m)) (omega arith) (omega (arith, low)) (fourth_command number unit j) s3
            (record {
              shares = refl;
              name = refl;
              fresh = refl;
              found = ap (λ (o : Option Order). not (is_some o)) (finds_first number unit j m);
              enough = ap (λ (o : Option Order). excess 50 (shares_of o)) (finds_first number unit j m) ∙ enough_held 50 (plan_quantity number unit (8 * j + 2)) (let q = quantity_least number unit (8 * j + 2) in omega (arith, q));
            });
        at_5 = accepted_at number unit (8 * j + 4) (8 * j + 5) (commands.Reduce (8 * j + 3) 20 0) (book_of number unit j m (orders_4 number unit j m)) (omega arith) (omega (arith, low)) (fifth_command number unit j) s4
            (record {
              shares = refl;
              name = refl;
              fresh = refl;
              found = ap (λ (o : Option Order). not (is_some o)) (finds_second number unit j m);
              enough = ap (λ (o : Option Order). excess 20 (shares_of o)) (finds_second number unit j m) ∙ enough_held 20 (plan_quantity number unit (8 * j + 3)) (let q = quantity_least number unit (8 * j + 3) in omega (arith, q));
            });
        at_6 = accepted_at number unit (8 * j + 5) (8 * j + 6) (commands.Modify (8 * j + 2) (plan_quantity number unit (8 * j + 6)) (plan_price number (8 * j + 6)) true 0) (book_of number unit j m (orders_5 number unit j m))
            (omega arith) (omega (arith, low)) (sixth_command number unit j) s5
            (record {
              shares = some_shares (plan_quantity number unit (8 * j + 6)) (quantity_least number unit (8 * j + 6));
              name = refl;
              fresh = refl;
              found = ap (λ (o : Option Order). not (is_some o)) (finds_reduced number unit j m);
              enough = refl;
            });
        at_7 = accepted_at number unit (8 * j + 6) (8 * j + 7) (commands.Add (second_buy number unit j) 0) (book_of number unit j m (orders_6 number unit j m)) (omega arith) (omega (arith, low)) (seventh_command number unit j) s6
            (add_goes number unit (8 * j + 7) Buy (plan_price number (8 * j + 7) + 1) (book_of number unit j m (orders_6 number unit j m)) none_third);
        at_8 = last s7 (j % 2 == 0) refl;
      }
    where
      last : book_after (plan number unit (8 * j + 7)) ≡ book_of number unit j m (orders_7 number unit j m) → (b : Bool) → (j % 2 == 0) ≡ b → IsAccepted number unit (8 * j + 8)
      last s7 true t =
          accepted_at number unit (8 * j + 7) (8 * j + 8) (commands.Delete (8 * j + 7) 0) (book_of number unit j m (orders_7 number unit j m)) (omega arith) low (eighth_even number unit j t) s7
          (record { shares = refl; name = refl; fresh = refl; found = ap (λ (o : Option Order). not (is_some o)) (finds_third number unit j m); enough = refl })
      last s7 false f =
          accepted_at number unit (8 * j + 7) (8 * j + 8) (commands.Trade (plan_order number unit (8 * j + 8) Buy (plan_price number (8 * j + 8))) (8 * j + 8) 0) (book_of number unit j m (orders_7 number unit j m))
          (omega arith) low (eighth_odd number unit j f) s7
          (record {
            shares = some_shares (plan_quantity number unit (8 * j + 8)) (quantity_least number unit (8 * j + 8));
            name = symbol_case (λ s. not (is_well_formed s) ≡ false) (8 * j + 8) refl refl refl;
            fresh = refl;
            found = refl;
            enough = refl;
          })

-- a venue that gets the plan in order accepts each of its first 400,000 commands
pub plan_accepted : (number unit i : ℕ) → 1 ≤ i → i ≤ 400000 → IsAccepted number unit i
plan_accepted number unit i = by_place (IsAccepted number unit) (λ j low. round_accepted number unit j low (left_after number unit j (omega (arith, low)))) i
