-- The shares at the prices of one side.
use Rattle.std.proofs.Common.{◌≡◌, ℕ, ◌+◌, ◌-◌, ◌<◌, ◌==◌, ◌⊎◌, Bool, true, false, cond, Option, Some, None, IsSome, inl, inr, refl, sym, ap, ◌∙◌, subst, arith}
use Rattle.std.specs.Prelude.{unwrap_or}
use Rattle.std.specs.Map.{lookup}
use Rattle.std.specs.Ordering.{nat_cmp, is_lt, is_gt}
use Rattle.std.specs.BTreeMap.{get, is_at, IsEmpty, IsLowerBound, IsUpperBound}
use Rattle.std.proofs.lemmas.Bool.{eqb-true, eq-eqb}
use Rattle.std.proofs.lemmas.Bool.Decides.{nat_tests}
use Rattle.pitch_fields.specs.declared.side.Side.{Side}
use Rattle.pitch_fields.specs.declared.side.Side.TheVariants.{Buy, Sell}
use Rattle.pitch_messages.specs.declared.order.Order.{Order}
use Rattle.pitch_model.specs.Levels.{better}
use Rattle.best_quotes.specs.Leveling.{standing, Prices, HasPrices, SetsPrice, IsElsewhere, MovesPrices, priced, moved_at, IsNearest, IsWorse, AreWorse}

-- ---- The best price
pub none_in : (prices : Prices) → IsEmpty prices → (price : ℕ) → get nat_cmp prices price ≡ None
none_in prices empty price = ap (lookup (is_at (nat_cmp price))) empty

module _ (prices : Prices) (p n : ℕ) (there : get nat_cmp prices p ≡ Some n) where
  pub highest_is : IsUpperBound nat_cmp prices p → IsNearest Buy (get nat_cmp prices) (Some (p, n))
  highest_is upper = (there, λ price some. by price (upper price some))
    where
      by : (q : ℕ) → is_lt (nat_cmp p q) ≡ false → better Buy p q ≡ p
      by q e = grind (arith, nat_tests, e)

  pub lowest_is : IsLowerBound nat_cmp prices p → IsNearest Sell (get nat_cmp prices) (Some (p, n))
  lowest_is lower = (there, λ price some. by price (lower price some))
    where
      by : (q : ℕ) → is_gt (nat_cmp p q) ≡ false → better Sell p q ≡ p
      by q e = grind (arith, nat_tests, e)

-- ---- Shares that are set
pub unwrapped : (n : ℕ) → unwrap_or (standing n) 0 ≡ n
unwrapped n = by (n == 0) refl
  where
    by : (t : Bool) → (n == 0) ≡ t → unwrap_or (cond t None (Some n)) 0 ≡ n
    by true e = sym (eqb-true n 0 e)
    by false e = refl

other_price : (p q : ℕ) → (p == q) ≡ false → (q == p) ≡ false
other_price p q e = grind (arith, nat_tests, e)

priced_own : (order : Order) → priced order.price (Some order) ≡ order.quantity
priced_own order = ap (λ (t : Bool). cond t order.quantity 0) (eq-eqb order.price order.price refl)

priced_other : (order : Order) (q : ℕ) → (order.price == q) ≡ false → priced q (Some order) ≡ 0
priced_other order q e = ap (λ (t : Bool). cond t order.quantity 0) (other_price order.price q e)

module _ (prices prices' : Prices) (shares : ℕ → ℕ) (has : HasPrices prices shares) where
  here : (price : ℕ) → unwrap_or (get nat_cmp prices price) 0 ≡ shares price
  here price = ap (λ (o : Option ℕ). unwrap_or o 0) (has price) ∙ unwrapped (shares price)

  -- the shares at one price became others
  sets_become : (shares' : ℕ → ℕ) (price n : ℕ) → SetsPrice prices price n prices' → n ≡ shares' price
      → ((q : ℕ) → (price == q) ≡ false → shares' q ≡ shares q) → HasPrices prices' shares'
  sets_become shares' price n sets is elsewhere q = sets q ∙ by (price == q) refl
    where
      by : (t : Bool) → (price == q) ≡ t → cond t (standing n) (get nat_cmp prices q) ≡ standing (shares' q)
      by true e = ap standing (is ∙ ap shares' (eqb-true price q e))
      by false e = has q ∙ ap standing (sym (elsewhere q e))

-- ---- One order becomes another
module _ (prices prices' : Prices) (order : Order) (n : ℕ) (sets : SetsPrice prices order.price n prices') where
  -- at another price stands what stood there
  stands : (q : ℕ) → (order.price == q) ≡ false → get nat_cmp prices' q ≡ get nat_cmp prices q
  stands q e = sets q ∙ ap (λ (t : Bool). cond t (standing n) (get nat_cmp prices q)) e

  pub takes : n ≡ unwrap_or (get nat_cmp prices order.price) 0 - order.quantity → MovesPrices (Some order) None prices prices'
  takes is = record {
    moves = λ shares has.
        let at = here prices prices' shares has order.price in
        let own = priced_own order in
        sets_become prices prices' shares has (moved_at (Some order) None shares) order.price n sets (omega arith)
        (λ q e. let none = priced_other order q e in omega arith);
    others = λ q apart none. stands q apart;
  }

  pub puts : n ≡ unwrap_or (get nat_cmp prices order.price) 0 + order.quantity → MovesPrices None (Some order) prices prices'
  puts is = record {
    moves = λ shares has.
        let at = here prices prices' shares has order.price in
        let own = priced_own order in
        sets_become prices prices' shares has (moved_at None (Some order) shares) order.price n sets (omega arith)
        (λ q e. let none = priced_other order q e in omega arith);
    others = λ q none apart. stands q apart;
  }

  pub exchanges : (now : Order) → order.price ≡ now.price → n ≡ (unwrap_or (get nat_cmp prices order.price) 0 - order.quantity) + now.quantity
      → MovesPrices (Some order) (Some now) prices prices'
  exchanges now same is = record {
    moves = λ shares has.
        let at = here prices prices' shares has order.price in
        let own = priced_own order in
        let new = ap (λ (p : ℕ). priced p (Some now)) same ∙ priced_own now in
        sets_become prices prices' shares has (moved_at (Some order) (Some now) shares) order.price n sets (omega arith)
        (λ q e.
        let none = priced_other order q e in
        let none' = priced_other now q (ap (λ (p : ℕ). p == q) (sym same) ∙ e) in
        omega arith);
    others = λ q apart also. stands q apart;
  }

pub moves_none : (prices : Prices) → MovesPrices None None prices prices
moves_none prices = record {
  moves = λ shares has price. has price ∙ ap standing (omega arith);
  others = λ price none none'. refl;
}

-- one order went, and then another came
pub moves_both : (before now : Option Order) (prices between prices' : Prices)
    → MovesPrices before None prices between → MovesPrices None now between prices' → MovesPrices before now prices prices'
moves_both before now prices between prices' first second = record {
  moves = λ shares has price. second.moves (moved_at before None shares) (first.moves shares has) price ∙ ap standing (omega arith);
  others = λ price apart apart'. second.others price tt apart' ∙ first.others price apart tt;
}

-- ---- A best that stays
-- either order has another price than q, or it is q and then it is worse
module _ (side : Side) (price : ℕ) (q : ℕ) where
  apart_or_worse : (o : Option Order) → IsWorse side price o → IsElsewhere q o ⊎ (better side price q ≡ price)
  apart_or_worse None worse = inl tt
  apart_or_worse (Some order) worse = by (order.price == q) refl
    where
      by : (t : Bool) → (order.price == q) ≡ t → IsElsewhere q (Some order) ⊎ (better side price q ≡ price)
      by true e = inr (subst (λ (p : ℕ). better side price p ≡ price) (eqb-true order.price q e) worse.0)
      by false e = inl e

apart : (side : Side) (price : ℕ) (o : Option Order) → IsWorse side price o → IsElsewhere price o
apart side price None worse = tt
apart side price (Some order) worse = worse.1

-- where worse orders move, the best stays
pub still_nearest : (side : Side) (best : Option (ℕ × ℕ)) (before now : Option Order) (prices prices' : Prices)
    → MovesPrices before now prices prices' → IsNearest side (get nat_cmp prices) best → AreWorse side best before now → IsNearest side (get nat_cmp prices') best
still_nearest side None before now prices prices' moves near worse = absurd worse
still_nearest side (Some best) before now prices prices' moves near worse = (
  moves.others best.0 (apart side best.0 before worse.0) (apart side best.0 now worse.1) ∙ near.0,
  λ q some. by q some (apart_or_worse side best.0 q before worse.0) (apart_or_worse side best.0 q now worse.1),
)
  where
    by : (q : ℕ) → IsSome (get nat_cmp prices' q) → IsElsewhere q before ⊎ (better side best.0 q ≡ best.0) → IsElsewhere q now ⊎ (better side best.0 q ≡ best.0) → better side best.0 q ≡ best.0
    by q some (inl before_apart) (inl now_apart) = near.1 q (subst IsSome (moves.others q before_apart now_apart) some)
    by q some (inl before_apart) (inr now_worse) = now_worse
    by q some (inr before_worse) other = before_worse

pub buys_worse : (order : Order) (price : ℕ) → order.price < price → IsWorse Buy price (Some order)
buys_worse order price less = (omega arith, grind (arith, nat_tests, less))

pub sells_worse : (order : Order) (price : ℕ) → price < order.price → IsWorse Sell price (Some order)
sells_worse order price more = (omega arith, grind (arith, nat_tests, more))
