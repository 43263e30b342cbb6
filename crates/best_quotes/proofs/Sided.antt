-- One order of a side of a symbol becomes another, in the levels of all symbols.
use Rattle.std.proofs.Common.{◌≡◌, ℕ, ◌==◌, ◌&&◌, Bool, true, false, cond, List, Option, Some, None, IsSome, refl, sym, ap, ◌∙◌, subst, arith}
use Rattle.std.specs.List.{position, slice_get}
use Rattle.std.specs.Map.{lookup, keys_of}
use Rattle.std.specs.Option.{is_some, option_map}
use Rattle.std.specs.Ordering.{nat_cmp}
use Rattle.std.specs.BTreeMap.{get, IsEmpty}
use Rattle.std.specs.Str.{bytes_eq}
use Rattle.std.proofs.lemmas.Bool.{false≢true}
use Rattle.std.proofs.lemmas.Cmp.{nat_list_eq_equiv}
use Rattle.std.proofs.lemmas.Map.Made.{lookup_key_same}
use Rattle.std.proofs.lemmas.Option.{slice_get-map}
use Rattle.std.proofs.lemmas.Slice.Eq.{bytes_eq-Decides}
use Rattle.indexmap.proofs.MapLemmas.{Found-position}
use Rattle.pitch_fields.specs.declared.side.Side.{Side}
use Rattle.pitch_fields.specs.declared.side.Side.TheVariants.{Buy, Sell}
use Rattle.pitch_messages.specs.declared.order.Order.{Order}
use Rattle.pitch_model.specs.Levels.{same_side}
use Rattle.best_quotes.specs.Balance.{shares_of}
use Rattle.best_quotes.specs.Leveling.{standing, Prices, MovesPrices, priced, IsNearest, Entries, side_of, level_of, level_in, SameLevels, moved, IsOn, MovesLevels, TurnsSide}
use Rattle.best_quotes.specs.declared.levels.Sides.{Sides}
use Rattle.best_quotes.proofs.Pricing.{none_in}
use Rattle.best_quotes.proofs.Telling.{same_side-equal, same_side-itself, bytes_eq-equal, bytes_eq-itself}

-- ---- The shares of an order of a symbol on a side
module _ (symbol : List ℕ) (side : Side) where
  pub shares_on : (o : Option Order) → IsOn symbol side o → (price : ℕ) → shares_of symbol side price o ≡ priced price o
  shares_on None on price = refl
  shares_on (Some order) on price =
      ap (λ (t : Bool). cond t (cond (price == order.price) order.quantity 0) 0)
      ((λ i. bytes_eq symbol (on.0 i) && same_side side (on.1 i)) ∙ ap (λ (t : Bool). t && same_side side side) (bytes_eq-itself symbol) ∙ same_side-itself side)

  pub shares_off : (o : Option Order) → IsOn symbol side o → (q : List ℕ) (s : Side) (price : ℕ) → (bytes_eq q symbol && same_side s side) ≡ false
      → shares_of q s price o ≡ 0
  shares_off None on q s price off = refl
  shares_off (Some order) on q s price off =
      ap (λ (t : Bool). cond t (cond (price == order.price) order.quantity 0) 0) ((λ i. bytes_eq q (on.0 i) && same_side s (on.1 i)) ∙ off)

-- the nearest of a side whose prices stand for a symbol
pub nearest_in : (side : Side) (shares shares' : ℕ → Option ℕ) (best : Option (ℕ × ℕ)) → ((price : ℕ) → shares' price ≡ shares price) → IsNearest side shares best → IsNearest side shares' best
nearest_in side shares shares' None same near = λ price. same price ∙ near price
nearest_in side shares shares' (Some best) same near =
    (same best.0 ∙ near.0, λ price some. near.1 price (subst IsSome (same price) some))

-- ---- The sides at a place become others
module _ (levels levels' : Entries) (symbol : List ℕ) (sides sides' : Sides) (found : lookup (bytes_eq symbol) levels ≡ Some sides)
    (updates : (q : List ℕ) → lookup (bytes_eq q) levels' ≡ cond (bytes_eq symbol q) (Some sides') (lookup (bytes_eq q) levels)) where
  level_was : (side : Side) (price : ℕ) → level_in levels symbol side price ≡ get nat_cmp (side_of side sides) price
  level_was side price = ap (level_of side price) found

  level_is : (side : Side) (price : ℕ) → level_in levels' symbol side price ≡ get nat_cmp (side_of side sides') price
  level_is side price =
      ap (level_of side price) (updates symbol)
      ∙ ap (λ (t : Bool). level_of side price (cond t (Some sides') (lookup (bytes_eq symbol) levels))) (bytes_eq-itself symbol)

  module _ (side : Side) (before now : Option Order) (on : IsOn symbol side before) (on' : IsOn symbol side now)
      (others : (s : Side) → same_side s side ≡ false → side_of s sides' ≡ side_of s sides)
      (turns : MovesPrices before now (side_of side sides) (side_of side sides')) where
    pub moves_levels : MovesLevels before now levels levels'
    moves_levels shares has q s price = ap (level_of s price) (updates q) ∙ by (bytes_eq symbol q) refl
      where
        stays : (bytes_eq q symbol && same_side s side) ≡ false → standing (shares q s price) ≡ standing (moved before now shares q s price)
        stays off =
            let none = shares_off symbol side before on q s price off in
            let none' = shares_off symbol side now on' q s price off in
            ap standing (omega arith)

        turned : (price : ℕ) → get nat_cmp (side_of side sides') price ≡ standing (moved before now shares symbol side price)
        turned p =
            let was = shares_on symbol side before on p in
            let is = shares_on symbol side now on' p in
            turns.moves (shares symbol side) (λ r. sym (level_was side r) ∙ has symbol side r) p ∙ ap standing (omega arith)

        within : (t : Bool) → same_side s side ≡ t → get nat_cmp (side_of s sides') price ≡ standing (moved before now shares symbol s price)
        within true e =
            subst (λ (r : Side). get nat_cmp (side_of r sides') price ≡ standing (moved before now shares symbol r price)) (sym (same_side-equal s side e)) (turned price)
        within false e =
            let none = shares_off symbol side before on symbol s price (ap (λ (t : Bool). bytes_eq symbol symbol && t) e ∙ and_false (bytes_eq symbol symbol)) in
            let none' = shares_off symbol side now on' symbol s price (ap (λ (t : Bool). bytes_eq symbol symbol && t) e ∙ and_false (bytes_eq symbol symbol)) in
            ap (λ (m : Prices). get nat_cmp m price) (others s e) ∙ sym (level_was s price) ∙ has symbol s price ∙ ap standing (omega arith)
          where
            and_false : (t : Bool) → (t && false) ≡ false
            and_false true = refl
            and_false false = refl

        by : (t : Bool) → bytes_eq symbol q ≡ t → level_of s price (cond t (Some sides') (lookup (bytes_eq q) levels)) ≡ standing (moved before now shares q s price)
        by true e =
            subst (λ (r : List ℕ). get nat_cmp (side_of s sides') price ≡ standing (moved before now shares r s price)) (bytes_eq-equal symbol q e) (within (same_side s side) refl)
        by false e = has q s price ∙ stays (ap (λ (t : Bool). t && same_side s side) (nat_list_eq_equiv.symm q symbol ∙ e))

    -- with the bests of the side
    pub turned_at : (bests : Option (ℕ × ℕ) × Option (ℕ × ℕ)) → IsNearest side (get nat_cmp (side_of side sides)) bests.0
        → IsNearest side (get nat_cmp (side_of side sides')) bests.1 → TurnsSide levels levels' symbol side before now bests
    turned_at bests was is = record {
      moves = moves_levels;
      was = nearest_in side (get nat_cmp (side_of side sides)) (level_in levels symbol side) bests.0 (level_was side) was;
      is = nearest_in side (get nat_cmp (side_of side sides')) (level_in levels' symbol side) bests.1 (level_is side) is;
    }

-- ---- Levels that stay
-- the sides of one symbol become others with the same levels
pub same_where : (levels levels' : Entries) (symbol : List ℕ) (o o' : Option Sides) → lookup (bytes_eq symbol) levels ≡ o
    → ((q : List ℕ) → lookup (bytes_eq q) levels' ≡ cond (bytes_eq symbol q) o' (lookup (bytes_eq q) levels))
    → ((side : Side) (price : ℕ) → level_of side price o' ≡ level_of side price o) → SameLevels levels levels'
same_where levels levels' symbol o o' was updates same q side price = ap (level_of side price) (updates q) ∙ by (bytes_eq symbol q) refl
  where
    by : (t : Bool) → bytes_eq symbol q ≡ t → level_of side price (cond t o' (lookup (bytes_eq q) levels)) ≡ level_of side price (lookup (bytes_eq q) levels)
    by true e = same side price ∙ ap (level_of side price) (sym was ∙ ap (λ (r : List ℕ). lookup (bytes_eq r) levels) (bytes_eq-equal symbol q e))
    by false e = refl

pub no_level : (sides : Sides) → IsEmpty sides.buy → IsEmpty sides.sell → (side : Side) (price : ℕ) → level_of side price (Some sides) ≡ None
no_level sides none none' Buy price = none_in sides.buy none price
no_level sides none none' Sell price = none_in sides.sell none' price

pub none_found : (o : Option Sides) → false ≡ is_some o → o ≡ None
none_found None e = refl
none_found (Some sides) e = absurd (false≢true e)

-- the symbol that is found at a place is the one that stands there
pub placed : (es : Entries) (symbol k : List ℕ) (sides : Sides) (place : ℕ) → position (bytes_eq symbol) (keys_of es) ≡ Some place
    → slice_get es place ≡ Some (k, sides) → (lookup (bytes_eq symbol) es ≡ Some sides) × (symbol ≡ k)
placed es symbol k sides place there at =
    let found = Found-position (bytes_eq symbol) es place there in (
      found.value ∙ slice_get-map (λ (e : List ℕ × Sides). e.1) es place ∙ ap (option_map (λ (e : List ℕ × Sides). e.1)) at,
      lookup_key_same {eq = bytes_eq} bytes_eq-Decides symbol es k
          (found.key ∙ slice_get-map (λ (e : List ℕ × Sides). e.0) es place ∙ ap (option_map (λ (e : List ℕ × Sides). e.0)) at),
    )

-- what turned stands between levels that stayed
pub turns_between : (a b d e : Entries) (symbol : List ℕ) (side : Side) (before now : Option Order) (bests : Option (ℕ × ℕ) × Option (ℕ × ℕ))
    → SameLevels a b → TurnsSide b d symbol side before now bests → SameLevels d e → TurnsSide a e symbol side before now bests
turns_between a b d e symbol side before now bests same turns same' = record {
  moves = λ shares has q s price. same' q s price ∙ turns.moves shares (λ r t p. same r t p ∙ has r t p) q s price;
  was = nearest_in side (level_in b symbol side) (level_in a symbol side) bests.0 (λ price. sym (same symbol side price)) turns.was;
  is = nearest_in side (level_in d symbol side) (level_in e symbol side) bests.1 (same' symbol side) turns.is;
}

-- ---- One order goes, and then another comes
pub moves_nothing : (levels : Entries) → MovesLevels None None levels levels
moves_nothing levels shares has symbol side price = has symbol side price ∙ ap standing (omega arith)

pub moves_then : (before now : Option Order) (levels between levels' : Entries) → MovesLevels before None levels between → MovesLevels None now between levels'
    → MovesLevels before now levels levels'
moves_then before now levels between levels' first second shares has symbol side price =
    second (moved before None shares) (first shares has) symbol side price ∙ ap standing (omega arith)
