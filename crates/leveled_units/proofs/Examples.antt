-- Worked examples, computed by the definitions.
use Rattle.std.proofs.Common.{◌≡◌, ℕ, ◌*◌, [], ◌∷◌, refl}
use Rattle.pitch_fields.specs.declared.side.Side.TheVariants.{Buy, Sell}
use Rattle.leveled_units.specs.BestFirst.{rising, best_first}

-- ---- Levels: each price once with its shares, the best first
abbrev hundreds : ℕ → ℕ
hundreds price = 100 * price

two_bids : best_first Buy (rising hundreds (7 ∷ 9 ∷ 7 ∷ [])) ≡ (9, 900) ∷ (7, 700) ∷ []
two_bids = refl

three_offers : best_first Sell (rising hundreds (8 ∷ 9 ∷ 7 ∷ 9 ∷ [])) ≡ (7, 700) ∷ (8, 800) ∷ (9, 900) ∷ []
three_offers = refl

no_level : best_first Buy (rising hundreds []) ≡ []
no_level = refl
