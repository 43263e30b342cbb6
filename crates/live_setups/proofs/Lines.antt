-- The words of lines.
use Rattle.std.proofs.Common.{◌≡◌, ℕ, List, map, sym}
use Rattle.std.specs.Borrow.{Bor}
use Rattle.std.specs.List.{flat_map}
use Rattle.std.proofs.lemmas.List.Folds.{flat_map-map}
use Rattle.live_setups.specs.Given.{line_words}

-- those of lent texts are those of their bytes
pub of_texts : (lines : List (Bor (List ℕ))) → flat_map (λ (line : Bor (List ℕ)). line_words line.now) lines ≡ flat_map line_words (map (λ (line : Bor (List ℕ)). line.now) lines)
of_texts lines = sym (flat_map-map line_words (λ (line : Bor (List ℕ)). line.now) lines)
