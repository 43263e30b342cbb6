-- Lines that are compared one after another.
use Rattle.std.proofs.Common.{◌≡◌, ℕ, ◌+◌, List, [], ◌∷◌, ◌++◌, length, sym, ap, ◌∙◌, arith, append_assoc, length-append}
use Rattle.run_audit.specs.layers.Lines.{Passes}

pub passes_more : (wanted lines left rest left' rest' : List (List ℕ)) (line found : List ℕ) (count : ℕ) → Passes wanted lines left rest count → rest ≡ line ∷ rest' → left ≡ found ∷ left' → found ≡ line → Passes wanted lines left' rest' (count + 1)
passes_more wanted lines left rest left' rest' line found count P r l e = record {
  same = P.same ++ line ∷ [];
  count_is = longer P.same line count P.count_is;
  wanted_is = P.wanted_is ∙ ap (λ (ls : List (List ℕ)). P.same ++ ls) r ∙ sym (append_assoc P.same (line ∷ []) rest');
  lines_are = P.lines_are ∙ ap (λ (ls : List (List ℕ)). P.same ++ ls) (l ∙ ap (λ (x : List ℕ). x ∷ left') e) ∙ sym (append_assoc P.same (line ∷ []) left');
}
  where
    longer : (same : List (List ℕ)) (line : List ℕ) (count : ℕ) → count ≡ length same → count + 1 ≡ length (same ++ line ∷ [])
    longer same line count e = omega (arith, length-append same (line ∷ []), e)
