use Rattle.std.proofs.Common.{◌≡◌, List, ℕ, ap, ◌∙◌}
use Rattle.std.specs.Array.{AllZipBelow}
use Rattle.std.specs.List.{each_same}
use Rattle.std.specs.FinMap.{from_entries}
use Rattle.std.proofs.lemmas.Map.Entries.{entries_from_clone}
use Rattle.pitch_model.specs.Book.{symbol_cmp}
use Rattle.order_book.specs.Symbols.{SymbolsStanding}
use Rattle.order_book.proofs.statuses.Statuses.copy.Goals as goal

-- each byte of a symbol and of a status is copied
pub returns : goal.returns
returns c =
    let entries = entries_from_clone (λ (x y : List ℕ). AllZipBelow (λ (a b : ℕ). b ≡ a) x y 8) (λ (v w : ℕ × ℕ). (w.0 ≡ v.0) × (w.1 ≡ v.1))
    (λ x y same. each_same x y same.whole) (λ v w same i. (same.0 i, same.1 i)) c.self.inside.by_symbol.entries c.in_ok-clone.field-0.entries c.in_ok-clone.ensures.cases in
    ap (λ (es : List (List ℕ × (ℕ × ℕ))). from_entries {R = symbol_cmp} es) entries ∙ ap (λ (s : SymbolsStanding). s.statuses) c.self.view_is
