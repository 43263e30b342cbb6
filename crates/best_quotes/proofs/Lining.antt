-- The lines of quotes, one after another.
use Rattle.std.proofs.Common.{◌≡◌, ℕ, ◌+◌, List, [], ◌∷◌, ◌++◌, ap, ◌∙◌, Some, slice_get, take}
use Rattle.std.specs.List.{flat_map}
use Rattle.std.proofs.lemmas.Grind.{flat_map-append}
use Rattle.std.proofs.lemmas.List.{take_more, append-nil}
use Rattle.std.proofs.lemmas.List.Concat.{flat_map-cons}
use Rattle.std.proofs.lemmas.Option.{get_or_from_slice_get, slice_get_within}
use Rattle.best_quotes.specs.QuotesText.{quote_line}
use Rattle.best_quotes.specs.declared.quote.QuoteLine.{QuoteLine}

pub lines_take : (unit : ℕ) (all : List QuoteLine) (i : ℕ) (quote : QuoteLine) → slice_get all i ≡ Some quote → flat_map (quote_line unit) (take (i + 1) all) ≡ flat_map (quote_line unit) (take i all) ++ quote_line unit quote
lines_take unit all i quote at =
    ap (flat_map (quote_line unit)) (take_more all i quote (slice_get_within all i quote at))
    ∙ ap (λ (q : QuoteLine). flat_map (quote_line unit) (take i all ++ q ∷ [])) (get_or_from_slice_get all i quote quote at)
    ∙ flat_map-append (quote_line unit) (take i all) (quote ∷ [])
    ∙ ap (λ (t : List ℕ). flat_map (quote_line unit) (take i all) ++ t) (flat_map-cons (quote_line unit) quote [] ∙ append-nil (quote_line unit quote))
