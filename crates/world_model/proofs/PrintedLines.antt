-- The printed line of a verb, as the code joins its pieces.
use Rattle.std.proofs.Common.{◌≡◌, ℕ, List, [], ◌∷◌, ◌++◌, ap, ◌∙◌, append_assoc, codes, decimal}
use Rattle.feed_lines.specs.Follow.{overflow_text}
use Rattle.feed_lines.specs.StatusText.{status_text}
use Rattle.pitch_text.specs.declared.verb.Verb.{Verb}
use Rattle.world_model.specs.Printed.{printed_line, outcome_text}
use Rattle.world_model.specs.declared.outcome.Printed.{Printed}

pub printed_is : (line unit : ℕ) (verb : Verb) (p : Printed)
    → (decimal line ++ (32 ∷ [] ++ (decimal unit ++ 32 ∷ []))) ++ (outcome_text verb p.outcome ++ (overflow_text p.overflow ++ (codes "; " ++ (status_text p.status ++ 10 ∷ [])))) ≡ printed_line line unit verb p
unfolding printed_line
printed_is line unit verb p =
    let rest : List ℕ = outcome_text verb p.outcome ++ (overflow_text p.overflow ++ (codes "; " ++ (status_text p.status ++ 10 ∷ []))) in
    append_assoc (decimal line) (32 ∷ (decimal unit ++ 32 ∷ [])) rest ∙ ap (λ (t : List ℕ). decimal line ++ 32 ∷ t) (append_assoc (decimal unit) (32 ∷ []) rest)
