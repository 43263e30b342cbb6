use Rattle.std.proofs.Common.{List, ℕ, ◌++◌, ◌∷◌, [], take, codes, decimal, ap, ◌∙◌, append_assoc}
use Rattle.feed_lines.specs.Follow.{overflow_text}
use Rattle.feed_lines.specs.StatusText.{status_text}
use Rattle.world_model.specs.Printed.{outcome_text}
use Rattle.world_model.specs.declared.outcome.Printed.{Printed}
use Rattle.world_model.proofs.PrintedLines.{printed_is}
use Rattle.world_model.proofs.lines.put_printed.Goals as goal

pub returns-clause-text : goal.returns-clause-text
returns-clause-text c =
    let before : List ℕ = take c.args.at c.args.out.now in
    let place : List ℕ = decimal c.args.line ++ (32 ∷ [] ++ (decimal c.args.unit ++ 32 ∷ [])) in
    let p : Printed = c.args.printed.now in
    let answer : List ℕ = outcome_text c.args.verb.now p.outcome ++ (overflow_text p.overflow ++ (codes "; " ++ (status_text p.status ++ 10 ∷ []))) in
    c.put_answer.ensures.text ∙ ap (λ (t : List ℕ). t ++ answer) c.put_place-placed.ensures.text ∙ append_assoc before place answer
    ∙ ap (λ (t : List ℕ). before ++ t) (printed_is c.args.line c.args.unit c.args.verb.now p)
