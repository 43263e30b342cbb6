use Rattle.std.proofs.Common.{sym, ◌∙◌, ap, not, List, ℕ, Bool}
use Rattle.std.specs.List.{list_all}
use Rattle.pitch_fields.specs.Name.{is_printing}
use Rattle.pitch_fields.proofs.Names.{blank_ill_formed, nothing_left, some_well_formed, something_left}
use Rattle.pitch_fields.proofs.symbol.is_well_formed.Goals as goal

pub returns-then-not-is_empty : goal.returns-then-not-is_empty
returns-then-not-is_empty c =
    c.are_printing.ensures
    ∙ ap (λ (xs : List ℕ). list_all is_printing xs) c.without_spaces-shown.ensures.value
    ∙ sym (some_well_formed c.args.name.now (something_left c.without_spaces-shown.result.now c.args.name.now c.without_spaces-shown.ensures.value (sym c.is_empty.ensures ∙ c.if-not-is_empty.true)))

pub returns-else-not-is_empty : goal.returns-else-not-is_empty
returns-else-not-is_empty c =
    ap (λ (b : Bool). not b) c.if-not-is_empty.false
    ∙ sym (blank_ill_formed c.args.name.now (nothing_left c.without_spaces-shown.result.now c.args.name.now c.without_spaces-shown.ensures.value (sym c.is_empty.ensures ∙ c.if-not-is_empty.false)))
