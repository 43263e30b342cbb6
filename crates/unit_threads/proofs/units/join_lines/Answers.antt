use Rattle.std.proofs.Common.{rules, ◌+◌, ℕ, List, ◌++◌, sym, ap, ◌∙◌}
use Rattle.drill_client.specs.DrillText.{drill_line}
use Rattle.unit_threads.proofs.Texts.{text_begins, text_next}
use Rattle.unit_threads.proofs.units.join_lines.Goals as goal

pub units-init : goal.units-init
units-init c = search (rules, text_begins c.args.number c.args.count)

pub units-preserved : goal.units-preserved
units-preserved c =
    c.in_ok-append_line.ensures
    ∙ ap (λ (text : List ℕ). text ++ drill_line c.args.number (c.units.index + 1) c.args.count) c.units.invariant
    ∙ sym (text_next c.args.number c.units.index c.args.count)
