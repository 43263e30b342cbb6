use Rattle.std.proofs.Common.{sym, ◌≤◌, ◌∙◌, ◌++◌, ap, take, List, ℕ, arith}
use Rattle.std.specs.List.{flat_map}
use Rattle.std.proofs.lemmas.List.{take_all}
use Rattle.std.proofs.lemmas.Grind.{common_steps}
use Rattle.pitch_fields.specs.Name.{shown_byte}
use Rattle.pitch_fields.proofs.Names.{nothing_left, shown_blank, shown_some, something_left}
use Rattle.pitch_fields.proofs.Placing.{ends_later, untouched}
use Rattle.pitch_fields.proofs.text.put_name.Goals as goal

pub returns-then-is_empty-clause-text : goal.returns-then-is_empty-clause-text
returns-then-is_empty-clause-text c =
    c.put_text.ensures.text
    ∙ ap (λ (t : List ℕ). take c.args.at c.args.out.now ++ t)
    (sym (shown_blank c.args.name.now (nothing_left c.without_spaces-shown.result.now c.args.name.now c.without_spaces-shown.ensures.value (sym c.is_empty.ensures ∙ c.if-is_empty.true))))

pub returns-clause-text : goal.returns-clause-text
returns-clause-text c =
    c.loop-byte.invariant.text
    ∙ ap (λ (t : List ℕ). take c.args.at c.args.out.now ++ flat_map shown_byte t)
    (take_all c.loop-byte.byte-index c.without_spaces-shown.result.now c.loop-byte-test.false ∙ c.without_spaces-shown.ensures.value)
    ∙ ap (λ (t : List ℕ). take c.args.at c.args.out.now ++ t)
    (sym (shown_some c.args.name.now (something_left c.without_spaces-shown.result.now c.args.name.now c.without_spaces-shown.ensures.value (sym c.is_empty.ensures ∙ c.if-is_empty.false))))

pub loop-byte-preserved : goal.loop-byte-preserved
loop-byte-preserved c =
    let before = c.loop-byte.invariant in
    let byte = c.put_shown_byte-end.ensures in
    let later : c.loop-byte.end ≤ c.put_shown_byte-end.result = ends_later c.put_shown_byte-end.new.out c.loop-byte.out _ c.loop-byte.end c.put_shown_byte-end.result (omega arith) byte.text in
    record {
      within = omega arith;
      kept = byte.kept ∙ before.kept;
      text = grind (arith, common_steps);
      rest = untouched c.args.out.now c.loop-byte.out c.put_shown_byte-end.new.out c.loop-byte.end c.put_shown_byte-end.result byte.rest before.rest later;
    }
