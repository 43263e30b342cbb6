use Rattle.std.proofs.Common.{rules, ◌≡◌, ◌∙◌, ℕ, true, Some, ap, sym, subst}
use Rattle.unit_packets.specs.declared.header.Header.{Header}
use Rattle.client_end.specs.Came.{Heard}
use Rattle.live_units.specs.Coming.{has_unit, to_unit, with_came}
use Rattle.live_recovery.specs.Disagreeing.{at_unit, first_disagreement}
use Rattle.live_recovery.specs.Standing.{blocks_came}
use Rattle.live_recovery.proofs.Disagreeing.{compares_same, compares_some}
use Rattle.live_recovery.proofs.copies.compare_block.Goals as goal

pub returns-in-Some : goal.returns-in-Some
returns-in-Some c = λ came agree.
    let s = c.args.setup.now.listens in
    let block = c.args.block.now in
    let unit_is : c.header-unit.result.unit ≡ block.unit = ap (λ (h : Header). h.unit) c.header-unit.ensures in
    let yes : c.wants.result ≡ true = search rules in
    let wanted : has_unit s block.unit ≡ true = subst (λ (u : ℕ). has_unit s u ≡ true) unit_is (sym c.wants.ensures ∙ yes) in
    subst (λ (u : ℕ). first_disagreement (with_came s (to_unit block.unit (Heard block)) came) ≡ Some (at_unit u c.in-Some.sequence)) (sym unit_is)
    (compares_some s block came c.args.copies.now c.hear_block.new.self wanted agree c.in_ok-sequence.field-0 (c.in_ok-sequence.ensures.told (blocks_came came) agree.kept) c.in-Some.sequence c.in-Some.is)

pub returns-in-None : goal.returns-in-None
returns-in-None c = λ came agree.
    let s = c.args.setup.now.listens in
    let block = c.args.block.now in
    let unit_is : c.header-unit.result.unit ≡ block.unit = ap (λ (h : Header). h.unit) c.header-unit.ensures in
    let yes : c.wants.result ≡ true = search rules in
    let wanted : has_unit s block.unit ≡ true = subst (λ (u : ℕ). has_unit s u ≡ true) unit_is (sym c.wants.ensures ∙ yes) in
    compares_same s block came c.args.copies.now c.hear_block.new.self wanted agree c.in_ok-sequence.field-0 (c.in_ok-sequence.ensures.told (blocks_came came) agree.kept) c.in-None.is
    (c.in_ok-sequence.ensures.heard (blocks_came came) agree.kept)
