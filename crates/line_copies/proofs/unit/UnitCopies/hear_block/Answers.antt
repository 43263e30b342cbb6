use Rattle.std.proofs.Common.{◌≡◌, ◌∙◌, ℕ, List, ap, subst}
use Rattle.unit_packets.specs.declared.header.Header.{Header}
use Rattle.pitch_model.specs.History.{Raw}
use Rattle.heard_items.specs.Heard.{heard_messages}
use Rattle.line_copies.specs.Copies.{Keeps, first_differing}
use Rattle.line_copies.proofs.Keeping.{block_keeps, block_told}
use Rattle.line_copies.proofs.Differing.{told_differs}
use Rattle.line_copies.proofs.unit.UnitCopies.hear_block.Goals as goal

pub returns-clause-keeps : goal.returns-clause-keeps
returns-clause-keeps c = λ E keeps.
    let block = c.args.block.now in
    let sequence_is : c.header-first.result.sequence ≡ block.sequence = ap (λ (h : Header). h.sequence) c.header-first.ensures in
    let at : (n : ℕ) → List Raw → Type 0 = λ n raws. Keeps c.hear_messages.new.self (heard_messages n raws E) in
    let heard : at block.sequence block.raws = subst (at block.sequence) c.raws.ensures.raws (subst (λ (n : ℕ). at n c.raws.result) sequence_is (c.hear_messages.ensures.keeps E keeps)) in
    block_keeps c.hear_messages.new.self block E (λ none. c.if-first-eq0.false (sequence_is ∙ none)) heard

pub returns-clause-told : goal.returns-clause-told
returns-clause-told c = λ E keeps.
    let block = c.args.block.now in
    let sequence_is : c.header-first.result.sequence ≡ block.sequence = ap (λ (h : Header). h.sequence) c.header-first.ensures in
    let at : (n : ℕ) → List Raw → Type 0 = λ n raws. c.hear_messages.result ≡ first_differing n raws E in
    let told : at block.sequence block.raws = subst (at block.sequence) c.raws.ensures.raws (subst (λ (n : ℕ). at n c.raws.result) sequence_is (c.hear_messages.ensures.told E keeps)) in
    block_told block E c.hear_messages.result (λ none. c.if-first-eq0.false (sequence_is ∙ none)) told

pub returns-clause-sound : goal.returns-clause-sound
returns-clause-sound c = told_differs c.hear_messages.result (Keeps c.args.self.now) c.args.block.now (returns-clause-told c)
