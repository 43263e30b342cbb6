use Rattle.std.proofs.Common.{◌≡◌, ℕ, List, [], ◌∷◌, arith, ap, ◌∙◌, refl}
use Rattle.std.specs.List.{insert}
use Rattle.circular_buffer.specs.Buffer.{buffer}
use Rattle.hold_buffer.proofs.Rings.{found_contains}
use Rattle.hold_buffer.proofs.Kept.{kept_inserted, answers_kept, kept_alone, answers_overflowed}
use Rattle.hold_buffer.proofs.hold.store.Goals as goal

-- it is held
pub returns-in_default-clause-answer : goal.returns-in_default-clause-answer
returns-in_default-clause-answer c = λ floor far kept. (omega arith, found_contains c.args.ring.now.items c.in_default.field-0 c.args.sequence c.requires.rising c.in_default.ensures.found, refl)

-- there is room
stored : (c : goal.After-insert) → c.insert.new.self ≡ buffer (insert c.args.ring.now.items c.in-Err.at (c.args.sequence, c.args.bytes.now)) c.args.ring.now.capacity
stored c = c.insert.ensures ∙ ap (λ (raw : List ℕ). buffer (insert c.args.ring.now.items c.in-Err.at (c.args.sequence, raw)) c.args.ring.now.capacity) c.in-Some.ensures.0

pub returns-then-len-capacity-clause-answer : goal.returns-then-len-capacity-clause-answer
returns-then-len-capacity-clause-answer c = λ floor far kept.
    answers_kept floor c.args.ring.now kept c.insert.new.self c.in-Err.at c.args.sequence c.args.bytes.now c.in-Err.ensures.gap (stored c) far (omega arith)

pub returns-then-len-capacity-clause-kept : goal.returns-then-len-capacity-clause-kept
returns-then-len-capacity-clause-kept c = λ floor far kept.
    kept_inserted floor c.args.ring.now kept c.insert.new.self c.in-Err.at c.args.sequence c.args.bytes.now c.in-Err.ensures.gap (stored c) c.requires.fits (omega arith) (omega arith)

-- there is none
alone : (c : goal.After-replace_all) → c.replace_all.new.self ≡ buffer ((c.args.sequence, c.args.bytes.now) ∷ []) c.args.ring.now.capacity
alone c = c.replace_all.ensures ∙ ap (λ (raw : List ℕ). buffer ((c.args.sequence, raw) ∷ []) c.args.ring.now.capacity) c.in-Some.ensures.0

pub returns-else-len-capacity-clause-answer : goal.returns-else-len-capacity-clause-answer
returns-else-len-capacity-clause-answer c = λ floor far kept.
    answers_overflowed floor c.args.ring.now kept c.replace_all.new.self c.args.sequence c.args.bytes.now (alone c) c.in-Err.at c.in-Err.ensures.gap far (omega arith)

pub returns-else-len-capacity-clause-kept : goal.returns-else-len-capacity-clause-kept
returns-else-len-capacity-clause-kept c = λ floor far kept.
    kept_alone floor c.args.ring.now kept c.replace_all.new.self c.args.sequence c.args.bytes.now (alone c) c.requires.fits (omega arith)
