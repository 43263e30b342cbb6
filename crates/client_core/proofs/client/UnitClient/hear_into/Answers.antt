use Rattle.std.proofs.Common.{◌≡◌, ℕ, List, ◌+◌, ◌∙◌, ap, length, length-append, append-nil, le_refl, arith}
use Rattle.pitch_model.specs.Book.{empty_book}
use Rattle.client_core.specs.Client.{held_number}
use Rattle.client_core.proofs.ItemRoom.{list_can}
use Rattle.client_core.proofs.Outcomes.{if_both, on_err}
use Rattle.client_core.proofs.client.UnitClient.hear_into.Goals as goal

pub returns-clause-applies : goal.returns-clause-applies
returns-clause-applies c = c.hear_with.ensures.applies

pub returns-clause-venues : goal.returns-clause-venues
returns-clause-venues c = c.hear_with.ensures.venues

pub returns-clause-room_applied : goal.returns-clause-room_applied
returns-clause-room_applied c = c.hear_with.ensures.room_notes

pub returns-clause-err_applied : goal.returns-clause-err_applied
returns-clause-err_applied c = on_err c.hear_with.result (λ nothing. nothing empty_book ∙ append-nil c.args.applied.now.items) c.hear_with.ensures.err_notes

pub returns-clause-err_room : goal.returns-clause-err_room
returns-clause-err_room c = on_err c.hear_with.result (λ still. still c.args.applied.now.spare (le_refl c.args.applied.now.spare)) c.hear_with.ensures.err_room

pub returns-clause-memory : goal.returns-clause-memory
returns-clause-memory c = λ room applied. c.hear_with.ensures.memory room (list_can c.args.item.now (held_number c.args.self.now) c.args.applied.now.spare applied)

-- as many were appended as the reach rose by
pub returns-clause-weighs : goal.returns-clause-weighs
returns-clause-weighs c = if_both _ _ _ c.hear_with.result (λ change applies weighs other.
    let a = applies other in
    let more : length c.hear_with.new.notes.items ≡ length c.args.applied.now.items + length a.0 = ap (λ (raws : List (List ℕ)). length raws) a.1 ∙ length-append c.args.applied.now.items a.0 in
    let reach = a.2.reach_is in
    let weight = weighs other in
    omega arith) c.hear_with.ensures.applies c.hear_with.ensures.weighs
