use Rattle.std.proofs.Common.{◌≡◌, ℕ, ◌+◌, List, ap, sym, ◌∙◌, arith}
use Rattle.pitch_messages.specs.Room.{Roomy}
use Rattle.client_core.specs.Client.{current_book}
use Rattle.client_core.specs.Weight.{weight, told_by}
use Rattle.pitch_model.specs.Image.{image}
use Rattle.heard_items.specs.Heard.{heard}
use Rattle.heard_items.specs.declared.change.Change.{Change}
use Rattle.heard_items.specs.declared.change.ImageEnd.TheVariants as end
use Rattle.relay_unit.proofs.Following.{taken_sends, applied_sends}
use Rattle.relay_unit.proofs.Growing.{sends_taken, sends_untaken}
use Rattle.relay_unit.proofs.Weighed.{taken_weighs}
use Rattle.relay_unit.proofs.hearing.hear_item.Goals as goal

pub returns-in_ok-image_of-clause-keeps : goal.returns-in_ok-image_of-clause-keeps
returns-in_ok-image_of-clause-keeps c = λ V H E T venue K. c.in_ok-change.ensures.keeps venue.Image V venue.are_images H E T venue.honest K

pub returns-else-taken-clause-keeps : goal.returns-else-taken-clause-keeps
returns-else-taken-clause-keeps c = λ V H E T venue K. c.in_ok-change.ensures.keeps venue.Image V venue.are_images H E T venue.honest K

pub returns-in_ok-image_of-clause-sends : goal.returns-in_ok-image_of-clause-sends
returns-in_ok-image_of-clause-sends c = λ V H E T venue K before e.
    let K' = c.in_ok-change.ensures.keeps venue.Image V venue.are_images H E T venue.honest K in
    let T' = c.in_ok-change.ensures.tracks H E T in
    let is : c.in_ok-change.change.image ≡ end.Taken = c.is_taken-taken.ensures.taken c.if-taken.true in
    sends_taken H V E c.args.item.now c.book.result.now.book c.write.result c.args.sent.now.items c.hear_into.new.applied.items c.push.new.self.items c.image_of.new.out.items
    (sym (ap (λ (x : Change). x.image) (c.in_ok-change.ensures.change H E T)) ∙ is) (ap (λ (l : Roomy (List ℕ)). l.items) (c.in_ok-change.ensures.taken is)) c.in_ok-push.ensures.ok c.write.ensures.written c.in_ok-image_of.ensures.ok
    (c.book.ensures.book H (heard c.args.item.now E) V T' K') before e

pub returns-else-taken-clause-sends : goal.returns-else-taken-clause-sends
returns-else-taken-clause-sends c = λ V H E T venue K before e.
    let not : c.in_ok-change.change.image ≡ end.Taken → ⊥ = c.is_taken-taken.ensures.other c.if-taken.false in
    sends_untaken H V E c.args.item.now c.args.sent.now.items c.hear_into.new.applied.items
    (λ is. not (ap (λ (x : Change). x.image) (c.in_ok-change.ensures.change H E T) ∙ is))
    (c.in_ok-change.ensures.venues not venue.Image V H E T venue.honest K) before e

pub returns-in_ok-image_of-clause-weighs : goal.returns-in_ok-image_of-clause-weighs
returns-in_ok-image_of-clause-weighs c =
    let is : c.in_ok-change.change.image ≡ end.Taken = c.is_taken-taken.ensures.taken c.if-taken.true in
    let all = taken_weighs c.book.result.now.book c.write.result c.args.sent.now.items c.hear_into.new.applied.items c.push.new.self.items c.image_of.new.out.items
    (ap (λ (l : Roomy (List ℕ)). l.items) (c.in_ok-change.ensures.taken is)) c.in_ok-push.ensures.ok c.in_ok-image_of.ensures.ok
    _ (weight c.hear_into.new.self) (weight c.args.client.now + told_by c.args.item.now) c.book.ensures.same (c.in_ok-change.ensures.weighs_taken is) in
    omega arith

pub returns-else-taken-clause-weighs : goal.returns-else-taken-clause-weighs
returns-else-taken-clause-weighs c = c.in_ok-change.ensures.weighs (c.is_taken-taken.ensures.other c.if-taken.false)

pub returns-in_ok-image_of-clause-any : goal.returns-in_ok-image_of-clause-any
returns-in_ok-image_of-clause-any c =
    let is : c.in_ok-change.change.image ≡ end.Taken = c.is_taken-taken.ensures.taken c.if-taken.true in
    taken_sends (current_book c.args.client.now) c.book.result.now.book (current_book c.hear_into.new.self) c.write.result
    c.args.sent.now.items c.hear_into.new.applied.items c.push.new.self.items c.image_of.new.out.items
    (ap (λ (l : Roomy (List ℕ)). l.items) (c.in_ok-change.ensures.taken is)) c.in_ok-push.ensures.ok c.write.ensures.written
    c.in_ok-image_of.ensures.ok c.in_ok-image_of.ensures.leaves c.book.ensures.same

pub returns-else-taken-clause-any : goal.returns-else-taken-clause-any
returns-else-taken-clause-any c =
    let not : c.in_ok-change.change.image ≡ end.Taken → ⊥ = c.is_taken-taken.ensures.other c.if-taken.false in
    let applies = c.in_ok-change.ensures.applies not in
    applied_sends (current_book c.args.client.now) (current_book c.hear_into.new.self) c.args.sent.now.items c.hear_into.new.applied.items
    applies.0 applies.1 applies.2.book_is
