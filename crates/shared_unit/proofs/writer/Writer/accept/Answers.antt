use Rattle.std.proofs.Common.{◌≡◌, ◌∙◌, ◌+◌, List, ℕ, length, None, ap, sym, subst, refl, inl, inr}
use Rattle.venue_core.proofs.Answered.{answer_err, answer_ok}
use Rattle.pitch_model.specs.Advertising.{Operation, Accept, accepted_by}
use Rattle.venue_core.specs.Commands.{raw_of}
use Rattle.venue_core.specs.Refusals.{refusal}
use Rattle.venue_core.specs.Stands.{Stands}
use Rattle.shared_unit.specs.layers.Moments.{Writing, cut}
use Rattle.shared_unit.specs.layers.Histories.{IsLegal, then_done}
use Rattle.shared_unit.proofs.Writing.{accepted_next, answer_memory, answer_sequence, sequences_left}
use Rattle.shared_unit.proofs.writer.Writer.accept.Goals as goal

pub returns-in-Err-clause-answer : goal.returns-in-Err-clause-answer
returns-in-Err-clause-answer g c =
    let h : List Operation = c.args.self.now.history in
    let stands : Stands c.self.inside.venue (accepted_by h) 0 = subst (λ (x : Writing). Stands c.self.inside.venue (accepted_by x.history) 0) c.self.view_is c.self.invariant in
    answer_err (refusal (accepted_by h) c.args.command.now) (raw_of c.args.command.now) (length (accepted_by h) + 1) c.in-Err.error (c.in-Err.ensures.answer (accepted_by h) 0 stands)

pub publish-requires-clause-legal : goal.publish-requires-clause-legal
publish-requires-clause-legal g c =
    let d : List Operation = c.self.inside.desk.history in
    let same : c.in-Ok.raw ≡ raw_of c.args.command.now = (answer_ok (refusal (accepted_by d) c.args.command.now) (raw_of c.args.command.now) c.in-Ok.raw (c.in-Ok.ensures.answer (accepted_by d) 0 c.self.invariant)).1 in
    subst (λ (x : Writing). IsLegal g.R.FixedRun.fixed g.R.FixedRun.plan (then_done x.history (Accept c.in-Ok.raw))) (sym c.self.view_is)
    (subst (λ (r : List ℕ). IsLegal g.R.FixedRun.fixed g.R.FixedRun.plan (then_done c.args.self.now.history (Accept r))) (sym same) c.requires.run)

pub publish-requires-clause-few : goal.publish-requires-clause-few
publish-requires-clause-few g c = sequences_left c.self.inside.desk.history c.in-Ok.raw (c.in-Ok.ensures.next (accepted_by c.self.inside.desk.history) 0 c.self.invariant)

pub invariant_of-self-in-Ok-publish : goal.invariant_of-self-in-Ok-publish
invariant_of-self-in-Ok-publish g c =
    let d : List Operation = c.self.inside.desk.history in
    subst (λ (l : List (List ℕ)). Stands c.take_ready.new.self l 0) (accepted_next d c.in-Ok.raw ∙ ap accepted_by (sym c.in-Ok-publish.ensures.history))
    (c.take_ready.ensures.stands (accepted_by d) 0 c.in-Ok.raw (c.prepare.ensures.stands (accepted_by d) 0 c.self.invariant) c.in-Ok.ensures.ready)

pub invariant_of-self-in-Err-publish : goal.invariant_of-self-in-Err-publish
invariant_of-self-in-Err-publish g c =
    subst (λ (x : Writing). Stands c.prepare.new.self (accepted_by x.history) 0) (sym c.in-Err-publish.ensures.history) (c.prepare.ensures.stands (accepted_by c.self.inside.desk.history) 0 c.self.invariant)

pub returns-in-Ok-publish-clause-answer : goal.returns-in-Ok-publish-clause-answer
returns-in-Ok-publish-clause-answer g c =
    let h : List Operation = c.args.self.now.history in
    let stands : Stands c.self.inside.venue (accepted_by h) 0 = subst (λ (x : Writing). Stands c.self.inside.venue (accepted_by x.history) 0) c.self.view_is c.self.invariant in
    let none : refusal (accepted_by h) c.args.command.now ≡ None = (answer_ok (refusal (accepted_by h) c.args.command.now) (raw_of c.args.command.now) c.in-Ok.raw (c.in-Ok.ensures.answer (accepted_by h) 0 stands)).0 in
    answer_sequence (refusal (accepted_by h) c.args.command.now) (length (accepted_by h) + 1) c.take_ready.result none (c.take_ready.ensures.sequence (accepted_by h) 0 (c.prepare.ensures.stands (accepted_by h) 0 stands))

pub returns-in-Ok-publish-clause-history : goal.returns-in-Ok-publish-clause-history
returns-in-Ok-publish-clause-history g c =
    let d : List Operation = c.self.inside.desk.history in
    let same : c.in-Ok.raw ≡ raw_of c.args.command.now = (answer_ok (refusal (accepted_by d) c.args.command.now) (raw_of c.args.command.now) c.in-Ok.raw (c.in-Ok.ensures.answer (accepted_by d) 0 c.self.invariant)).1 in
    c.in-Ok-publish.ensures.history ∙ ap (λ (x : Writing). then_done x.history (Accept c.in-Ok.raw)) c.self.view_is ∙ ap (λ (r : List ℕ). then_done c.args.self.now.history (Accept r)) same

pub returns-in-Err-publish-clause-answer : goal.returns-in-Err-publish-clause-answer
returns-in-Err-publish-clause-answer g c =
    let h : List Operation = c.args.self.now.history in
    let stands : Stands c.self.inside.venue (accepted_by h) 0 = subst (λ (x : Writing). Stands c.self.inside.venue (accepted_by x.history) 0) c.self.view_is c.self.invariant in
    let none : refusal (accepted_by h) c.args.command.now ≡ None = (answer_ok (refusal (accepted_by h) c.args.command.now) (raw_of c.args.command.now) c.in-Ok.raw (c.in-Ok.ensures.answer (accepted_by h) 0 stands)).0 in
    answer_memory (refusal (accepted_by h) c.args.command.now) (length (accepted_by h) + 1) none

pub returns-in-Err-clause-same : goal.returns-in-Err-clause-same
returns-in-Err-clause-same g c = inl c.self.view_is

pub returns-in-Err-publish-clause-history : goal.returns-in-Err-publish-clause-history
returns-in-Err-publish-clause-history g c = ap (λ (x : Writing). x.history) (c.in-Err-publish.ensures.history ∙ ap cut c.self.view_is)

pub returns-in-Err-publish-clause-same : goal.returns-in-Err-publish-clause-same
returns-in-Err-publish-clause-same g c = inr (refl, c.in-Err-publish.ensures.history ∙ ap cut c.self.view_is)
