use Rattle.std.proofs.Common.{List, ◌∙◌, take, drop, subst}
use Rattle.pitch_model.specs.History.{Raw}
use Rattle.client_core.specs.Client.{current_book}
use Rattle.client_core.proofs.client.UnitClient.hear_with.Goals as goal

pub returns-clause-venues : goal.returns-clause-venues
returns-clause-venues g c = λ other Image V H E T honest K.
    let from = T.floor_is in
    let to = (c.in_ok-heard.ensures.tracks H E T).floor_is in
    subst (λ (raws : List Raw). g.N.Notes.noted c.args.notes.now c.hear_item.new.notes (current_book c.args.self.now) raws) (λ i. drop (from i) (take (to i) V))
    (c.in_ok-heard.ensures.venues (λ e. other (c.changed_since.ensures.image ∙ e)) Image V E honest K)

pub returns-clause-applies : goal.returns-clause-applies
returns-clause-applies g c = λ other. let N = c.in_ok-heard.ensures.notes (λ e. other (c.changed_since.ensures.image ∙ e)) in (N.applied, N.noted_are, N.applies)

pub returns-clause-room_notes : goal.returns-clause-room_notes
returns-clause-room_notes g c = λ other. c.in_ok-heard.ensures.room (λ e. other (c.changed_since.ensures.image ∙ e))
