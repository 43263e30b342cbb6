use Rattle.std.proofs.Common.{List, take, drop, subst}
use Rattle.pitch_model.specs.History.{Raw}
use Rattle.client_core.specs.Client.{current_book}
use Rattle.client_core.proofs.client.UnitClient.hear_block.Goals as goal

pub returns-clause-venues : goal.returns-clause-venues
returns-clause-venues g c = λ block C Image V H E T honest K.
    let from = T.floor_is in
    let to = (c.in_ok-counts.ensures.tracks block C H E T).floor_is in
    subst (λ (raws : List Raw). g.N.Notes.noted c.args.notes.now c.take_block.new.notes (current_book c.args.self.now) raws) (λ i. drop (from i) (take (to i) V))
    (c.in_ok-counts.ensures.venues block C Image V E honest K)

pub returns-clause-applies : goal.returns-clause-applies
returns-clause-applies g c = let N = c.in_ok-counts.ensures.notes in (N.applied, N.noted_are, N.applies)
