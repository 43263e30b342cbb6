use Rattle.std.proofs.Common.{◌≡◌, ◌∙◌, List, length, nat_eq, ap, sym, subst, Some}
use Rattle.std.specs.Set.{is_member}
use Rattle.pitch_model.specs.Advertising.{Operation, accepted_by, advertised_by, newest_of}
use Rattle.pitch_model.specs.Book.{book_after}
use Rattle.venue_core.specs.Stands.{Stands}
use Rattle.shared_unit.specs.layers.Moments.{Writing}
use Rattle.shared_unit.proofs.Writing.{newest_there, newest_not, picture_whole}
use Rattle.shared_unit.proofs.writer.Writer.advertised.Goals as goal

pub returns-then-has_newest-clause-follows : goal.returns-then-has_newest-clause-follows
returns-then-has_newest-clause-follows g c =
    let newest : newest_of (advertised_by c.args.self.now.history) ≡ Some c.accepted-sequence.result =
    subst (λ (h : List Operation). newest_of (advertised_by h) ≡ Some c.accepted-sequence.result) (c.past.ensures ∙ ap (λ (a : Writing). a.history) c.self.view_is) c.if-has_newest.ensures in
    newest_there c.args.self.now.history c.accepted-sequence.result newest c.accepted-sequence.ensures

pub returns-clause-follows : goal.returns-clause-follows
returns-clause-follows g c =
    let h : List Operation = c.args.self.now.history in
    let n = c.accepted-sequence.result in
    let newest : n ≡ length (accepted_by h) = c.accepted-sequence.ensures in
    let book : c.book.result.now.book ≡ book_after (accepted_by h) = c.book.ensures (accepted_by h) 0 (subst (λ (x : Writing). Stands c.self.inside.venue (accepted_by x.history) 0) c.self.view_is c.self.invariant) in
    let other : newest_of (advertised_by h) ≡ Some n → ⊥ = λ e. c.if-has_newest.ensures (subst (λ (x : List Operation). newest_of (advertised_by x) ≡ Some n) (sym (c.past.ensures ∙ ap (λ (a : Writing). a.history) c.self.view_is)) e) in (
      picture_whole (accepted_by h) c.in_ok-picture.picture c.book.result.now.book book (c.in_ok-picture.ensures.sequence ∙ newest) c.in_ok-picture.ensures.orders c.in_ok-picture.ensures.raws,
      c.in_ok-picture.ensures.sequence ∙ newest,
      ap (is_member nat_eq (advertised_by h)) c.in_ok-picture.ensures.sequence ∙ newest_not h n other newest,
    )
