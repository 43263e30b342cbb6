use Rattle.std.proofs.Common.{List, zero, subst, take}
use Rattle.heard_items.specs.declared.item.Item.{Item}
use Rattle.pitch_model.proofs.Results.{on_err}
use Rattle.client_end.specs.layers.Hearing.{HearsItems}
use Rattle.client_end.specs.Stands.{HearsInPart}
use Rattle.client_end.proofs.Told.{heard_told, heard_first}
use Rattle.client_end.proofs.session.feed_link.Goals as goal

pub returns-clause-has : goal.returns-clause-has
returns-clause-has g c = λ H es E is has.
    heard_told H c.args.link.now c.args.client.now c.hear_told.new.client c.make-items.result.items c.feed.new.items.items c.args.piece.now es E is has c.make-items.ensures c.in_ok-feed.ensures.tells
    (subst (λ (xs : List Item). HearsItems c.args.client.now c.hear_told.new.client xs) c.as_slice.ensures c.in_ok-hear_told.ensures.hears)

pub returns-in_err-hear_told-clause-err : goal.returns-in_err-hear_told-clause-err
returns-in_err-hear_told-clause-err g c =
    let first = c.in_err-hear_told.ensures.err in
    on_err (HearsInPart c.args.link.now c.args.client.now c.hear_told.new.client c.args.piece.now) c.from_residual-in_err-hear_told.result (
      first.0,
      λ H es E is has.
          heard_first first.0 H c.args.link.now c.args.client.now c.hear_told.new.client c.make-items.result.items c.feed.new.items.items c.args.piece.now es E is has c.make-items.ensures c.in_ok-feed.ensures.tells
          (subst (λ (xs : List Item). HearsItems c.args.client.now c.hear_told.new.client (take first.0 xs)) c.as_slice.ensures first.1),
    )

pub returns-in_err-feed-clause-err : goal.returns-in_err-feed-clause-err
returns-in_err-feed-clause-err g c =
    on_err (HearsInPart c.args.link.now c.args.client.now c.args.client.now c.args.piece.now) c.from_residual.result (zero, λ H es E is has. has)
