use Rattle.std.proofs.Common.{◌≡◌, ℕ, ◌++◌, List, length, take, ap, ◌∙◌}
use Rattle.std.proofs.lemmas.Result.{on_ok_weaker}
use Rattle.std.specs.FinMap.{len}
use Rattle.pitch_model.specs.Book.{Book, book_after}
use Rattle.pitch_model.specs.Levels.{shares}
use Rattle.pitch_model.specs.declared.status.Status.TheVariants.{Current}
use Rattle.feed_lines.specs.UnitLine.{unit_line}
use Rattle.drill_client.proofs.Ends.{all_taken}
use Rattle.drill_client.proofs.ending.append_end.Goals as goal

pub returns-clause-ok : goal.returns-clause-ok
returns-clause-ok c =
    let old : List ℕ = c.args.out.now.items in
    on_ok_weaker c.append_unit_line.result
    (λ line H V a.
    let status : c.status.result ≡ Current (length V) = c.status.ensures H a.history a.tracks ∙ a.status_is in
    let book : c.book-book.result.now.book ≡ book_after V =
    c.book-book.ensures.book H a.history V a.tracks a.keeps ∙ ap (λ (n : ℕ). book_after (take n V)) a.reach_is ∙ ap book_after (all_taken V) in
    let orders : c.len.result ≡ len (book_after V).orders = c.len.ensures.count ∙ ap (λ (b : Book). len b.orders) book in
    let sum : c.shares.result ≡ shares (book_after V) = c.shares.ensures ∙ ap shares book in
    line ∙ (λ i. old ++ unit_line c.args.unit (status i) (orders i) (sum i))) c.append_unit_line.ensures.ok
