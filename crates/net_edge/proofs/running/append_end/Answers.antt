use Rattle.std.proofs.Common.{ap, ◌∙◌}
use Rattle.std.proofs.lemmas.Result.{on_ok_weaker}
use Rattle.std.specs.FinMap.{len}
use Rattle.pitch_model.specs.Book.{Book}
use Rattle.pitch_model.specs.Levels.{shares}
use Rattle.net_edge.proofs.running.append_end.Goals as goal

pub returns-clause-line : goal.returns-clause-line
returns-clause-line g c = on_ok_weaker c.append_unit_line.result
    (λ line w h. (
      c.len.result,
      c.shares.result,
      λ honest. record {
        orders_are = c.len.ensures.count ∙ ap (λ (b : Book). len b.orders) (c.book-book.ensures w h honest);
        shares_are = c.shares.ensures ∙ ap shares (c.book-book.ensures w h honest);
      },
      rw (c.status.ensures w h) at line,
    )) c.append_unit_line.ensures.ok
