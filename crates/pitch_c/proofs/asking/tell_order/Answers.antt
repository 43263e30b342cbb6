use Rattle.std.proofs.Common.{◌≡◌, ◌∙◌, sym, ap, arith}
use Rattle.std.specs.FinMap as map
use Rattle.pitch_model.specs.Book.{Book}
use Rattle.client_core.specs.Client.{current_book}
use Rattle.pitch_c.specs.Reports.{order_shown}
use Rattle.pitch_c.proofs.Telling.{of_reached}
use Rattle.pitch_c.proofs.asking.tell_order.Goals as goal

pub returns-in-Some : goal.returns-in-Some
returns-in-Some c =
    let units = c.args.units.now in
    let id = c.args.id in
    record {
      order = λ zero. of_reached units c.args.unit (current_book c.in-Some.client.now) (λ (book : Book). c.order_out.result ≡ order_shown (map.get book.orders id)) c.in-Some.ensures.book
          (c.order_out.ensures ∙ ap order_shown (c.order.ensures
          ∙ ap (λ (book : Book). map.get book.orders id) (c.book.ensures.same ∙ ap current_book c.client.ensures)));
      kept = λ low. absurd (omega (arith, low));
      answer = sym c.in-Some.ensures.some;
    }
