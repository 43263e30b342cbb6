use Rattle.std.proofs.Common.{◌+◌, ◌-◌, length, take, fold, ap, ◌∙◌, sym, subst, arith, ◌≤◌}
use Rattle.std.specs.FinMap as map
use Rattle.pitch_model.specs.Book.{Book, after}
use Rattle.pitch_model.proofs.Books.{after_len}
use Rattle.spin_server.proofs.Shelving.{fold_first}
use Rattle.spin_server.proofs.shelf.apply_first.Goals as goal

pub first-preserved : goal.first-preserved
first-preserved c =
    let inv = c.first.invariant in
    let size = ap length c.in-Some.ensures.0 in
    let left = inv.left in
    let few = inv.few in
    let more : map.len c.apply_reserved.new.self.book.orders ≤ map.len c.first.book.book.orders + 1 = subst (λ (b : Book). map.len b.orders ≤ map.len c.first.book.book.orders + 1) (sym c.apply_reserved.ensures.book) (after_len c.first.book.book c.in-Some.raw.now) in
    let room = inv.room in
    let spare = c.apply_reserved.ensures.spare in
    record {
      left = omega arith;
      book = ap (λ (b : Book). fold after b (take (c.args.count - (c.first.counter + 1)) c.next_raw.new.self)) (c.apply_reserved.ensures.book)
          ∙ sym (fold_first c.first.book.book c.first.raws c.next_raw.new.self c.in-Some.raw.now c.args.count c.first.counter c.in-Some.ensures.0 (omega arith)) ∙ inv.book;
      few = omega arith;
      room = omega arith;
    }
