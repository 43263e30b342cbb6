use Rattle.std.proofs.Common.{◌≡◌, [], ◌++◌, ℕ, map, sym, ap, ◌∙◌, ◌≤◌, arith}
use Rattle.std.specs.Ordering.{nat_cmp}
use Rattle.std.specs.FinMap as finite
use Rattle.std.proofs.lemmas.List.{nil_from_length}
use Rattle.pitch_messages.specs.declared.order.Order.{Order}
use Rattle.pitch_messages.specs.Forms.{add_message, status_message}
use Rattle.pitch_messages.specs.Writing.{written}
use Rattle.pitch_model.specs.Book.{book_after}
use Rattle.pitch_model.specs.History.{adds}
use Rattle.pitch_model.specs.Image.{image_of}
use Rattle.pitch_model.specs.Statuses.{symbol_state}
use Rattle.pitch_model.proofs.Examples.{no_statuses}
use Rattle.venue_core.specs.Plan.{plan}
use Rattle.drill_tests.proofs.values.no_orders.Goals as goal

abbrev nothing_open : finite.FinMap nat_cmp Order
nothing_open = finite.empty

none_open : finite.values nothing_open ≡ []
none_open = ap (map (λ (e : ℕ × Order). e.1)) (nil_from_length (finite.entries nothing_open) (sym (finite.len-entries nothing_open) ∙ finite.len-empty nat_cmp Order))

-- an empty book has an image without messages
none_shown : image_of (book_after []) ≡ []
unfolding image_of
none_shown = λ i. map written (map (λ order. add_message order 0) (none_open i) ++ map (λ state. status_message state 0) (map symbol_state (no_statuses i)))

from_none : (n : ℕ) → 0 ≤ n
from_none n = omega arith

pub make-requires-2 : goal.make-requires-2
make-requires-2 g c = record {
  within = from_none _;
  raws_are = c.make.ensures ∙ sym (c.images_leave_their_books.ensures.of_book (plan g.R.DrillRun.number g.R.DrillRun.unit g.R.DrillRun.count) 0 ∙ none_shown);
  orders_are = sym (ap adds c.make.ensures);
}
