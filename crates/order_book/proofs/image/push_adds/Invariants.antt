use Rattle.std.proofs.Common.{◌≡◌, ◌+◌, ◌≤◌, ◌++◌, drop, take, length}
use Rattle.std.specs.List.{AllByRecursion}
use Rattle.pitch_model.specs.layers.Widths.{FitsWire}
use Rattle.order_book.specs.layers.Images.{adds_of}
use Rattle.order_book.proofs.image.push_adds.Given as goal

abbrev pub invariant-adds : goal.invariant-adds
invariant-adds l = record {
  items : l.out.items ++ adds_of (drop l.i l.orders) ≡ l.fn.out.items ++ adds_of l.orders;
  room : length l.orders ≤ l.out.spare + l.i;
  spare : l.fn.out.spare ≤ l.out.spare + l.i;
  fit : AllByRecursion FitsWire (take l.i l.orders);
}
