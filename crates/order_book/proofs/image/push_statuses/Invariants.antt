use Rattle.std.proofs.Common.{◌≡◌, ◌+◌, ◌≤◌, ◌++◌, drop, take, length}
use Rattle.std.specs.List.{AllByRecursion}
use Rattle.order_book.specs.layers.Images.{FitsState, raws_of}
use Rattle.order_book.proofs.image.push_statuses.Given as goal

abbrev pub invariant-states : goal.invariant-states
invariant-states l = record {
  items : l.out.items ++ raws_of (drop l.i l.states) ≡ l.fn.out.items ++ raws_of l.states;
  room : length l.states ≤ l.out.spare + l.i;
  fit : AllByRecursion FitsState (take l.i l.states);
}
