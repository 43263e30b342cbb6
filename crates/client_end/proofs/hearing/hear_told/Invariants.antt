use Rattle.std.proofs.Common.{take}
use Rattle.client_end.specs.layers.Hearing.{HearsItems}
use Rattle.client_end.proofs.hearing.hear_told.Given as goal

abbrev pub invariant-told : goal.invariant-told
invariant-told l = HearsItems l.fn.client l.client (take l.item-index l.items)
