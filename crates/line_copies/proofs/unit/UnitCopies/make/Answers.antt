use Rattle.line_copies.proofs.unit.UnitCopies.make.Goals as goal

pub returns : goal.returns
returns c = record {
  many = c.in_ok-slots.ensures.many;
  each = c.in_ok-slots.ensures.none;
}
