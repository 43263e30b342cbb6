use Rattle.std.proofs.Common.{rules, arith}
use Rattle.order_book.proofs.image.fits_wire.Goals as goal

pub returns : goal.returns
returns c = record {
  id = omega arith;
  quantity = omega arith;
  symbol = search rules;
  price = omega arith;
  participant = search rules;
  symbol_bytes = search rules;
  participant_bytes = search rules;
}
