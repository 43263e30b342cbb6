use Rattle.std.proofs.Common.{rules, arith}
use Rattle.order_book.proofs.image.fits_status.Goals as goal

pub returns : goal.returns
returns c = record {
  symbol = search rules;
  symbol_bytes = search rules;
  halt = omega arith;
  sho = omega arith;
}
