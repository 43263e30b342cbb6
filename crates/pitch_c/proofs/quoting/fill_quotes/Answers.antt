use Rattle.std.proofs.Common.{◌<◌, List, length, refl, arith}
use Rattle.std.proofs.lemmas.Option.{slice_get_read}
use Rattle.best_quotes.specs.declared.quote.QuoteLine.{QuoteLine}
use Rattle.pitch_c.specs.Reports.{quote_shown}
use Rattle.pitch_c.proofs.Filling.{fills_more}
use Rattle.pitch_c.proofs.quoting.fill_quotes.Goals as goal

pub quotes-preserved : goal.quotes-preserved
quotes-preserved c =
    let all : List QuoteLine = c.args.lines.now in
    let test = c.quotes-test.true in
    let fits = c.fitting-count.ensures.within in
    let within : c.quotes.at < length all = omega (arith, test, fits.0) in
    let room : c.quotes.at < length c.args.told.now = omega (arith, test, fits.1) in
    fills_more quote_shown all c.args.told.now c.quotes.told c.quotes.at c.index-lines-at.result c.quote_out.result c.quotes.invariant
    (slice_get_read all (length all) c.quotes.at c.index-lines-at.result refl within c.index-lines-at.is) c.quote_out.ensures room
