use Rattle.std.proofs.Common.{◌∙◌, List, rules, true≢false, sym}
use Rattle.clap.specs.Matches.{found_of}
use Rattle.clap.specs.Walk.{Row, rows_of}
use Rattle.live_words.specs.Serving.{ArePlaces}
use Rattle.live_words.proofs.Asking.{serves_alike}
use Rattle.live_words.proofs.served.units_of.Goals as goal

pub returns-then-not-can_serve : goal.returns-then-not-can_serve
returns-then-not-can_serve c units is =
    let rows : List Row = rows_of (found_of c.args.matches.now) in
    let named : ArePlaces rows c.in-Some.places = search rules in
    absurd (true≢false (sym is.serves ∙ serves_alike rows is.places c.in-Some.places c.args.has_account is.named named ∙ search rules))

pub returns : goal.returns
returns c = record { places = c.in-Some.places; named = search rules; serves = search rules; are = search rules }
