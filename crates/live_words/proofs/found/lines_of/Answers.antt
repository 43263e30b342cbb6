use Rattle.std.proofs.Common.{◌≡◌, List, length, codes, rules, arith, tests}
use Rattle.clap.specs.Matches.{found_of}
use Rattle.clap.specs.Walk.{Row, rows_of}
use Rattle.live_words.specs.Options.{AreNamed, texts_of}
use Rattle.live_words.specs.Asked.{IsPortText}
use Rattle.live_words.proofs.Naming.{named_length}
use Rattle.live_words.proofs.found.lines_of.Goals as goal

pub returns-then-is_empty-3 : goal.returns-then-is_empty-3
returns-then-is_empty-3 c lines is =
    let rows : List Row = rows_of (found_of c.args.matches.now) in
    let a : AreNamed IsPortText (texts_of (codes "a") rows) c.in-Some.a.items = search rules in
    let b : AreNamed IsPortText (texts_of (codes "b") rows) c.in-Some-2.b.items = search rules in
    let gap : AreNamed IsPortText (texts_of (codes "gap") rows) c.in-Some-3.gap.items = search rules in
    let no_a : length c.in-Some.a.items ≡ 0 = search (rules, tests) in
    let no_b : length c.in-Some-2.b.items ≡ 0 = search (rules, tests) in
    let no_gap : length c.in-Some-3.gap.items ≡ 0 = search (rules, tests) in
    let as_a = named_length IsPortText _ _ a in
    let as_b = named_length IsPortText _ _ b in
    let as_gap = named_length IsPortText _ _ gap in
    let of_a = named_length IsPortText _ _ is.a in
    let of_b = named_length IsPortText _ _ is.b in
    let of_gap = named_length IsPortText _ _ is.gap in
    let some = is.some in
    omega arith
