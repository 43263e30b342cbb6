use Rattle.std.proofs.Common.{◌∙◌, List, codes, rules, true≢false, sym}
use Rattle.clap.specs.Matches.{found_of}
use Rattle.clap.specs.Walk.{Row, first_of, rows_of}
use Rattle.live_words.specs.Options.{AreNamed, IsAccount, IsServerText, texts_of}
use Rattle.live_words.proofs.Asking.{asks_alike}
use Rattle.live_words.proofs.found.servers_of.Goals as goal

pub returns-then-not-can_ask : goal.returns-then-not-can_ask
returns-then-not-can_ask c servers is =
    let rows : List Row = rows_of (found_of c.args.matches.now) in
    let grp : AreNamed IsServerText (texts_of (codes "grp") rows) c.in-Some-2.grp.items = search rules in
    let spin : AreNamed IsServerText (texts_of (codes "spin") rows) c.in-Some-3.spin.items = search rules in
    let account : IsAccount (first_of (codes "sub") rows) (first_of (codes "user") rows) (first_of (codes "password") rows) c.in-Some.account = search rules in
    let alike = asks_alike _ _ _ _ _ _ _ _ _ _ _ grp is.grp spin is.spin account is.account in
    absurd (true≢false (sym is.asks ∙ sym alike ∙ search rules))
