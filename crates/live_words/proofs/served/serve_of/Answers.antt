use Rattle.std.proofs.Common.{◌∙◌, List, Bool, Option, Vec, Global, codes, rules, subst, sym}
use Rattle.std.specs.Prelude.{MatchOption}
use Rattle.clap.specs.Matches.{found_of}
use Rattle.clap.specs.Walk.{Row, first_of, rows_of}
use Rattle.live_words.specs.Options.{IsAccount}
use Rattle.live_words.specs.Serving.{AreUnits}
use Rattle.live_words.specs.declared.serve_words.UnitWords.{UnitWords}
use Rattle.live_words.proofs.Asking.{account_alike}
use Rattle.live_words.proofs.served.serve_of.Goals as goal

pub returns-in_default-2 : goal.returns-in_default-2
returns-in_default-2 c asked is =
    let rows : List Row = rows_of (found_of c.args.matches.now) in
    let account : IsAccount (first_of (codes "sub") rows) (first_of (codes "user") rows) (first_of (codes "password") rows) c.in-Some-account_in.account = search rules in
    let alike = account_alike _ _ _ asked.account c.in-Some-account_in.account is.account account ∙ sym c.is_some.ensures in
    let none = subst (λ (o : Option (Vec UnitWords Global)). MatchOption o ((units : List UnitWords) → AreUnits rows c.is_some.result units → ⊥) (λ units. AreUnits rows c.is_some.result units.items)) c.in_default-2.is c.in_ok-units.ensures in
    none asked.units.items (subst (λ (b : Bool). AreUnits rows b asked.units.items) alike is.units)
