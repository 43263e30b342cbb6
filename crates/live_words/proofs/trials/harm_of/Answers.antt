use Rattle.std.proofs.Common.{◌≡◌, List, Option, None, codes, subst}
use Rattle.std.specs.Prelude.{MatchOption}
use Rattle.clap.specs.Matches.{found_of}
use Rattle.clap.specs.Walk.{Row, rows_of}
use Rattle.long_options.specs.Words.{Text}
use Rattle.live_words.specs.Options.{texts_of}
use Rattle.live_words.specs.Trials.{AreShares}
use Rattle.live_words.specs.declared.trial_words.ShareWords.{ShareWords}
use Rattle.live_words.proofs.trials.harm_of.Goals as goal

-- where an option gives no shares, no harm is named
none_of : (texts : List Text) (read : Option ShareWords) (none : Option ShareWords) → read ≡ none
    → MatchOption read ((shares : ShareWords) → AreShares texts shares → ⊥) (AreShares texts)
    → MatchOption none ((shares : ShareWords) → AreShares texts shares → ⊥) (AreShares texts)
none_of texts read none e = subst (λ (o : Option ShareWords). MatchOption o ((shares : ShareWords) → AreShares texts shares → ⊥) (AreShares texts)) e

pub returns-in_default-2 : goal.returns-in_default-2
returns-in_default-2 c harm is =
    let rows : List Row = rows_of (found_of c.args.matches.now) in
    none_of (texts_of (codes "lose") rows) c.in_ok-lose.field-0 None c.in_default-2.is c.in_ok-lose.ensures harm.lose is.lose

pub returns-in_default-3 : goal.returns-in_default-3
returns-in_default-3 c harm is =
    let rows : List Row = rows_of (found_of c.args.matches.now) in
    none_of (texts_of (codes "repeat") rows) c.in_ok-repeat.field-0 None c.in_default-3.is c.in_ok-repeat.ensures harm.repeat is.repeat

pub returns-in_default-4 : goal.returns-in_default-4
returns-in_default-4 c harm is =
    let rows : List Row = rows_of (found_of c.args.matches.now) in
    none_of (texts_of (codes "swap") rows) c.in_ok-swap.field-0 None c.in_default-4.is c.in_ok-swap.ensures harm.swap is.swap
