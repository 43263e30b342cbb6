use Rattle.std.proofs.Common.{List, rules, subst, sym}
use Rattle.clap.specs.Matches.{found_of}
use Rattle.clap.specs.Walk.{rows_of}
use Rattle.long_options.specs.Words.{Text}
use Rattle.live_words.specs.Options.{AreNamed, texts_of}
use Rattle.live_words.specs.Trials.{IsShareText}
use Rattle.live_words.specs.declared.trial_words.LineShare.{LineShare}
use Rattle.live_words.proofs.Sharing.{shares_answer}
use Rattle.live_words.proofs.trials.shares_in.Goals as goal

pub returns-in-Some : goal.returns-in-Some
returns-in-Some c =
    let texts : List Text = texts_of c.args.name.now (rows_of (found_of c.args.matches.now)) in
    let named : AreNamed IsShareText texts c.in-Some.given.items = search rules in
    shares_answer texts c.deref.result.now c.shares_of.result
    (subst (λ (given : List LineShare). AreNamed IsShareText texts given) (sym c.deref.ensures.value) named)
    c.shares_of.ensures.some c.shares_of.ensures.none
