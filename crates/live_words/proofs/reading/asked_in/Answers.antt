use Rattle.std.proofs.Common.{◌≡◌, List, Option, Some, None, codes, refl, rules, subst, sym}
use Rattle.std.specs.Prelude.{MatchOption, option_map}
use Rattle.clap.specs.Matches.{found_of}
use Rattle.clap.specs.Simple.{subcommand_rows_of}
use Rattle.clap.specs.Walk.{Row, rows_of}
use Rattle.long_options.specs.Words.{Text}
use Rattle.live_words.specs.Asked.{HasAsked}
use Rattle.live_words.specs.Serving.{AreServed}
use Rattle.live_words.specs.declared.serve_words.ServeWords.{ServeWords}
use Rattle.live_words.specs.declared.words.Asked.{Asked}
use Rattle.live_words.specs.declared.words.Asked.TheVariants.{Listen, Serve}
use Rattle.live_words.proofs.reading.asked_in.Goals as goal

-- what clap found of `serve` asks for what its options ask for
none_asked : (rows : List Row) → ((words : ServeWords) → AreServed rows words → ⊥) → (asked : Asked) → HasAsked (Some (codes "serve", rows)) asked → ⊥
none_asked rows none (Listen words) has = let e = has.0 in cc
none_asked rows none (Serve words) has = none words has.1

served : (rows : List Row) (o : Option ServeWords) → MatchOption o ((words : ServeWords) → AreServed rows words → ⊥) (AreServed rows)
    → MatchOption (option_map Serve o) ((asked : Asked) → HasAsked (Some (codes "serve", rows)) asked → ⊥) (HasAsked (Some (codes "serve", rows)))
served rows None none = none_asked rows none
served rows (Some words) is = (refl, is)

pub returns-in_ok-serve_of-in-Some : goal.returns-in_ok-serve_of-in-Some
returns-in_ok-serve_of-in-Some c =
    let rows : List Row = rows_of (found_of c.in-Some.inner.now) in
    let found : subcommand_rows_of c.args.matches.now ≡ Some (codes "serve", rows) = search rules in
    let mapped : c.map-then-eq-2.result ≡ option_map Serve c.in_ok-serve_of-in-Some.field-0 = search rules in
    subst (λ (f : Option (Text × List Row)). MatchOption c.map-then-eq-2.result ((asked : Asked) → HasAsked f asked → ⊥) (HasAsked f)) (sym found)
    (subst (λ (o : Option Asked). MatchOption o ((asked : Asked) → HasAsked (Some (codes "serve", rows)) asked → ⊥) (HasAsked (Some (codes "serve", rows)))) (sym mapped)
    (served rows c.in_ok-serve_of-in-Some.field-0 c.in_ok-serve_of-in-Some.ensures))
