use Rattle.std.proofs.Common.{◌∙◌, ◌==◌, ℕ, rules, tests}
use Rattle.std.specs.List.{list_any}
use Rattle.std.proofs.lemmas.Iterator.{YieldsList-from_slice}
use Rattle.std.proofs.lemmas.Iterator.Search.{all_from_yields_List}
use Rattle.live_words.specs.Options.{units_of}
use Rattle.live_words.specs.declared.listen_words.Server.{Server}
use Rattle.live_words.proofs.Asking.{list_all-map}
use Rattle.live_words.proofs.venue.are_among.Goals as goal

pub returns : goal.returns
returns c =
    let served = units_of c.args.lines.now in
    all_from_yields_List (λ (s : Server). list_any (λ (other : ℕ). other == s.unit) served) _ _ _ c.all.ensures.ran
    (YieldsList-from_slice c.args.places.now c.iter.ensures.rest) (λ x b q k. search (rules, tests))
    ∙ list_all-map (λ (unit : ℕ). list_any (λ (other : ℕ). other == unit) served) (λ (s : Server). s.unit) c.args.places.now
