use Rattle.std.proofs.Common.{◌∙◌, ◌==◌, ℕ, rules, tests}
use Rattle.std.proofs.lemmas.Iterator.{YieldsList-from_slice}
use Rattle.std.proofs.lemmas.Iterator.Search.{any_from_yields_List}
use Rattle.clap.proofs.WalkLemmas.{list_any-map}
use Rattle.live_words.specs.declared.listen_words.Server.{Server}
use Rattle.live_words.proofs.servers.has_unit.Goals as goal

pub returns : goal.returns
returns c =
    any_from_yields_List (λ (s : Server). s.unit == c.args.unit) _ _ _ c.any.ensures.ran
    (YieldsList-from_slice c.args.servers.now c.iter.ensures.rest) (λ x b q k. search (rules, tests))
    ∙ list_any-map (λ (unit : ℕ). unit == c.args.unit) (λ (s : Server). s.unit) c.args.servers.now
