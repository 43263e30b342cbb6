use Rattle.std.proofs.Common.{◌∙◌, rules, string_bytes, tests}
use Rattle.std.specs.Str.{bytes_eq}
use Rattle.std.proofs.lemmas.Iterator.{YieldsList-from_slice}
use Rattle.std.proofs.lemmas.Iterator.Search.{any_from_yields_List}
use Rattle.clap.proofs.WalkLemmas.{list_any-map}
use Rattle.long_options.specs.Plain.{dashes}
use Rattle.live_words.proofs.reading.has_dashes.Goals as goal

pub returns : goal.returns
returns c =
    any_from_yields_List (λ w. bytes_eq (string_bytes w) dashes) _ _ _ c.any.ensures.ran
    (YieldsList-from_slice c.args.words.now c.iter.ensures.rest) (λ x b q k. search (rules, tests))
    ∙ list_any-map (λ w. bytes_eq w dashes) string_bytes c.args.words.now
