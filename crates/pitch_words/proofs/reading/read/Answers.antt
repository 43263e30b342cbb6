use Rattle.std.proofs.Common.{map, slice_index_or, string_bytes}
use Rattle.std.specs.Str.{IsUtf8}
use Rattle.std.proofs.lemmas.List.Elements.{All-map}
use Rattle.std.proofs.lemmas.Str.{IsUtf8-string_bytes}
use Rattle.pitch_words.proofs.Exact.{as_found, found_in_range, none_refused, none_with_dashes}
use Rattle.pitch_words.proofs.reading.read.Goals as goal

pub returns-then-has_dashes-clause-form : goal.returns-then-has_dashes-clause-form
returns-then-has_dashes-clause-form c = none_with_dashes (map string_bytes c.args.words.now) c.has_dashes.result c.has_dashes.ensures c.if-has_dashes.true

pub returns-in-None-clause-form : goal.returns-in-None-clause-form
returns-in-None-clause-form c = none_refused (map string_bytes c.args.words.now) (rw c.in-None.is at c.in_ok-matches.ensures)

pub returns-in-Some-clause-form : goal.returns-in-Some-clause-form
returns-in-Some-clause-form c =
    let texts = All-map IsUtf8 string_bytes c.args.words.now (λ k s in_words. IsUtf8-string_bytes (slice_index_or c.args.words.now k s)) in
    as_found (map string_bytes c.args.words.now) texts c.has_dashes.result _ c.form_of.result c.has_dashes.ensures c.if-has_dashes.false (rw c.in-Some.is at c.in_ok-matches.ensures) c.form_of.ensures.form

pub returns-in-Some-clause-range : goal.returns-in-Some-clause-range
returns-in-Some-clause-range c = found_in_range _ c.form_of.result c.form_of.ensures.form
