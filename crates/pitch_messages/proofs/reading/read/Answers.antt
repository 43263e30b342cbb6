use Rattle.std.proofs.Common.{◌≡◌, ◌<◌, ℕ, List, length, get_or, subst, sym, ap, ◌∙◌, rules, IfOk, Result}
use Rattle.pitch_messages.specs.Raw.{kind_of}
use Rattle.pitch_messages.specs.Reading.{reads, needs_of}
use Rattle.pitch_messages.specs.Writing.{written}
use Rattle.pitch_messages.specs.layers.Rewriting.{with_reserved_blank}
use Rattle.pitch_messages.specs.declared.message.Message.{Message}
use Rattle.pitch_messages.specs.declared.message.ReadError.{ReadError}
use Rattle.pitch_messages.proofs.Rewriting.{rewritten}
use Rattle.pitch_messages.proofs.reading.read.Goals as goal

pub returns-clause-rewritten : goal.returns-clause-rewritten
returns-clause-rewritten c =
    let raw : List ℕ = c.args.raw.now in
    let small : (k : ℕ) → get_or c.bytes-bytes.result.now k 0 < 256 = λ k. search rules in
    let small_raw : (k : ℕ) → get_or raw k 0 < 256 = subst (λ (xs : List ℕ). (k : ℕ) → get_or xs k 0 < 256) c.bytes-bytes.ensures.bytes small in
    subst (λ (r : Result Message ReadError). IfOk r (λ message. length raw ≡ needs_of (kind_of raw) → with_reserved_blank raw ≡ written message))
    (sym (c.read_bytes.ensures ∙ ap reads c.bytes-bytes.ensures.bytes)) (rewritten raw c.bytes-bytes.ensures.raw small_raw)
