use Rattle.std.proofs.Common.{sym, ap}
use Rattle.unit_packets.specs.declared.header.Header.{Header}
use Rattle.heard_items.proofs.Units.{honest_block}
use Rattle.client_core.specs.layers.Blocks.{Carries}
use Rattle.best_quotes.proofs.unit.QuotedUnit.hear.Goals as goal

-- what the client is handed is the block's
carries : (c : goal.In_ok-change) → Carries c.args.block.now c.header-sequence.result.sequence c.raws.result
carries c = record { sequence_is = sym (ap (λ (h : Header). h.sequence) c.header-sequence.ensures); raws_are = sym c.raws.ensures.raws }

pub returns-clause-stands : goal.returns-clause-stands
returns-clause-stands c = λ H E S.
    let block = c.args.block.now in
    record {
      tracks = c.in_ok-change.ensures.tracks block (carries c) H E S.tracks;
      keeps = λ Image V honest. c.in_ok-change.ensures.keeps block (carries c) Image V E honest (S.keeps Image V (honest_block Image V block E honest));
      has = c.in_ok-change.ensures.levels S.has;
    }

pub returns-clause-quotes : goal.returns-clause-quotes
returns-clause-quotes c = λ Image V H E S honest.
    let block = c.args.block.now in
    c.in_ok-change.ensures.lines block (carries c) Image V H E S.tracks honest (S.keeps Image V (honest_block Image V block E honest)) S.has

pub returns-clause-change : goal.returns-clause-change
returns-clause-change c = λ H E S. c.in_ok-change.ensures.change c.args.block.now (carries c) H E S.tracks
