use Rattle.std.proofs.Common.{sym, ap}
use Rattle.unit_packets.specs.declared.header.Header.{Header}
use Rattle.pitch_model.specs.Image.{image}
use Rattle.client_core.specs.layers.Blocks.{Carries}
use Rattle.drill_client.proofs.Going.{block_honest, block_between}
use Rattle.drill_client.proofs.following.hear_block.Goals as goal

pub returns : goal.returns
returns c V unit is H E f =
    let carries : Carries c.args.block.now c.header.result.sequence c.raws.result = record { sequence_is = sym (ap (λ (h : Header). h.sequence) c.header.ensures); raws_are = sym c.raws.ensures.raws } in
    let honest = block_honest V unit c.args.block.now E is f.honest in
    record {
      tracks = c.in_ok-hear_block.ensures.tracks c.args.block.now carries H E f.tracks;
      honest = honest;
      keeps = c.in_ok-hear_block.ensures.keeps c.args.block.now carries image V E honest f.keeps;
      between = block_between c.args.block.now E f.between;
      bytes = f.bytes;
    }
