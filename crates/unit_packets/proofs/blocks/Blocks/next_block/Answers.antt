use Rattle.std.proofs.Common.{sym, ap, ◌∙◌}
use Rattle.unit_packets.specs.Judging.{judge}
use Rattle.unit_packets.proofs.Cuts.{none_of}
use Rattle.unit_packets.proofs.Streams.{goes_on}
use Rattle.unit_packets.proofs.blocks.Blocks.next_block.Goals as goal

pub returns-in-Ok-clause-blocks : goal.returns-in-Ok-clause-blocks
returns-in-Ok-clause-blocks c = (goes_on _ _ _ _ _ _ c.self.view_is c.in-Ok.ensures.found c.header.ensures c.from.ensures c.split_at.ensures.back).blocks

pub returns-in-Ok-clause-rest : goal.returns-in-Ok-clause-rest
returns-in-Ok-clause-rest c = (goes_on _ _ _ _ _ _ c.self.view_is c.in-Ok.ensures.found c.header.ensures c.from.ensures c.split_at.ensures.back).rest

pub returns-in-Err-clause-blocks : goal.returns-in-Err-clause-blocks
returns-in-Err-clause-blocks c =
    let none = none_of c.args.self.now _ (ap judge (sym c.self.view_is) ∙ c.in-Err.ensures.fault) in
    (none.blocks, none.blocks)

pub returns-in-Err-clause-rest : goal.returns-in-Err-clause-rest
returns-in-Err-clause-rest c = sym (none_of c.args.self.now _ (ap judge (sym c.self.view_is) ∙ c.in-Err.ensures.fault)).rest
