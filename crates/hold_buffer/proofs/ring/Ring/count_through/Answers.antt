use Rattle.hold_buffer.proofs.Rings.{drop_found, drop_gap}
use Rattle.hold_buffer.proofs.ring.Ring.count_through.Goals as goal

pub returns-in-Ok : goal.returns-in-Ok
returns-in-Ok c = drop_found c.args.self.now.items c.in-Ok.at c.args.sequence c.requires c.in-Ok.ensures.found

pub returns-in-Err : goal.returns-in-Err
returns-in-Err c = drop_gap c.args.self.now.items c.in-Err.at c.args.sequence c.requires c.in-Err.ensures.gap
