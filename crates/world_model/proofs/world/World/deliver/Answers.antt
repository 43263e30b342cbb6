use Rattle.std.proofs.Common.{List, ℕ, refl, subst, length}
use Rattle.std.proofs.lemmas.Option.{slice_get_read, slice_get_past}
use Rattle.unit_packets.specs.Cutting.{blocks_of}
use Rattle.world_model.specs.layers.Hearing.{HearsBlocks}
use Rattle.world_model.proofs.Acting.{acts_delivered, acts_undelivered}
use Rattle.world_model.proofs.world.World.deliver.Goals as goal

pub returns-in_default : goal.returns-in_default
returns-in_default c = λ s has.
    let w = c.args.self.now in
    let all = c.datagrams_on-datagrams.result.now in
    acts_undelivered w s has w.client w.arbiter w.passed c.calm.result c.args.line c.args.number all c.requires (c.datagrams_on-datagrams.ensures s has.is.sent has.is.replayed) (slice_get_past all _ c.in_default.ensures.lookup.3) c.calm.ensures

pub returns : goal.returns
returns c = λ s has.
    let w = c.args.self.now in
    let all = c.datagrams_on-datagrams.result.now in
    let look = c.in-Some.ensures.lookup in
    acts_delivered w s has c.hear_datagram.new.client c.hear_datagram.new.arbiter c.up_to-self.result _ c.args.line c.in_ok-overflow.overflow c.args.number all c.in-Some.datagram.now c.requires
    (c.datagrams_on-datagrams.ensures s has.is.sent has.is.replayed) (slice_get_read all (length all) _ c.in-Some.datagram.now refl look.3.0 look.1)
    (subst (λ (d : List ℕ). HearsBlocks w.unit c.args.line w.client c.hear_datagram.new.client w.arbiter c.hear_datagram.new.arbiter (blocks_of d) c.in_ok-overflow.overflow) c.bytes.ensures c.in_ok-overflow.ensures)
    c.up_to-self.ensures refl
