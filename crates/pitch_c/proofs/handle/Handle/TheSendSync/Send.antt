-- What a handle owns is nothing, or a box of the clients, each of which may go to another thread.
use denote.Struct.Struct.{exits_of}
use denote.Struct.Owning.{shape, fields, to}
use denote.Param.Send.{IsSend, owning_send, struct_send}
use Rattle.leveled_units.specs.contracts.units.LeveledUnits.{the_row as R}
use Rattle.leveled_units.proofs.units.LeveledUnits.TheSendSync.{the_send as clients}
use Rattle.pitch_c.proofs.Sent.{both_send, owned, quiet}
use Rattle.pitch_c.specs.contracts.handle.Handle.{the_row, the_type}

pub send : IsSend the_row
send =
    owning_send the_type both_send (λ d. owned R clients d.alloc d.at d.value)
    (λ k. quiet (to the_type) (exits_of k (fields the_type)) ((struct_send (shape the_type) both_send).leaving k))
