-- What some calls leave on its way in a net in memory.
use Rattle.std.proofs.Common.{◌≡◌, List, [], ◌∷◌, refl}
use Rattle.pitch_io.specs.declared.line.Line.TheVariants.{A, B}
use Rattle.pitch_io.specs.declared.net.LinkEnd.TheVariants.{SpinClient, SpinServer}
use Rattle.pitch_io.specs.declared.net.NetDone.TheVariants.{Done}
use Rattle.pitch_io.specs.declared.net.NetTaken.TheVariants.{Got}
use Rattle.pitch_io.specs.declared.sink.Put.TheVariants.{Wrote}
use Rattle.pitch_io.specs.Nets.{Call, Begin, Send, Next, Put, Take}
use Rattle.memory_devices.specs.layers.MemoryNets.{CameInOrder, nothing_coming, way_after}

-- what was sent before `begin` is gone, a datagram without bytes is not carried, one of three bytes
-- is cut where there is room for two, and of a piece of three bytes two came
calls : List Call
calls =
    Take SpinServer 2 (1 ∷ 2 ∷ []) (Got 2) ∷ Put SpinClient (1 ∷ 2 ∷ 3 ∷ []) (Wrote 3) ∷ Next A 2 (7 ∷ 8 ∷ []) (Got 2) ∷ Send A (6 ∷ []) Done ∷ Send A (7 ∷ 8 ∷ 9 ∷ []) Done ∷ Send B [] Done
    ∷ Begin Done ∷ Send A (5 ∷ []) Done ∷ []

left_is : way_after calls ≡ record nothing_coming { a = (6 ∷ []) ∷ []; spin_server = 3 ∷ [] }
unfolding calls
left_is = refl

in_order : CameInOrder calls
unfolding calls
in_order = (refl, ((refl, refl), tt))
