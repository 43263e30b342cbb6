use Rattle.std.proofs.Common.{ℕ, List, take}
use Rattle.std.specs.List.{AllByRecursion}
use Rattle.unit_packets.specs.Packing.{bytes_in}
use Rattle.pitch_model.specs.History.{Entry, Raw}
use Rattle.heard_items.specs.Datagrams.{IsPiece}
use Rattle.drill_client.specs.layers.Following.{Follows, heard_datagrams}
use Rattle.drill_client.proofs.following.hear_datagrams.Given as goal

abbrev pub invariant-sent : goal.invariant-sent
invariant-sent l = (V : List Raw) (unit : ℕ) → AllByRecursion (IsPiece V unit) (bytes_in l.datagrams) → (H : ℕ) (E : List Entry)
    → Follows l.fn.client H V E → Follows l.client H V (heard_datagrams (bytes_in (take l.datagram-index l.datagrams)) E)
