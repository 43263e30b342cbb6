-- What a client hears of what its links tell.
use Rattle.std.specs.Prelude.{ℕ, List}
use Rattle.std.specs.List.{AllByRecursion}
use Rattle.heard_items.specs.Heard.{heard_all}
use Rattle.pitch_model.specs.History.{Entry, Raw}
use Rattle.heard_items.specs.declared.item.Item.{Item}
use Rattle.heard_items.specs.declared.item.Item.TheVariants as item
use Rattle.client_core.specs.Tracks.{Tracks, Keeps}
use Rattle.client_core.specs.Venues.{IsVenue}
use Rattle.client_core.specs.declared.client.UnitClient.{UnitClient}

-- an item that a link can tell: messages with sequences, and heartbeats, come on lines alone
abbrev pub IsTold : Item → Type 0
IsTold (item.Messages first raws) = ⊥
IsTold (item.Next next) = ⊥
IsTold other = Unit {0}

-- an item that the link with the proxy can tell
abbrev pub IsGapTold : Item → Type 0
IsGapTold item.GrpUp = Unit {0}
IsGapTold (item.GapReply sequence count status) = Unit {0}
IsGapTold other = ⊥

-- a client heard items that a link told
pub record HearsItems (client client' : UnitClient) (items : List Item) : Type 0 where
  pub tracks : AllByRecursion IsTold items
      → (H : ℕ) (E : List Entry) → Tracks client H E → Tracks client' H (heard_all items E)
  pub keeps : AllByRecursion IsTold items
      → (V : List Raw) (H : ℕ) (E : List Entry)
      → Tracks client H E → IsVenue V (heard_all items E) → Keeps client V → Keeps client' V
