-- An item that is heard.
use Rattle.std.specs.Prelude.{ℕ, ◌+◌, ◌≤◌, length}
use Rattle.heard_items.specs.declared.item.Item.{Item}
use Rattle.heard_items.specs.declared.item.Item.TheVariants as item

-- how many messages an item has that are to be applied
abbrev pub message_count : Item → ℕ
message_count (item.Messages first raws) = length raws.items
message_count other = 0

-- an item for which no memory is needed where so many messages are held and so much is spare
abbrev pub NeedsNoMemory : Item → ℕ → ℕ → Type 0
NeedsNoMemory (item.Messages first raws) held spare = length raws.items + held ≤ spare
NeedsNoMemory (item.ImageMessages raws) held spare = ⊥
NeedsNoMemory (item.SpinFinished sequence) held spare = ⊥
NeedsNoMemory (item.Next next) held spare = Unit {0}
NeedsNoMemory (item.GapReply sequence count status) held spare = Unit {0}
NeedsNoMemory (item.Advertised sequence) held spare = Unit {0}
NeedsNoMemory (item.SpinReply sequence orders status) held spare = Unit {0}
NeedsNoMemory item.Nothing held spare = Unit {0}
NeedsNoMemory item.GrpUp held spare = Unit {0}
NeedsNoMemory item.GrpDown held spare = Unit {0}
NeedsNoMemory item.SpinUp held spare = Unit {0}
NeedsNoMemory item.SpinDown held spare = Unit {0}

-- where so many messages are held, all that an item applies can be noted
abbrev pub CanNoteItem : Item → ℕ → (ℕ → Type 0) → Type 0
CanNoteItem (item.Messages first raws) held can_note = can_note (length raws.items + held)
CanNoteItem other held can_note = Unit {0}
