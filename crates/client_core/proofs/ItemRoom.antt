-- What an item applies can be noted.
use Rattle.std.proofs.Common.{ℕ, ◌+◌, ◌≤◌, length}
use Rattle.heard_items.specs.declared.item.Item.{Item}
use Rattle.heard_items.specs.declared.item.Item.TheVariants as item
use Rattle.client_core.specs.layers.Items.{CanNoteItem, NeedsNoMemory}

-- where any number of messages can be
pub all_can : (it : Item) (held : ℕ) (can : ℕ → Type 0) → ((count : ℕ) → can count) → CanNoteItem it held can
all_can (item.Messages first raws) held can all = all (length raws.items + held)
all_can (item.ImageMessages raws) held can all = tt
all_can (item.SpinFinished sequence) held can all = tt
all_can (item.Next next) held can all = tt
all_can (item.GapReply sequence count status) held can all = tt
all_can (item.Advertised sequence) held can all = tt
all_can (item.SpinReply sequence orders status) held can all = tt
all_can item.Nothing held can all = tt
all_can item.GrpUp held can all = tt
all_can item.GrpDown held can all = tt
all_can item.SpinUp held can all = tt
all_can item.SpinDown held can all = tt

-- where a list needs no memory
pub list_can : (it : Item) (held spare : ℕ) → NeedsNoMemory it held spare → CanNoteItem it held (λ count. count ≤ spare)
list_can (item.Messages first raws) held spare room = room
list_can (item.ImageMessages raws) held spare room = tt
list_can (item.SpinFinished sequence) held spare room = tt
list_can (item.Next next) held spare room = tt
list_can (item.GapReply sequence count status) held spare room = tt
list_can (item.Advertised sequence) held spare room = tt
list_can (item.SpinReply sequence orders status) held spare room = tt
list_can item.Nothing held spare room = tt
list_can item.GrpUp held spare room = tt
list_can item.GrpDown held spare room = tt
list_can item.SpinUp held spare room = tt
list_can item.SpinDown held spare room = tt
