-- What an item adds to a history, and how many of its messages are fresh.
use Rattle.std.specs.Prelude.{ℕ, ◌+◌, Bool, ◌&&◌, not, List, [], ◌∷◌, ◌==◌, nat_lt, if◌then◌else◌}
use Rattle.unit_packets.specs.Blocks.{Block}
use Rattle.pitch_model.specs.History.{Entry, Raw}
use Rattle.pitch_model.specs.History as entry
use Rattle.pitch_model.specs.Reach.{reach, is_seen, since_overflow}
use Rattle.heard_items.specs.declared.item.Item.{Item}
use Rattle.heard_items.specs.declared.item.Item.TheVariants as item
pub use Rattle.heard_items.specs.HeardBlocks.{heard_messages, heard_sequenced, heard_block}
pub use Rattle.heard_items.specs.HeardBlocks.{overflowed_messages, block_overflows}

-- ---- Entries
-- the status `A` of a Gap Response or Spin Response
abbrev pub is_accepted : ℕ → Bool
is_accepted status = status == 65

-- a history with an item that is heard after it
abbrev pub heard : Item → List Entry → List Entry
heard (item.Messages first raws) E = heard_messages first raws.items E
heard (item.Next next) E = entry.Next next ∷ E
heard item.Nothing E = E
heard item.GrpUp E = entry.GrpUp ∷ E
heard item.GrpDown E = entry.GrpDown ∷ E
heard (item.GapReply sequence count status) E = entry.GapReply (is_accepted status) ∷ E
heard item.SpinUp E = entry.SpinUp ∷ E
heard item.SpinDown E = entry.SpinDown ∷ E
heard (item.Advertised sequence) E = entry.Advertised sequence ∷ E
heard (item.SpinReply sequence orders status) E =
    entry.SpinReply sequence orders (is_accepted status) ∷ E
heard (item.ImageMessages raws) E = entry.ImageMessages raws.items ∷ E
heard (item.SpinFinished sequence) E = entry.SpinFinished sequence ∷ E

-- with items that are heard after it, one after another
abbrev pub heard_all : List Item → List Entry → List Entry
heard_all [] E = E
heard_all (item ∷ items) E = heard_all items (heard item E)

-- ---- What an item changes, where the hold has H places
-- a message is fresh after a history: it is above the reach, and has not come
abbrev pub is_fresh : ℕ → List Entry → ℕ → Bool
is_fresh H E sequence = nat_lt (reach H E) sequence && not (is_seen (since_overflow H E) sequence)

-- how many of messages with rising sequence are fresh, each after those before it
abbrev pub fresh_messages : ℕ → ℕ → List Raw → List Entry → ℕ
fresh_messages H first [] E = 0
fresh_messages H first (raw ∷ raws) E =
    (if is_fresh H E first then 1 else 0)
    + fresh_messages H (first + 1) raws (entry.Message first raw ∷ E)

-- how many messages of a block are fresh; an unsequenced one has none
abbrev pub block_fresh : ℕ → List Entry → Block → ℕ
block_fresh H E block =
    if block.sequence == 0 then 0 else fresh_messages H block.sequence block.raws E
