-- What an item or a block changes, and which items there are.
use Rattle.std.specs.Prelude.{◌≡◌, ℕ, ◌+◌, ◌≤◌, ◌<◌, List, [], ◌∷◌, length, nat_lt, min, ◌^◌, ◌-◌}
use Rattle.std.specs.Prelude.{if◌then◌else◌}
use Rattle.pitch_fields.specs.Limits.{last_sequence}
use Rattle.unit_packets.specs.Blocks.{Block}
use Rattle.pitch_model.specs.History.{Entry, Raw, image_finished, bad_image, spin_of, adds}
use Rattle.pitch_model.specs.Reach.{reach}
use Rattle.pitch_model.specs.Status.{status_of}
use Rattle.heard_items.specs.declared.change.Change.{Change}
use Rattle.heard_items.specs.declared.change.ImageEnd.{ImageEnd}
use Rattle.heard_items.specs.declared.change.ImageEnd.TheVariants as end
use Rattle.heard_items.specs.declared.item.Item.{Item}
use Rattle.heard_items.specs.declared.item.Item.TheVariants as item
use Rattle.heard_items.specs.HeardBlocks.{heard_block, overflowed_messages, block_overflows}
use Rattle.heard_items.specs.Heard.{heard, fresh_messages, block_fresh}

-- ---- Items
-- the item of a block: its messages, or what a heartbeat tells ("Heartbeat Messages"); sequence 0
-- means unsequenced ("Sequenced Unit Header")
abbrev pub IsItemOf : Block → Item → Type 0
IsItemOf block (item.Messages first raws) =
    (0 < block.sequence) × (0 < length block.raws)
    × (first ≡ block.sequence) × (raws.items ≡ block.raws)
IsItemOf block (item.Next next) = (0 < block.sequence) × (block.raws ≡ []) × (next ≡ block.sequence)
IsItemOf block item.Nothing = block.sequence ≡ 0
IsItemOf block item.GrpUp = ⊥
IsItemOf block item.GrpDown = ⊥
IsItemOf block (item.GapReply sequence count status) = ⊥
IsItemOf block item.SpinUp = ⊥
IsItemOf block item.SpinDown = ⊥
IsItemOf block (item.Advertised sequence) = ⊥
IsItemOf block (item.SpinReply sequence orders status) = ⊥
IsItemOf block (item.ImageMessages raws) = ⊥
IsItemOf block (item.SpinFinished sequence) = ⊥

-- the sequences of an item are those of a feed: from 1 to 4,294,967,294
abbrev pub IsItem : Item → Type 0
IsItem (item.Messages first raws) = (1 ≤ first) × (first + length raws.items ≤ last_sequence + 1)
IsItem (item.Next next) = 1 ≤ next
IsItem (item.GapReply sequence count status) = Unit {0}
IsItem (item.Advertised sequence) = Unit {0}
IsItem (item.SpinReply sequence orders status) = Unit {0}
IsItem (item.ImageMessages raws) = Unit {0}
IsItem (item.SpinFinished sequence) = Unit {0}
IsItem item.Nothing = Unit {0}
IsItem item.GrpUp = Unit {0}
IsItem item.GrpDown = Unit {0}
IsItem item.SpinUp = Unit {0}
IsItem item.SpinDown = Unit {0}

abbrev pub fresh_of : ℕ → List Entry → Item → ℕ
fresh_of H E (item.Messages first raws) = fresh_messages H first raws.items E
fresh_of H E item = 0

abbrev pub overflows_of : ℕ → List Entry → Item → ℕ
overflows_of H E (item.Messages first raws) = overflowed_messages H first raws.items E
overflows_of H E item = 0

-- what becomes of an image where the reach is n: a finished one above n is taken, another is stale;
-- the count of a bad one stops at the greatest number of 64 bits
abbrev pub image_end_at : ℕ → List (ℕ × List Raw) → List (ℕ × List Raw) → ImageEnd
image_end_at n (image ∷ images) bad = if nat_lt n image.0 then end.Taken else end.Stale
image_end_at n [] (image ∷ bad) = end.Bad image.0 (min (adds image.1) (2 ^ 64 - 1))
image_end_at n [] [] = end.NoImage

abbrev pub image_end : ℕ → List Entry → Item → ImageEnd
image_end H E (item.SpinFinished sequence) =
    image_end_at (reach H E) (image_finished (spin_of E) sequence) (bad_image (spin_of E) sequence)
image_end H E item = end.NoImage

-- what an item changes that is heard after a history
abbrev pub change_of : ℕ → List Entry → Item → Change
change_of H E item = record {
  before = status_of H E;
  after = status_of H (heard item E);
  fresh = fresh_of H E item;
  overflows = overflows_of H E item;
  image = image_end H E item;
}

-- what a block changes that is heard after a history
abbrev pub block_change : ℕ → List Entry → Block → Change
block_change H E block = record {
  before = status_of H E;
  after = status_of H (heard_block block E);
  fresh = block_fresh H E block;
  overflows = block_overflows H E block;
  image = end.NoImage;
}
