-- Places of sequences in a ring of held messages by rising sequence, and of its messages.
use Rattle.std.specs.Prelude.{◌≡◌, ℕ, ◌<◌, ◌≤◌, List, [], length, map as mapped, Some, slice_get}
use Rattle.std.specs.Prelude.{unwrap_or, nat_eq}
use Rattle.std.specs.List.{AllByRecursion, IsDistinct}
use Rattle.std.specs.FinMap as map
use Rattle.std.specs.Ordering.{nat_cmp}
use Rattle.std.specs.List.Sorted.{IsStrictlySortedBy}
use Rattle.std.specs.Map.{keys_of}
use Rattle.circular_buffer.specs.Buffer.{Buffer}
use Rattle.slab.specs.Slab.{Slab, get, ContainsKey, slab_len}
use Rattle.hold_buffer.specs.HoldView.{HoldView}
use Rattle.hold_buffer.specs.layers.Holding.{IsHold}

-- each sequence is below those after it
abbrev pub IsRising : {X : Type 0} → List (ℕ × X) → Type 0
IsRising {X} messages = IsStrictlySortedBy nat_cmp (keys_of messages)

-- the message at the place has the sequence
abbrev pub IsKeyAt : {X : Type 0} → List (ℕ × X) → ℕ → ℕ → Type 0
IsKeyAt {X} messages at sequence =
    (message : X) × (slice_get messages at ≡ Some (sequence, message))

-- the sequences before the place are smaller, and one at the place is greater
abbrev pub IsGap : {X : Type 0} → List (ℕ × X) → ℕ → ℕ → Type 0
IsGap {X} messages at sequence =
    (at ≤ length messages)
    × ((j : ℕ) (e : ℕ × X) → j < at → slice_get messages j ≡ Some e → e.0 < sequence)
    × ((e : ℕ × X) → slice_get messages at ≡ Some e → sequence < e.0)

-- the hold that a floor and a ring stand for, whose limit is the ring's capacity
abbrev pub hold_of : ℕ → Buffer (ℕ × List ℕ) → HoldView
hold_of floor ring =
    record { floor = floor; limit = ring.capacity; held = map.from_entries ring.items }

-- they stand for a hold, and the ring has its messages by rising sequence
pub record IsHoldRing (floor : ℕ) (ring : Buffer (ℕ × List ℕ)) : Type 0 where
  pub hold : IsHold (hold_of floor ring)
  pub rising : IsRising ring.items

-- the sequence and the message of an entry, which has a sequence and the place of its message
abbrev pub message_at : Slab (List ℕ) → ℕ × ℕ → ℕ × List ℕ
message_at raws entry = (entry.0, unwrap_or (get raws entry.1) [])

-- the ring that an order of entries and the messages in their places stand for
abbrev pub ring_of : Buffer (ℕ × ℕ) → Slab (List ℕ) → Buffer (ℕ × List ℕ)
ring_of order raws =
    record { items = mapped (message_at raws) order.items; capacity = order.capacity }

-- They stand for a ring: each entry has a message in a place of its own, no other place has one,
-- and there are places for as many as the order may have, each a number of 32 bits.
pub record IsRingOf (order : Buffer (ℕ × ℕ)) (raws : Slab (List ℕ)) : Type 0 where
  pub filled : AllByRecursion (λ (entry : ℕ × ℕ). ContainsKey raws entry.1) order.items
  pub apart : IsDistinct nat_eq (mapped (λ (entry : ℕ × ℕ). entry.1) order.items)
  pub count : slab_len raws ≡ length order.items
  pub room : order.capacity ≤ raws.capacity
  pub fits : raws.capacity ≤ 4294967295
