-- What a packer does with the messages that are pushed, and that there is one packing.
use Rattle.std.specs.Prelude.{◌≡◌, ℕ, ◌<◌, List, [], ◌∷◌, ◌++◌, length}
use Rattle.std.specs.List.{AllByRecursion}
use Rattle.pitch_fields.specs.Fields.{AreBytes}
use Rattle.pitch_messages.specs.Raw.{IsRaw}
use Rattle.pitch_messages.specs.Room.{Roomy}
use Rattle.unit_packets.specs.Blocks.{StaysWithin}
use Rattle.unit_packets.specs.Packing.{sequence_after, IsPacking, begun_datagrams, packed, bytes_in}
use Rattle.unit_packets.specs.Pushing.{Packing, HasPacked}

-- nothing was packed yet
abbrev pub unpacked : ℕ → ℕ → Packing
unpacked unit first = record { unit = unit; sequence = first; begun = [] }

-- one message more was pushed, and the datagram that it did not go into, if any, given out
pub record Pushes (old : Packing) (raw : List ℕ) (new : Packing) (before after : List (Roomy ℕ)) :
    Type 0 where
  pub added : List (Roomy ℕ)
  pub given : after ≡ before ++ added
  pub stands : (unit first : ℕ) (raws datagrams : List (List ℕ))
      → HasPacked old unit first raws datagrams
      → HasPacked new unit first (raws ++ raw ∷ []) (datagrams ++ bytes_in added)

-- all that was pushed is given out, and the next message begins a packing of its own
pub record Finishes (old new : Packing) (before after : List (Roomy ℕ)) : Type 0 where
  pub added : List (Roomy ℕ)
  pub given : after ≡ before ++ added
  pub gives : bytes_in added ≡ begun_datagrams old.unit old.sequence old.begun
  pub whole : (unit first : ℕ) (raws datagrams : List (List ℕ))
      → HasPacked old unit first raws datagrams
      → datagrams ++ bytes_in added ≡ packed unit first raws
  pub stands : (unit first : ℕ) (raws datagrams : List (List ℕ))
      → HasPacked old unit first raws datagrams
      → HasPacked new unit (sequence_after first (length raws)) [] []

-- what was given out before and what is given out now are the packing of all that was pushed, where
-- these are raws whose sequences messages can have
abbrev pub GivesPacking : Packing → List (Roomy ℕ) → List (Roomy ℕ) → Type 0
GivesPacking old before after =
    (unit first : ℕ) (raws datagrams given : List (List ℕ))
    → HasPacked old unit first raws datagrams → bytes_in after ≡ bytes_in before ++ given
    → AllByRecursion IsRaw raws
    → StaysWithin first (length raws) → IsPacking unit first raws (datagrams ++ given)

-- ---- Laws
-- the computed packing is one
abbrev pub PackingIsComputed : Type 0
PackingIsComputed = (unit first : ℕ) (raws : List (List ℕ)) → unit < 256 → AllByRecursion IsRaw raws
    → StaysWithin first (length raws) → IsPacking unit first raws (packed unit first raws)

-- two packings of the same messages, in bytes, are one
abbrev pub PackingIsOne : Type 0
PackingIsOne = (unit first : ℕ) (raws datagrams others : List (List ℕ))
    → AllByRecursion AreBytes datagrams → AllByRecursion AreBytes others
    → IsPacking unit first raws datagrams → IsPacking unit first raws others → datagrams ≡ others
