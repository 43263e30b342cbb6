-- How messages are packed into datagrams.
use Rattle.std.specs.Prelude.{◌≡◌, ℕ, ◌+◌, ◌≤◌, ◌<◌, Bool, ◌&&◌, nat_le, nat_eq, List, [], ◌∷◌}
use Rattle.std.specs.Prelude.{◌++◌, length, map, if◌then◌else◌}
use Rattle.std.specs.List.{concat}
use Rattle.pitch_messages.specs.Room.{Roomy}
use Rattle.unit_packets.specs.Blocks.{most_messages, IsBlock}
use Rattle.unit_packets.specs.BlockBytes.{block_bytes}

-- the most bytes of a datagram that a packer makes
abbrev pub datagram_size : ℕ
datagram_size = 1400

-- the messages go into one datagram, with the header
pub record FitsDatagram (raws : List (List ℕ)) : Type 0 where
  pub size : 8 + length (concat raws) ≤ datagram_size
  pub count : length raws ≤ most_messages

-- the sequence after so many messages; unsequenced stays unsequenced
abbrev pub sequence_after : ℕ → ℕ → ℕ
sequence_after first count = if nat_eq first 0 then 0 else (first + count)

-- one block of that unit, with at least one message, the first of which has that sequence
pub record IsDatagram (unit sequence : ℕ) (raws : List (List ℕ)) (datagram : List ℕ) : Type 0 where
  pub block : IsBlock datagram (record { unit = unit; sequence = sequence; raws = raws })
  pub some : 0 < length raws
  pub fits : FitsDatagram raws

-- the first of the messages that follow does not go in with these
abbrev pub IsFull : List (List ℕ) → List (List ℕ) → Type 0
IsFull raws [] = Unit {0}
IsFull raws (raw ∷ following) = FitsDatagram (raws ++ raw ∷ []) → ⊥

-- the datagrams hold the messages in their order, from a sequence on, and none but the last could
-- also take the first message of the next
abbrev pub IsPacking : ℕ → ℕ → List (List ℕ) → List (List ℕ) → Type 0
IsPacking unit first raws [] = raws ≡ []
IsPacking unit first raws (datagram ∷ datagrams) =
    (prefix suffix : List (List ℕ))
    × (raws ≡ prefix ++ suffix) × IsDatagram unit first prefix datagram × IsFull prefix suffix
    × IsPacking unit (sequence_after first (length prefix)) suffix datagrams

-- ---- The same, computed
unfoldable pub fits_datagram : List (List ℕ) → Bool
fits_datagram raws =
    nat_le (8 + length (concat raws)) datagram_size && nat_le (length raws) most_messages

-- the datagram of a block that was begun, if any
abbrev pub begun_datagrams : ℕ → ℕ → List (List ℕ) → List (List ℕ)
begun_datagrams unit sequence [] = []
begun_datagrams unit sequence (raw ∷ raws) =
    block_bytes (record { unit = unit; sequence = sequence; raws = raw ∷ raws }) ∷ []

-- the datagrams of a block that was begun and of the messages that follow
unfoldable pub packed_on : ℕ → ℕ → List (List ℕ) → List (List ℕ) → List (List ℕ)
packed_on unit sequence begun [] = begun_datagrams unit sequence begun
packed_on unit sequence begun (raw ∷ raws) =
    if fits_datagram (begun ++ raw ∷ []) then packed_on unit sequence (begun ++ raw ∷ []) raws
    else (begun_datagrams unit sequence begun
    ++ packed_on unit (sequence_after sequence (length begun)) (raw ∷ []) raws)

-- the datagrams of messages from a sequence on
abbrev pub packed : ℕ → ℕ → List (List ℕ) → List (List ℕ)
packed unit first raws = packed_on unit first [] raws

-- the bytes of the datagrams in a list
abbrev pub bytes_in : List (Roomy ℕ) → List (List ℕ)
bytes_in lists = map (λ (list : Roomy ℕ). list.items) lists
