-- Laws of cutting.
use Rattle.std.specs.Prelude.{◌≡◌, ℕ, List}
use Rattle.pitch_fields.specs.Fields.{AreBytes}
use Rattle.unit_packets.specs.Blocks.{Block}
use Rattle.unit_packets.specs.Cuts.{Cuts}
use Rattle.unit_packets.specs.Cutting.{blocks_of, rest_of}

-- of bytes, the computed cutting is the longest list of blocks and its rest
abbrev pub CutsAreComputed : Type 0
CutsAreComputed = (bytes : List ℕ) → AreBytes bytes → Cuts bytes (blocks_of bytes) (rest_of bytes)

-- two cuttings of the same bytes are one
abbrev pub CutsAreOne : Type 0
CutsAreOne = (bytes : List ℕ) (blocks others : List Block) (rest left : List ℕ)
    → Cuts bytes blocks rest → Cuts bytes others left → (blocks ≡ others) × (rest ≡ left)
