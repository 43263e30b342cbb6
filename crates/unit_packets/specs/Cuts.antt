-- Bytes cut into blocks, by a relation.
use Rattle.std.specs.Prelude.{◌≡◌, ℕ, List, [], ◌∷◌, ◌++◌}
use Rattle.unit_packets.specs.Blocks.{Block, IsBlock}

-- the bytes are these blocks, and then a rest
abbrev pub AreBlocks : List ℕ → List Block → List ℕ → Type 0
AreBlocks bytes [] rest = bytes ≡ rest
AreBlocks bytes (block ∷ blocks) rest =
    (prefix : List ℕ) × (suffix : List ℕ)
    × (bytes ≡ prefix ++ suffix) × IsBlock prefix block × AreBlocks suffix blocks rest

-- no block stands at the start
abbrev pub BeginsNoBlock : List ℕ → Type 0
BeginsNoBlock rest =
    (prefix suffix : List ℕ) (block : Block) → rest ≡ prefix ++ suffix → IsBlock prefix block → ⊥

-- the longest list of blocks at the start of the bytes, and what follows it
pub record Cuts (bytes : List ℕ) (blocks : List Block) (rest : List ℕ) : Type 0 where
  pub whole : AreBlocks bytes blocks rest
  pub longest : BeginsNoBlock rest
