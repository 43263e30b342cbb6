-- A header and messages that make a block, and a block that begins some bytes.
use Rattle.std.specs.Prelude.{◌≡◌, ℕ, List, length, ◌≤◌, take, Ok}
use Rattle.unit_packets.specs.Blocks.{Block, StaysWithin, IsBlock}
use Rattle.unit_packets.specs.Lending.{header_for}
use Rattle.unit_packets.specs.declared.header.Header.{Header}
use Rattle.unit_packets.specs.Judging.{header_of, block_at, judge}

abbrev pub block_of : Header → List (List ℕ) → Block
block_of header raws = record { unit = header.unit; sequence = header.sequence; raws = raws }

-- the header is the block's, whose last message has a sequence that a message can have
pub record IsHeld (header : Header) (raws : List (List ℕ)) : Type 0 where
  pub header_is : header ≡ header_for (block_of header raws)
  pub within : StaysWithin header.sequence (length raws)

-- a block stands at the start, with this header
pub record BeginsWithBlock (bytes : List ℕ) (h : Header) : Type 0 where
  pub fits : h.length ≤ length bytes
  pub block : IsBlock (take h.length bytes) (block_at h bytes)
  pub header : h ≡ header_of bytes

-- the block stands at the start of the bytes
pub record StandsFirst (bytes : List ℕ) (block : Block) : Type 0 where
  pub judged : judge bytes ≡ Ok (header_for block)
  pub block_is : block ≡ block_at (header_for block) bytes
  pub prefix : IsBlock (take (header_for block).length bytes) block
