-- What is written as a block is one.
use Rattle.std.proofs.Common.{◌≡◌, ℕ, ◌+◌, ◌<◌, ◌≤◌, List, [], ◌∷◌, ◌++◌, length, refl, sym, ap, ◌∙◌, arith, length-append, inl, append_assoc}
use Rattle.std.proofs.lemmas.List.{append-nil}
use Rattle.std.specs.List.{concat, AllByRecursion}
use Rattle.byteorder.specs.Endian.{little_bytes}
use Rattle.byteorder.specs.Numbers.{little_number-reads_back}
use Rattle.pitch_messages.specs.Raw.{IsRaw}
use Rattle.unit_packets.specs.Blocks.{Block, IsBlock, StaysWithin}
use Rattle.unit_packets.specs.BlockBytes.{header_bytes, block_bytes, session_block}
use Rattle.unit_packets.specs.Lending.{header_for}

-- a block whose numbers fit their fields
pub record Fits (block : Block) : Type 0 where
  pub unit : block.unit < 256
  pub sequence : block.sequence < 4294967296
  pub size : 8 + length (concat block.raws) < 65536
  pub few : length block.raws ≤ 255
  pub raws : AllByRecursion IsRaw block.raws
  pub within : StaysWithin block.sequence (length block.raws)

pub written_is : (block : Block) → Fits block → IsBlock (block_bytes block) block
unfolding block_bytes
written_is block fits =
    let size : ℕ = 8 + length (concat block.raws) in
    let long : length (header_bytes (header_for block) ++ concat block.raws) ≡ size = length-append (header_bytes (header_for block)) (concat block.raws) in
    record {
      header = omega (arith, long);
      small = omega (arith, long, fits.size);
      few = fits.few;
      size = little_number-reads_back 2 size (length block.raws ∷ block.unit ∷ little_bytes 4 block.sequence ++ concat block.raws) fits.size ∙ sym long;
      count = refl;
      unit = refl;
      sequence = little_number-reads_back 4 block.sequence (concat block.raws) fits.sequence;
      body = refl;
      raws = fits.raws;
      within = fits.within;
    }

pub session_is : (unit : ℕ) (raw : List ℕ) → unit < 256 → IsRaw raw → IsBlock (block_bytes (session_block unit raw)) (session_block unit raw)
session_is unit raw small is =
    let most = is.most in
    written_is (session_block unit raw) (record { unit = small; sequence = omega arith; size = omega (arith, most, length-append raw []); few = omega arith; raws = (is, tt); within = inl refl })

pub session_bytes : (unit : ℕ) (raw bytes before reserved header middle after : List ℕ) → bytes ≡ raw → header ≡ header_bytes (record { length = 8 + length bytes; count = 1; unit = unit; sequence = 0 })
    → reserved ≡ before → middle ≡ reserved ++ header → after ≡ middle ++ bytes → after ≡ before ++ block_bytes (session_block unit raw)
unfolding block_bytes
session_bytes unit raw bytes before reserved header middle after same is kept first second =
    let head : header_bytes (record { length = 8 + length bytes; count = 1; unit = unit; sequence = 0 }) ≡ header_bytes (header_for (session_block unit raw)) =
    ap (λ (n : ℕ). header_bytes (record { length = 8 + n; count = 1; unit = unit; sequence = 0 })) (ap length same ∙ ap length (sym (append-nil raw))) in
    second ∙ ap (λ (m : List ℕ). m ++ bytes) (first ∙ ap (λ (r : List ℕ). r ++ header) kept ∙ ap (λ (h : List ℕ). before ++ h) (is ∙ head))
    ∙ ap (λ (b : List ℕ). (before ++ header_bytes (header_for (session_block unit raw))) ++ b) (same ∙ sym (append-nil raw))
    ∙ append_assoc before (header_bytes (header_for (session_block unit raw))) (raw ++ [])
