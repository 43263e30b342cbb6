-- A block at the start of some bytes, by its header and messages.
use Rattle.std.proofs.Common.{◌≡◌, ℕ, ◌+◌, ◌-◌, List, length, take, drop, sym, ap, ◌∙◌, subst, arith, Ok}
use Rattle.std.specs.List.{concat}
use Rattle.std.proofs.lemmas.List.{length-take-le, length-drop, get_or-take, drop-take}
use Rattle.pitch_messages.specs.Raw.{raws_of}
use Rattle.unit_packets.specs.Blocks.{Block, IsBlock}
use Rattle.unit_packets.specs.Judging.{judge, block_at}
use Rattle.unit_packets.specs.Held.{BeginsWithBlock}
use Rattle.unit_packets.specs.Lending.{header_for}
use Rattle.unit_packets.specs.Held.{StandsFirst}
use Rattle.unit_packets.specs.Held.{block_of}
use Rattle.unit_packets.specs.declared.header.Header.{Header}

abbrev header_made : ℕ → ℕ → Header → Header
header_made n k h = record { length = n; count = k; unit = h.unit; sequence = h.sequence }

same_header : (h : Header) (n k : ℕ) → n ≡ h.length → k ≡ h.count → header_made n k h ≡ h
same_header h n k a b = ap (λ (v : ℕ). header_made v k h) a ∙ ap (λ (v : ℕ). header_made h.length v h) b

-- the header of a block that stands at the start is the one that was read
pub begins_header : (bytes : List ℕ) (h : Header) → BeginsWithBlock bytes h → header_for (block_at h bytes) ≡ h
begins_header bytes h f =
    let raws : List (List ℕ) = raws_of h.count (drop 8 (take h.length bytes)) in
    let size : length (take h.length bytes) ≡ h.length = length-take-le h.length bytes f.fits in
    let head = f.block.header in
    let body : length (concat raws) ≡ h.length - 8 = ap length (sym f.block.body) ∙ length-drop 8 (take h.length bytes) ∙ ap (λ (n : ℕ). n - 8) size in
    let count : length raws ≡ h.count = sym f.block.count ∙ get_or-take h.length bytes 2 0 (omega (arith, head, size)) ∙ sym (ap (λ (g : Header). g.count) f.header) in
    same_header h (8 + length (concat raws)) (length raws) (omega (arith, body, head, size)) count

pub lent : (bytes : List ℕ) (h : Header) (raws : List (List ℕ)) → BeginsWithBlock bytes h → Ok h ≡ judge bytes → raws ≡ raws_of h.count (drop 8 (take h.length bytes)) → StandsFirst bytes (block_of h raws)
lent bytes h raws f judged are =
    let block : Block = block_at h bytes in
    let header = begins_header bytes h f in
    let there : StandsFirst bytes block = record {
      judged = sym judged ∙ ap (λ (g : Header). Ok g) (sym header);
      block_is = ap (λ (g : Header). block_at g bytes) (sym header);
      prefix = subst (λ (g : Header). IsBlock (take g.length bytes) block) (sym header) f.block;
    } in
    subst (λ (rs : List (List ℕ)). StandsFirst bytes (block_of h rs)) (sym are) there

pub lent_body : (bytes : List ℕ) (h : Header) (n : ℕ) (raws : List (List ℕ)) → BeginsWithBlock bytes h → Ok h ≡ judge bytes → 8 + n ≡ h.length → raws ≡ raws_of h.count (take n (drop 8 bytes)) → StandsFirst bytes (block_of h raws)
lent_body bytes h n raws f judged size are =
    lent bytes h raws f judged (are ∙ ap (raws_of h.count) (sym (drop-take 8 n bytes) ∙ ap (λ (m : ℕ). drop 8 (take m bytes)) size))
