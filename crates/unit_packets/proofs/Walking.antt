-- Going over the blocks of some bytes, one after another.
use Rattle.std.proofs.Common.{◌≡◌, ℕ, List, [], ◌∷◌, ◌++◌, sym, ap, ◌∙◌, append_assoc}
use Rattle.std.proofs.lemmas.List.{append-nil}
use Rattle.std.specs.Iterator.{Yields, YieldsFirst}
use Rattle.unit_packets.specs.Blocks.{Block}
use Rattle.unit_packets.specs.Cutting.{blocks_of, rest_of}

-- these blocks were taken from the start of the bytes, and the others are in what is left
pub record Walked (bytes left : List ℕ) (done : List Block) : Type 0 where
  pub blocks : done ++ blocks_of left ≡ blocks_of bytes
  pub rest : rest_of left ≡ rest_of bytes

pub walked_none : (bytes left : List ℕ) → left ≡ bytes → Walked bytes left []
walked_none bytes left same = record { blocks = ap blocks_of same; rest = ap rest_of same }

pub walked_more : (bytes left less : List ℕ) (done : List Block) (block : Block) → Walked bytes left done → blocks_of left ≡ block ∷ blocks_of less → rest_of less ≡ rest_of left → Walked bytes less (done ++ block ∷ [])
walked_more bytes left less done block w first rest = record {
  blocks = append_assoc done (block ∷ []) (blocks_of less) ∙ ap (λ (bs : List Block). done ++ bs) (sym first) ∙ w.blocks;
  rest = rest ∙ w.rest;
}

-- where none is left, all were taken
pub walked_all : (bytes left : List ℕ) (done : List Block) → Walked bytes left done → blocks_of left ≡ [] → done ≡ blocks_of bytes
walked_all bytes left done w none = sym (append-nil done) ∙ ap (λ (bs : List Block). done ++ bs) (sym none) ∙ w.blocks

-- ---- A loop over the blocks of some bytes
taken : (bytes left : List ℕ) (done : List Block) → Yields (YieldsFirst blocks_of) bytes done left → blocks_of bytes ≡ done ++ blocks_of left
taken bytes left [] same = ap blocks_of same
taken bytes left (block ∷ done) (next, first, more) = first ∙ ap (λ (bs : List Block). block ∷ bs) (taken next left done more)

-- where none is left, it took them all
pub taken_all : (bytes start left : List ℕ) (done : List Block) → start ≡ bytes → Yields (YieldsFirst blocks_of) start done left → blocks_of left ≡ [] → done ≡ blocks_of bytes
taken_all bytes start left done same yields none =
    sym (append-nil done) ∙ ap (λ (bs : List Block). done ++ bs) (sym none) ∙ sym (taken start left done yields) ∙ ap blocks_of same
