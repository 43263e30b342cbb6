-- The blocks with which some bytes begin, heard one after another.
use Rattle.std.proofs.Common.{◌≡◌, ℕ, List, [], ◌∷◌, ◌++◌, reverse, sym, subst}
use Rattle.pitch_fields.proofs.Lists.{reverse_then}
use Rattle.unit_packets.specs.Blocks.{Block}
use Rattle.unit_packets.specs.Cutting.{blocks_of, rest_of}
use Rattle.unit_packets.proofs.Walking.{Walked, walked_more, walked_all}
use Rattle.unit_clients.specs.Clients.{Units, HaveHeard}

-- the clients have heard the blocks that were taken
pub record HeardTo (old now : Units) (bytes left : List ℕ) : Type 0 where
  pub done : List Block
  pub heard : (before : List Block) → HaveHeard old before → HaveHeard now (reverse done ++ before)
  pub walked : Walked bytes left done

pub heard_more : (old now new : Units) (bytes left less : List ℕ) (block : Block) → HeardTo old now bytes left → blocks_of left ≡ block ∷ blocks_of less → rest_of less ≡ rest_of left
    → ((before : List Block) → HaveHeard now before → HaveHeard new (block ∷ before)) → HeardTo old new bytes less
heard_more old now new bytes left less block so_far first rest more = record {
  done = so_far.done ++ block ∷ [];
  heard = λ before h. subst (HaveHeard new) (sym (reverse_then so_far.done block before)) (more (reverse so_far.done ++ before) (so_far.heard before h));
  walked = walked_more bytes left less so_far.done block so_far.walked first rest;
}

pub heard_all : (old now : Units) (bytes left : List ℕ) → HeardTo old now bytes left → blocks_of left ≡ [] → (before : List Block) → HaveHeard old before → HaveHeard now (reverse (blocks_of bytes) ++ before)
heard_all old now bytes left so_far none before h = subst (λ (bs : List Block). HaveHeard now (reverse bs ++ before)) (walked_all bytes left so_far.done so_far.walked none) (so_far.heard before h)
