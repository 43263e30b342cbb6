-- What a datagram says.
use Rattle.std.specs.Prelude.{◌≡◌, ℕ, List, [], ◌∷◌, ◌++◌, Option, None, Some, Result, Ok, Err}
use Rattle.unit_packets.specs.Blocks.{Block}
use Rattle.unit_packets.specs.Cutting.{place_of, rest_of}
use Rattle.unit_packets.specs.Judging.{judge}
use Rattle.unit_packets.specs.declared.header.Header.{Header}
use Rattle.unit_packets.specs.declared.header.BlockError.{BlockError}
use Rattle.heard_items.specs.Changes.{IsItem, IsItemOf}
use Rattle.line_arbiter.specs.declared.heard.Heard.{Heard}
use Rattle.line_arbiter.specs.declared.heard.DatagramFault.{DatagramFault}

-- each block gave its item, with its unit, in their order
abbrev pub AreHeard : List Block → List Heard → Type 0
AreHeard [] [] = Unit {0}
AreHeard (block ∷ blocks) (heard ∷ more) =
    (heard.unit ≡ block.unit) × IsItemOf block heard.item × IsItem heard.item × AreHeard blocks more
AreHeard [] (heard ∷ more) = ⊥
AreHeard (block ∷ blocks) [] = ⊥

-- the items of the blocks were appended to a list
pub record Delivers (blocks : List Block) (before after : List Heard) : Type 0 where
  pub added : List Heard
  pub given : after ≡ before ++ added
  pub heard : AreHeard blocks added

-- the fault of what is judged at a place
abbrev pub fault_on : ℕ → Result Header BlockError → Option DatagramFault
fault_on place (Ok header) = None
fault_on place (Err error) = Some (record { place = place; error = error })

-- the fault of the bytes that follow the blocks, at their place; none where there are no more
abbrev pub fault_after : ℕ → List ℕ → Option DatagramFault
fault_after place [] = None
fault_after place (byte ∷ rest) = fault_on place (judge (byte ∷ rest))

-- the fault of a datagram: its bytes after its blocks are no block. A datagram of no bytes is cut
-- off at 0
abbrev pub datagram_fault : List ℕ → Option DatagramFault
datagram_fault [] = fault_on 0 (judge [])
datagram_fault (byte ∷ bytes) = fault_after (place_of (byte ∷ bytes)) (rest_of (byte ∷ bytes))
