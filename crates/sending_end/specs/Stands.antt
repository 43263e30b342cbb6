-- When an end stands for all that came to it, and what waits there then.
use Rattle.std.specs.Prelude.{◌≡◌, ◌⊎◌, ℕ, List, [], ◌∷◌, ◌++◌, map, reverse}
use Rattle.unit_packets.specs.Blocks.{Block}
use Rattle.unit_packets.specs.Cutting.{blocks_of}
use Rattle.client_end.specs.Came.{Came, EndSetup, Heard, GrpCut, SpinCut, Second, end_after}
use Rattle.client_end.specs.Stands.{EndStands}
use Rattle.sending_end.specs.Waiting.{of_unit, waits_for_proxy, waits_for_spin_server}
use Rattle.sending_end.specs.declared.end.SendingEnd.{SendingEnd}
use Rattle.sending_end.specs.declared.session.Session.{Session}
use Rattle.sending_end.specs.declared.session.Session.TheVariants.{Proxy, SpinServer}

-- what waits for a session
abbrev pub waiting : Session → SendingEnd → List ℕ
waiting Proxy e = e.grp_said.items
waiting SpinServer e = e.spin_said.items

-- ---- The end
-- an end that was made so stands for all that came to it, the newest first
pub record SendingStands (s : EndSetup) (e : SendingEnd) (before : List Came) : Type 0 where
  pub unit_is : e.unit ≡ s.unit
  pub end_is : EndStands s e.end before

-- P holds of each setup and all that came for which the end stands
abbrev pub OfSending : SendingEnd → (EndSetup → List Came → Type 0) → Type 0
OfSending e P = (s : EndSetup) (before : List Came) → SendingStands s e before → P s before

-- the same bytes wait for both sessions
pub record WaitsStill (e e' : SendingEnd) : Type 0 where
  pub proxy : e'.grp_said.items ≡ e.grp_said.items
  pub spin_server : e'.spin_said.items ≡ e.spin_said.items

-- none wait
pub record NoneWaits (e : SendingEnd) : Type 0 where
  pub proxy : e.grp_said.items ≡ []
  pub spin_server : e.spin_said.items ≡ []

-- it stands for what it stood for, and the same bytes wait
pub record StaysSo (e e' : SendingEnd) : Type 0 where
  pub stands : OfSending e (λ s before. SendingStands s e' before)
  pub waits : WaitsStill e e'

-- after all this came, this came too, and what waits follows
pub record CameThen (s : EndSetup) (before : List Came) (came : Came)
    (e e' : SendingEnd) : Type 0 where
  pub stands : SendingStands s e' (came ∷ before)
  pub proxy : e'.grp_said.items
      ≡ waits_for_proxy s came (end_after s before) e.grp_said.items
  pub spin_server : e'.spin_said.items
      ≡ waits_for_spin_server s came (end_after s before) e.spin_said.items

-- whatever came before, this came too
abbrev pub Passes : SendingEnd → SendingEnd → Came → Type 0
Passes e e' came = OfSending e (λ s before. CameThen s before came e e')

-- both connections are cut, and before that the second came or it did not; none waits
pub record LosesAll (e e' : SendingEnd) : Type 0 where
  pub stands : OfSending e (λ s before. SendingStands s e' (SpinCut ∷ GrpCut ∷ before))
      ⊎ OfSending e (λ s before. SendingStands s e' (SpinCut ∷ GrpCut ∷ Second ∷ before))
  pub waits : NoneWaits e'

-- ---- Datagrams
-- they came, one after another
abbrev pub blocks_came : List Block → List Came → List Came
blocks_came blocks before = reverse (map (λ block. Heard block) blocks) ++ before

-- those of its unit came to it, and the same bytes wait
pub record HearsBlocks (e e' : SendingEnd) (blocks : List Block) : Type 0 where
  pub stands : OfSending e (λ s before. SendingStands s e'
      (blocks_came (of_unit e.unit blocks) before))
  pub waits : WaitsStill e e'
  pub same_unit : e'.unit ≡ e.unit

-- memory ran out at a block of its unit that has messages, among those of some bytes: those before
-- it came
pub record HearsBegun (e e' : SendingEnd) (bytes : List ℕ) : Type 0 where
  pub done : List Block
  pub block : Block
  pub left : List Block
  pub are : done ++ block ∷ left ≡ blocks_of bytes
  pub ours : block.unit ≡ e.unit
  pub has_messages : block.raws ≡ [] → ⊥
  pub heard : HearsBlocks e e' done
