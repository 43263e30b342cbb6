-- Where the sequences run out, and what stands at the end of a stream.
use Rattle.std.specs.Prelude.{◌≡◌, ◌<◌, ℕ, List, [], ◌∷◌, ◌++◌, reverse}
use Rattle.pitch_fields.specs.Limits.{last_sequence}
use Rattle.unit_packets.specs.Blocks.{Block}
use Rattle.relay_unit.specs.Sparing.{messages_heard}
use Rattle.stream_print.specs.declared.stream_form.StreamForm.{StreamForm}
use Rattle.stream_print.specs.declared.stream_form.StreamForm.TheVariants.{Follow, Show, Relay}
use Rattle.stream_print.specs.declared.stream_form.StreamForm.TheVariants.{Quotes}
use Rattle.stream_print.specs.Followed.{IsBooksText}

-- a block's text can't be made: of a relay, since its unit's blocks have more messages than there
-- are sequences; of the other forms each can
abbrev pub Outruns : StreamForm → List Block → Block → Type 0
Outruns (Follow hold) before block = ⊥
Outruns Show before block = ⊥
Outruns (Relay hold) before block = last_sequence < messages_heard block.unit (block ∷ before)
Outruns (Quotes hold) before block = ⊥

-- one of some blocks that come after others can't
pub record OutrunsAmong (form : StreamForm) (before blocks : List Block) : Type 0 where
  pub done : List Block
  pub block : Block
  pub left : List Block
  pub blocks_are : blocks ≡ done ++ (block ∷ left)
  pub outruns : Outruns form (reverse done ++ before) block

-- ---- The end of a stream
-- what `follow` prints there are the books of all units; the others print nothing there
abbrev pub IsEnd : StreamForm → List Block → List ℕ → Type 0
IsEnd (Follow hold) before text = IsBooksText hold before text
IsEnd form before text = text ≡ []
