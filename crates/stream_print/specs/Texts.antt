-- What is printed for a stream, by the form of the words. Blocks that came before stand newest
-- first.
use Rattle.std.specs.Prelude.{◌≡◌, ℕ, List, [], ◌∷◌, ◌++◌}
use Rattle.unit_packets.specs.Blocks.{Block}
use Rattle.pitch_model.specs.History.{Raw}
use Rattle.pitch_model.specs.Honest.{Honest}
use Rattle.heard_items.specs.Units.{unit_history}
use Rattle.feed_lines.specs.Follow.{line_after}
use Rattle.feed_lines.specs.Show.{shown_after, show_text}
use Rattle.best_quotes.specs.QuotesText.{quoted_after}
use Rattle.relay_unit.specs.Hearing.{relay_history}
use Rattle.client_core.specs.Venues.{IsVenue}
use Rattle.relay_unit.specs.RelayText.{relayed_after}
use Rattle.stream_print.specs.Carriers.{carried_blocks, with_counts}
use Rattle.stream_print.specs.Followed.{IsFollowed}
use Rattle.stream_print.specs.declared.carrier.Carrier.{Carrier}
use Rattle.stream_print.specs.declared.stream_form.StreamForm.{StreamForm}
use Rattle.stream_print.specs.declared.stream_form.StreamForm.TheVariants.{Follow, Show, Relay}
use Rattle.stream_print.specs.declared.stream_form.StreamForm.TheVariants.{Quotes}

-- ---- The texts of blocks
-- the text of a block that comes after others: of a relay and of quotes for each list V of
-- messages of which alone the blocks of its unit up to this one speak, whatever those of others say
abbrev pub IsBlockText : StreamForm → List Block → Block → List ℕ → Type 0
IsBlockText (Follow hold) before block text = text ≡ line_after hold before block
IsBlockText Show before block text = text ≡ shown_after before block
IsBlockText (Relay hold) before block text =
    (V : List Raw) → IsVenue V (relay_history hold block.unit (block ∷ before))
    → text ≡ relayed_after hold V before block
IsBlockText (Quotes hold) before block text =
    (Image : List Raw → ℕ → List Raw) (V : List Raw)
    → Honest Image V (unit_history block.unit (block ∷ before))
    → text ≡ quoted_after hold V before block

-- the texts of some blocks that come after others, the oldest of which stands first
abbrev pub AreTextsAfter : StreamForm → List Block → List Block → List ℕ → Type 0
AreTextsAfter form before [] text = text ≡ []
AreTextsAfter form before (block ∷ blocks) text =
    (first : List ℕ) × (IsBlockText form before block first × ((others : List ℕ)
    × (AreTextsAfter form (block ∷ before) blocks others × (text ≡ first ++ others))))

-- the texts of the blocks of a stream
abbrev pub AreTexts : StreamForm → List Block → List ℕ → Type 0
AreTexts form blocks text = AreTextsAfter form [] blocks text

-- the texts of the first of some blocks that come after others
pub record BeginTextsAfter (form : StreamForm) (before blocks : List Block) (text : List ℕ)
    : Type 0 where
  pub done : List Block
  pub left : List Block
  pub blocks_are : blocks ≡ done ++ left
  pub are_texts : AreTextsAfter form before done text

abbrev pub BeginTexts : StreamForm → List Block → List ℕ → Type 0
BeginTexts form blocks text = BeginTextsAfter form [] blocks text

-- ---- The whole text
-- the whole text of `follow`, and of a capture the line of its packets behind it
abbrev pub IsFollowText : Carrier → ℕ → List ℕ → List ℕ → Type 0
IsFollowText carrier H bytes text =
    (followed : List ℕ) × (IsFollowed H (carried_blocks carrier bytes) followed
    × (text ≡ with_counts carrier bytes followed))

-- the whole text for some bytes: of a relay and of quotes the texts of the blocks and nothing else
abbrev pub IsText : Carrier → StreamForm → List ℕ → List ℕ → Type 0
IsText carrier (Follow hold) bytes text = IsFollowText carrier hold bytes text
IsText carrier Show bytes text =
    text ≡ with_counts carrier bytes (show_text (carried_blocks carrier bytes))
IsText carrier form bytes text =
    (texts : List ℕ) × (AreTexts form (carried_blocks carrier bytes) texts
    × (text ≡ with_counts carrier bytes texts))
