-- A block with a sequence is heard as in `follow`.
use Rattle.std.proofs.Common.{◌≡◌, ℕ, List, false, ◌==◌, sym, ◌∙◌}
use Rattle.std.proofs.lemmas.Bool.{cond-false}
use Rattle.unit_packets.specs.Blocks.{Block}
use Rattle.pitch_model.specs.History.{Entry}
use Rattle.heard_items.specs.Heard.{heard_sequenced, heard_block}
use Rattle.heard_items.specs.Changes.{block_change}
use Rattle.relay_unit.specs.Hearing.{heard_session, heard_merged}
use Rattle.relay_unit.specs.layers.Changing.{session_change, merged_change}

pub merged_block : (block : Block) (E : List Entry) → (block.sequence == 0) ≡ false → heard_block block E ≡ heard_merged block E
merged_block block E some =
    cond-false (block.sequence == 0) E (heard_sequenced block.sequence block.raws E) some
    ∙ sym (cond-false (block.sequence == 0) (heard_session block.raws E) (heard_sequenced block.sequence block.raws E) some)

pub merged_block_change : (H : ℕ) (block : Block) (E : List Entry) → (block.sequence == 0) ≡ false → block_change H E block ≡ merged_change H E block
merged_block_change H block E some = sym (cond-false (block.sequence == 0) (session_change H E block) (block_change H E block) some)
