use Rattle.std.proofs.Common.{ℕ, List, length, sym, ap, subst}
use Rattle.unit_packets.specs.Blocks.{Block}
use Rattle.unit_packets.specs.declared.header.Header.{Header}
use Rattle.pitch_model.specs.History.{Entry, Raw}
use Rattle.pitch_model.specs.Honest.{Honest}
use Rattle.client_core.specs.layers.Blocks.{Carries}
use Rattle.client_core.specs.Client.{KeepsRoom}
use Rattle.client_core.specs.Tracks.{Keeps}
use Rattle.pitch_model.proofs.Results.{on_ok_map}
use Rattle.heard_items.specs.Heard.{heard_block}
use Rattle.leveled_units.proofs.unit.hear_alone.Goals as goal

pub returns-clause-keeps : goal.returns-clause-keeps
returns-clause-keeps c =
    let carries : Carries c.args.block.now c.header.result.sequence c.raws.result =
    record { sequence_is = sym (ap (λ (h : Header). h.sequence) c.header.ensures); raws_are = sym c.raws.ensures.raws } in
    on_ok_map
    ((block : Block) → Carries block c.header.result.sequence c.raws.result → (Image : List Raw → ℕ → List Raw) (V : List Raw) (E : List Entry) → Honest Image V (heard_block block E) → Keeps c.args.client.now V → Keeps c.hear_block.new.self V)
    ((Image : List Raw → ℕ → List Raw) (V : List Raw) (E : List Entry) → Honest Image V (heard_block c.args.block.now E) → Keeps c.args.client.now V → Keeps c.hear_block.new.self V)
    c.hear_block.result c.hear_block.ensures.keeps
    (λ keeps Image V E honest kept. keeps c.args.block.now carries Image V E honest kept)

pub returns-clause-room : goal.returns-clause-room
returns-clause-room c =
    let room : List Raw → Type 0 = λ raws. KeepsRoom c.args.client.now c.hear_block.new.self (length raws) in
    on_ok_map (room c.raws.result) (room c.args.block.now.raws) c.hear_block.result c.hear_block.ensures.room (subst room c.raws.ensures.raws)
