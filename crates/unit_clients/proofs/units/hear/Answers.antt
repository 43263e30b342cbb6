use Rattle.std.proofs.Common.{ℕ, ◌+◌, ◌≤◌, inl, inr, List, length, sym, ap, ◌∙◌, subst}
use Rattle.unit_packets.specs.Blocks.{Block}
use Rattle.unit_packets.specs.declared.header.Header.{Header}
use Rattle.pitch_model.specs.History.{Entry, Raw}
use Rattle.pitch_model.specs.Honest.{Honest}
use Rattle.client_core.specs.layers.Blocks.{Carries}
use Rattle.client_core.specs.Client.{held_number, spare_of, KeepsRoom}
use Rattle.client_core.specs.Tracks.{Keeps}
use Rattle.pitch_model.proofs.Results.{on_ok_map}
use Rattle.heard_items.specs.Heard.{heard_block}
use Rattle.unit_clients.proofs.units.hear.Goals as goal

pub returns-clause-keeps : goal.returns-clause-keeps
returns-clause-keeps c =
    let carries : Carries c.args.block.now c.header.result.sequence c.raws.result =
    record { sequence_is = sym (ap (λ (h : Header). h.sequence) c.header.ensures); raws_are = sym c.raws.ensures.raws } in
    on_ok_map
    ((block : Block) → Carries block c.header.result.sequence c.raws.result → (Image : List Raw → ℕ → List Raw) (V : List Raw) (E : List Entry) → Honest Image V (heard_block block E) → Keeps c.args.client.now V → Keeps c.hear_block.new.self V)
    ((Image : List Raw → ℕ → List Raw) (V : List Raw) (E : List Entry) → Honest Image V (heard_block c.args.block.now E) → Keeps c.args.client.now V → Keeps c.hear_block.new.self V)
    c.hear_block.result c.hear_block.ensures.keeps
    (λ keeps Image V E honest kept. keeps c.args.block.now carries Image V E honest kept)

pub returns-clause-memory : goal.returns-clause-memory
returns-clause-memory c free = elim free [
  | inl none ↦ c.hear_block.ensures.heartbeat (c.raws.ensures.raws ∙ none)
  | inr other ↦ elim other [
    | inl unsequenced ↦ c.hear_block.ensures.unsequenced (ap (λ (h : Header). h.sequence) c.header.ensures ∙ unsequenced)
    | inr enough ↦ c.hear_block.ensures.memory (subst (λ (raws : List Raw). length raws + held_number c.args.client.now ≤ spare_of c.args.client.now) (sym c.raws.ensures.raws) enough) tt
  ]
]

pub returns-clause-room : goal.returns-clause-room
returns-clause-room c =
    let room : List Raw → Type 0 = λ raws. KeepsRoom c.args.client.now c.hear_block.new.self (length raws) in
    on_ok_map (room c.raws.result) (room c.args.block.now.raws) c.hear_block.result c.hear_block.ensures.room (subst room c.raws.ensures.raws)
