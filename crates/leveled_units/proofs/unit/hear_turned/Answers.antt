use Rattle.std.proofs.Common.{◌≡◌, ℕ, List, ◌++◌, length, drop, take, sym, ap, ◌∙◌, subst}
use Rattle.unit_packets.specs.Blocks.{Block}
use Rattle.unit_packets.specs.declared.header.Header.{Header}
use Rattle.pitch_model.specs.History.{Entry, Raw}
use Rattle.pitch_model.specs.Honest.{Honest}
use Rattle.pitch_model.proofs.Results.{on_ok_map}
use Rattle.heard_items.specs.Heard.{heard_block}
use Rattle.client_core.specs.layers.Blocks.{Carries}
use Rattle.pitch_model.specs.Reach.{reach}
use Rattle.order_book.specs.Turns.{turns_of}
use Rattle.order_book.specs.declared.turn.Turn.{Turn}
use Rattle.client_core.specs.Client.{KeepsRoom, current_book}
use Rattle.client_core.specs.layers.Hearing.{OfReached}
use Rattle.client_core.specs.Tracks.{Keeps}
use Rattle.leveled_units.proofs.unit.hear_turned.Goals as goal

pub returns-clause-keeps : goal.returns-clause-keeps
returns-clause-keeps c =
    let carries : Carries c.args.block.now c.header.result.sequence c.raws.result =
    record { sequence_is = sym (ap (λ (h : Header). h.sequence) c.header.ensures); raws_are = sym c.raws.ensures.raws } in
    on_ok_map
    ((block : Block) → Carries block c.header.result.sequence c.raws.result → (Image : List Raw → ℕ → List Raw) (V : List Raw) (E : List Entry) → Honest Image V (heard_block block E) → Keeps c.args.client.now V → Keeps c.hear_block.new.self V)
    ((Image : List Raw → ℕ → List Raw) (V : List Raw) (E : List Entry) → Honest Image V (heard_block c.args.block.now E) → Keeps c.args.client.now V → Keeps c.hear_block.new.self V)
    c.hear_block.result c.hear_block.ensures.keeps
    (λ keeps Image V E honest kept. keeps c.args.block.now carries Image V E honest kept)

pub returns-clause-room : goal.returns-clause-room
returns-clause-room c =
    let room : List Raw → Type 0 = λ raws. KeepsRoom c.args.client.now c.hear_block.new.self (length raws) in
    on_ok_map (room c.raws.result) (room c.args.block.now.raws) c.hear_block.result c.hear_block.ensures.room (subst room c.raws.ensures.raws)

pub returns-clause-venues : goal.returns-clause-venues
returns-clause-venues c =
    let block = c.args.block.now in
    let client = c.args.client.now in
    let turns = c.hear_block.new.notes.items in
    let carries : Carries block c.header.result.sequence c.raws.result =
    record { sequence_is = sym (ap (λ (h : Header). h.sequence) c.header.ensures); raws_are = sym c.raws.ensures.raws } in
    on_ok_map
    ((b : Block) → Carries b c.header.result.sequence c.raws.result
    → OfReached client (heard_block b) (λ raws. turns ≡ c.truncate.new.self.items ++ turns_of (current_book client) raws))
    (OfReached client (heard_block block) (λ raws. turns ≡ turns_of (current_book client) raws))
    c.hear_block.result c.hear_block.ensures.venues
    (λ venues Image V H E tracks honest keeps.
    venues block carries Image V H E tracks honest keeps
    ∙ ap (λ (l : List Turn). l ++ turns_of (current_book client) (drop (reach H E) (take (reach H (heard_block block E)) V))) c.truncate.ensures.items)
