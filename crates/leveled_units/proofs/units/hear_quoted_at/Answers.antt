use Rattle.std.proofs.Common.{◌≡◌, ℕ, List, true, subst}
use Rattle.pitch_model.specs.History.{Raw}
use Rattle.pitch_model.specs.Honest.{Honest}
use Rattle.unit_packets.specs.Blocks.{Block}
use Rattle.unit_clients.specs.Clients.{IsClient, KeepsTo}
use Rattle.unit_clients.proofs.Hearing.{new_client, keeps_there}
use Rattle.heard_items.specs.Units.{unit_history}
use Rattle.heard_items.specs.Heard.{heard_block}
use Rattle.leveled_units.specs.Hearing.{TellsAnew}
use Rattle.best_quotes.specs.Quoting.{quotes_of_block}
use Rattle.leveled_units.specs.declared.unit.Heard.{Heard}
use Rattle.leveled_units.proofs.Answered.{ok_map}
use Rattle.leveled_units.proofs.units.hear_quoted_at.Goals as goal

pub returns-in-Some-clause-keeps : goal.returns-in-Some-clause-keeps
returns-in-Some-clause-keeps c =
    keeps_there c.hear_quoted.result c.args.block.now c.in-Some.unit c.hear_quoted.new.self c.args.slot.now c.in-Some.is c.hear_quoted.ensures.keeps

pub returns-in-Ok-clause-tracks : goal.returns-in-Ok-clause-tracks
returns-in-Ok-clause-tracks c = rw c.replace.ensures.after (λ before unit stands.
    c.in-Ok.ensures.tracks c.args.limit (unit_history unit before) (new_client c.args.limit c.in_ok-unit-in-None.unit c.args.slot.now c.in-None.is c.in_ok-unit-in-None.ensures.tracks before unit stands))

pub returns-in-Ok-clause-keeps : goal.returns-in-Ok-clause-keeps
returns-in-Ok-clause-keeps c = rw c.replace.ensures.after (λ Image V E honest kept.
    c.in-Ok.ensures.keeps Image V E honest (c.in_ok-unit-in-None.ensures.keeps V))

pub returns-in-Ok-clause-change : goal.returns-in-Ok-clause-change
returns-in-Ok-clause-change c = λ before unit stands.
    c.in-Ok.ensures.change c.args.limit (unit_history unit before) (new_client c.args.limit c.in_ok-unit-in-None.unit c.args.slot.now c.in-None.is c.in_ok-unit-in-None.ensures.tracks before unit stands)

pub returns-in-Ok-clause-quotes : goal.returns-in-Ok-clause-quotes
returns-in-Ok-clause-quotes c = λ told Image V before unit stands honest kept.
    c.in-Ok.ensures.quotes told Image V c.args.limit (unit_history unit before)
    (new_client c.args.limit c.in_ok-unit-in-None.unit c.args.slot.now c.in-None.is c.in_ok-unit-in-None.ensures.tracks before unit stands)
    honest (c.in_ok-unit-in-None.ensures.keeps V)

pub returns-in-Ok-clause-untold : goal.returns-in-Ok-clause-untold
returns-in-Ok-clause-untold c = λ untold before unit stands.
    c.in-Ok.ensures.untold untold c.args.limit (unit_history unit before)
    (new_client c.args.limit c.in_ok-unit-in-None.unit c.args.slot.now c.in-None.is c.in_ok-unit-in-None.ensures.tracks before unit stands)

pub returns-in-Some-clause-quotes : goal.returns-in-Some-clause-quotes
returns-in-Some-clause-quotes c =
    let client = c.in-Some.unit in
    let block = c.args.block.now in
    let lines = c.hear_quoted.new.lines.items in
    ok_map (λ (heard : Heard). heard.told ≡ true → TellsAnew client lines block)
    (λ heard. heard.told ≡ true → (Image : List Raw → ℕ → List Raw) (V : List Raw) (before : List Block) (unit : ℕ) → IsClient c.args.limit before unit c.args.slot.now
    → Honest Image V (heard_block block (unit_history unit before)) → KeepsTo V c.args.slot.now → lines ≡ quotes_of_block c.args.limit V (unit_history unit before) block)
    c.hear_quoted.result
    (λ heard tells told Image V before unit stands honest kept.
    tells told Image V c.args.limit (unit_history unit before) (subst (IsClient c.args.limit before unit) c.in-Some.is stands).1 honest (subst (KeepsTo V) c.in-Some.is kept))
    c.hear_quoted.ensures.quotes
