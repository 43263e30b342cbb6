use Rattle.std.proofs.Common.{ap, ◌∙◌}
use Rattle.unit_packets.specs.declared.header.Header.{Header}
use Rattle.relay_unit.specs.Hearing.{relay_history}
use Rattle.relay_unit.specs.Sparing.{messages_heard}
use Rattle.relay_unit.proofs.Units.{new_relay, new_sends}
use Rattle.relay_unit.proofs.relays.hear_at.Goals as goal

-- a relay that was made here has heard nothing before
pub returns-in-Err-clause-many : goal.returns-in-Err-clause-many
returns-in-Err-clause-many c = λ before stands.
    let block = c.args.block.now in
    c.in-Err.ensures.many (messages_heard block.unit before) (c.in_ok-relay-in-None.ensures.heard (messages_heard block.unit before))

pub returns-in-Ok-clause-stands : goal.returns-in-Ok-clause-stands
returns-in-Ok-clause-stands c = rw c.replace.ensures.after (λ before stands.
    let block = c.args.block.now in
    let fresh = c.in_ok-relay-in-None.ensures in
    let heard = c.in-Ok.ensures in
    let there = new_relay c.args.limit block.unit c.in_ok-relay-in-None.relay c.args.slot.now before c.in-None.is fresh.stands stands in (
      (c.hear-in-None.ensures.unit ∙ fresh.unit ∙ ap (λ (h : Header). h.unit) c.header.ensures, heard.stands c.args.limit (relay_history c.args.limit block.unit before) there),
      heard.heard (messages_heard block.unit before) (fresh.heard (messages_heard block.unit before)),
    ))

pub returns-in-Ok-clause-any : goal.returns-in-Ok-clause-any
returns-in-Ok-clause-any c = rw c.replace.ensures.after (
    let fresh = c.in_ok-relay-in-None.ensures in
    new_sends c.args.block.now c.in_ok-relay-in-None.relay c.hear-in-None.new.self c.args.slot.now c.args.out.now.items c.hear-in-None.new.out.items
    c.in-None.is fresh.any fresh.empty (fresh.unit ∙ ap (λ (h : Header). h.unit) c.header.ensures) c.hear-in-None.ensures.unit
    c.in-Ok.ensures.any)
