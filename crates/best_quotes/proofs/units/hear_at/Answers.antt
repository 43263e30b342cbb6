use Rattle.heard_items.specs.Units.{unit_history}
use Rattle.client_core.proofs.Outcomes.{on_ok}
use Rattle.best_quotes.proofs.Quoted.{new_unit, old_unit}
use Rattle.best_quotes.proofs.units.hear_at.Goals as goal

pub returns-in-Some-clause-quotes : goal.returns-in-Some-clause-quotes
returns-in-Some-clause-quotes c =
    let unit = c.args.block.now.unit in
    on_ok c.hear.result (λ quotes before Image V stands honest.
    quotes Image V c.args.limit (unit_history unit before) (old_unit c.args.limit unit c.in-Some.quoted c.args.slot.now before c.in-Some.is stands) honest) c.hear.ensures.quotes

pub returns-in-Ok-clause-stands : goal.returns-in-Ok-clause-stands
returns-in-Ok-clause-stands c = rw c.replace.ensures.after (λ before stands.
    let unit = c.args.block.now.unit in
    c.in-Ok.ensures.stands c.args.limit (unit_history unit before) (new_unit c.args.limit unit c.in_ok-quoted-in-None.quoted c.args.slot.now before c.in-None.is c.in_ok-quoted-in-None.ensures stands))

pub returns-in-Ok-clause-quotes : goal.returns-in-Ok-clause-quotes
returns-in-Ok-clause-quotes c = λ before Image V stands honest.
    let unit = c.args.block.now.unit in
    c.in-Ok.ensures.quotes Image V c.args.limit (unit_history unit before) (new_unit c.args.limit unit c.in_ok-quoted-in-None.quoted c.args.slot.now before c.in-None.is c.in_ok-quoted-in-None.ensures stands) honest
