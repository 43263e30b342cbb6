use Rattle.std.proofs.Common.{◌-◌, ◌++◌, ◌∷◌, [], ℕ, List, sym, ap, ◌∙◌, subst, rules}
use Rattle.venue_core.proofs.PlanBooks.{plan_step}
use Rattle.pitch_model.specs.History.{Raw}
use Rattle.unit_market.specs.Markets.{Journal, MarketHas}
use Rattle.venue_core.specs.Commands.{raw_of}
use Rattle.drill_client.specs.layers.Turns.{journal_at}
use Rattle.drill_client.proofs.turns.accept.Goals as goal

pub returns-in-Ok : goal.returns-in-Ok
returns-in-Ok c =
    let number : ℕ = c.args.course.number in
    let unit : ℕ = c.args.course.unit in
    let index : ℕ = c.args.index in
    let j : Journal = journal_at number unit c.args.course.count (index - 1) (index - 1) (index - 1) in
    subst (λ (V : List Raw). MarketHas c.accept.new.self (record j { messages = V }))
    (ap (λ command. j.messages ++ raw_of command ∷ []) c.plan_command.ensures ∙ sym (plan_step number unit index c.requires.index.0))
    (c.in-Ok.ensures.ok j c.requires.played)

pub unreachable-requires : goal.unreachable-requires
unreachable-requires c =
    let answer = c.accept.ensures.answer (journal_at c.args.course.number c.args.course.unit c.args.course.count (c.args.index - 1) (c.args.index - 1) (c.args.index - 1)) c.requires.played in
    let free = c.plan_is_accepted.ensures.accepted c.args.course.number c.args.course.unit c.args.index c.requires.index.0 c.requires.index.1 in
    search (rules, answer, free)
