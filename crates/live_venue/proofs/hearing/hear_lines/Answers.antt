use Rattle.std.proofs.Common.{◌≡◌, List, Option, sym, subst, ◌∙◌}
use Rattle.text_lines.specs.Items.{items_of}
use Rattle.unit_commands.specs.UnitCommands.{unit_command, unit_command_entry}
use Rattle.live_venue.specs.Input.{said_heard}
use Rattle.live_venue.specs.Standing.{Hears}
use Rattle.live_venue.specs.declared.fault.InputFault.{InputFault}
use Rattle.live_venue.proofs.Commanding.{HearsOn, Said, hears_all, hears_fault, hears_more, hears_none}
use Rattle.live_venue.proofs.hearing.hear_lines.Goals as goal

pub lines-init : goal.lines-init
lines-init c = λ s came st.
    let items : List Said = items_of unit_command unit_command_entry c.args.lines.now in
    let same : items ≡ c.into_iter-said-iterator.result = sym (c.into_iter-said-iterator.ensures.into_iter_gives ∙ c.of_text-said-items.ensures.items) in
    subst (λ (left : List Said). HearsOn s c.args.before items came left c.args.units.now) same (hears_none s c.args.before items came c.args.units.now st)

pub lines-preserved : goal.lines-preserved
lines-preserved c = λ s came st.
    let on = c.lines.invariant s came st in
    hears_more s c.args.before (items_of unit_command unit_command_entry c.args.lines.now) came c.lines.said-iterator c.next.new.self c.in-Some.said c.lines.units c.hear_said.new.units c.in-Some.ensures.steps on
    (subst (λ (o : Option InputFault). Hears s c.hear_said.new.units o (said_heard s c.args.before c.in-Some.said on.so_far)) c.in_default.is (c.in_ok-fault.ensures s on.so_far on.stand))

pub returns-in-Some-2 : goal.returns-in-Some-2
returns-in-Some-2 c = λ s came st.
    let on = c.lines.invariant s came st in
    hears_fault s c.args.before (items_of unit_command unit_command_entry c.args.lines.now) came c.lines.said-iterator c.next.new.self c.in-Some.said c.lines.units c.hear_said.new.units c.in-Some.ensures.steps on c.in-Some-2.fault
    (subst (λ (o : Option InputFault). Hears s c.hear_said.new.units o (said_heard s c.args.before c.in-Some.said on.so_far)) c.in-Some-2.is (c.in_ok-fault.ensures s on.so_far on.stand))

pub returns : goal.returns
returns c = λ s came st.
    hears_all s c.args.before (items_of unit_command unit_command_entry c.args.lines.now) came c.lines.said-iterator c.lines.units c.in-None.ensures.steps.0 (c.lines.invariant s came st)
