use Rattle.std.proofs.Common.{rules, ◌≡◌, ℕ, List, Result, sym, ◌∙◌, subst}
use Rattle.pitch_text.specs.ScheduleGrammar.{entry, schedule_entry}
use Rattle.pitch_text.specs.WellFormed.{AreWellFormed}
use Rattle.pitch_text.specs.declared.verb.ScheduleEntry.{ScheduleEntry}
use Rattle.text_lines.specs.Items.{items_of}
use Rattle.text_lines.specs.declared.fault.TextError.{TextError}
use Rattle.text_lines.proofs.TextLemmas.{items_all}
use Rattle.schedule_replay.specs.layers.Stretches.{items_at}
use Rattle.schedule_replay.proofs.Parting.{Going, goes_none, goes_more, goes_all}
use Rattle.schedule_replay.proofs.units.run_lines.Goals as goal

pub entries-init : goal.entries-init
entries-init c =
    let bytes : List ℕ = c.args.bytes.now in
    let items : List (Result ScheduleEntry TextError) = items_at 1 bytes in
    let started : c.into_iter-item-iterator.result ≡ items_of entry schedule_entry bytes = search rules in
    let same : items ≡ c.into_iter-item-iterator.result = items_all entry schedule_entry bytes ∙ sym started in
    subst (λ (left : List (Result ScheduleEntry TextError)). Going c.args.unit c.args.lines items left c.args.place.now c.args.place.now c.args.out.now.items c.args.out.now.items) same
    (goes_none c.args.unit c.args.lines items c.args.place.now c.args.out.now.items (subst AreWellFormed (sym (items_all entry schedule_entry bytes)) (c.schedules_are_well_formed.ensures bytes)))

pub entries-preserved : goal.entries-preserved
entries-preserved c =
    goes_more c.args.unit c.args.lines (items_at 1 c.args.bytes.now) c.entries.item-iterator c.next.new.self c.in-Some.item c.in-Ok.entry c.args.place.now c.entries.place c.run_later.new.place c.args.out.now.items c.entries.out.items c.run_later.new.out.items
    c.in-Some.ensures.steps c.in-Ok.is c.in_ok-run_later-in-Ok.ensures.own c.in_ok-run_later-in-Ok.ensures.world c.in_ok-run_later-in-Ok.ensures.text c.entries.invariant

pub returns : goal.returns
returns c = goes_all c.args.unit c.args.lines c.args.bytes.now c.entries.item-iterator c.args.place.now c.entries.place c.args.out.now.items c.entries.out.items c.in-None.ensures.steps.0 c.entries.invariant
