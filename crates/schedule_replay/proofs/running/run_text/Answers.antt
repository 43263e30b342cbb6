use Rattle.std.proofs.Common.{rules, ◌≡◌, refl, sym, ap, ◌∙◌, subst, inr, Err}
use Rattle.schedule_replay.proofs.Printing.{behind_of, behind_on}
use Rattle.schedule_replay.proofs.Reading.{Items, Running, items_in, runs_none, runs_more, runs_all, runs_fault}
use Rattle.schedule_replay.specs.Replay.{replay_text}
use Rattle.schedule_replay.proofs.running.run_text.Goals as goal

pub lines-init : goal.lines-init
lines-init g c =
    let items : Items = items_in c.args.text.now in
    let started : c.into_iter-item-iterator.result ≡ items = search rules in
    record {
      runs = subst (λ (left : Items). Running items left c.args.places.now.items c.args.out.now.items c.args.out.now.items) (sym started)
          (runs_none items c.args.places.now.items c.args.out.now.items (c.schedules_are_well_formed.ensures c.args.text.now) c.requires.none);
      many = c.requires.none.many;
    }

pub lines-preserved : goal.lines-preserved
lines-preserved g c = record {
  runs = runs_more (items_in c.args.text.now) c.lines.item-iterator c.next.new.self c.in-Some.item c.in-Ok.entry c.lines.places.items c.run_line.new.places.items c.args.out.now.items c.lines.out.items c.run_line.new.out.items
      c.in-Some.ensures.steps c.in-Ok.is c.in_ok-run_line-in-Ok.ensures.places c.in_ok-run_line-in-Ok.ensures.text c.lines.invariant.runs;
  many = c.run_line.ensures.many;
}

pub returns-in_err-run_line-in-Ok-clause-behind : goal.returns-in_err-run_line-in-Ok-clause-behind
returns-in_err-run_line-in-Ok-clause-behind g c =
    behind_on c.args.out.now.items c.lines.out.items c.run_line.new.out.items c.run_line.ensures.behind
    (behind_of c.args.out.now.items c.lines.out.items (replay_text c.lines.invariant.runs.done) c.lines.invariant.runs.written)

pub returns-in-Err-clause-cause : goal.returns-in-Err-clause-cause
returns-in-Err-clause-cause g c = inr (runs_fault c.args.text.now (items_in c.args.text.now) c.lines.item-iterator c.next.new.self c.in-Some.item c.in-Err.fault c.lines.places.items c.args.out.now.items c.lines.out.items refl c.in-Some.ensures.steps c.in-Err.is
    c.lines.invariant.runs ∙ ap Err (sym c.from.ensures))

pub returns-in-Err-clause-behind : goal.returns-in-Err-clause-behind
returns-in-Err-clause-behind g c = behind_of c.args.out.now.items c.lines.out.items (replay_text c.lines.invariant.runs.done) c.lines.invariant.runs.written

pub returns-clause-runs : goal.returns-clause-runs
returns-clause-runs g c = runs_all c.args.text.now (items_in c.args.text.now) c.lines.item-iterator c.lines.places.items c.args.out.now.items c.lines.out.items refl c.in-None.ensures.steps.0 c.lines.invariant.runs
