use Rattle.std.proofs.Common.{◌≡◌, ℕ, List, ◌∷◌, ◌++◌, Some, ap, ◌∙◌, subst}
use Rattle.pitch_text.specs.declared.verb.ScheduleEntry.{ScheduleEntry}
use Rattle.pitch_text.specs.declared.verb.Verb.{Verb}
use Rattle.world_model.specs.Printed.{verb_text}
use Rattle.world_model.specs.Stands.{WorldStands}
use Rattle.world_model.specs.Verbs.{state_of}
use Rattle.world_model.specs.declared.limits.Limits.{Limits}
use Rattle.schedule_replay.specs.Replay.{verbs_of, limits_of, replay_line}
use Rattle.schedule_replay.specs.layers.Places.{IsPlace, IsReady}
use Rattle.schedule_replay.proofs.Places.{world_more, line_is}
use Rattle.pitch_model.proofs.Results.{on_ok_map}
use Rattle.schedule_replay.proofs.running.run_in.Goals as goal

pub returns-clause-world : goal.returns-clause-world
returns-clause-world c =
    let e : ScheduleEntry = c.args.entry.now in
    on_ok_map ((limits : Limits) (done : List Verb) → WorldStands c.in-Some.world e.unit limits done → WorldStands c.step_in.new.world e.unit limits (e.verb ∷ done))
    ((before : List ScheduleEntry) → IsPlace before e.unit c.args.place.now → IsPlace (e ∷ before) e.unit (Some c.step_in.new.world)) c.step_in.result c.step_in.ensures.stands
    (λ stands before is.
    let done : List Verb = verbs_of e.unit before in
    let limits : Limits = limits_of (e.verb ∷ done) in
    world_more e before c.step_in.new.world (stands limits done (subst (IsReady e.unit limits done) c.in-Some.is (c.in_ok-make_if_missing.ensures.ready before is))))

pub returns-clause-text : goal.returns-clause-text
returns-clause-text c =
    let e : ScheduleEntry = c.args.entry.now in
    on_ok_map ((limits : Limits) (done : List Verb) → WorldStands c.in-Some.world e.unit limits done → c.step_in.new.out.items ≡ c.args.out.now.items ++ verb_text e.line e.unit limits e.verb (state_of e.unit limits done))
    ((before : List ScheduleEntry) → IsPlace before e.unit c.args.place.now → c.step_in.new.out.items ≡ c.args.out.now.items ++ replay_line before e) c.step_in.result c.step_in.ensures.text
    (λ text before is.
    let done : List Verb = verbs_of e.unit before in
    let limits : Limits = limits_of (e.verb ∷ done) in
    text limits done (subst (IsReady e.unit limits done) c.in-Some.is (c.in_ok-make_if_missing.ensures.ready before is)) ∙ ap (λ (t : List ℕ). c.args.out.now.items ++ t) (line_is before e))
