use Rattle.std.proofs.Common.{ℕ, List, ◌++◌, ap, ◌∙◌}
use Rattle.pitch_text.specs.declared.verb.Verb.{Verb}
use Rattle.schedule_replay.specs.Replay.{verbs_of, limits_of}
use Rattle.std.proofs.lemmas.Result.{on_ok_weaker}
use Rattle.storm_replay.proofs.Lines.{line_of}
use Rattle.world_model.specs.State.{State}
use Rattle.world_model.specs.Verbs.{state_of}
use Rattle.world_model.specs.declared.limits.Limits.{Limits}
use Rattle.storm_replay.proofs.running.append_world.Goals as goal

pub returns : goal.returns
returns c =
    let unit : ℕ = c.args.unit in
    let old : List ℕ = c.args.out.now.items in
    on_ok_weaker c.append_unit_line.result
    (λ line before is.
    let done : List Verb = verbs_of unit before in
    let limits : Limits = limits_of done in
    let s : State = state_of unit limits done in
    let tracks = c.client-client.ensures.tracks unit limits done is.1 in
    let keeps = c.client-client.ensures.keeps unit limits done is.1 in
    line ∙ ap (λ (t : List ℕ). old ++ t)
    (line_of unit limits s c.status.result c.len.result c.shares.result c.book-book.result.now.book (c.status.ensures limits.hold s.client.heard tracks) (c.book-book.ensures.book limits.hold s.client.heard s.venue.messages tracks keeps) c.len.ensures.count c.shares.ensures)) c.append_unit_line.ensures.ok
