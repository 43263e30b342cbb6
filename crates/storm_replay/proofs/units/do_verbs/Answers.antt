use Rattle.std.proofs.Common.{◌≡◌, ◌+◌, ℕ, List, ◌++◌, reverse, take, Some, sym, ap, ◌∙◌, subst, arith}
use Rattle.std.proofs.lemmas.Option.{slice_get-get_or}
use Rattle.std.specs.List.{slice_get}
use Rattle.pitch_text.specs.declared.verb.Verb.{Verb}
use Rattle.world_model.specs.Stands.{WorldStands}
use Rattle.storm_replay.proofs.Course.{verbs_next}
use Rattle.storm_replay.proofs.units.do_verbs.Goals as goal

pub verbs-preserved : goal.verbs-preserved
verbs-preserved c = λ unit limits done stands.
    let all : List Verb = c.args.verbs.now in
    let i : ℕ = c.verbs.verb-index in
    let at : slice_get all i ≡ Some c.verb-item.result = slice_get-get_or all i c.verb-item.result c.verbs-test.true ∙ ap (λ (v : Verb). Some v) (sym c.verb-item.is) in
    subst (WorldStands c.do_verb.new.world unit limits) (verbs_next all i (i + 1) c.verb-item.result done at (omega arith)) (c.in_ok-do_verb.ensures unit limits (reverse (take i all) ++ done) (c.verbs.invariant unit limits done stands))
