use Rattle.std.proofs.Common.{◌+◌, List, ◌++◌, Some, sym, ap, ◌∙◌, arith, refl}
use Rattle.std.proofs.lemmas.List.{append-nil, take_all}
use Rattle.std.proofs.lemmas.Option.{slice_get-get_or}
use Rattle.pitch_fields.proofs.Lists.{all_get}
use Rattle.pitch_text.specs.declared.verb.Verb.{Verb}
use Rattle.pitch_text.specs.WellFormed.{IsWellFormed}
use Rattle.storm_replay.specs.Storm.{entries_for}
use Rattle.pitch_text.specs.Printing.{lines_text}
use Rattle.storm_replay.proofs.Storms.{verbs_step}
use Rattle.storm_replay.proofs.schedule.push_lines.Goals as goal

pub verbs-init : goal.verbs-init
verbs-init c = rw append-nil refl

pub verbs-preserved : goal.verbs-preserved
verbs-preserved c =
    verbs_step c.args.unit c.args.verbs.now c.verbs.verb-index (c.verbs.verb-index + 1) c.verb-item.result c.args.text.now.items c.verbs.text.items _
    (slice_get-get_or c.args.verbs.now c.verbs.verb-index c.verb-item.result c.verbs-test.true ∙ ap (λ (v : Verb). Some v) (sym c.verb-item.is)) (omega arith) c.verbs.invariant c.in_ok-push_line.ensures

pub push_line-requires : goal.push_line-requires
push_line-requires c =
    all_get (IsWellFormed c.args.unit) c.args.verbs.now c.verbs.verb-index c.verb-item.result c.requires
    (slice_get-get_or c.args.verbs.now c.verbs.verb-index c.verb-item.result c.verbs-test.true ∙ ap (λ (v : Verb). Some v) (sym c.verb-item.is))

pub returns : goal.returns
returns c = c.verbs.invariant ∙ ap (λ (verbs : List Verb). c.args.text.now.items ++ lines_text (entries_for c.args.unit verbs)) (take_all c.verbs.verb-index c.args.verbs.now (omega (arith, c.verbs-test.false)))
