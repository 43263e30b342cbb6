use Rattle.std.proofs.Common.{◌≡◌, List, length, sym, ap, ◌∙◌, subst, arith}
use Rattle.venue_core.proofs.PlanBooks.{plan_begins}
use Rattle.pitch_model.specs.Advertising.{Operation, accepted_by}
use Rattle.unit_threads.specs.layers.Publishing.{HasAdvertised}
use Rattle.unit_threads.proofs.Saying.{words_begin, words_next}
use Rattle.unit_threads.proofs.publisher.publish_all.Goals as goal

pub commands-init : goal.commands-init
commands-init g c =
    let course = c.args.course.now in
    let none : length c.args.writer.now.history ≡ 0 = ap (λ (h : List Operation). length h) c.requires.writer in
    record {
      accepted = record { accepted = ap accepted_by c.requires.writer ∙ sym (plan_begins course.number course.unit); few = omega (arith, none) };
      last = λ e. absurd (omega (arith, e, course.most.0));
      words = c.requires.words ∙ sym (words_begin course.number course.unit course.count);
    }

pub commands-preserved : goal.commands-preserved
commands-preserved g c =
    let course = c.args.course.now in
    let e = c.in_ok-publish_one.ensures in
    record {
      accepted = e.accepted;
      last = λ is. subst (HasAdvertised c.publish_one.new.writer.history) is (e.last is);
      words = words_next course.number course.unit course.count c.commands.before _ _ c.commands.invariant.words e.words;
    }
