use Rattle.std.proofs.Common.{◌≡◌, ◌*◌}
use Rattle.unit_threads.specs.layers.Publishing.{HasAccepted, HasAdvertised}
use Rattle.unit_threads.specs.layers.Saying.{words_through}
use Rattle.unit_threads.proofs.publisher.publish_all.Given as goal

abbrev pub invariant-commands : goal.invariant-commands
invariant-commands g l = record {
  accepted : HasAccepted l.writer.history l.course.number l.course.unit l.before (2 * l.before);
  last : l.before ≡ l.course.count → HasAdvertised l.writer.history l.course.count;
  words : l.to.words ≡ words_through l.course.number l.course.unit l.course.count l.before;
}
