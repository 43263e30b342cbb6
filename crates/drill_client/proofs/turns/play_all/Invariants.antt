use Rattle.std.proofs.Common.{◌≡◌}
use Rattle.venue_core.specs.Plan.{plan}
use Rattle.drill_client.specs.layers.Following.{Follows}
use Rattle.drill_client.specs.layers.Played.{counted_through, plain_history}
use Rattle.drill_client.specs.layers.Turns.{HasPlayed}
use Rattle.drill_client.proofs.turns.play_all.Given as goal

abbrev pub invariant-commands : goal.invariant-commands
invariant-commands l = record {
  played : HasPlayed l.market l.course.number l.course.unit l.course.count l.before;
  count : l.heard ≡ counted_through l.course.number l.course.unit l.before;
  follows : Follows l.client 4096 (plan l.course.number l.course.unit l.course.count) (plain_history l.course.number l.course.unit l.course.count l.before);
}
