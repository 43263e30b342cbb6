use Rattle.std.proofs.Common.{◌≡◌}
use Rattle.drill_client.specs.DrillText.{drill_text}
use Rattle.unit_threads.proofs.units.join_lines.Given as goal

abbrev pub invariant-units : goal.invariant-units
invariant-units l = l.out.items ≡ drill_text l.number l.index l.count
