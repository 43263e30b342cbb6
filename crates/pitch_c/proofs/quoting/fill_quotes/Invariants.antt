use Rattle.std.proofs.Common.{◌≡◌, map}
use Rattle.pitch_c.specs.Reports.{quote_shown}
use Rattle.pitch_c.proofs.Filling.{begun}
use Rattle.pitch_c.proofs.quoting.fill_quotes.Given as goal

abbrev pub invariant-quotes : goal.invariant-quotes
invariant-quotes l = l.told ≡ begun l.at (map quote_shown l.lines) l.initial.told
