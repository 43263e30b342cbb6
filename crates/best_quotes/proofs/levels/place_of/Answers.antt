use Rattle.std.proofs.Common.{Some, None}
use Rattle.std.specs.Map.{lookup}
use Rattle.std.specs.Str.{bytes_eq}
use Rattle.best_quotes.proofs.Sided.{same_where, no_level, none_found}
use Rattle.best_quotes.proofs.levels.place_of.Goals as goal

pub returns-in_ok-insert-in-None-clause-same : goal.returns-in_ok-insert-in-None-clause-same
returns-in_ok-insert-in-None-clause-same c =
    let levels = c.args.levels.now.entries in
    same_where levels c.insert.new.self.entries c.bytes-bytes.result None (Some c.no_sides.result)
    (none_found (lookup (bytes_eq c.bytes-bytes.result) levels) c.in-None.ensures.found)
    c.in_ok-insert-in-None.ensures.updates.0
    (no_level c.no_sides.result c.no_sides.ensures.0 c.no_sides.ensures.1)
