use Rattle.std.proofs.Common.{sym, ◌∙◌}
use Rattle.venue_end.proofs.Tables.{has_one}
use Rattle.venue_end.proofs.table.SessionTable.has.Goals as goal

pub returns : goal.returns
returns g c = λ s sessions are. c.is_some.ensures ∙ has_one g.S.Server.stands s c.args.id c.args.self.now.places.items sessions c.find.result (sym c.find.ensures) are
