use Rattle.std.proofs.Common.{Option, drop, sym, ap, ◌∙◌}
use Rattle.venue_end.specs.Sessions.{Session, waiting_in}
use Rattle.venue_end.proofs.Tables.{missing_at, seen_at}
use Rattle.venue_end.proofs.table.SessionTable.said_to.Goals as goal

pub returns-in-None : goal.returns-in-None
returns-in-None g c = λ s sessions are.
    ap (λ (o : Option (Session g.S.Server.Seen)). waiting_in o) (sym (missing_at g.S.Server.stands s c.args.id c.args.self.now.places.items sessions (sym c.find.ensures ∙ c.in-None.is) are).none)

pub returns-in-Some : goal.returns-in-Some
returns-in-Some g c = λ s sessions are.
    c.waiting.ensures ∙ seen_at g.S.Server.stands s c.args.id c.in-Some.at c.args.self.now.places.items sessions c.index.result.now (λ o. waiting_in o) (drop c.index.result.now.put c.index.result.now.said.items) (sym c.find.ensures ∙ c.in-Some.is) c.index.ensures are (λ k is. is.waits)
