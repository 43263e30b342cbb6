use Rattle.std.proofs.Common.{List, sym, ◌∙◌, subst}
use Rattle.std.specs.List.{AllZip}
use Rattle.venue_end.specs.Sessions.{Session, puts}
use Rattle.venue_end.specs.Stands.{PlaceIs}
use Rattle.venue_end.proofs.Tables.{missing_at, becomes_at}
use Rattle.venue_end.proofs.table.SessionTable.put.Goals as goal

pub returns-in-None : goal.returns-in-None
returns-in-None g c = λ s sessions are.
    subst (λ (ks : List (Session g.S.Server.Seen)). AllZip (PlaceIs g.S.Server.stands s) c.args.self.now.places.items ks) (sym ((missing_at g.S.Server.stands s c.args.id c.args.self.now.places.items sessions (sym c.find.ensures ∙ c.in-None.is) are).becomes (puts c.args.count))) are

pub returns-in-Some : goal.returns-in-Some
returns-in-Some g c = λ s sessions are.
    becomes_at g.S.Server.stands s c.args.id c.in-Some.at c.args.self.now.places.items sessions c.index_mut.result.now c.put.new.self (puts c.args.count) (sym c.find.ensures ∙ c.in-Some.is) c.index_mut.ensures.value are (c.put.ensures s)
