use Rattle.std.proofs.Common.{List, sym, ◌∙◌, subst}
use Rattle.std.specs.List.{AllZip}
use Rattle.venue_end.specs.Sessions.{Session, without}
use Rattle.venue_end.specs.Stands.{PlaceIs}
use Rattle.venue_end.specs.declared.table.Place.{Place}
use Rattle.venue_end.proofs.Tables.{missing_at, gone_at}
use Rattle.venue_end.proofs.table.SessionTable.cut.Goals as goal

pub returns-in-None : goal.returns-in-None
returns-in-None g c = λ s sessions are.
    subst (λ (ks : List (Session g.S.Server.Seen)). AllZip (PlaceIs g.S.Server.stands s) c.args.self.now.places.items ks) (sym (missing_at g.S.Server.stands s c.args.id c.args.self.now.places.items sessions (sym c.find.ensures ∙ c.in-None.is) are).others) are

pub returns-in-Some : goal.returns-in-Some
returns-in-Some g c = λ s sessions are.
    subst (λ (ps : List (Place g.row.S.Denot)). AllZip (PlaceIs g.S.Server.stands s) ps (without c.args.id sessions)) (sym c.remove.ensures.items)
    (gone_at g.S.Server.stands s c.args.id c.in-Some.at c.args.self.now.places.items sessions (sym c.find.ensures ∙ c.in-Some.is) are)
