use Rattle.std.proofs.Common.{List, refl, sym, ap, ◌∙◌, remove, subst, arith}
use Rattle.std.specs.List.{AllZip}
use Rattle.venue_end.specs.Sessions.{with_new}
use Rattle.venue_end.specs.Stands.{PlaceIs}
use Rattle.venue_end.specs.declared.table.Place.{Place}
use Rattle.venue_end.proofs.Tables.{found_at, missing_at, opened_there, opened_missing}
use Rattle.venue_end.proofs.table.SessionTable.open.Goals as goal

pub returns-in-None-clause-opens : goal.returns-in-None-clause-opens
returns-in-None-clause-opens g c = λ s sessions server are.
    let made : Place g.row.S.Denot = record { id = c.args.id; server = c.args.server; said = c.new.result; put = 0 } in
    subst (λ (ps : List (Place g.row.S.Denot)). AllZip (PlaceIs g.S.Server.stands s) ps (with_new c.args.id sessions)) (sym c.in_ok-push.ensures.items)
    (opened_missing g.S.Server.stands s c.args.id c.args.self.now.places.items sessions made (missing_at g.S.Server.stands s c.args.id c.args.self.now.places.items sessions (sym c.find-before.ensures ∙ c.in-None.is) are) are
    (record { id_is = refl; server = server; within = omega arith; waits = c.new.ensures.items }))

pub returns-in-Some-clause-opens : goal.returns-in-Some-clause-opens
returns-in-Some-clause-opens g c = λ s sessions server are.
    let made : Place g.row.S.Denot = record { id = c.args.id; server = c.args.server; said = c.new.result; put = 0 } in
    subst (λ (ps : List (Place g.row.S.Denot)). AllZip (PlaceIs g.S.Server.stands s) ps (with_new c.args.id sessions)) (sym (c.remove.ensures.items ∙ ap (λ (ps : List (Place g.row.S.Denot)). remove ps c.in-Some.at) c.in_ok-push.ensures.items))
    (opened_there g.S.Server.stands s c.args.id c.in-Some.at c.args.self.now.places.items sessions made (found_at g.S.Server.stands s c.args.id c.in-Some.at c.args.self.now.places.items sessions (sym c.find-before.ensures ∙ c.in-Some.is) are)
    (record { id_is = refl; server = server; within = omega arith; waits = c.new.ensures.items }))
