use Rattle.std.proofs.Common.{refl}
use Rattle.session_ends.specs.Events.{Ticked}
use Rattle.venue_end.specs.declared.table.Place.{Place}
use Rattle.venue_end.proofs.Places.{happens_so, on_ok_both}
use Rattle.venue_end.proofs.table.Place.tick.Goals as goal

pub returns : goal.returns
returns g c =
    let old : Place g.row.S.Denot = c.args.self.now in
    let new : Place g.row.S.Denot = record { id = old.id; server = c.pass_second.new.self; said = c.pass_second.new.said; put = old.put } in
    on_ok_both c.pass_second.result (λ stands says s session is.
    happens_so g.S.Server.stands s (g.S.Server.says s) Ticked old new session is refl refl (stands s session.happened is.server) (says s session.happened is.server))
    c.pass_second.ensures.stands c.pass_second.ensures.says
