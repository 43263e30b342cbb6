use Rattle.std.proofs.Common.{List}
use Rattle.std.specs.List.{AllZip}
use Rattle.session_ends.specs.Events.{Ticked}
use Rattle.venue_end.specs.Sessions.{Session, happens_at}
use Rattle.venue_end.specs.Stands.{PlaceIs}
use Rattle.venue_end.specs.declared.setup.VenueSetup.{VenueSetup}
use Rattle.venue_end.proofs.Tables.{firsts}
use Rattle.venue_end.proofs.table.SessionTable.tick_all.Given as goal

abbrev pub invariant-loop-place : goal.invariant-loop-place
invariant-loop-place g l = (s : VenueSetup) (sessions : List (Session g.S.Server.Seen)) → AllZip (PlaceIs g.S.Server.stands s) l.fn.self.places.items sessions
    → AllZip (PlaceIs g.S.Server.stands s) l.place-items (firsts l.place-index (happens_at (g.S.Server.says s) Ticked) sessions)
