use Rattle.std.proofs.Common.{List}
use Rattle.std.specs.List.{AllZip}
use Rattle.session_ends.specs.Events.{Told}
use Rattle.spin_server.specs.Served.{Served}
use Rattle.venue_end.specs.Servers.{spin_says}
use Rattle.venue_end.specs.Sessions.{Session, happens_at}
use Rattle.venue_end.specs.Stands.{IsSpinServer, PlaceIs}
use Rattle.venue_end.specs.declared.setup.VenueSetup.{VenueSetup}
use Rattle.venue_end.proofs.Tables.{firsts}
use Rattle.venue_end.proofs.spins.SessionTable+SpinServer.tell_all.Given as goal

abbrev pub invariant-loop-place : goal.invariant-loop-place
invariant-loop-place l = (s : VenueSetup) (sessions : List (Session (List Served))) → AllZip (PlaceIs IsSpinServer s) l.fn.self.places.items sessions
    → AllZip (PlaceIs IsSpinServer s) l.place-items (firsts l.place-index (happens_at (spin_says s) (Told l.sequence)) sessions)
