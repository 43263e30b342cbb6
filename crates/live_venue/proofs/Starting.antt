-- A live venue to which nothing came yet.
use Rattle.std.proofs.Common.{◌≡◌, ℕ, List, [], refl, subst, Option}
use Rattle.unit_commands.specs.Pieces.{read_through}
use Rattle.venue_end.specs.declared.setup.VenueSetup.{VenueSetup}
use Rattle.venue_net.specs.VenueCalls.{VenueCall}
use Rattle.venue_turns.specs.Due.{Ends}
use Rattle.venue_turns.specs.Turning.{TurnsStand}
use Rattle.venue_units.specs.Units.{UnitsStand}
use Rattle.live_venue.specs.Running.{at_first, ends_now, ways}
use Rattle.live_venue.specs.Standing.{GoesOn, all_outgoing}
use Rattle.live_venue.specs.declared.serving.Serving.{Serving}
use Rattle.live_venue.proofs.Calls.{adds_none}
use Rattle.live_venue.proofs.Feeds.{feeds_at_first}
use Rattle.std.proofs.Common.{ap}

pub starts : (s : List VenueSetup) (start : Option (List VenueCall)) (v : Serving) (places : ℕ) → places ≡ (ways s).places → ((e : Ends) → TurnsStand (record { places = places }) e v.turns []) → UnitsStand s v.units []
    → v.reader ≡ read_through [] → v.outbox.batches.items ≡ [] → GoesOn s start start v
starts s start v places many turns stand read empty = record {
  run = [];
  now = at_first;
  stands = record {
    is_run = record { adds = adds_none start; runs = refl; sent = tt; feeds = feeds_at_first s };
    serve = record { stand = stand; queued = record { waiting = ap all_outgoing empty; pieces = tt } };
    read = read;
    idle = record { sent = refl; good = refl };
  };
  turns = subst (λ (n : ℕ). TurnsStand (record { places = n }) (ends_now s []) v.turns []) many (turns (ends_now s []));
}
