use Rattle.std.proofs.Common.{List, [], refl, ap, subst}
use Rattle.pitch_messages.specs.Room.{Roomy}
use Rattle.unit_packets.specs.Packing.{bytes_in}
use Rattle.venue_end.specs.Stands.{VenueStands}
use Rattle.venue_end.specs.declared.setup.VenueSetup.{VenueSetup}
use Rattle.world_model.proofs.world.World.make.Goals as goal

pub returns-in-Ok-clause-stands : goal.returns-in-Ok-clause-stands
returns-in-Ok-clause-stands c =
    let client = c.in-Ok.ensures.stands in
    record {
      unit_is = refl;
      limits_are = refl;
      is = record {
        begun = refl;
        venue = subst (λ (setup : VenueSetup). VenueStands setup c.in_ok-venue.venue []) c.venue_setup.ensures c.in_ok-venue.ensures.stands;
        client = record { unit_is = client.unit_is; end_is = client.end_is; grp_up = c.in-Ok.ensures.waits.proxy; spin_up = c.in-Ok.ensures.waits.spin_server };
        sent = ap (λ (l : List (Roomy _)). bytes_in l) c.make-in-Ok.ensures;
        replayed = ap (λ (l : List (Roomy _)). bytes_in l) c.make-in-Ok-2.ensures;
        passed = refl;
        noted = c.make-in-Ok-3.ensures;
      };
    }
