-- A venue's end that stands for a list of all that came to it.
use Rattle.std.proofs.Common.{[], ◌∷◌, ◌++◌, replicate, refl, ap, ◌∙◌}
use Rattle.venue_end.specs.Came.{VenueCame, VenueState, SpinPumped, nothing_came, venue_after, venue_step}
use Rattle.venue_end.specs.Sessions.{session_of}
use Rattle.venue_end.specs.Stands.{Comes, OfVenue, VenueStands}
use Rattle.venue_end.specs.declared.venue.VenueEnd.{VenueEnd}
use Rattle.world_model.specs.Ends.{default_limits, the_session}
use Rattle.world_model.specs.State.{State}
use Rattle.world_model.specs.Verbs.{pumps, sent_whole}
use Rattle.world_model.specs.layers.Feeding.{asked_out}
use Rattle.world_model.proofs.Sessions.{pumped_venue}
use Rattle.net_edge.specs.Due.{demo_unit}
use Rattle.net_edge.specs.layers.Ends.{HasCome, IsPlain, demo_venue}

pub plain_first : (e : VenueEnd) → VenueStands demo_venue e [] → IsPlain e nothing_came
plain_first e stands = record { came = []; now_is = refl; stands = stands }

pub plain_comes : (old new : VenueEnd) (came : VenueCame) → Comes old new came → HasCome IsPlain old new came
plain_comes old new came comes = record {
  comes = λ now h. record { came = came ∷ h.came; now_is = ap (venue_step demo_venue came) h.now_is; stands = comes demo_venue h.came h.stands };
}

pub plain_whole : (old new : VenueEnd) → OfVenue old (λ s before. VenueStands s new (asked_out s before)) → (w : State) → IsPlain old w.venue → IsPlain new (sent_whole demo_unit default_limits w).venue
plain_whole old new sends w h = record {
  came = asked_out demo_venue h.came;
  now_is = pumped_venue demo_unit default_limits (pumps demo_venue (session_of the_session w.venue.spins)) w h.came h.now_is
      ∙ ap (λ (now : VenueState). venue_after demo_venue (replicate (pumps demo_venue (session_of the_session now.spins)) (SpinPumped the_session) ++ h.came)) h.now_is;
  stands = sends demo_venue h.came h.stands;
}
