-- A harmed net between two calls.
use Rattle.std.specs.Prelude.{◌≡◌, List, Option}
use Rattle.venue_net.specs.VenueCalls.{VenueCall}
use Rattle.harmed_venue.specs.declared.cuts.Cuts.{Cuts}
use Rattle.harmed_venue.specs.declared.harm.Harm.{Harm}
use Rattle.harmed_venue.specs.Harmed.{cuts_left, harmed, lines_left, seconds_left}
use Rattle.harmed_venue.specs.Lines.{LineNow}
use Rattle.harmed_venue.specs.Venues.{Lists}

-- its lines and its cuts are as the calls left them, and the net below has the calls that these
-- were made to
pub record HarmedStands (harm : Harm) (lines : List LineNow) (cuts : Cuts)
    (calls : List VenueCall) (below : Option (List VenueCall)) : Type 0 where
  pub lines_are : lines ≡ lines_left harm calls
  pub every_is : cuts.every ≡ harm.cut
  pub passed_is : cuts.passed ≡ seconds_left harm calls
  pub places_are : cuts.places.items ≡ cuts_left harm calls
  pub made : Lists (harmed harm calls) below
