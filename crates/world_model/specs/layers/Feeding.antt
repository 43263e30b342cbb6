-- What feeding a server of the venue's end does.
use Rattle.std.specs.Prelude.{◌≡◌, ℕ, List, ◌∷◌, ◌++◌, replicate}
use Rattle.pitch_text.specs.declared.verb.Session.{Session}
use Rattle.pitch_text.specs.declared.verb.Session.TheVariants.{Grp, Spin}
use Rattle.venue_end.specs.Came.{VenueCame, SpinPumped, on_gap_line, venue_after}
use Rattle.venue_end.specs.Sessions.{session_of}
use Rattle.venue_end.specs.Stands.{OfVenue, VenueStands}
use Rattle.venue_end.specs.declared.setup.VenueSetup.{VenueSetup}
use Rattle.venue_end.specs.declared.venue.VenueEnd.{VenueEnd}
use Rattle.world_model.specs.Ends.{server_took, the_session}
use Rattle.world_model.specs.Verbs.{pumps}

-- a Spin Server was asked for the blocks of its image until it sent none
abbrev pub asked_out : VenueSetup → List VenueCame → List VenueCame
asked_out s before = replicate (pumps s (session_of the_session (venue_after s before).spins))
    (SpinPumped the_session) ++ before

-- what came once bytes came to a server after this: the proxy answers, and an image that the Spin
-- Server accepts waits whole
abbrev pub fed_then : VenueSetup → Session → List ℕ → List VenueCame → List VenueCame
fed_then s Grp piece before = server_took Grp piece ∷ before
fed_then s Spin piece before = asked_out s (server_took Spin piece ∷ before)

-- bytes came to the server of a session, and what is accepted is on the gap line
pub record Feeds (e e' : VenueEnd) (session : Session) (piece : List ℕ)
    (lines lines' : List (List ℕ)) : Type 0 where
  pub stands : OfVenue e (λ s before. VenueStands s e' (fed_then s session piece before))
  pub lined : OfVenue e (λ s before. lines'
      ≡ lines ++ on_gap_line s (server_took session piece) (venue_after s before))
