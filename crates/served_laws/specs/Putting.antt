-- What a venue's end put of what its Spin Servers said.
use Rattle.std.specs.Prelude.{ℕ, List, [], ◌∷◌, ◌++◌, ◌==◌, take, if◌then◌else◌}
use Rattle.venue_end.specs.Came.{VenueCame, SpinMade, SpinPut, venue_after}
use Rattle.venue_end.specs.Sessions.{session_of, waiting_in}
use Rattle.venue_end.specs.declared.setup.VenueSetup.{VenueSetup}

-- the first so many bytes of what waits for a session with the Spin Server, where there is one
abbrev pub first_waiting : VenueSetup → ℕ → ℕ → List VenueCame → List ℕ
first_waiting s id count before =
    take count (waiting_in (session_of id (venue_after s before).spins))

-- what was put to the session of a number since it was made, also where it has ended; of all that
-- came, the newest first
abbrev pub put_of : VenueSetup → ℕ → List VenueCame → List ℕ
put_of s id [] = []
put_of s id (SpinMade made ∷ before) = if made == id then [] else put_of s id before
put_of s id (SpinPut put count ∷ before) =
    if put == id
    then (put_of s id before ++ first_waiting s id count before) else put_of s id before
put_of s id (came ∷ before) = put_of s id before
