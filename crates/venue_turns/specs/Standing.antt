-- At which places connections stand, and which of them have had no room for too long. The calls of
-- a run stand newest first.
use Rattle.std.specs.Prelude.{ℕ, ◌+◌, ◌==◌, nat_le, Bool, true, false, not, ◌&&◌, ◌||◌}
use Rattle.std.specs.Prelude.{List, [], ◌∷◌, if◌then◌else◌}
use Rattle.live_net.specs.declared.live.WaitEnd.TheVariants as wait_end
use Rattle.live_net.specs.declared.live.PeerTaken.TheVariants as taken
use Rattle.live_net.specs.declared.live.PeerPut.TheVariants as put
use Rattle.venue_net.specs.VenueCalls.{VenueCall, Wait, Accept, Take, Put, Close}

-- a connection that had no room for so many seconds is closed
abbrev pub longest_stall : ℕ
longest_stall = 5

-- by this call a connection was let in at a place
abbrev pub begins_by : ℕ → VenueCall → Bool
begins_by place (Accept p true) = p == place
begins_by place call = false

-- by it the connection has ended
abbrev pub ends_by : ℕ → VenueCall → Bool
ends_by place (Take p room bytes taken.Ended) = p == place
ends_by place (Put p piece put.Ended) = p == place
ends_by place (Close p) = p == place
ends_by place call = false

-- one was let in, and has not ended since
abbrev pub stands : ℕ → List VenueCall → Bool
stands place [] = false
stands place (call ∷ before) =
    begins_by place call || (not (ends_by place call) && stands place before)

-- the last piece that was put there found no room
abbrev pub is_full : ℕ → List VenueCall → Bool
is_full place [] = false
is_full place (Put p piece put.Full ∷ before) = p == place || is_full place before
is_full place (Put p piece (put.Wrote n) ∷ before) = not (p == place) && is_full place before
is_full place (call ∷ before) = not (begins_by place call) && is_full place before

-- by this call a second has passed
abbrev pub is_second : VenueCall → Bool
is_second (Wait more wait_end.Second) = true
is_second call = false

-- for how many seconds there has been no room
abbrev pub seconds_full : ℕ → List VenueCall → ℕ
seconds_full place [] = 0
seconds_full place (call ∷ before) =
    if not (is_full place (call ∷ before)) then 0
    else if is_second call then seconds_full place before + 1
    else seconds_full place before

-- for too long
abbrev pub is_stuck : ℕ → List VenueCall → Bool
is_stuck place run = nat_le longest_stall (seconds_full place run)
