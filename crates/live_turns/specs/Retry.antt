-- When the connection with a peer is begun, and begun again. The calls of a run stand newest first.
use Rattle.std.specs.Prelude.{ℕ, ◌+◌, ◌-◌, ◌^◌, ◌==◌, nat_le, min, Bool, true, false, not}
use Rattle.std.specs.Prelude.{◌&&◌, ◌||◌, List, [], ◌∷◌, if◌then◌else◌}
use Rattle.live_net.specs.LiveCalls.{LiveCall, Wait, Open, Take, Put, Close}
use Rattle.live_net.specs.declared.live.WaitEnd.TheVariants as wait_end
use Rattle.live_net.specs.declared.live.PeerOpened.TheVariants as opened
use Rattle.live_net.specs.declared.live.PeerTaken.TheVariants as taken
use Rattle.live_net.specs.declared.live.PeerPut.TheVariants as put

-- ---- Pauses
-- the longest pause before a connection is begun again, in seconds
abbrev pub longest_pause : ℕ
longest_pause = 64

-- so many seconds are let pass after so many ends: none at first, and then 1, 2, 4, .., 64
abbrev pub pause_after : ℕ → ℕ
pause_after ends = if ends == 0 then 0 else min (2 ^ (ends - 1)) longest_pause

-- ---- Calls

-- by this call a second has passed
abbrev pub is_second : LiveCall → Bool
is_second (Wait more wait_end.Second) = true
is_second call = false

-- by it the connection with a peer is begun
abbrev pub begins_by : ℕ → LiveCall → Bool
begins_by peer (Open p opened.Begun) = p == peer
begins_by peer call = false

-- by it the connection has ended, or was refused
abbrev pub ends_by : ℕ → LiveCall → Bool
ends_by peer (Open p opened.Refused) = p == peer
ends_by peer (Take p room bytes taken.Ended) = p == peer
ends_by peer (Put p piece put.Ended) = p == peer
ends_by peer (Close p) = p == peer
ends_by peer call = false

-- it was begun, and has not ended since
abbrev pub stands : ℕ → List LiveCall → Bool
stands peer [] = false
stands peer (call ∷ before) = begins_by peer call || (not (ends_by peer call) && stands peer before)

-- how many seconds have passed since it was begun or ended
abbrev pub seconds_since : ℕ → List LiveCall → ℕ
seconds_since peer [] = 0
seconds_since peer (call ∷ before) =
    if begins_by peer call || ends_by peer call then 0
    else if is_second call then seconds_since peer before + 1
    else seconds_since peer before

-- ---- When it is begun again
-- it stands, and has lasted: for no less than the pause before it, which came after so many ends
abbrev pub has_lasted : ℕ → ℕ → List LiveCall → Bool
has_lasted peer ends run = stands peer run && nat_le (pause_after ends) (seconds_since peer run)

-- how many ends there are in a row once one more came, after so many in the calls before it: where
-- the connection that it ends has lasted, a row begins with it
abbrev pub with_end : ℕ → ℕ → List LiveCall → ℕ
with_end peer ends before = (if has_lasted peer ends before then 0 else ends) + 1

-- how often it has ended since one last lasted, with the end of that one
abbrev pub ends_in_row : ℕ → List LiveCall → ℕ
ends_in_row peer [] = 0
ends_in_row peer (call ∷ before) =
    if ends_by peer call then with_end peer (ends_in_row peer before) before
    else ends_in_row peer before

-- none stands, and it is time to begin one
abbrev pub may_begin : ℕ → List LiveCall → Bool
may_begin peer run = not (stands peer run)
    && nat_le (pause_after (ends_in_row peer run)) (seconds_since peer run)
