-- Which call of its net a listener makes next. The calls of a run stand newest first.
use Rattle.std.specs.Prelude.{◌≡◌, ℕ, ◌+◌, ◌==◌, nat_lt, Bool, false, ◌||◌, List, [], ◌∷◌}
use Rattle.std.specs.Prelude.{Option, None, Some, if◌then◌else◌}
use Rattle.live_net.specs.LineCalls.{LineCall, Wait, Receive}
use Rattle.live_net.specs.declared.net.Woken.TheVariants as woken
use Rattle.live_net.specs.declared.net.Received.TheVariants as received

-- how many datagrams of a line are taken at most before the next line has its turn
abbrev pub most_taken : ℕ
most_taken = 64

-- the room for a datagram, which none of UDP passes
abbrev pub datagram_room : ℕ
datagram_room = 65536

-- a call that is made: a wait, or a datagram of a line that is asked for, with room for so much
pub data Due : Type 0 where
  Waits : (more : Bool) → Due
  Receives : (line : ℕ) → (room : ℕ) → Due

abbrev pub due_of : LineCall → Due
due_of (Wait more answer) = Waits more
due_of (Receive line room bytes answer) = Receives line room

-- how many datagrams a line gave, one after another, up to now
abbrev pub taken_from : ℕ → List LineCall → ℕ
taken_from line (Receive l room bytes (received.Got n) ∷ before) =
    if l == line then taken_from line before + 1 else 0
taken_from line calls = 0

-- since the last wait, a line gave as many as are taken: more may be left there
abbrev pub is_more_left : List LineCall → Bool
is_more_left (Receive line room bytes answer ∷ before) =
    (taken_from line (Receive line room bytes answer ∷ before) == most_taken)
    || is_more_left before
is_more_left calls = false

-- a line has had its turn: then the next of so many lines has, and behind the last one the wait
abbrev pub after_line : ℕ → ℕ → List LineCall → Due
after_line lines line calls =
    if nat_lt (line + 1) lines then Receives (line + 1) datagram_room
    else Waits (is_more_left calls)

-- a line gave a datagram: it is asked again, until it has given as many as are taken
abbrev pub after_datagram : ℕ → ℕ → List LineCall → Due
after_datagram lines line calls =
    if nat_lt (taken_from line calls) most_taken then Receives line datagram_room
    else after_line lines line calls

-- the call that is due after such calls; none is once the wait was over, or a call failed
abbrev pub due : ℕ → List LineCall → Option Due
due lines [] = Some (Waits false)
due lines (Wait more woken.Ready ∷ before) = Some (Receives 0 datagram_room)
due lines (Wait more answer ∷ before) = None
due lines (Receive line room bytes (received.Got n) ∷ before) =
    Some (after_datagram lines line (Receive line room bytes (received.Got n) ∷ before))
due lines (Receive line room bytes received.Quiet ∷ before) =
    Some (after_line lines line (Receive line room bytes received.Quiet ∷ before))
due lines (Receive line room bytes received.Failed ∷ before) = None

-- each call of a run was due
abbrev pub AreDue : ℕ → List LineCall → Type 0
AreDue lines [] = Unit {0}
AreDue lines (call ∷ before) = (due lines before ≡ Some (due_of call)) × AreDue lines before
