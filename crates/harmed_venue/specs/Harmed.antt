-- What a harmed net calls of the net below it, by the calls that were made of itself. All lists of
-- calls have the newest first.
use Rattle.std.specs.Prelude.{ℕ, ◌+◌, nat_le, Bool, true, false, ◌&&◌, List, [], ◌∷◌, ◌++◌}
use Rattle.std.specs.Prelude.{map, replicate, set, slice_get, unwrap_or}
use Rattle.std.specs.Prelude.{Option, None, Some, if◌then◌else◌}
use Rattle.live_net.specs.declared.live.WaitEnd.{WaitEnd}
use Rattle.live_net.specs.declared.live.WaitEnd.TheVariants as wait_end
use Rattle.live_net.specs.declared.live.PeerTaken.{PeerTaken}
use Rattle.live_net.specs.declared.live.PeerTaken.TheVariants as taken
use Rattle.live_net.specs.declared.live.PeerPut.{PeerPut}
use Rattle.live_net.specs.declared.live.PeerPut.TheVariants as put
use Rattle.venue_net.specs.VenueCalls.{VenueCall, Wait, Send, Accept, Take, Put, Close}
use Rattle.harmed_venue.specs.declared.harm.Harm.{Harm}
use Rattle.harmed_venue.specs.Lines.{LineNow, after_send, goes_out, held_back, let_go}
use Rattle.harmed_venue.specs.Lines.{lines_at_first, sendings}

-- ---- The lines
-- all that is held back goes out where a second has passed, and at the end
abbrev pub lets_go : WaitEnd → Bool
lets_go wait_end.Second = true
lets_go wait_end.Over = true
lets_go answer = false

-- a line of which nothing is known is left alone
abbrev pub after_sent : ℕ → List ℕ → Option LineNow → List LineNow → List LineNow
after_sent line datagram None lines = lines
after_sent line datagram (Some found) lines = set lines line (after_send datagram found)

-- the lines as some calls leave them
abbrev pub lines_left : Harm → List VenueCall → List LineNow
lines_left harm [] = lines_at_first harm harm.lines
lines_left harm (Send line datagram ∷ before) =
    let lines = lines_left harm before in
    after_sent line datagram (slice_get lines line) lines
lines_left harm (Wait more answer ∷ before) =
    if lets_go answer then map let_go (lines_left harm before) else lines_left harm before
lines_left harm (call ∷ before) = lines_left harm before

-- ---- The clients' connections
abbrev pub is_second : WaitEnd → Bool
is_second wait_end.Second = true
is_second answer = false

-- with this second so many have passed since the last cut
abbrev pub is_due : Option ℕ → ℕ → Bool
is_due None passed = false
is_due (Some every) passed = nat_le every (passed + 1)

-- how many have then, where connections are cut at all
abbrev pub passed_by : Option ℕ → ℕ → ℕ
passed_by None passed = passed
passed_by (Some every) passed = if nat_le every (passed + 1) then 0 else passed + 1

abbrev pub seconds_left : Harm → List VenueCall → ℕ
seconds_left harm [] = 0
seconds_left harm (Wait more answer ∷ before) =
    let passed = seconds_left harm before in
    if is_second answer then passed_by harm.cut passed else passed
seconds_left harm (call ∷ before) = seconds_left harm before

abbrev pub is_taken_ended : PeerTaken → Bool
is_taken_ended taken.Ended = true
is_taken_ended answer = false

abbrev pub is_put_ended : PeerPut → Bool
is_put_ended put.Ended = true
is_put_ended answer = false

abbrev pub told_if : Bool → ℕ → List Bool → List Bool
told_if true place cuts = set cuts place false
told_if false place cuts = cuts

-- at which places a connection was cut and its end was not told yet: all, once so many seconds have
-- passed, until another is let in there or the end is told
abbrev pub cuts_left : Harm → List VenueCall → List Bool
cuts_left harm [] = replicate harm.places false
cuts_left harm (Wait more answer ∷ before) =
    if is_second answer && is_due harm.cut (seconds_left harm before)
    then map (λ (cut : Bool). true) (cuts_left harm before) else cuts_left harm before
cuts_left harm (Accept place came ∷ before) = set (cuts_left harm before) place false
cuts_left harm (Take place room bytes answer ∷ before) =
    told_if (is_taken_ended answer) place (cuts_left harm before)
cuts_left harm (Put place piece answer ∷ before) =
    told_if (is_put_ended answer) place (cuts_left harm before)
cuts_left harm (Close place ∷ before) = set (cuts_left harm before) place false
cuts_left harm (call ∷ before) = cuts_left harm before

abbrev pub is_cut : List Bool → ℕ → Bool
is_cut cuts place = unwrap_or (slice_get cuts place) false

-- ---- The calls
-- all that is held back, on one line after another
abbrev pub all_held : List LineNow → List VenueCall
all_held [] = []
all_held (line ∷ others) = all_held others ++ sendings line (held_back line.held)

abbrev pub all_held_if : Bool → List LineNow → List VenueCall
all_held_if true lines = all_held lines
all_held_if false lines = []

abbrev pub sent_on : ℕ → List ℕ → Option LineNow → List VenueCall
sent_on line datagram None = Send line datagram ∷ []
sent_on line datagram (Some found) = sendings found (goes_out found datagram)

-- a call of a connection that was cut closes it
abbrev pub unless_cut : Bool → ℕ → VenueCall → List VenueCall
unless_cut true place call = Close place ∷ []
unless_cut false place call = call ∷ []

-- what a call is made to, by the lines and the cuts as they were: all calls are passed on but for
-- what is done to datagrams and to connections that were cut
abbrev pub made_of : List LineNow → List Bool → VenueCall → List VenueCall
made_of lines cuts (Send line datagram) = sent_on line datagram (slice_get lines line)
made_of lines cuts (Wait more answer) = all_held_if (lets_go answer) lines ++ Wait more answer ∷ []
made_of lines cuts (Take place room bytes answer) =
    unless_cut (is_cut cuts place) place (Take place room bytes answer)
made_of lines cuts (Put place piece answer) =
    unless_cut (is_cut cuts place) place (Put place piece answer)
made_of lines cuts call = call ∷ []

-- what all calls are made to
abbrev pub harmed : Harm → List VenueCall → List VenueCall
harmed harm [] = []
harmed harm (call ∷ before) =
    made_of (lines_left harm before) (cuts_left harm before) call ++ harmed harm before
