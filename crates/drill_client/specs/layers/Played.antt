-- What a drill on one thread does with each command, and what its client hears of it. No public
-- clause needs this file.
use Rattle.std.specs.Prelude.{ℕ, zero, suc, ◌-◌, ◌%◌, Bool, ◌||◌, ◌==◌, List, [], ◌∷◌}
use Rattle.std.specs.Prelude.{if◌then◌else◌}
use Rattle.unit_packets.specs.Packing.{packed}
use Rattle.pitch_model.specs.Advertising.{with_sequence}
use Rattle.pitch_model.specs.History.{Entry, GrpUp, SpinUp, Advertised}
use Rattle.unit_market.specs.Views.{image_view}
use Rattle.venue_core.specs.Commands.{raw_of}
use Rattle.venue_core.specs.Losses.{is_lost}
use Rattle.venue_core.specs.Plan.{plan, plan_command}
use Rattle.drill_client.specs.layers.Answered.{last_kept, heard_of_copy, heard_after_copy}
use Rattle.drill_client.specs.layers.Limits.{drill_kept}

-- ---- Commands
-- the datagrams of the message of a command
abbrev pub command_datagrams : ℕ → ℕ → ℕ → List (List ℕ)
command_datagrams number unit index =
    packed unit index (raw_of (plan_command number unit index) ∷ [])

-- it is time to advertise: after every 1,000th command, and after the last
abbrev pub is_round : ℕ → ℕ → Bool
is_round index count = index % 1000 == 0 || index == count

-- ---- Rounds
-- the sequence of a command is advertised where it is time
abbrev pub with_round : List ℕ → ℕ → ℕ → List ℕ
with_round advertised index count =
    if is_round index count then with_sequence advertised index else advertised

-- the sequences that the first commands of a plan of `count` advertise
unfoldable pub advertised_through : ℕ → ℕ → List ℕ
advertised_through count zero = []
advertised_through count (suc index) =
    with_round (advertised_through count index) (suc index) count

-- ---- The client
-- the copy of a command's datagrams on a line comes, unless it is lost, so many datagrams having
-- come since the last tick
unfoldable pub heard_on_line : ℕ → ℕ → ℕ → ℕ → ℕ → ℕ → List Entry → List Entry
heard_on_line number unit count index line heard E =
    heard_of_copy (last_kept (plan number unit index))
    (image_view (plan number unit index) (advertised_through count (index - 1)))
    unit drill_kept heard
    (is_lost number unit index line) (command_datagrams number unit index) E

-- it hears of the sequence of a command where it is time
abbrev pub heard_of_round : ℕ → ℕ → List Entry → List Entry
heard_of_round index count E = if is_round index count then Advertised index ∷ E else E

-- a command: line A is 1 and line B is 2, then comes its round
abbrev pub heard_of_command : ℕ → ℕ → ℕ → ℕ → ℕ → List Entry → List Entry
heard_of_command number unit count index heard E =
    heard_of_round index count
    (heard_on_line number unit count index 2 (heard_after_copy (is_lost number unit index 1) heard)
    (heard_on_line number unit count index 1 heard E))

-- how many datagrams came after a command since the last tick
abbrev pub counted_with : ℕ → ℕ → ℕ → ℕ → ℕ
counted_with number unit index heard =
    heard_after_copy (is_lost number unit index 2)
    (heard_after_copy (is_lost number unit index 1) heard)

-- and after the first commands
unfoldable pub counted_through : ℕ → ℕ → ℕ → ℕ
counted_through number unit zero = 0
counted_through number unit (suc index) =
    counted_with number unit (suc index) (counted_through number unit index)

-- what the client has heard after the first commands of a plan of `count`
unfoldable pub plain_history : ℕ → ℕ → ℕ → ℕ → List Entry
plain_history number unit count zero = SpinUp ∷ GrpUp ∷ []
plain_history number unit count (suc index) =
    heard_of_command number unit count
    (suc index) (counted_through number unit index) (plain_history number unit count index)
