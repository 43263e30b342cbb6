-- What a market begins with and has to send, and what its servers look up.
use Rattle.std.specs.Prelude.{ℕ, List, ◌+◌, [], drop, Option}
use Rattle.unit_packets.specs.Packing.{packed}
use Rattle.pitch_model.specs.Advertising.{last_ten}
use Rattle.pitch_model.specs.History.{Raw}
use Rattle.spin_server.specs.Served.{Served}
use Rattle.unit_market.specs.Standing.{MarketState}
use Rattle.unit_market.specs.Markets.{Journal}

-- nothing was accepted yet
abbrev pub new_journal : ℕ → ℕ → Journal
new_journal unit kept =
    record { unit = unit; kept = kept; messages = []; sent = 0; advertised = [] }

-- the datagrams of what was accepted and not sent yet
abbrev pub pending : Journal → List (List ℕ)
pending j = packed j.unit (j.sent + 1) (drop j.sent j.messages)

-- the message that it accepted last, if any
abbrev pub last_accepted : MarketState → Option Raw
last_accepted market = market.venue.last

-- what the Spin Server looks up: all messages, and of the sequences the last ten
abbrev pub image_view : List Raw → List ℕ → Served
image_view messages advertised =
    record { messages = messages; advertised = last_ten advertised }
