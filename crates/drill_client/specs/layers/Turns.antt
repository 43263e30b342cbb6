-- A market that serves one client in turns. No caller needs this file.
use Rattle.std.specs.Prelude.{ℕ, ◌-◌}
use Rattle.unit_market.specs.Markets.{Journal, MarketHas}
use Rattle.unit_market.specs.Standing.{MarketState}
use Rattle.venue_core.specs.Plan.{plan}
use Rattle.drill_client.specs.layers.Limits.{drill_kept}
use Rattle.drill_client.specs.layers.Played.{advertised_through}

-- the journal at command `index` of a plan of `count`, when it has accepted that: so many messages
-- are sent, and the rounds of so many commands are over
abbrev pub journal_at : ℕ → ℕ → ℕ → ℕ → ℕ → ℕ → Journal
journal_at number unit count index sent over = record {
  unit = unit;
  kept = drill_kept;
  messages = plan number unit index;
  sent = sent;
  advertised = advertised_through count over;
}

-- it has played the first commands
abbrev pub HasPlayed : MarketState → ℕ → ℕ → ℕ → ℕ → Type 0
HasPlayed market number unit count index =
    MarketHas market (journal_at number unit count index index index)

-- it is at a command: so many messages are sent, and the command's round comes next
abbrev pub IsPlaying : MarketState → ℕ → ℕ → ℕ → ℕ → ℕ → Type 0
IsPlaying market number unit count index sent =
    MarketHas market (journal_at number unit count index sent (index - 1))
