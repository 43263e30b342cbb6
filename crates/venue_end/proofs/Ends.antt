-- What a call makes of a venue's end.
use Rattle.std.proofs.Common.{◌≡◌, ℕ, ◌+◌, List, [], ◌∷◌, ◌++◌, length, Option, Some, None, Result, Ok, Err, OnOk, refl, sym, subst}
use Rattle.pitch_text.specs.declared.command.Command.{Command}
use Rattle.pitch_model.specs.History.{Raw}
use Rattle.venue_core.specs.Commands.{raw_of}
use Rattle.venue_core.specs.Refusals.{refusal, IsAnswer}
use Rattle.venue_core.specs.declared.error.VenueError.{VenueError}
use Rattle.spin_server.specs.Served.{Served}
use Rattle.spin_server.specs.Serving.{Serving}
use Rattle.unit_market.specs.Markets.{Journal, MarketHas}
use Rattle.unit_market.specs.Standing.{MarketState}
use Rattle.venue_end.specs.Came.{VenueState, Commanded, commanded_on, journal_in, venue_after}
use Rattle.venue_end.specs.Sessions.{Session}
use Rattle.venue_end.specs.Stands.{Comes, IsSpinServer, ServersAre, TableIs, VenueIs}
use Rattle.venue_end.specs.declared.servers.Servers.{Servers}
use Rattle.venue_end.specs.declared.setup.VenueSetup.{VenueSetup}
use Rattle.venue_end.specs.declared.table.SessionTable.{SessionTable}
use Rattle.venue_end.specs.declared.venue.VenueEnd.{VenueEnd}

-- servers have the same sessions whatever the venue's side accepted and sent
pub servers_still : (s : VenueSetup) (servers : Servers) (now : VenueState) (messages : List Raw) (sent : ℕ) → ServersAre s servers now → ServersAre s servers (record now { messages = messages; sent = sent })
servers_still s servers now messages sent is = record { setup_is = is.setup_is; budget = is.budget; proxies = is.proxies; spins = is.spins }

-- other sessions with the Spin Server
pub with_spins : (s : VenueSetup) (servers : Servers) (now : VenueState) (table : SessionTable Serving) (sessions : List (Session (List Served))) → ServersAre s servers now → TableIs IsSpinServer s table sessions
    → ServersAre s (record servers { spins = table }) (record now { spins = sessions })
with_spins s servers now table sessions is are = record { setup_is = is.setup_is; budget = is.budget; proxies = is.proxies; spins = are }

-- a command that was answered with a sequence was not refused
not_refused : (r : Option VenueError) (wanted given : ℕ) → IsAnswer r wanted (Ok given) → r ≡ None
not_refused None wanted given is = refl
not_refused (Some error) wanted given is = absurd (err_ok is)
  where
    err_ok : ◌≡◌ {A = Result ℕ VenueError} (Ok given) (Err error) → ⊥
    err_ok e = cc

pub accepts : (e : VenueEnd) (market : MarketState) (command : Command) (r : Result ℕ VenueError) → ((j : Journal) → MarketHas e.market j → IsAnswer (refusal j.messages command) (length j.messages + 1) r)
    → OnOk r ((j : Journal) → MarketHas e.market j → MarketHas market (record j { messages = j.messages ++ raw_of command ∷ [] })) → OnOk r (Comes e (record e { market = market }) (Commanded command))
accepts e market command (Ok sequence) answer ok = λ s before is.
    let now : VenueState = venue_after s before in
    subst (λ (r : Option VenueError). VenueIs s (record e { market = market }) (commanded_on r command now)) (sym (not_refused (refusal now.messages command) (length now.messages + 1) sequence (answer (journal_in s now) is.market)))
    (record { market = ok (journal_in s now) is.market; servers = servers_still s e.servers now (now.messages ++ raw_of command ∷ []) now.sent is.servers })
accepts e market command (Err error) answer ok = tt
