-- The servers of a venue's end: how they are made, and what each says at an event after others,
-- which stand newest first.
use Rattle.std.specs.Prelude.{ℕ, false, List, [], ◌∷◌}
use Rattle.session_ends.specs.Closing.{Setup}
use Rattle.session_ends.specs.Events.{Event, Ticked}
use Rattle.session_ends.specs.Sending.{sent_at_tick}
use Rattle.session_ends.specs.declared.role.Role.TheVariants.{GrpServer, SpinServer}
use Rattle.grp_session.specs.Budget.{Limits}
use Rattle.grp_session.specs.Serving.{Source, grp_sends}
use Rattle.spin_server.specs.Served.{Served}
use Rattle.spin_server.specs.Serving.{spin_sends}
use Rattle.venue_end.specs.declared.setup.VenueSetup.{VenueSetup}

-- of the unit, for the one account
abbrev pub proxy_setup : VenueSetup → Setup
proxy_setup s =
    record { role = GrpServer; unit = s.unit; accounts = s.account ∷ []; in_use = false }

abbrev pub spin_setup : VenueSetup → Setup
spin_setup s =
    record { role = SpinServer; unit = s.unit; accounts = s.account ∷ []; in_use = false }

-- the account's limits, which all its sessions with the proxy share
abbrev pub limits_of : VenueSetup → Limits
limits_of s = record { second = s.second; minute = s.minute; day = s.day }

-- at a tick a heartbeat, where one is due
abbrev pub proxy_says : VenueSetup → Event Source → List (Event Source) → List ℕ
proxy_says s Ticked before = sent_at_tick (grp_sends (proxy_setup s)) (proxy_setup s) before
proxy_says s event before = grp_sends (proxy_setup s) event before

abbrev pub spin_says : VenueSetup → Event (List Served) → List (Event (List Served)) → List ℕ
spin_says s Ticked before = sent_at_tick (spin_sends (spin_setup s)) (spin_setup s) before
spin_says s event before = spin_sends (spin_setup s) event before
