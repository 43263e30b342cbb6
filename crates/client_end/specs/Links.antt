-- The links of a unit's two sessions: how they are made, and what they send.
use Rattle.std.specs.Prelude.{ℕ, List}
use Rattle.session_ends.specs.Closing.{Setup}
use Rattle.session_ends.specs.Events.{Event, Ticked}
use Rattle.session_ends.specs.Sending.{sent_at_tick}
use Rattle.session_ends.specs.declared.role.Role.TheVariants.{GapLink, SpinLink}
use Rattle.client_links.specs.Linking.{Lookups, link_setup, link_sends}

-- the link to the proxy, which serves all units, and that to the Spin Server of a unit
abbrev pub gap_link : Setup
gap_link = link_setup GapLink 0

abbrev pub spin_link : ℕ → Setup
spin_link unit = link_setup SpinLink unit

-- what a link sends at an event after others: at a tick a heartbeat, where one is due
abbrev pub link_says : Setup → Event Lookups → List (Event Lookups) → List ℕ
link_says s Ticked before = sent_at_tick (link_sends s) s before
link_says s event before = link_sends s event before
