-- What comes to an end on each of its sessions, and the bytes that wait there to be sent.
use Rattle.std.specs.Prelude.{ℕ, ◌==◌, List, [], ◌++◌, filter, Option, is_some, if◌then◌else◌}
use Rattle.unit_packets.specs.Blocks.{Block}
use Rattle.session_ends.specs.Events.{Event}
use Rattle.client_links.specs.Linking.{Lookups}
use Rattle.client_end.specs.Came.{Came, EndSetup, EndState, GrpMade, GrpTook, GrpCut, GrpLost}
use Rattle.client_end.specs.Came.{SpinMade, SpinTook, SpinCut, SpinLost}
use Rattle.client_end.specs.Came.{end_step, to_proxy, to_spin_server}
use Rattle.sending_end.specs.declared.session.Session.{Session}
use Rattle.sending_end.specs.declared.session.Session.TheVariants.{Proxy, SpinServer}

-- ---- What comes of a datagram: its blocks of the end's unit
abbrev pub of_unit : ℕ → List Block → List Block
of_unit unit blocks = filter (λ block. block.unit == unit) blocks

-- ---- What comes on a session: a connection was made, bytes of it came, it ended, or it was lost
-- for want of memory to hear all that bytes told
abbrev pub made : Session → Came
made Proxy = GrpMade
made SpinServer = SpinMade

abbrev pub took : Session → List ℕ → Came
took Proxy bytes = GrpTook bytes
took SpinServer bytes = SpinTook bytes

abbrev pub ended : Session → Came
ended Proxy = GrpCut
ended SpinServer = SpinCut

abbrev pub lost : Session → List ℕ → ℕ → Came
lost Proxy bytes count = GrpLost bytes count
lost SpinServer bytes count = SpinLost bytes count

-- what happened at the session's link, where a connection stands
abbrev pub link_of : Session → EndState → Option (List (Event Lookups))
link_of Proxy now = now.grp
link_of SpinServer now = now.spin

-- ---- What waits
-- it waits as long as the connection stands
abbrev pub kept_for : Option (List (Event Lookups)) → List ℕ → List ℕ
kept_for link bytes = if is_some link then bytes else []

-- nothing waited for a connection that is made
abbrev pub waited_for_proxy : Came → List ℕ → List ℕ
waited_for_proxy GrpMade waiting = []
waited_for_proxy came waiting = waiting

abbrev pub waited_for_spin_server : Came → List ℕ → List ℕ
waited_for_spin_server SpinMade waiting = []
waited_for_spin_server came waiting = waiting

-- what waits for the proxy once this came: what waited, and what the end then says to it
abbrev pub waits_for_proxy : EndSetup → Came → EndState → List ℕ → List ℕ
waits_for_proxy s came now waiting = kept_for (end_step s came now).grp
    (waited_for_proxy came waiting ++ to_proxy s came now)

-- and for the Spin Server
abbrev pub waits_for_spin_server : EndSetup → Came → EndState → List ℕ → List ℕ
waits_for_spin_server s came now waiting = kept_for (end_step s came now).spin
    (waited_for_spin_server came waiting ++ to_spin_server s came now)

-- and for either session
abbrev pub waits_after : Session → EndSetup → Came → EndState → List ℕ → List ℕ
waits_after Proxy s came now waiting = waits_for_proxy s came now waiting
waits_after SpinServer s came now waiting = waits_for_spin_server s came now waiting
