-- With what a run of `listen` is made.
use Rattle.std.specs.Prelude.{◌≤◌, ◌++◌, ◌==◌, ℕ, List, [], ◌∷◌, length, map, if◌then◌else◌}
use Rattle.std.specs.List.{list_any}
use Rattle.std.specs.declared.net.socket_addr.SocketAddr.{SocketAddr}
use Rattle.pitch_fields.specs.Limits.{IsHoldLimit}
use Rattle.line_sockets.specs.declared.port.Port.{Port}
use Rattle.sending_end.specs.declared.session.Session.{Session}
use Rattle.sending_end.specs.declared.session.Session.TheVariants.{Proxy, SpinServer}
use Rattle.live_recovery.specs.declared.peer.Peer.{Peer}
use Rattle.live_words.specs.Options.{units_of}
use Rattle.live_words.specs.declared.listen_words.LineWords.{LineWords}
use Rattle.live_words.specs.declared.listen_words.ListenWords.{ListenWords}
use Rattle.live_words.specs.declared.listen_words.Server.{Server}
use Rattle.live_words.specs.declared.listen_words.ServerWords.{ServerWords}
use Rattle.live_setups.specs.Accounts.{account_or_nobodys}
use Rattle.live_setups.specs.declared.hearing.Hearing.{Hearing}
use Rattle.live_setups.specs.declared.hearing.Hearing.TheVariants.{Every, Named}

-- ---- the lines
-- the ports of the lines by their numbers: lines A, lines B, and gap lines
abbrev pub ports_of : LineWords → List Port
ports_of lines = lines.a.items ++ (lines.b.items ++ lines.gap.items)

-- ---- the peers
-- a server as a peer, by this session of its unit
abbrev pub peer_by : Session → Server → Peer
peer_by session server = record { unit = server.unit; session = session }

-- the peers by their numbers: the proxies, and then the Spin Servers
abbrev pub peers_of : ServerWords → List Peer
peers_of servers = map (peer_by Proxy) servers.grp.items
    ++ map (peer_by SpinServer) servers.spin.items

-- where each of them is
abbrev pub addrs_of : ServerWords → List SocketAddr
addrs_of servers = map (λ server. server.addr) servers.grp.items
    ++ map (λ server. server.addr) servers.spin.items

-- ---- the units
-- a unit more, unless it stands there already
abbrev pub with_unit : List ℕ → ℕ → List ℕ
with_unit units unit =
    if list_any (λ other. other == unit) units then units else units ++ unit ∷ []

-- some units more, each unless it stands there already
abbrev pub with_units : List ℕ → List ℕ → List ℕ
with_units units [] = units
with_units units (unit ∷ more) = with_units (with_unit units unit) more

-- the units that are named, by themselves, with a proxy, or with a Spin Server, each once
abbrev pub units_heard : ListenWords → List ℕ
units_heard asked = with_units (with_units (with_units [] asked.units.items)
    (units_of asked.servers.grp.items)) (units_of asked.servers.spin.items)

-- ---- the run
-- every unit is heard, and nobody is asked
abbrev pub every_unit : ListenWords → Hearing
every_unit asked =
    Every (record { lines = length (ports_of asked.lines); units = []; hold = asked.hold })

-- the units that are named are heard, and their servers are asked
abbrev pub named_units : ListenWords → Hearing
named_units asked = Named (record {
  lines = length (ports_of asked.lines);
  peers = peers_of asked.servers;
  listens = record {
    units = units_heard asked;
    account = account_or_nobodys asked.servers.account;
    hold = asked.hold;
  };
})

-- where no unit is named every one is heard, and else those are
abbrev pub hearing_of : ListenWords → Hearing
hearing_of asked =
    if length (units_heard asked) == 0 then every_unit asked else named_units asked

-- there is such a run: its lines and its peers are counted by two bytes, and there is a line
pub record CanBeHeard (asked : ListenWords) : Type 0 where
  pub some : 1 ≤ length (ports_of asked.lines)
  pub lines : length (ports_of asked.lines) ≤ 65535
  pub peers : length (peers_of asked.servers) ≤ 65535
  pub hold : IsHoldLimit asked.hold
