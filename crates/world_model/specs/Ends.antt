-- The two ends of a unit's world: how they are made, and what comes to each by a session.
use Rattle.std.specs.Prelude.{ℕ, Bool, List, codes, is_some}
use Rattle.pitch_text.specs.Defaults.{default_hold, default_kept, default_second, default_minute}
use Rattle.pitch_text.specs.Defaults.{default_day}
use Rattle.pitch_text.specs.declared.verb.Session.{Session}
use Rattle.pitch_text.specs.declared.verb.Session.TheVariants.{Grp, Spin}
use Rattle.session_ends.specs.declared.account.Account.{Account}
use Rattle.client_end.specs.Came.{EndSetup, EndState}
use Rattle.sending_end.specs.declared.session.Session.{Session as LinkSession}
use Rattle.sending_end.specs.declared.session.Session.TheVariants.{Proxy, SpinServer}
use Rattle.sending_end.specs.Waiting.{link_of}
use Rattle.venue_end.specs.Came.{VenueCame, VenueState, ProxyMade, ProxyTook, ProxyPut, ProxyCut}
use Rattle.venue_end.specs.Came.{SpinMade, SpinTook, SpinPut, SpinCut}
use Rattle.venue_end.specs.Sessions.{session_of, waiting_in}
use Rattle.venue_end.specs.declared.setup.VenueSetup.{VenueSetup}
use Rattle.world_model.specs.declared.limits.Limits.{Limits}

-- ---- How they are made
-- the limits of a unit where none are said
abbrev pub default_limits : Limits
default_limits = record {
  hold = default_hold;
  kept = default_kept;
  second = default_second;
  minute = default_minute;
  day = default_day;
}

-- the one account that both servers know, with which both links log in
abbrev pub the_account : Account
the_account = record { sub = codes "0001"; user = codes "FEED"; password = codes "PITCH     " }

abbrev pub venue_setup : ℕ → Limits → VenueSetup
venue_setup unit limits = record {
  unit = unit;
  kept = limits.kept;
  account = the_account;
  second = limits.second;
  minute = limits.minute;
  day = limits.day;
}

abbrev pub client_setup : ℕ → Limits → EndSetup
client_setup unit limits =
    record { unit = unit; account = the_account; hold = limits.hold }

-- ---- A session at the venue's end
-- each server has one session at most, of this number
abbrev pub the_session : ℕ
the_session = 0

abbrev pub server_made : Session → VenueCame
server_made Grp = ProxyMade the_session
server_made Spin = SpinMade the_session

abbrev pub server_took : Session → List ℕ → VenueCame
server_took Grp bytes = ProxyTook the_session bytes
server_took Spin bytes = SpinTook the_session bytes

abbrev pub server_put : Session → ℕ → VenueCame
server_put Grp count = ProxyPut the_session count
server_put Spin count = SpinPut the_session count

abbrev pub server_cut : Session → VenueCame
server_cut Grp = ProxyCut the_session
server_cut Spin = SpinCut the_session

-- what the server said and was not put yet
abbrev pub server_waits : Session → VenueState → List ℕ
server_waits Grp now = waiting_in (session_of the_session now.proxies)
server_waits Spin now = waiting_in (session_of the_session now.spins)

-- ---- The same session at the client's end
abbrev pub at_client : Session → LinkSession
at_client Grp = Proxy
at_client Spin = SpinServer

-- a connection stands: the client's end has a link of it
abbrev pub stands : Session → EndState → Bool
stands session now = is_some (link_of (at_client session) now)
