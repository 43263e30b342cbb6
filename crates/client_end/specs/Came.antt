-- What comes to an end, what it then stands for, and what it says.
use Rattle.std.specs.Prelude.{ℕ, List, [], ◌∷◌, ◌++◌, Option, None, Some}
use Rattle.pitch_messages.specs.declared.session.SessionMessage.TheVariants.{GapRequest}
use Rattle.pitch_messages.specs.declared.session.SessionMessage.TheVariants.{SpinRequest}
use Rattle.pitch_model.specs.declared.ask.Ask.{Ask}
use Rattle.pitch_model.specs.declared.ask.Ask.TheVariants as asks
use Rattle.pitch_model.specs.Asking.{ask_of}
use Rattle.pitch_model.specs.History.{Entry, GrpDown, SpinDown}
use Rattle.pitch_model.specs.History as entry
use Rattle.unit_packets.specs.Blocks.{Block}
use Rattle.heard_items.specs.Heard.{heard_block}
use Rattle.session_ends.specs.declared.account.Account.{Account}
use Rattle.session_ends.specs.declared.role.Role.TheVariants.{GapLink, SpinLink}
use Rattle.session_ends.specs.Events.{Event, Ticked, Asked}
use Rattle.client_links.specs.Linking.{Lookups, login_bytes}
use Rattle.client_end.specs.Links.{gap_link, spin_link}
use Rattle.client_end.specs.Sessions.{SessionState, link_cut, link_made, link_took, link_happened}
use Rattle.client_end.specs.Sessions.{link_settled, link_lost, place_says}

-- what an end is made with: its unit, the account of its logins, and the places of its hold
pub record EndSetup : Type 0 where
  pub unit : ℕ
  pub account : Account
  pub hold : ℕ

-- what the client heard, and what happened at the links with the proxy and with the Spin Server
-- since each was made, where there is one
pub record EndState : Type 0 where
  pub heard : List Entry
  pub grp : Option (List (Event Lookups))
  pub spin : Option (List (Event Lookups))

-- nothing came yet
abbrev pub nothing_came : EndState
nothing_came = record { heard = []; grp = None; spin = None }

-- what comes to an end: a block of its unit on a line; of each session, that a connection was made,
-- bytes of it, that it was cut, and that it was lost for want of memory to hear all that bytes
-- told; and a second
pub data Came : Type 0 where
  Heard : (block : Block) → Came
  GrpMade : Came
  GrpTook : (bytes : List ℕ) → Came
  GrpCut : Came
  GrpLost : (bytes : List ℕ) → (count : ℕ) → Came
  SpinMade : Came
  SpinTook : (bytes : List ℕ) → Came
  SpinCut : Came
  SpinLost : (bytes : List ℕ) → (count : ℕ) → Came
  Second : Came

-- ---- Its sessions
abbrev pub of_grp : EndState → SessionState
of_grp now = record { heard = now.heard; link = now.grp }

abbrev pub with_grp : SessionState → EndState → EndState
with_grp session now = record { heard = session.heard; grp = session.link; spin = now.spin }

abbrev pub of_spin : EndState → SessionState
of_spin now = record { heard = now.heard; link = now.spin }

abbrev pub with_spin : SessionState → EndState → EndState
with_spin session now = record { heard = session.heard; grp = now.grp; spin = session.link }

-- ---- A second
-- both links tick; one that closes by that is cut
abbrev pub grp_link_ticks : EndState → EndState
grp_link_ticks now =
    with_grp (link_settled gap_link GrpDown (link_happened Ticked (of_grp now))) now

abbrev pub spin_link_ticks : EndSetup → EndState → EndState
spin_link_ticks s now = with_spin
    (link_settled (spin_link s.unit) SpinDown (link_happened Ticked (of_spin now))) now

abbrev pub both_links_tick : EndSetup → EndState → EndState
both_links_tick s now = spin_link_ticks s (grp_link_ticks now)

-- what is asked for goes through the link of the server that has it: messages through that with the
-- proxy, an image through that with the Spin Server
abbrev pub ask_sent : EndSetup → Option Ask → EndState → EndState
ask_sent s None now = now
ask_sent s (Some (asks.Gap first count)) now =
    with_grp (link_happened (Asked (GapRequest s.unit first count)) (of_grp now)) now
ask_sent s (Some (asks.Spin sequence)) now =
    with_spin (link_happened (Asked (SpinRequest sequence)) (of_spin now)) now

-- then the client ticks, and asks for what it lacks, by what it heard
abbrev pub client_asks : EndSetup → EndState → EndState
client_asks s now =
    let ask = ask_of s.hold now.heard in
    ask_sent s ask (record now { heard = entry.Ticked ask ∷ now.heard })

-- what the client asks for at a second: what it lacks, by what it heard once both links ticked
abbrev pub second_ask : EndSetup → EndState → Option Ask
second_ask s now = ask_of s.hold (both_links_tick s now).heard

-- ---- All that comes
-- what an end stands for once this came
abbrev pub end_step : EndSetup → Came → EndState → EndState
end_step s (Heard block) now = record now { heard = heard_block block now.heard }
end_step s GrpMade now = with_grp (link_made GrpDown (of_grp now)) now
end_step s (GrpTook bytes) now = with_grp (link_took gap_link GrpDown bytes (of_grp now)) now
end_step s GrpCut now = with_grp (link_cut GrpDown (of_grp now)) now
end_step s (GrpLost bytes count) now =
    with_grp (link_lost gap_link GrpDown bytes count (of_grp now)) now
end_step s SpinMade now = with_spin (link_made SpinDown (of_spin now)) now
end_step s (SpinTook bytes) now =
    with_spin (link_took (spin_link s.unit) SpinDown bytes (of_spin now)) now
end_step s SpinCut now = with_spin (link_cut SpinDown (of_spin now)) now
end_step s (SpinLost bytes count) now =
    with_spin (link_lost (spin_link s.unit) SpinDown bytes count (of_spin now)) now
end_step s Second now = client_asks s (both_links_tick s now)

-- and of all that came, the newest first
abbrev pub end_after : EndSetup → List Came → EndState
end_after s [] = nothing_came
end_after s (came ∷ before) = end_step s came (end_after s before)

-- what the client heard, of all that came
abbrev pub end_history : EndSetup → List Came → List Entry
end_history s before = (end_after s before).heard

-- ---- What it says
abbrev pub asks_proxy : EndSetup → Option Ask → Option (List (Event Lookups)) → List ℕ
asks_proxy s (Some (asks.Gap first count)) link =
    place_says gap_link (Asked (GapRequest s.unit first count)) link
asks_proxy s ask link = []

abbrev pub asks_spin_server : EndSetup → Option Ask → Option (List (Event Lookups)) → List ℕ
asks_spin_server s (Some (asks.Spin sequence)) link =
    place_says (spin_link s.unit) (Asked (SpinRequest sequence)) link
asks_spin_server s ask link = []

-- what it says to the proxy when this comes: its login, and at a second what the tick of the link
-- says, then what the client asks for
abbrev pub to_proxy : EndSetup → Came → EndState → List ℕ
to_proxy s GrpMade now = login_bytes GapLink 0 s.account
to_proxy s Second now =
    place_says gap_link Ticked now.grp
    ++ asks_proxy s (second_ask s now) (both_links_tick s now).grp
to_proxy s came now = []

-- and to the Spin Server
abbrev pub to_spin_server : EndSetup → Came → EndState → List ℕ
to_spin_server s SpinMade now = login_bytes SpinLink s.unit s.account
to_spin_server s Second now =
    place_says (spin_link s.unit) Ticked now.spin
    ++ asks_spin_server s (second_ask s now) (both_links_tick s now).spin
to_spin_server s came now = []
