-- What waits at the ends of a world, and what its proxy has for the gap line, as a call brings
-- something.
use Rattle.std.proofs.Common.{◌≡◌, ◌≤◌, ℕ, Bool, List, [], ◌∷◌, ◌++◌, length, arith, Option, Some, None, refl, ap, ◌∙◌}
use Rattle.pitch_io.specs.declared.line.Line.{Line}
use Rattle.pitch_io.specs.declared.net.LinkEnd.{LinkEnd}
use Rattle.pitch_io.specs.declared.net.LinkEnd.TheVariants.{GrpClient, GrpServer, SpinClient, SpinServer}
use Rattle.pitch_io.specs.declared.net.NetTaken.{NetTaken}
use Rattle.pitch_io.specs.declared.net.NetTaken.TheVariants.{Got, End}
use Rattle.pitch_text.specs.declared.verb.Session.{Session as Kind}
use Rattle.pitch_text.specs.declared.verb.Session.TheVariants.{Grp, Spin}
use Rattle.pitch_text.specs.declared.verb.Verb.TheVariants as verbs
use Rattle.session_ends.specs.Events.{Event}
use Rattle.client_links.specs.Linking.{Lookups}
use Rattle.unit_packets.specs.Blocks.{Block}
use Rattle.unit_packets.specs.Cutting.{blocks_of}
use Rattle.sending_end.specs.Waiting.{of_unit, ended, kept_for, took}
use Rattle.venue_end.specs.Came.{SpinPumped}
use Rattle.venue_end.specs.Sessions.{Session, session_of, waiting_in, without}
use Rattle.world_model.specs.Ends.{at_client, default_limits, server_cut, the_session}
use Rattle.world_model.specs.State.{State}
use Rattle.world_model.specs.Verbs.{client_has, hears_block, pumped, seconds, settled, venue_has}
use Rattle.net_edge.specs.Acting.{all_tick, heard_by, link_takes, put_at, server_answers, server_takes, takes}
use Rattle.net_edge.specs.Due.{demo_unit}
use Rattle.net_edge.specs.Scene.{done_with, waits_at}
use Rattle.net_edge.proofs.Moving.{hears_on, pumps_on, serves_on, settles}

-- each server has one session at most
pub record IsAlone (w : State) : Type 0 where
  pub proxies : length w.venue.proxies ≤ 1
  pub spins : length w.venue.spins ≤ 1

-- nothing waits for a session that was cut
cut_waits : {X : Type 0} (id : ℕ) (ks : List (Session X)) → length ks ≤ 1 → waiting_in (session_of id (without id ks)) ≡ []
cut_waits id [] few = refl
cut_waits id (k ∷ []) few = grind arith
cut_waits id (k ∷ l ∷ ks) few = absurd (omega (arith, few))

-- nor where nothing did, and nothing is said
kept_none : (link : Option (List (Event Lookups))) (waits : List ℕ) → waits ≡ [] → kept_for link (waits ++ []) ≡ []
kept_none None waits none = refl
kept_none (Some events) waits none = ap (λ (l : List ℕ). l ++ []) none

-- ---- A cut
cut_here : (session : Kind) (other : LinkEnd) (w : State) → IsAlone w → waits_at other w ≡ [] → waits_at other (venue_has demo_unit default_limits (server_cut session) w) ≡ []
cut_here Grp GrpServer w alone none = cut_waits the_session w.venue.proxies alone.proxies
cut_here Spin SpinServer w alone none = cut_waits the_session w.venue.spins alone.spins
cut_here session other w alone none = none

-- ---- At a client's end
took_waits : (session : Kind) (bytes : List ℕ) (other : LinkEnd) (w : State) → waits_at other w ≡ [] → waits_at other (client_has demo_unit default_limits (took (at_client session) bytes) w) ≡ []
took_waits Grp bytes GrpClient w none = kept_none _ w.grp_up none
took_waits Grp bytes SpinClient w none = kept_none _ w.spin_up none
took_waits Spin bytes GrpClient w none = kept_none _ w.grp_up none
took_waits Spin bytes SpinClient w none = kept_none _ w.spin_up none
took_waits session bytes other w none = none

ended_waits : (session : Kind) (other : LinkEnd) (w : State) → waits_at other w ≡ [] → waits_at other (client_has demo_unit default_limits (ended (at_client session)) w) ≡ []
ended_waits Grp GrpClient w none = refl
ended_waits Spin SpinClient w none = refl
ended_waits Grp SpinClient w none = kept_none w.client.spin w.spin_up none
ended_waits Spin GrpClient w none = kept_none w.client.grp w.grp_up none
ended_waits session other w none = none

link_waits : (session : Kind) (bytes : List ℕ) (answer : NetTaken) (other : LinkEnd) (w : State) → IsAlone w → waits_at other w ≡ [] → waits_at other (link_takes session bytes answer w) ≡ []
link_waits session bytes (Got count) other w alone none =
    let v : State = client_has demo_unit default_limits (took (at_client session) bytes) w in
    let still = took_waits session bytes other w none in
    settles (λ u. waits_at other u ≡ []) session v still (cut_here session other v (record { proxies = alone.proxies; spins = alone.spins }) still)
link_waits session bytes End other w alone none = ended_waits session other (venue_has demo_unit default_limits (server_cut session) w) (cut_here session other w alone none)
link_waits session bytes answer other w alone none = none

-- ---- At a server's end
proxy_waits : (bytes : List ℕ) (answer : NetTaken) (other : LinkEnd) (w : State) → (other ≡ GrpServer → ⊥) → waits_at other (server_answers Grp bytes answer w) ≡ waits_at other w
proxy_waits bytes answer other w apart = grind arith

spin_waits : (bytes : List ℕ) (answer : NetTaken) (other : LinkEnd) (w : State) → (other ≡ SpinServer → ⊥) → waits_at other (server_answers Spin bytes answer w) ≡ waits_at other w
spin_waits bytes answer other w apart = grind arith

pumped_waits : (other : LinkEnd) (w : State) → (other ≡ SpinServer → ⊥) → waits_at other (venue_has demo_unit default_limits (SpinPumped the_session) w) ≡ waits_at other w
pumped_waits other w apart = grind arith

-- ---- A call
pub takes_wait : (at other : LinkEnd) (bytes : List ℕ) (answer : NetTaken) (goes_on : Bool) (w : State) → IsAlone w → (other ≡ at → ⊥) → waits_at other w ≡ [] → waits_at other (takes at bytes answer goes_on w) ≡ []
takes_wait GrpClient other bytes answer goes_on w alone apart none = link_waits Grp bytes answer other w alone none
takes_wait GrpServer other bytes answer goes_on w alone apart none = proxy_waits bytes answer other w apart ∙ none
takes_wait SpinClient other bytes answer goes_on w alone apart none = link_waits Spin bytes answer other w alone none
takes_wait SpinServer other bytes answer goes_on w alone apart none = serves_on (λ v. waits_at other v ≡ []) (λ v is. pumped_waits other v apart ∙ is) bytes answer goes_on w (spin_waits bytes answer other w apart ∙ none)

-- ---- What the proxy has for the gap line
pub put_replayed : (at : LinkEnd) (n : ℕ) (w : State) → (put_at at n w).replayed ≡ w.replayed
put_replayed at n w = grind arith

pub pumped_replayed : (n : ℕ) (w : State) → (pumped demo_unit default_limits n w).replayed ≡ w.replayed
pumped_replayed n w = pumps_on (λ v. v.replayed ≡ w.replayed) (λ v is. is) n w refl

pub served_replayed : (bytes : List ℕ) (answer : NetTaken) (goes_on : Bool) (w : State) → (server_takes Spin bytes answer goes_on w).replayed ≡ w.replayed
served_replayed bytes answer goes_on w = serves_on (λ v. v.replayed ≡ w.replayed) (λ v is. is) bytes answer goes_on w (grind arith)

settled_replayed : (session : Kind) (w : State) → (settled demo_unit default_limits session w).replayed ≡ w.replayed
settled_replayed session w = grind arith

pub ticked_replayed : (w : State) → (all_tick w).replayed ≡ w.replayed
ticked_replayed w =
    let passed : State = seconds demo_unit default_limits (done_with verbs.Advertise w) in
    settled_replayed Spin (settled demo_unit default_limits Grp passed) ∙ settled_replayed Grp passed

pub link_replayed : (session : Kind) (bytes : List ℕ) (answer : NetTaken) (w : State) → (link_takes session bytes answer w).replayed ≡ w.replayed
link_replayed session bytes (Got count) w = settled_replayed session (client_has demo_unit default_limits (took (at_client session) bytes) w)
link_replayed session bytes answer w = refl

-- ---- What comes on a line
block_waits : (at : LinkEnd) (line : Line) (block : Block) (w : State) → waits_at at (hears_block demo_unit default_limits line block w) ≡ waits_at at w
block_waits at line block w = grind arith

pub heard_waits : (at : LinkEnd) (line : Line) (bytes : List ℕ) (answer : NetTaken) (w : State) → waits_at at (heard_by line bytes answer w) ≡ waits_at at w
heard_waits at line bytes (Got count) w = hears_on (λ v. waits_at at v ≡ waits_at at w) line (λ block v is. block_waits at line block v ∙ is) (of_unit demo_unit (blocks_of bytes)) w refl
heard_waits at line bytes answer w = refl

pub heard_replayed : (line : Line) (bytes : List ℕ) (answer : NetTaken) (w : State) → (heard_by line bytes answer w).replayed ≡ w.replayed
heard_replayed line bytes (Got count) w = hears_on (λ v. v.replayed ≡ w.replayed) line (λ block v is. is) (of_unit demo_unit (blocks_of bytes)) w refl
heard_replayed line bytes answer w = refl
