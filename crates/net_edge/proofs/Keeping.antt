-- What stays as a world goes on: what its venue accepted and sent, how many seconds passed, and the
-- connections that were cut.
use Rattle.std.proofs.Common.{◌≡◌, ◌≤◌, ℕ, Bool, false, List, [], ◌∷◌, length, arith, Option, Some, None, is_some, refl, ◌∙◌}
use Rattle.pitch_io.specs.declared.line.Line.{Line}
use Rattle.pitch_io.specs.declared.net.LinkEnd.{LinkEnd}
use Rattle.pitch_io.specs.declared.net.LinkEnd.TheVariants.{GrpClient, GrpServer, SpinClient, SpinServer}
use Rattle.pitch_io.specs.declared.net.NetTaken.{NetTaken}
use Rattle.pitch_io.specs.declared.net.NetTaken.TheVariants.{Got, End}
use Rattle.pitch_model.specs.History.{Entry, GrpDown, SpinDown}
use Rattle.pitch_text.specs.declared.verb.Session.{Session as Kind}
use Rattle.pitch_text.specs.declared.verb.Session.TheVariants.{Grp, Spin}
use Rattle.unit_packets.specs.Blocks.{Block}
use Rattle.unit_packets.specs.Cutting.{blocks_of}
use Rattle.session_ends.specs.Closing.{Setup}
use Rattle.session_ends.specs.Events.{Event, Pumped}
use Rattle.client_links.specs.Linking.{Lookups}
use Rattle.client_end.specs.Came.{Came, EndState, Heard, end_step}
use Rattle.client_end.specs.Links.{gap_link, spin_link}
use Rattle.client_end.specs.Sessions.{settled_at, fed_at}
use Rattle.sending_end.specs.Waiting.{of_unit, took, ended}
use Rattle.spin_server.specs.Served.{Served}
use Rattle.venue_end.specs.Came.{VenueState, proxy_fed, spin_fed}
use Rattle.venue_end.specs.Servers.{spin_says}
use Rattle.venue_end.specs.Sessions.{Session, at_session, happens_at, puts, session_of, without}
use Rattle.world_model.specs.Ends.{at_client, default_limits, server_cut, stands, the_session}
use Rattle.world_model.specs.State.{State}
use Rattle.world_model.specs.Verbs.{client_has, settled, venue_has}
use Rattle.net_edge.specs.Acting.{heard_by as hears_by, link_takes, put_at, server_answers, takes}
use Rattle.net_edge.specs.Due.{demo_unit}
use Rattle.net_edge.specs.layers.Ends.{demo_client, demo_venue}
use Rattle.net_edge.proofs.Moving.{hears_on, serves_on, settles}
use Rattle.net_edge.proofs.Proxying.{answers_in_fit}

-- ---- The sessions of a server
module _ {X : Type 0} (id : ℕ) where
  at_many : (f : Session X → Session X) (ks : List (Session X)) → length (at_session id f ks) ≤ length ks
  at_many f [] = omega arith
  at_many f (k ∷ ks) = grind (arith, at_many f ks)

  without_many : (ks : List (Session X)) → length (without id ks) ≤ length ks
  without_many [] = omega arith
  without_many (k ∷ ks) = grind (arith, without_many ks)

-- ---- A world
-- what its venue accepted and sent, and the second; it has no more sessions; and what was cut stays
pub record EndsKeep (old new : VenueState) (client client' : EndState) : Type 0 where
  pub messages : new.messages ≡ old.messages
  pub sent : new.sent ≡ old.sent
  pub seconds : new.spent.now ≡ old.spent.now
  pub proxies : length new.proxies ≤ length old.proxies
  pub spins : length new.spins ≤ length old.spins
  pub gone : (session : Kind) → stands session client ≡ false → stands session client' ≡ false

abbrev pub Keeps : State → State → Type 0
Keeps w v = EndsKeep w.venue v.venue w.client v.client

pub keeps_none : (w : State) → Keeps w w
keeps_none w = record { messages = refl; sent = refl; seconds = refl; proxies = omega arith; spins = omega arith; gone = λ session is. is }

pub keeps_then : {a b c : VenueState} {x y z : EndState} → EndsKeep a b x y → EndsKeep b c y z → EndsKeep a c x z
keeps_then one two = record {
  messages = two.messages ∙ one.messages;
  sent = two.sent ∙ one.sent;
  seconds = two.seconds ∙ one.seconds;
  proxies = omega (arith, one.proxies, two.proxies);
  spins = omega (arith, one.spins, two.spins);
  gone = λ session is. two.gone session (one.gone session is);
}

client_keeps : (came : Came) (w : State) → ((session : Kind) → stands session w.client ≡ false → stands session (end_step demo_client came w.client) ≡ false) → Keeps w (client_has demo_unit default_limits came w)
client_keeps came w gone = record { messages = refl; sent = refl; seconds = refl; proxies = omega arith; spins = omega arith; gone = gone }

-- ---- What is put and served
pub put_keeps : (at : LinkEnd) (n : ℕ) (w : State) → Keeps w (put_at at n w)
put_keeps GrpServer n w = record { messages = refl; sent = refl; seconds = refl; proxies = at_many the_session (puts n) w.venue.proxies; spins = omega arith; gone = λ session is. is }
put_keeps SpinServer n w = record { messages = refl; sent = refl; seconds = refl; proxies = omega arith; spins = at_many the_session (puts n) w.venue.spins; gone = λ session is. is }
put_keeps at n w = keeps_none w

cut_keeps : (session : Kind) (w : State) → Keeps w (venue_has demo_unit default_limits (server_cut session) w)
cut_keeps Grp w = record { messages = refl; sent = refl; seconds = refl; proxies = without_many the_session w.venue.proxies; spins = omega arith; gone = λ session is. is }
cut_keeps Spin w = record { messages = refl; sent = refl; seconds = refl; proxies = omega arith; spins = without_many the_session w.venue.spins; gone = λ session is. is }

spins_keep : (becomes : Session (List Served) → Session (List Served)) (w : State) → Keeps w (record w { venue = record w.venue { spins = at_session the_session becomes w.venue.spins } })
spins_keep becomes w = record { messages = refl; sent = refl; seconds = refl; proxies = omega arith; spins = at_many the_session becomes w.venue.spins; gone = λ session is. is }

answers_keep : (session : Kind) (bytes : List ℕ) (answer : NetTaken) (w : State) → Keeps w (server_answers session bytes answer w)
answers_keep Grp bytes (Got count) w = record {
  messages = refl;
  sent = refl;
  seconds = (answers_in_fit (λ xs. Unit {0}) tt (λ xs ys p q. tt) (λ v. Unit {0}) (λ status unit first count v q. tt) w.venue bytes (session_of the_session w.venue.proxies) tt).0;
  proxies = at_many the_session (proxy_fed demo_venue w.venue bytes) w.venue.proxies;
  spins = omega arith;
  gone = λ session is. is;
}
answers_keep Spin bytes (Got count) w = spins_keep (spin_fed demo_venue w.venue bytes) w
answers_keep session bytes answer w = keeps_none w

-- ---- What comes to the client's end
pub settled_keeps : (session : Kind) (w : State) → Keeps w (settled demo_unit default_limits session w)
settled_keeps session w = settles (Keeps w) session w (keeps_none w) (cut_keeps session w)

-- a link that is not there does not come back
took_gone : (setup : Setup) (down : Entry) (bytes : List ℕ) (E : List Entry) (link : Option (List (Event Lookups))) → is_some link ≡ false → is_some (settled_at setup down (fed_at setup bytes E link).heard (fed_at setup bytes E link).link).link ≡ false
took_gone setup down bytes E None gone = refl
took_gone setup down bytes E (Some events) gone = absurd (cc)

client_gone : (at : Kind) (bytes : List ℕ) (now : EndState) (session : Kind) → stands session now ≡ false → stands session (end_step demo_client (took (at_client at) bytes) now) ≡ false
client_gone Grp bytes now Grp gone = took_gone gap_link GrpDown bytes now.heard now.grp gone
client_gone Grp bytes now Spin gone = gone
client_gone Spin bytes now Grp gone = gone
client_gone Spin bytes now Spin gone = took_gone (spin_link demo_unit) SpinDown bytes now.heard now.spin gone

ended_gone : (at : Kind) (now : EndState) (session : Kind) → stands session now ≡ false → stands session (end_step demo_client (ended (at_client at)) now) ≡ false
ended_gone at now session gone = grind arith

heard_gone : (block : Block) (now : EndState) (session : Kind) → stands session now ≡ false → stands session (end_step demo_client (Heard block) now) ≡ false
heard_gone block now session gone = grind arith

links_keep : (session : Kind) (bytes : List ℕ) (answer : NetTaken) (w : State) → Keeps w (link_takes session bytes answer w)
links_keep session bytes (Got count) w =
    keeps_then (client_keeps (took (at_client session) bytes) w (client_gone session bytes w.client)) (settled_keeps session (client_has demo_unit default_limits (took (at_client session) bytes) w))
links_keep session bytes End w = let v : State = venue_has demo_unit default_limits (server_cut session) w in keeps_then (cut_keeps session w) (client_keeps (ended (at_client session)) v (ended_gone session w.client))
links_keep session bytes answer w = keeps_none w

-- ---- A call
pub takes_keep : (at : LinkEnd) (bytes : List ℕ) (answer : NetTaken) (goes_on : Bool) (w : State) → Keeps w (takes at bytes answer goes_on w)
takes_keep GrpClient bytes answer goes_on w = links_keep Grp bytes answer w
takes_keep GrpServer bytes answer goes_on w = answers_keep Grp bytes answer w
takes_keep SpinClient bytes answer goes_on w = links_keep Spin bytes answer w
takes_keep SpinServer bytes answer goes_on w =
    serves_on (Keeps w) (λ v is. keeps_then is (spins_keep (happens_at (spin_says demo_venue) Pumped) v)) bytes answer goes_on w (answers_keep Spin bytes answer w)

pub heard_keeps : (line : Line) (bytes : List ℕ) (answer : NetTaken) (w : State) → Keeps w (hears_by line bytes answer w)
heard_keeps line bytes (Got count) w = hears_on (Keeps w) line (λ block v is. keeps_then is (client_keeps (Heard block) v (heard_gone block v.client))) (of_unit demo_unit (blocks_of bytes)) w (keeps_none w)
heard_keeps line bytes answer w = keeps_none w
