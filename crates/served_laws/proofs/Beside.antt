-- What comes to a client's end beside a venue's end is of that venue.
use Rattle.std.proofs.Common.{◌≡◌, ℕ, zero, suc, ◌+◌, ◌≤◌, ◌<◌, List, [], ◌∷◌, ◌++◌, length, drop, refl, sym, ap, ◌∙◌, subst, arith, append_assoc, length-append, Option, Some, None, inr}
use Rattle.std.specs.Prelude.{Contains}
use Rattle.std.specs.List.{AllByRecursion}
use Rattle.std.proofs.lemmas.List.{length-drop}
use mathlib.Core.List.{IsPrefix}
use Rattle.pitch_fields.proofs.Lists.{all_append, all_drop, all_split}
use Rattle.pitch_messages.specs.Raw.{IsRaw}
use Rattle.unit_packets.specs.Blocks.{Block}
use Rattle.unit_packets.specs.Cutting.{blocks_of}
use Rattle.unit_packets.specs.Packing.{packed}
use Rattle.unit_packets.proofs.OnePacking.{packing_is_computed}
use Rattle.pitch_model.specs.History.{Raw}
use Rattle.heard_items.specs.Datagrams.{IsPiece, IsVenueBlock}
use Rattle.heard_items.proofs.Datagrams.{heartbeat_piece, packing_pieces, pieces_more, venues_after}
use Rattle.session_ends.specs.Sending.{new_items}
use Rattle.grp_session.specs.layers.Feeding.{AreSequenced}
use Rattle.grp_session.specs.Serving.{Source}
use Rattle.grp_session.proofs.Replies.{proxy_pieces, views_same}
use Rattle.spin_path.specs.PathLaws.{HasWholeImages}
use Rattle.client_end.specs.Came.{Came, EndSetup, Heard, GrpMade, GrpTook, GrpCut, GrpLost, end_history}
use Rattle.client_end.specs.Came as client
use Rattle.unit_market.specs.Markets.{kept_view}
use Rattle.venue_end.specs.Came.{VenueCame, VenueState, Commanded, Flushed, Beaten, Advertised, ProxyMade, ProxyTook, ProxyPut, ProxyCut, SpinMade, SpinTook, SpinPumped, SpinPut, SpinCut, Second, AllCut, answers_in, journal_in, on_gap_line, on_lines, proxy_source, venue_after}
use Rattle.venue_end.specs.Servers.{proxy_setup}
use Rattle.venue_end.specs.Sessions.{Session, session_of}
use Rattle.venue_end.specs.Stands.{VenueStands}
use Rattle.venue_end.specs.declared.setup.VenueSetup.{VenueSetup}
use Rattle.venue_end.specs.declared.venue.VenueEnd.{VenueEnd}
use Rattle.served_laws.specs.Beside.{ComesBeside, IsHandedOut, IsPut, MayReach, handed_out}
use Rattle.served_laws.specs.Coming.{ComesFrom, IsSaid, MayCome, spin_bytes}
use Rattle.served_laws.specs.Laws.{BesideComesFrom, BesideIsHonest, BesideIsWhole, BesideStays, HandedOutArePieces}
use Rattle.served_laws.specs.Putting.{put_of}
use Rattle.served_laws.proofs.Growing.{grows_at, sent_within}
use Rattle.served_laws.proofs.Hearing.{served_is_whole}
use Rattle.served_laws.proofs.Putting.{put_stays_said}

-- ---- Lists
pub all_contained : {A : Type 0} (P : A → Type 0) (xs : List A) (x : A) → AllByRecursion P xs → Contains xs x → P x
all_contained P [] x all (k, within, is) = absurd (omega (arith, within))
all_contained P (y ∷ ys) x all (zero, within, is) = subst P is all.0
all_contained P (y ∷ ys) x all (suc k, within, is) = all_contained P ys x all.1 (k, omega (arith, within), is)

pub prefix_on : (xs ys zs : List ℕ) → IsPrefix xs ys → IsPrefix ys zs → IsPrefix xs zs
prefix_on xs ys zs first second = (first.0 ++ second.0, sym (append_assoc xs first.0 second.0) ∙ ap (λ (l : List ℕ). l ++ second.0) first.1 ∙ second.1)

-- ---- What is handed out
module _ (s : VenueSetup) where
  fewer : (V more : List Raw) → AreSequenced s.unit (V ++ more) → AreSequenced s.unit V
  fewer V more are = record {
    small = are.small;
    raws = (all_split IsRaw V more are.raws).0;
    top = (let top = are.top in omega (arith, top, length-append V more));
  }

  pending_pieces : (V : List Raw) (sent : ℕ) → AreSequenced s.unit V → sent ≤ length V → AllByRecursion (IsPiece V s.unit) (packed s.unit (sent + 1) (drop sent V))
  pending_pieces V sent are within =
      let top = are.top in
      let long = length-drop sent V in
      packing_pieces V s.unit (sent + 1) (drop sent V) (packed s.unit (sent + 1) (drop sent V)) (omega arith) (omega (arith, within, long)) (venues_after V sent)
      (packing_is_computed s.unit (sent + 1) (drop sent V) are.small (all_drop IsRaw sent V are.raws) (inr (inr (omega (arith, within, long, top)))))

  answer_pieces : (now : VenueState) (bytes : List ℕ) (session : Option (Session Source)) → AreSequenced s.unit now.messages → AllByRecursion (IsPiece now.messages s.unit) (answers_in s now bytes session).lines
  answer_pieces now bytes None are = tt
  answer_pieces now bytes (Some session) are =
      proxy_pieces now.messages s.unit are.small are.raws are.top (proxy_setup s) session.happened bytes (proxy_source s now session.happened bytes) refl
      (views_same (length (new_items session.happened bytes)) (kept_view (journal_in s now)) now.messages refl)

  handed_pieces : (came : VenueCame) (now : VenueState) → AreSequenced s.unit now.messages → now.sent ≤ length now.messages → AllByRecursion (IsPiece now.messages s.unit) (on_lines s came now ++ on_gap_line s came now)
  handed_pieces Flushed now are within = all_append (IsPiece now.messages s.unit) (on_lines s Flushed now) [] (pending_pieces now.messages now.sent are within) tt
  handed_pieces Beaten now are within =
      let top = are.top in
      (heartbeat_piece now.messages s.unit (now.sent + 1) are.small (omega arith) (omega (arith, within)) (omega (arith, within, top)), tt)
  handed_pieces (ProxyTook id bytes) now are within = answer_pieces now bytes (session_of id now.proxies) are
  handed_pieces (Commanded command) now are within = tt
  handed_pieces Advertised now are within = tt
  handed_pieces (ProxyMade id) now are within = tt
  handed_pieces (ProxyPut id count) now are within = tt
  handed_pieces (ProxyCut id) now are within = tt
  handed_pieces (SpinMade id) now are within = tt
  handed_pieces (SpinTook id bytes) now are within = tt
  handed_pieces (SpinPumped id) now are within = tt
  handed_pieces (SpinPut id count) now are within = tt
  handed_pieces (SpinCut id) now are within = tt
  handed_pieces Second now are within = tt
  handed_pieces AllCut now are within = tt

  pub all_pieces : (before : List VenueCame) → AreSequenced s.unit (venue_after s before).messages → AllByRecursion (IsPiece (venue_after s before).messages s.unit) (handed_out s before)
  all_pieces [] are = tt
  all_pieces (came ∷ before) are =
      let now : VenueState = venue_after s before in
      let g = grows_at s came now in
      let then : AreSequenced s.unit now.messages = fewer now.messages g.more (subst (AreSequenced s.unit) g.messages_are are) in
      let both = all_append (IsPiece now.messages s.unit) (handed_out s before) (on_lines s came now ++ on_gap_line s came now) (all_pieces before then) (handed_pieces came now then (sent_within s before)) in
      subst (λ (V : List Raw). AllByRecursion (IsPiece V s.unit) (handed_out s (came ∷ before))) (sym g.messages_are)
      (pieces_more now.messages g.more s.unit (handed_out s (came ∷ before)) both)

-- ---- What comes
module _ (s : VenueSetup) (before : List VenueCame) (are : AreSequenced s.unit (venue_after s before).messages) where
  abbrev V : List Raw
  V = (venue_after s before).messages

  handed_block : (block : Block) → IsHandedOut s before block → IsVenueBlock V s.unit block
  handed_block block is =
      let piece : IsPiece V s.unit is.datagram = all_contained (IsPiece V s.unit) (handed_out s before) is.datagram (all_pieces s before are) is.sent in
      all_contained (IsVenueBlock V s.unit) (blocks_of is.datagram) block piece.blocks is.within

  put_said : (bytes : List ℕ) → IsPut s before bytes → IsSaid V s.unit bytes
  put_said bytes is =
      let said : IsSaid V s.unit (put_of s is.id is.first) = subst (λ (all : List VenueCame). IsSaid (venue_after s all).messages s.unit (put_of s is.id is.first)) (sym is.before_is) (put_stays_said s is.later is.first is.id are.small) in
      record {
        setup = said.setup;
        server = said.server;
        unit_is = said.unit_is;
        happened = said.happened;
        served = said.served;
        begins = prefix_on bytes (put_of s is.id is.first) _ is.begins said.begins;
      }

  comes : (new : Came) (came : List Came) → MayReach s before new came → MayCome V s.unit new came
  comes (Heard block) came may = handed_block block may
  comes (client.SpinTook bytes) came may = put_said (spin_bytes came ++ bytes) may
  comes (client.SpinLost bytes count) came may = put_said (spin_bytes came ++ bytes) may
  comes GrpMade came may = tt
  comes (GrpTook bytes) came may = tt
  comes GrpCut came may = tt
  comes (GrpLost bytes count) came may = tt
  comes client.SpinMade came may = tt
  comes client.SpinCut came may = tt
  comes client.Second came may = tt

  pub all_come : (came : List Came) → ComesBeside s before came → ComesFrom V s.unit came
  all_come [] all = tt
  all_come (new ∷ came) all = (comes new came all.0, all_come came all.1)

-- ---- An end that stands for what came
sequenced : (s : VenueSetup) (venue : VenueEnd) (before : List VenueCame) → s.unit < 256 → VenueStands s venue before → AreSequenced s.unit (venue_after s before).messages
sequenced s venue before small stands = let has = stands.market.venue in record { small = small; raws = has.raws; top = has.few }

pub handed_out_are_pieces : HandedOutArePieces
handed_out_are_pieces s venue before small stands = all_pieces s before (sequenced s venue before small stands)

pub beside_comes_from : BesideComesFrom
beside_comes_from s venue before came small stands all = all_come s before (sequenced s venue before small stands) came all

beside_whole : (s : VenueSetup) (venue : VenueEnd) (before : List VenueCame) (c : EndSetup) (came : List Came) → s.unit < 256 → VenueStands s venue before → c.unit ≡ s.unit → ComesBeside s before came → HasWholeImages (venue_after s before).messages (end_history c came)
beside_whole s venue before c came small stands same all =
    let has = stands.market.venue in
    let V : List Raw = (venue_after s before).messages in
    served_is_whole V c came (record { bytes = has.bytes; top = has.few }) (subst (λ (u : ℕ). ComesFrom V u came) (sym same) (beside_comes_from s venue before came small stands all))

pub beside_is_honest : BesideIsHonest
beside_is_honest s venue before c came small stands same all = (beside_whole s venue before c came small stands same all).honest

pub beside_is_whole : BesideIsWhole
beside_is_whole s venue before c came small stands same all = (beside_whole s venue before c came small stands same all).never

-- ---- Later
contained_first : {A : Type 0} (xs ys : List A) (x : A) → Contains xs x → Contains (xs ++ ys) x
contained_first [] ys x (k, within, is) = absurd (omega (arith, within))
contained_first (z ∷ xs) ys x (zero, within, is) = (zero, omega arith, is)
contained_first (z ∷ xs) ys x (suc k, within, is) = let rest = contained_first xs ys x (k, omega (arith, within), is) in (suc rest.0, let less = rest.1 in omega (arith, less), rest.2)

module _ (s : VenueSetup) where
  pub handed_on : (later before : List VenueCame) (datagram : List ℕ) → Contains (handed_out s before) datagram → Contains (handed_out s (later ++ before)) datagram
  handed_on [] before datagram is = is
  handed_on (new ∷ later) before datagram is = contained_first (handed_out s (later ++ before)) _ datagram (handed_on later before datagram is)

  pub put_on : (later before : List VenueCame) (bytes : List ℕ) → IsPut s before bytes → IsPut s (later ++ before) bytes
  put_on later before bytes is = record {
    later = later ++ is.later;
    first = is.first;
    before_is = ap (λ (l : List VenueCame). later ++ l) is.before_is ∙ sym (append_assoc later is.later is.first);
    id = is.id;
    begins = is.begins;
  }

  pub reaches_on : (later before : List VenueCame) (new : Came) (came : List Came) → MayReach s before new came → MayReach s (later ++ before) new came
  reaches_on later before (Heard block) came may = record { datagram = may.datagram; sent = handed_on later before may.datagram may.sent; within = may.within }
  reaches_on later before (client.SpinTook bytes) came may = put_on later before (spin_bytes came ++ bytes) may
  reaches_on later before (client.SpinLost bytes count) came may = put_on later before (spin_bytes came ++ bytes) may
  reaches_on later before GrpMade came may = tt
  reaches_on later before (GrpTook bytes) came may = tt
  reaches_on later before GrpCut came may = tt
  reaches_on later before (GrpLost bytes count) came may = tt
  reaches_on later before client.SpinMade came may = tt
  reaches_on later before client.SpinCut came may = tt
  reaches_on later before client.Second came may = tt

pub beside_stays : BesideStays
beside_stays s later before [] all = tt
beside_stays s later before (new ∷ came) all = (reaches_on s later before new came all.0, beside_stays s later before came all.1)
