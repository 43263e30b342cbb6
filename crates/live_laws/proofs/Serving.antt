-- What a run sends and puts is honest for whoever hears it.
use Rattle.std.proofs.Common.{◌≡◌, ℕ, zero, suc, ◌<◌, true, false, List, [], ◌∷◌, ◌++◌, refl, sym, ap, ◌∙◌, subst, arith, append_assoc, None, Some, slice_get, inl, inr}
use Rattle.std.specs.Prelude.{Contains}
use Rattle.std.proofs.lemmas.Option.{same_Some}
use mathlib.Core.List.{IsPrefix}
use Rattle.pitch_model.specs.History.{Raw}
use Rattle.spin_path.specs.Paths.{all_said}
use Rattle.client_core.proofs.Venues.{own_venue}
use Rattle.client_end.specs.Came.{Came, end_history, Heard, SpinTook, SpinLost, SpinMade, SpinCut, GrpMade, GrpTook, GrpCut, GrpLost, Second}
use Rattle.live_units.specs.Coming.{came_to, end_setup}
use Rattle.live_units.proofs.Books.{live_text_of_all}
use Rattle.live_net.specs.declared.live.PeerPut.TheVariants as put
use Rattle.venue_end.specs.Came.{VenueCame, venue_after}
use Rattle.venue_end.specs.declared.setup.VenueSetup.{VenueSetup}
use Rattle.venue_net.specs.VenueCalls.{VenueCall, Wait, Read, Send, Accept, Take, Put, Close}
use Rattle.venue_units.specs.Coming.{UnitCame, state_at, to_unit}
use Rattle.venue_units.specs.Coming as venue
use Rattle.venue_units.specs.Places.{is_spin, unit_of}
use Rattle.live_venue.specs.Running.{Brings, Now, Runs}
use Rattle.live_venue.specs.Serving.{SendsPieces}
use Rattle.served_laws.specs.Coming.{ComesFrom, IsSaid, MayCome, spin_bytes}
use Rattle.served_laws.proofs.Beside.{prefix_on}
use Rattle.served_laws.proofs.Hearing.{served_is_whole}
use Rattle.served_laws.proofs.Putting.{put_is_said}
use Rattle.served_laws.proofs.Staying.{said_more}
use Rattle.venue_units.proofs.Messages.{messages_grow}
use Rattle.live_laws.specs.Laws.{AreNumbered, BooksAreTheVenues, HearersAreHonest, HearingStays, NoCopiesDiffer}
use Rattle.live_laws.specs.Sent.{IsPut, MayReach, UnitHears, messages_of, was_put}
use Rattle.live_laws.proofs.Bringing.{AlsoBy, AreCalm, brings_keeps}
use Rattle.live_laws.proofs.Carrying.{carried_is_heard}
use Rattle.live_laws.proofs.Putting.{put_is}
use Rattle.live_laws.proofs.Sending.{feed_of, messages_found, messages_there, sent_is_venues, unit_there}

-- ---- The first calls of a run
-- more came since
pub Extends : List UnitCame → List UnitCame → Type 0
Extends first came = (later : List UnitCame) × (came ≡ later ++ first)

module _ (first : List UnitCame) where
  extends_on : (at : ℕ) (came : VenueCame) (before : List UnitCame) → Unit {0} → Extends first before → Extends first (to_unit at came ∷ before)
  unfolding Extends
  extends_on at came before any (later, is) = (to_unit at came ∷ later, ap (λ (l : List UnitCame). to_unit at came ∷ l) is)

  any_is_calm : AreCalm (λ came. Unit {0})
  any_is_calm = record { flushed = tt; second = tt; all_cut = tt; advertised = tt; took = λ place bytes. tt; cut = λ place. tt; pumped = λ place. tt }

  brings_extends : (s : List VenueSetup) (call : VenueCall) (now now' : Now) → AlsoBy (λ came. Unit {0}) call → Brings s call now now' → Extends first now.came → Extends first now'.came
  brings_extends s call now now' also e is = brings_keeps (λ came. Unit {0}) (Extends first) any_is_calm extends_on s call now now' also e is

-- whatever may come by a call may
also_any : (call : VenueCall) → AlsoBy (λ came. Unit {0}) call
also_any (Read room bytes answer) = λ command. tt
also_any (Accept place true) = tt
also_any (Accept place false) = tt
also_any (Put place piece put.Full) = tt
also_any (Put place piece put.Ended) = tt
also_any (Put place piece (put.Wrote n)) = tt
also_any (Wait more answer) = tt
also_any (Send line datagram) = tt
also_any (Take place room bytes answer) = tt
also_any (Close place) = tt

-- where a run stood after its first calls
pub record Stood (s : List VenueSetup) (first : List VenueCall) (now : Now) : Type 0 where
  pub then : Now
  pub runs : Runs s first then
  pub extends : Extends then.came now.came

module _ (s : List VenueSetup) (first : List VenueCall) where
  stood_on : (call : VenueCall) (before now : Now) → Brings s call before now → Stood s first before → Stood s first now
  stood_on call before now e is = record { then = is.then; runs = is.runs; extends = brings_extends is.then.came s call before now (also_any call) e is.extends }

  pub stood : (later : List VenueCall) (now : Now) → Runs s (later ++ first) now → Stood s first now
  unfolding Extends
  stood [] now runs = record { then = now; runs = runs; extends = ([], refl) }
  stood (Send line datagram ∷ later) now (before, (runs, e)) =
      let is = stood later before runs in
      record { then = is.then; runs = is.runs; extends = subst (Extends is.then.came) (ap (λ (n : Now). n.came) e) is.extends }
  stood (Wait more answer ∷ later) now (before, (runs, on)) = stood_on (Wait more answer) before now on.brings (stood later before runs)
  stood (Read room bytes answer ∷ later) now (before, (runs, on)) = stood_on (Read room bytes answer) before now on.brings (stood later before runs)
  stood (Accept place came ∷ later) now (before, (runs, on)) = stood_on (Accept place came) before now on.brings (stood later before runs)
  stood (Take place room bytes answer ∷ later) now (before, (runs, on)) = stood_on (Take place room bytes answer) before now on.brings (stood later before runs)
  stood (Put place piece answer ∷ later) now (before, (runs, on)) = stood_on (Put place piece answer) before now on.brings (stood later before runs)
  stood (Close place ∷ later) now (before, (runs, on)) = stood_on (Close place) before now on.brings (stood later before runs)

-- ---- Bytes
numbered_at : (s : List VenueSetup) (at : ℕ) (setup : VenueSetup) → AreNumbered s → slice_get s at ≡ Some setup → setup.unit < 256
numbered_at [] at setup are there = absurd (let none : None ≡ Some setup = there in cc)
numbered_at (first ∷ others) zero setup are there = subst (λ (made : VenueSetup). made.unit < 256) (same_Some first setup there) are.0
numbered_at (first ∷ others) (suc at) setup are there = numbered_at others at setup are.1 there

said_nothing_put : (s : VenueSetup) (before : List VenueCame) (bytes : List ℕ) → s.unit < 256 → bytes ≡ [] → IsSaid (venue_after s before).messages s.unit bytes
said_nothing_put s before bytes small nothing =
    let said = put_is_said s before 0 small in
    record {
      setup = said.setup;
      server = said.server;
      unit_is = said.unit_is;
      happened = said.happened;
      served = said.served;
      begins = subst (λ (l : List ℕ). IsPrefix l (all_said said.setup said.happened)) (sym nothing) (all_said said.setup said.happened, refl);
    }

module _ (s : List VenueSetup) (numbered : AreNumbered s) where
  -- what was put at a place was said by a Spin Server of the unit's messages by then
  said_then : (run : List VenueCall) (now : Now) (place : ℕ) (setup : VenueSetup) → slice_get s (unit_of place) ≡ Some setup → is_spin place ≡ true → Runs s run now → IsSaid (state_at setup (unit_of place) now.came).messages setup.unit (was_put place run)
  said_then run now place setup there spins runs = elim (put_is s place setup there spins run now runs) [
    | inl is ↦ subst (IsSaid (state_at setup (unit_of place) now.came).messages setup.unit) (sym is) (put_is_said setup (venue.came_to (unit_of place) now.came) place (numbered_at s (unit_of place) setup numbered there))
    | inr (nothing, none) ↦ said_nothing_put setup (venue.came_to (unit_of place) now.came) (was_put place run) (numbered_at s (unit_of place) setup numbered there) nothing
  ]

  -- and by one of all that it accepted later
  said_since : (run : List VenueCall) (now : Now) (unit : ℕ) (bytes : List ℕ) → Runs s run now → IsPut s run unit bytes → IsSaid (messages_of s now.came unit) unit bytes
  unfolding Extends
  said_since run now unit bytes runs is =
      let its = unit_there s unit is.at is.is_at in
      let there : slice_get s (unit_of is.place) ≡ Some its.0 = subst (λ (n : ℕ). slice_get s n ≡ Some its.0) (sym is.unit_is) its.1.0 in
      let at_first : Stood s is.first now = stood s is.first is.later now (subst (λ (r : List VenueCall). Runs s r now) is.run_is runs) in
      let came : List UnitCame = at_first.then.came in
      let said : IsSaid (state_at its.0 (unit_of is.place) came).messages its.0.unit (was_put is.place is.first) = said_then is.first at_first.then is.place its.0 there is.at_spin at_first.runs in
      let grown = messages_grow its.0 (unit_of is.place) at_first.extends.0 came in
      let more : IsSaid ((state_at its.0 (unit_of is.place) came).messages ++ grown.0) its.0.unit (was_put is.place is.first) = said_more (state_at its.0 (unit_of is.place) came).messages grown.0 its.0.unit (was_put is.place is.first) said in
      let same : (state_at its.0 (unit_of is.place) came).messages ++ grown.0 ≡ messages_of s now.came unit =
      sym grown.1 ∙ ap (λ (c : List UnitCame). (state_at its.0 (unit_of is.place) c).messages) (sym at_first.extends.1) ∙ ap (λ (n : ℕ). (state_at its.0 n now.came).messages) is.unit_is
      ∙ sym (messages_found s now.came unit is.at is.is_at ∙ messages_there s now.came is.at its.0 its.1.0) in
      let all : IsSaid (messages_of s now.came unit) unit (was_put is.place is.first) =
      subst (λ (n : ℕ). IsSaid (messages_of s now.came unit) n (was_put is.place is.first)) its.1.1 (subst (λ (V : List Raw). IsSaid V its.0.unit (was_put is.place is.first)) same more) in
      record {
        setup = all.setup;
        server = all.server;
        unit_is = all.unit_is;
        happened = all.happened;
        served = all.served;
        begins = prefix_on bytes (was_put is.place is.first) (all_said all.setup all.happened) is.begins all.begins;
      }

  -- ---- All that comes
  module _ (run : List VenueCall) (now : Now) (runs : Runs s run now) (pieces : SendsPieces s now.came run) (unit : ℕ) where
    may_come : (new : Came) (came : List Came) → MayReach s run unit new came → MayCome (messages_of s now.came unit) unit new came
    may_come (Heard block) came may = sent_is_venues s now.came run unit block pieces may
    may_come (SpinTook bytes) came may = said_since run now unit (spin_bytes came ++ bytes) runs may
    may_come (SpinLost bytes count) came may = said_since run now unit (spin_bytes came ++ bytes) runs may
    may_come SpinMade came may = tt
    may_come SpinCut came may = tt
    may_come GrpMade came may = tt
    may_come (GrpTook bytes) came may = tt
    may_come GrpCut came may = tt
    may_come (GrpLost bytes count) came may = tt
    may_come Second came may = tt

    all_come : (came : List Came) → UnitHears s run unit came → ComesFrom (messages_of s now.came unit) unit came
    all_come [] all = tt
    all_come (new ∷ came) all = (may_come new came all.0, all_come came all.1)

pub hearers_are_honest : HearersAreHonest
hearers_are_honest s result old new served c came numbered hears = λ unit.
    let feed = feed_of s served.now.came served.feeds unit in
    let V : List Raw = messages_of s served.now.came unit in
    own_venue V (end_history (end_setup c unit) (came_to unit came)) feed.bytes
    (served_is_whole V (end_setup c unit) (came_to unit came) feed
    (all_come s numbered served.run served.now served.runs served.pieces unit (came_to unit came) (hears unit))).honest

pub books_are_the_venues : BooksAreTheVenues
books_are_the_venues s result old new served c counts before after out heard numbered apart all =
    let hears = carried_is_heard s served.run c heard.run heard.now apart heard.is_run.runs all in
    live_text_of_all c.listens heard.now.came (messages_of s served.now.came) heard.text heard.is_end.text_is (hearers_are_honest s result old new served c.listens heard.now.came numbered hears)

pub no_copies_differ : NoCopiesDiffer
no_copies_differ s result old new served c d before after out heard numbered apart all =
    let hears = carried_is_heard s served.run c heard.run heard.now apart heard.is_run.runs all in
    heard.is_end.of_none (messages_of s served.now.came d.unit) (hearers_are_honest s result old new served c.listens heard.now.came numbered hears d.unit)

-- ---- Later
contained_last : {A : Type 0} (xs ys : List A) (y : A) → Contains ys y → Contains (xs ++ ys) y
contained_last [] ys y is = is
contained_last (x ∷ xs) ys y is = let rest = contained_last xs ys y is in (suc rest.0, let less = rest.1 in omega (arith, less), rest.2)

module _ (s : List VenueSetup) (later run : List VenueCall) (unit : ℕ) where
  put_later : (bytes : List ℕ) → IsPut s run unit bytes → IsPut s (later ++ run) unit bytes
  put_later bytes is = record {
    at = is.at;
    is_at = is.is_at;
    place = is.place;
    unit_is = is.unit_is;
    at_spin = is.at_spin;
    later = later ++ is.later;
    first = is.first;
    run_is = ap (λ (l : List VenueCall). later ++ l) is.run_is ∙ sym (append_assoc later is.later is.first);
    begins = is.begins;
  }

  reaches_later : (new : Came) (came : List Came) → MayReach s run unit new came → MayReach s (later ++ run) unit new came
  reaches_later (Heard block) came may = record {
    at = may.at;
    is_at = may.is_at;
    line = may.line;
    line_is = may.line_is;
    datagram = may.datagram;
    sent = contained_last later run (Send may.line may.datagram) may.sent;
    within = may.within;
  }
  reaches_later (SpinTook bytes) came may = put_later (spin_bytes came ++ bytes) may
  reaches_later (SpinLost bytes count) came may = put_later (spin_bytes came ++ bytes) may
  reaches_later SpinMade came may = tt
  reaches_later SpinCut came may = tt
  reaches_later GrpMade came may = tt
  reaches_later (GrpTook bytes) came may = tt
  reaches_later GrpCut came may = tt
  reaches_later (GrpLost bytes count) came may = tt
  reaches_later Second came may = tt

  hears_later : (came : List Came) → UnitHears s run unit came → UnitHears s (later ++ run) unit came
  hears_later [] all = tt
  hears_later (new ∷ came) all = (reaches_later new came all.0, hears_later came all.1)

pub hearing_stays : HearingStays
hearing_stays s later run came hears = λ unit. hears_later s later run unit (came_to unit came) (hears unit)
