-- What a client's net carried of a run is what its units heard of it.
use Rattle.std.proofs.Common.{◌≡◌, inl, inr, ℕ, zero, suc, Bool, true, false, true≢false, cond, not, ◌==◌, ◌&&◌, ◌||◌, List, [], ◌∷◌, ◌++◌, is_some, refl, sym, ap, ◌∙◌, subst, Option, None, Some, slice_get}
use Rattle.std.specs.List.{AllByRecursion}
use Rattle.std.specs.Option.{option_map_or}
use Rattle.std.proofs.lemmas.Bool.{eq-eqb, eqb-true}
use Rattle.std.proofs.lemmas.Option.{same_Some}
use Rattle.unit_packets.specs.Blocks.{Block}
use Rattle.unit_packets.specs.Cutting.{blocks_of}
use Rattle.pitch_model.specs.Asking.{ask_of}
use Rattle.pitch_model.specs.History.{Entry, SpinDown}
use Rattle.pitch_model.specs.History as entry
use Rattle.pitch_model.specs.declared.ask.Ask.{Ask}
use Rattle.pitch_model.specs.declared.ask.Ask.TheVariants as asks
use Rattle.session_ends.specs.Closing.{Setup as LinkSetup}
use Rattle.session_ends.specs.Events.{Event, Ticked}
use Rattle.client_links.specs.Linking.{Lookups}
use Rattle.client_end.specs.Came.{Came, EndSetup, EndState, Heard, GrpMade, GrpTook, GrpCut, GrpLost, SpinMade, SpinTook, SpinCut, SpinLost, Second, ask_sent, both_links_tick, end_after, end_step, grp_link_ticks}
use Rattle.client_end.specs.Links.{spin_link}
use Rattle.client_end.specs.Sessions.{fed_at, happened, settled_at}
use Rattle.sending_end.specs.Waiting.{ended, lost, made, took}
use Rattle.sending_end.specs.declared.session.Session.{Session}
use Rattle.sending_end.specs.declared.session.Session.TheVariants.{Proxy, SpinServer}
use Rattle.live_net.specs.LiveCalls.{LiveCall, Wait, Receive, Open, Take, Put, Close}
use Rattle.live_net.specs.declared.net.Received.TheVariants as received
use Rattle.live_net.specs.declared.live.WaitEnd.TheVariants as wait_end
use Rattle.live_net.specs.declared.live.PeerOpened.{PeerOpened}
use Rattle.live_net.specs.declared.live.PeerOpened.TheVariants as opened
use Rattle.live_net.specs.declared.live.PeerTaken.{PeerTaken}
use Rattle.live_net.specs.declared.live.PeerTaken.TheVariants as taken
use Rattle.live_net.specs.declared.live.PeerPut.TheVariants as put
use Rattle.live_turns.specs.Due.{Ends, IsMade}
use Rattle.live_turns.specs.Retry.{begins_by, ends_by, stands}
use Rattle.live_turns.specs.declared.due.Due.{Due}
use Rattle.live_turns.specs.declared.due.Due.TheVariants as to
use Rattle.live_units.specs.Coming.{UnitCame, came_to, end_setup, has_unit, stands_at, state_at, to_unit, with_blocks, with_came, with_loss}
use Rattle.live_recovery.specs.Running.{Comes, Loses, Now, PassSeconds, PassesSecond, Runs, Setup, ends_now, has_link, ways}
use Rattle.live_recovery.specs.declared.peer.Peer.{Peer}
use Rattle.venue_end.specs.declared.setup.VenueSetup.{VenueSetup}
use Rattle.venue_net.specs.VenueCalls.{VenueCall}
use Rattle.served_laws.specs.Coming.{spin_bytes}
use Rattle.live_laws.specs.Carried.{AllCarried, AreApart, Carries, spin_peer, was_given}
use Rattle.live_laws.specs.Laws.{CarriedIsHeard}
use Rattle.live_laws.specs.Sent.{Hears, IsPut, IsSent, MayReach, UnitHears}
use Rattle.live_laws.proofs.Asking.{May, due_may}

-- ---- The link with a Spin Server
abbrev Link : Type 0
Link = Option (List (Event Lookups))

-- what comes and neither makes a connection with a Spin Server nor is bytes of one
abbrev IsPlain : Came → Type 0
IsPlain SpinMade = ⊥
IsPlain (SpinTook bytes) = ⊥
IsPlain (SpinLost bytes count) = ⊥
IsPlain came = Unit {0}

settled_link : (setup : LinkSetup) (down : Entry) (E : List Entry) (link : Link) → is_some (settled_at setup down E link).link ≡ true → is_some link ≡ true
settled_link setup down E None is = is
settled_link setup down E (Some events) is = refl

fed_link : (setup : LinkSetup) (bytes : List ℕ) (E : List Entry) (link : Link) → is_some (fed_at setup bytes E link).link ≡ true → is_some link ≡ true
fed_link setup bytes E None is = is
fed_link setup bytes E (Some events) is = refl

happened_link : (event : Event Lookups) (link : Link) → is_some (happened event link) ≡ true → is_some link ≡ true
happened_link event None is = is
happened_link event (Some events) is = refl

asked_link : (s : EndSetup) (ask : Option Ask) (now : EndState) → is_some (ask_sent s ask now).spin ≡ true → is_some now.spin ≡ true
asked_link s None now is = is
asked_link s (Some (asks.Gap first count)) now is = is
asked_link s (Some (asks.Spin sequence)) now is = happened_link _ now.spin is

-- where one stands after that, it stood before
plain_link : (s : EndSetup) (came : Came) (now : EndState) → IsPlain came → is_some (end_step s came now).spin ≡ true → is_some now.spin ≡ true
plain_link s (Heard block) now plain is = is
plain_link s GrpMade now plain is = is
plain_link s (GrpTook bytes) now plain is = is
plain_link s GrpCut now plain is = is
plain_link s (GrpLost bytes count) now plain is = is
plain_link s SpinMade now plain is = absurd plain
plain_link s (SpinTook bytes) now plain is = absurd plain
plain_link s SpinCut now plain is = absurd (true≢false (sym is))
plain_link s (SpinLost bytes count) now plain is = absurd plain
plain_link s Second now plain is =
    let ticked : EndState = both_links_tick s now in
    let ask : Option Ask = ask_of s.hold ticked.heard in
    let after : is_some ticked.spin ≡ true = asked_link s ask (record ticked { heard = entry.Ticked ask ∷ ticked.heard }) is in
    happened_link Ticked now.spin (settled_link (spin_link s.unit) SpinDown (grp_link_ticks now).heard (happened Ticked now.spin) after)

plain_bytes : (came : Came) (before : List Came) → IsPlain came → spin_bytes (came ∷ before) ≡ spin_bytes before
plain_bytes (Heard block) before plain = refl
plain_bytes GrpMade before plain = refl
plain_bytes (GrpTook bytes) before plain = refl
plain_bytes GrpCut before plain = refl
plain_bytes (GrpLost bytes count) before plain = refl
plain_bytes SpinMade before plain = absurd plain
plain_bytes (SpinTook bytes) before plain = absurd plain
plain_bytes SpinCut before plain = refl
plain_bytes (SpinLost bytes count) before plain = absurd plain
plain_bytes Second before plain = refl

both_hold : (a b : Bool) → (a && b) ≡ true → (a ≡ true) × (b ≡ true)
both_hold true true is = (refl, refl)
both_hold true false is = absurd (true≢false (sym is))
both_hold false b is = absurd (true≢false (sym is))

module _ (s : List VenueSetup) (run : List VenueCall) (c : Setup) (apart : AreApart c.peers) where
  abbrev IsAt : ℕ → ℕ → Type 0
  IsAt at unit = slice_get c.peers at ≡ Some (spin_peer unit)

  -- what may come to a unit
  abbrev Reaches : ℕ → Came → List UnitCame → Type 0
  Reaches unit new came = MayReach s run unit new (came_to unit came)

  -- the units heard what the run sent and put; and where a link stands, so does its connection, and
  -- its bytes are those that were given
  record Inv (given : ℕ → List ℕ) (up : ℕ → Bool) (came : List UnitCame) : Type 0 where
    hears : Hears s run came
    linked : (at unit : ℕ) → IsAt at unit → stands_at c.listens unit SpinServer came ≡ true → (up at ≡ true) × (spin_bytes (came_to unit came) ≡ given at)

  module _ (given : ℕ → List ℕ) (up : ℕ → Bool) where
    -- ---- What comes to a unit
    hears_one : (unit : ℕ) (new : Came) (came : List UnitCame) → Reaches unit new came → Hears s run came → Hears s run (to_unit unit new ∷ came)
    hears_one unit new came may hears = λ other. by other (unit == other) refl
      where
        by : (other : ℕ) (b : Bool) → (unit == other) ≡ b → UnitHears s run other (cond b (new ∷ came_to other came) (came_to other came))
        by other true same = (subst (λ (u : ℕ). MayReach s run u new (came_to u came)) (eqb-true unit other same) may, hears other)
        by other false differs = hears other

    -- by what is plain the link and its bytes stay, or it ends
    plain_one : (unit : ℕ) (new : Came) (came : List UnitCame) → IsPlain new → Reaches unit new came → Inv given up came → Inv given up (to_unit unit new ∷ came)
    plain_one unit new came plain may inv = record {
      hears = hears_one unit new came may inv.hears;
      linked = λ at other is. by at other is (unit == other);
    }
      where
        by : (at other : ℕ) → IsAt at other → (b : Bool)
            → (has_unit c.listens other && is_some (end_after (end_setup c.listens other) (cond b (new ∷ came_to other came) (came_to other came))).spin) ≡ true
            → (up at ≡ true) × (spin_bytes (cond b (new ∷ came_to other came) (came_to other came)) ≡ given at)
        by at other is true stands_after =
            let both = both_hold (has_unit c.listens other) _ stands_after in
            let link : is_some (state_at c.listens other came).spin ≡ true = plain_link (end_setup c.listens other) new (state_at c.listens other came) plain both.1 in
            let before : stands_at c.listens other SpinServer came ≡ true = ap (λ (b : Bool). b && is_some (state_at c.listens other came).spin) both.0 ∙ link in
            let known = inv.linked at other is before in
            (known.0, plain_bytes new (came_to other came) plain ∙ known.1)
        by at other is false stands_after = inv.linked at other is stands_after

    plain : (unit : ℕ) (new : Came) (came : List UnitCame) → IsPlain new → Reaches unit new came → Inv given up came → Inv given up (with_came c.listens (to_unit unit new) came)
    plain unit new came is may inv = by (has_unit c.listens unit)
      where
        by : (b : Bool) → Inv given up (cond b (to_unit unit new ∷ came) came)
        by true = plain_one unit new came is may inv
        by false = inv

    same : (a b : List UnitCame) → b ≡ a → Inv given up a → Inv given up b
    same a b e inv = subst (Inv given up) (sym e) inv

    blocks : (them : List Block) (came : List UnitCame) → AllByRecursion (λ block. IsSent s run block.unit block) them → Inv given up came → Inv given up (with_blocks c.listens them came)
    blocks [] came all inv = inv
    blocks (block ∷ them) came all inv = blocks them (with_came c.listens (to_unit block.unit (Heard block)) came) all.1 (plain block.unit (Heard block) came tt all.0 inv)

    loses : (unit : ℕ) (before : List UnitCame) (now now' : Now) → Loses c unit before now now' → Inv given up before → Inv given up now'.came
    loses unit before now now' is inv = same (with_loss c.listens unit before) now'.came is.came_is
        (plain unit SpinCut (with_came c.listens (to_unit unit GrpCut) before) tt tt (plain unit GrpCut before tt tt inv))

    comes : (unit : ℕ) (new : Came) (now now' : Now) → IsPlain new → Reaches unit new now.came → Comes c unit new now now' → Inv given up now.came → Inv given up now'.came
    comes unit new now now' is may on inv = same (with_came c.listens (to_unit unit new) now.came) now'.came on.came_is (plain unit new now.came is may inv)

    second : (unit : ℕ) (now now' : Now) → PassesSecond c unit now now' → Inv given up now.came → Inv given up now'.came
    second unit now now' (inl on) inv = comes unit Second now now' tt tt on inv
    second unit now now' (inr (inl is)) inv = loses unit now.came now now' is inv
    second unit now now' (inr (inr is)) inv = loses unit (with_came c.listens (to_unit unit Second) now.came) now now' is (plain unit Second now.came tt tt inv)

    seconds : (count : ℕ) (now now' : Now) → PassSeconds c count now now' → Inv given up now.came → Inv given up now'.came
    seconds zero now now' is inv = same now.came now'.came is.came_is inv
    seconds (suc unit) now now' (mid, (passed, next)) inv = second unit mid now' next (seconds unit now mid passed inv)

  -- ---- What a call does to a connection
  -- what a call leaves of others' connections and bytes
  weaker : (given given' : ℕ → List ℕ) (up up' : ℕ → Bool) (came : List UnitCame) → Inv given up came
      → ((at unit : ℕ) → IsAt at unit → up at ≡ true → stands_at c.listens unit SpinServer came ≡ true → (up' at ≡ true) × (given at ≡ given' at)) → Inv given' up' came
  weaker given given' up up' came inv keeps = record {
    hears = inv.hears;
    linked = λ at unit is stands_now.
        let known = inv.linked at unit is stands_now in
        let kept = keeps at unit is known.0 stands_now in
        (kept.0, known.1 ∙ kept.1);
  }

  stays_up : (at : ℕ) (call : LiveCall) (before : List LiveCall) → ends_by at call ≡ false → stands at before ≡ true → stands at (call ∷ before) ≡ true
  stays_up at call before goes is = by (begins_by at call)
    where
      by : (b : Bool) → (b || (not (ends_by at call) && stands at before)) ≡ true
      by true = refl
      by false = ap (λ (b : Bool). not b && stands at before) goes ∙ is

  abbrev InvOf : List LiveCall → List UnitCame → Type 0
  InvOf calls came = Inv (λ at. was_given at calls) (λ at. stands at calls) came

  -- what stands at the place of a Spin Server is that of one unit
  same_place : (at unit other : ℕ) (peer : Peer) → slice_get c.peers other ≡ Some peer → IsAt at unit → (other == at) ≡ true → peer ≡ spin_peer unit
  same_place at unit other peer there is same = same_Some peer (spin_peer unit) (sym there ∙ ap (λ (n : ℕ). slice_get c.peers n) (eqb-true other at same) ∙ is)

  -- a proxy stands elsewhere
  not_proxy : (at unit other : ℕ) (peer : Peer) → slice_get c.peers other ≡ Some peer → peer.session ≡ Proxy → IsAt at unit → (other == at) ≡ false
  not_proxy at unit other peer there proxy is = by (other == at) refl
    where
      by : (b : Bool) → (other == at) ≡ b → b ≡ false
      by true same =
          let both : Proxy ≡ SpinServer = sym proxy ∙ ap (λ (p : Peer). p.session) (same_place at unit other peer there is same) in
          absurd (let none : ⊥ = cc in none)
      by false differs = refl

  -- so does the Spin Server of another unit
  other_unit : (at unit other those : ℕ) → IsAt other those → IsAt at unit → (other == at) ≡ false → (those == unit) ≡ false
  other_unit at unit other those there is differs = by (those == unit) refl
    where
      by : (b : Bool) → (those == unit) ≡ b → b ≡ false
      by true same =
          let at_those : IsAt at those = subst (λ (u : ℕ). IsAt at u) (sym (eqb-true those unit same)) is in
          sym (eq-eqb other at (apart other at those there at_those)) ∙ differs
      by false apart = refl

  -- ---- Calls by which nobody's connection ends
  goes_on : (call : LiveCall) (before : List LiveCall) (came : List UnitCame) → ((at : ℕ) → ends_by at call ≡ false) → ((at unit : ℕ) → IsAt at unit → was_given at before ≡ was_given at (call ∷ before)) → InvOf before came → InvOf (call ∷ before) came
  goes_on call before came none keeps inv = weaker (λ at. was_given at before) (λ at. was_given at (call ∷ before)) (λ at. stands at before) (λ at. stands at (call ∷ before)) came inv
      (λ at unit is up now. (stays_up at call before (none at) up, keeps at unit is))

  -- something of a Spin Server's connection comes
  module _ (call : LiveCall) (before : List LiveCall) (came : List UnitCame) (other those : ℕ) (new : Came) (there : IsAt other those) (may : Reaches those new came) (none : (at : ℕ) → ends_by at call ≡ false)
      (others : (at : ℕ) → (other == at) ≡ false → was_given at before ≡ was_given at (call ∷ before)) (up : stands other (call ∷ before) ≡ true) (its : spin_bytes (new ∷ came_to those came) ≡ was_given other (call ∷ before)) (inv : InvOf before came) where
    spin_comes : InvOf (call ∷ before) (with_came c.listens (to_unit those new) came)
    spin_comes = by (has_unit c.listens those) refl
      where
        elsewhere : (at unit : ℕ) → IsAt at unit → (other == at) ≡ false → stands_at c.listens unit SpinServer came ≡ true → (stands at (call ∷ before) ≡ true) × (spin_bytes (came_to unit came) ≡ was_given at (call ∷ before))
        elsewhere at unit is differs stands_now =
            let known = inv.linked at unit is stands_now in
            (stays_up at call before (none at) known.0, known.1 ∙ others at differs)

        unit_is : (at unit : ℕ) → IsAt at unit → (other == at) ≡ true → those ≡ unit
        unit_is at unit is same = ap (λ (p : Peer). p.unit) (same_place at unit other (spin_peer those) there is same)

        -- it is listened to
        heard_at : (at unit : ℕ) → IsAt at unit → (b : Bool) → (other == at) ≡ b → stands_at c.listens unit SpinServer (to_unit those new ∷ came) ≡ true
            → (stands at (call ∷ before) ≡ true) × (spin_bytes (came_to unit (to_unit those new ∷ came)) ≡ was_given at (call ∷ before))
        heard_at at unit is true same stands_now =
            let place : other ≡ at = eqb-true other at same in
            let here : (those == unit) ≡ true = eq-eqb those unit (unit_is at unit is same) in (
              subst (λ (n : ℕ). stands n (call ∷ before) ≡ true) place up,
              ap (λ (b : Bool). spin_bytes (cond b (new ∷ came_to unit came) (came_to unit came))) here
                  ∙ subst (λ (u : ℕ). spin_bytes (new ∷ came_to u came) ≡ was_given at (call ∷ before)) (unit_is at unit is same) (its ∙ ap (λ (n : ℕ). was_given n (call ∷ before)) place),
            )
        heard_at at unit is false differs stands_now =
            let there_not : (those == unit) ≡ false = other_unit at unit other those there is differs in
            let same_came : came_to unit (to_unit those new ∷ came) ≡ came_to unit came = ap (λ (b : Bool). cond b (new ∷ came_to unit came) (came_to unit came)) there_not in
            let known = elsewhere at unit is differs (sym (ap (λ (l : List Came). has_unit c.listens unit && is_some (end_after (end_setup c.listens unit) l).spin) same_came) ∙ stands_now) in
            (known.0, ap spin_bytes same_came ∙ known.1)

        unheard_at : has_unit c.listens those ≡ false → (at unit : ℕ) → IsAt at unit → (b : Bool) → (other == at) ≡ b → stands_at c.listens unit SpinServer came ≡ true → (stands at (call ∷ before) ≡ true) × (spin_bytes (came_to unit came) ≡ was_given at (call ∷ before))
        unheard_at deaf at unit is true same stands_now =
            let both = both_hold (has_unit c.listens unit) (is_some (state_at c.listens unit came).spin) stands_now in
            absurd (true≢false (sym both.0 ∙ ap (has_unit c.listens) (sym (unit_is at unit is same)) ∙ deaf))
        unheard_at deaf at unit is false differs stands_now = elsewhere at unit is differs stands_now

        by : (b : Bool) → has_unit c.listens those ≡ b → InvOf (call ∷ before) (cond b (to_unit those new ∷ came) came)
        by true listened = record {
          hears = hears_one (λ at. was_given at before) (λ at. stands at before) those new came may inv.hears;
          linked = λ at unit is. heard_at at unit is (other == at) refl;
        }
        by false deaf = record { hears = inv.hears; linked = λ at unit is. unheard_at deaf at unit is (other == at) refl }

  -- ---- Calls by which a connection ends
  cut_none : (unit : ℕ) (came : List UnitCame) → stands_at c.listens unit SpinServer (with_came c.listens (to_unit unit SpinCut) came) ≡ true → ⊥
  cut_none unit came = by (has_unit c.listens unit) refl
    where
      by : (b : Bool) → has_unit c.listens unit ≡ b → stands_at c.listens unit SpinServer (cond b (to_unit unit SpinCut ∷ came) came) ≡ true → ⊥
      by true listened stands_now =
          let both = both_hold (has_unit c.listens unit) _ stands_now in
          let here : (end_after (end_setup c.listens unit) (came_to unit (to_unit unit SpinCut ∷ came))).spin ≡ None = ap (λ (b : Bool). (end_after (end_setup c.listens unit) (cond b (SpinCut ∷ came_to unit came) (came_to unit came))).spin) (eq-eqb unit unit refl) in
          true≢false (sym both.1 ∙ ap (λ (o : Link). is_some o) here)
      by false deaf stands_now =
          let both = both_hold (has_unit c.listens unit) _ stands_now in
          true≢false (sym both.0 ∙ deaf)

  ended_plain : (session : Session) → IsPlain (ended session)
  ended_plain Proxy = tt
  ended_plain SpinServer = tt

  ended_may : (unit : ℕ) (session : Session) (came : List UnitCame) → Reaches unit (ended session) came
  ended_may unit Proxy came = tt
  ended_may unit SpinServer came = tt

  module _ (call : LiveCall) (before : List LiveCall) (other : ℕ) (ends : (at : ℕ) → ends_by at call ≡ (other == at)) (keeps : (at : ℕ) → was_given at before ≡ was_given at (call ∷ before)) where
    -- that of a peer
    ends_one : (now now' : Now) (peer : Peer) → slice_get c.peers other ≡ Some peer → Comes c peer.unit (ended peer.session) now now' → InvOf before now.came → InvOf (call ∷ before) now'.came
    ends_one now now' peer there on inv = weaker (λ at. was_given at before) (λ at. was_given at (call ∷ before)) (λ at. stands at before) (λ at. stands at (call ∷ before)) now'.came
        (comes (λ at. was_given at before) (λ at. stands at before) peer.unit (ended peer.session) now now' (ended_plain peer.session) (ended_may peer.unit peer.session now.came) on inv)
        (λ at unit is up stands_now. by at unit is up stands_now (other == at) refl)
      where
        by : (at unit : ℕ) → IsAt at unit → stands at before ≡ true → stands_at c.listens unit SpinServer now'.came ≡ true → (b : Bool) → (other == at) ≡ b → (stands at (call ∷ before) ≡ true) × (was_given at before ≡ was_given at (call ∷ before))
        by at unit is up stands_now true same =
            let one : peer ≡ spin_peer unit = same_place at unit other peer there is same in
            let cut : now'.came ≡ with_came c.listens (to_unit unit SpinCut) now.came = on.came_is ∙ ap (λ (p : Peer). with_came c.listens (to_unit p.unit (ended p.session)) now.came) one in
            absurd (cut_none unit now.came (subst (λ (l : List UnitCame). stands_at c.listens unit SpinServer l ≡ true) cut stands_now))
        by at unit is up stands_now false differs = (stays_up at call before (ends at ∙ differs) up, keeps at)

    -- where none stood
    none_stood : (came : List UnitCame) → stands other before ≡ false → InvOf before came → InvOf (call ∷ before) came
    none_stood came down inv = weaker (λ at. was_given at before) (λ at. was_given at (call ∷ before)) (λ at. stands at before) (λ at. stands at (call ∷ before)) came inv
        (λ at unit is up stands_now. by at up (other == at) refl)
      where
        by : (at : ℕ) → stands at before ≡ true → (b : Bool) → (other == at) ≡ b → (stands at (call ∷ before) ≡ true) × (was_given at before ≡ was_given at (call ∷ before))
        by at up true same = absurd (true≢false (sym up ∙ ap (λ (n : ℕ). stands n before) (sym (eqb-true other at same)) ∙ down))
        by at up false differs = (stays_up at call before (ends at ∙ differs) up, keeps at)

  -- ---- A connection is begun
  peer_is : (peer : Peer) → peer.session ≡ SpinServer → peer ≡ spin_peer peer.unit
  peer_is peer is = ap (λ (session : Session). record { unit = peer.unit; session = session }) is

  module _ (before : List LiveCall) (other : ℕ) (down : stands other before ≡ false) where
    abbrev begun : LiveCall
    begun = Open other opened.Begun

    apart_given : (at : ℕ) → (other == at) ≡ false → was_given at before ≡ was_given at (begun ∷ before)
    apart_given at differs = sym (ap (λ (b : Bool). cond b [] (was_given at before)) differs)

    begun_same : (came : List UnitCame) → InvOf before came → InvOf (begun ∷ before) came
    begun_same came inv = weaker (λ at. was_given at before) (λ at. was_given at (begun ∷ before)) (λ at. stands at before) (λ at. stands at (begun ∷ before)) came inv
        (λ at unit is up stands_now. by at up (other == at) refl)
      where
        by : (at : ℕ) → stands at before ≡ true → (b : Bool) → (other == at) ≡ b → (stands at (begun ∷ before) ≡ true) × (was_given at before ≡ was_given at (begun ∷ before))
        by at up true same = absurd (true≢false (sym up ∙ ap (λ (n : ℕ). stands n before) (sym (eqb-true other at same)) ∙ down))
        by at up false differs = (stays_up at begun before refl up, apart_given at differs)

    begun_one : (now now' : Now) (peer : Peer) → slice_get c.peers other ≡ Some peer → Comes c peer.unit (made peer.session) now now' → InvOf before now.came → InvOf (begun ∷ before) now'.came
    begun_one now now' peer there on inv = by peer.session refl
      where
        by : (session : Session) → peer.session ≡ session → InvOf (begun ∷ before) now'.came
        by Proxy is =
            let came_is : now'.came ≡ with_came c.listens (to_unit peer.unit GrpMade) now.came = on.came_is ∙ ap (λ (session : Session). with_came c.listens (to_unit peer.unit (made session)) now.came) is in
            goes_on begun before now'.came (λ at. refl) (λ at unit here. apart_given at (not_proxy at unit other peer there is here))
            (same (λ at. was_given at before) (λ at. stands at before) (with_came c.listens (to_unit peer.unit GrpMade) now.came) now'.came came_is (plain (λ at. was_given at before) (λ at. stands at before) peer.unit GrpMade now.came tt tt inv))
        by SpinServer is =
            let came_is : now'.came ≡ with_came c.listens (to_unit peer.unit SpinMade) now.came = on.came_is ∙ ap (λ (session : Session). with_came c.listens (to_unit peer.unit (made session)) now.came) is in
            let here : (other == other) ≡ true = eq-eqb other other refl in
            subst (InvOf (begun ∷ before)) (sym came_is)
            (spin_comes begun before now.came other peer.unit SpinMade (there ∙ ap (λ (p : Peer). Some p) (peer_is peer is)) tt (λ at. refl) apart_given
            (ap (λ (b : Bool). b || (not false && stands other before)) here) (sym (ap (λ (b : Bool). cond b [] (was_given other before)) here)) inv)

  -- ---- Bytes are taken
  module _ (before : List LiveCall) (other room n : ℕ) (bytes : List ℕ) where
    abbrev taking : LiveCall
    taking = Take other room bytes (taken.Got n)

    apart_taken : (at : ℕ) → (other == at) ≡ false → was_given at before ≡ was_given at (taking ∷ before)
    apart_taken at differs = sym (ap (λ (b : Bool). cond b (was_given at before ++ bytes) (was_given at before)) differs)

    module _ (now now' : Now) (peer : Peer) (there : slice_get c.peers other ≡ Some peer) (carries : Carries s run c.peers taking before) (link : stands_at c.listens peer.unit peer.session now.came ≡ true) (inv : InvOf before now.came) where
      proxy_takes : (new : Came) → IsPlain new → Reaches peer.unit new now.came → peer.session ≡ Proxy → now'.came ≡ with_came c.listens (to_unit peer.unit new) now.came → InvOf (taking ∷ before) now'.came
      proxy_takes new is_plain may is came_is =
          goes_on taking before now'.came (λ at. refl) (λ at unit here. apart_taken at (not_proxy at unit other peer there is here))
          (same (λ at. was_given at before) (λ at. stands at before) (with_came c.listens (to_unit peer.unit new) now.came) now'.came came_is (plain (λ at. was_given at before) (λ at. stands at before) peer.unit new now.came is_plain may inv))

      spin_takes : (new : Came) → ((came : List Came) → IsPut s run peer.unit (spin_bytes came ++ bytes) → MayReach s run peer.unit new came) → ((came : List Came) → spin_bytes (new ∷ came) ≡ spin_bytes came ++ bytes) → peer.session ≡ SpinServer
          → now'.came ≡ with_came c.listens (to_unit peer.unit new) now.came → InvOf (taking ∷ before) now'.came
      spin_takes new may joins is came_is =
          let at : IsAt other peer.unit = there ∙ ap (λ (p : Peer). Some p) (peer_is peer is) in
          let known = inv.linked other peer.unit at (subst (λ (session : Session). stands_at c.listens peer.unit session now.came ≡ true) is link) in
          let here : (other == other) ≡ true = eq-eqb other other refl in
          let its : List Came = came_to peer.unit now.came in
          subst (InvOf (taking ∷ before)) (sym came_is)
          (spin_comes taking before now.came other peer.unit new at
          (may its (subst (λ (l : List ℕ). IsPut s run peer.unit (l ++ bytes)) (sym known.1) (carries peer.unit at)))
          (λ at. refl) apart_taken (stays_up other taking before refl known.0)
          (joins its ∙ ap (λ (l : List ℕ). l ++ bytes) known.1 ∙ sym (ap (λ (b : Bool). cond b (was_given other before ++ bytes) (was_given other before)) here)) inv)

      takes_one : Comes c peer.unit (took peer.session bytes) now now' → InvOf (taking ∷ before) now'.came
      takes_one on = by peer.session refl
        where
          by : (session : Session) → peer.session ≡ session → InvOf (taking ∷ before) now'.came
          by Proxy is = proxy_takes (GrpTook bytes) tt tt is (on.came_is ∙ ap (λ (session : Session). with_came c.listens (to_unit peer.unit (took session bytes)) now.came) is)
          by SpinServer is = spin_takes (SpinTook bytes) (λ came put. put) (λ came. refl) is (on.came_is ∙ ap (λ (session : Session). with_came c.listens (to_unit peer.unit (took session bytes)) now.came) is)

      loses_one : (count : ℕ) → Comes c peer.unit (lost peer.session bytes count) now now' → InvOf (taking ∷ before) now'.came
      loses_one count on = by peer.session refl
        where
          by : (session : Session) → peer.session ≡ session → InvOf (taking ∷ before) now'.came
          by Proxy is = proxy_takes (GrpLost bytes count) tt tt is (on.came_is ∙ ap (λ (session : Session). with_came c.listens (to_unit peer.unit (lost session bytes count)) now.came) is)
          by SpinServer is = spin_takes (SpinLost bytes count) (λ came put. put) (λ came. refl) is (on.came_is ∙ ap (λ (session : Session). with_came c.listens (to_unit peer.unit (lost session bytes count)) now.came) is)

  -- ---- What was due
  opens : (e : Ends) (what : Due) (at : ℕ) (answer : PeerOpened) (calls : List LiveCall) → IsMade e what (Open at answer) → May e calls what → stands at calls ≡ false
  opens e (to.Open peer) at answer calls made may = subst (λ (p : ℕ). stands p calls ≡ false) (sym made) may
  opens e (to.Wait more) at answer calls made may = absurd made
  opens e (to.Receive line) at answer calls made may = absurd made
  opens e (to.Take peer) at answer calls made may = absurd made
  opens e (to.Put peer) at answer calls made may = absurd made
  opens e (to.Close peer) at answer calls made may = absurd made

  takes : (e : Ends) (what : Due) (at room : ℕ) (bytes : List ℕ) (answer : PeerTaken) (calls : List LiveCall) → IsMade e what (Take at room bytes answer) → May e calls what → e.has at ≡ true
  takes e (to.Take peer) at room bytes answer calls made may = subst (λ (p : ℕ). e.has p ≡ true) (sym made.0) may
  takes e (to.Wait more) at room bytes answer calls made may = absurd made
  takes e (to.Receive line) at room bytes answer calls made may = absurd made
  takes e (to.Open peer) at room bytes answer calls made may = absurd made
  takes e (to.Put peer) at room bytes answer calls made may = absurd made
  takes e (to.Close peer) at room bytes answer calls made may = absurd made

  -- the client's end has a link with the peer
  link_there : (now : Now) (at : ℕ) (peer : Peer) → slice_get c.peers at ≡ Some peer → (ends_now c now).has at ≡ true → stands_at c.listens peer.unit peer.session now.came ≡ true
  link_there now at peer there has = sym (ap (λ (o : Option Peer). option_map_or (has_link c now.came) o false) there) ∙ has

  -- ---- A run
  still : (call : LiveCall) (before : List LiveCall) (now now' : Now) → ((at : ℕ) → ends_by at call ≡ false) → ((at unit : ℕ) → IsAt at unit → was_given at before ≡ was_given at (call ∷ before)) → now'.came ≡ now.came → InvOf before now.came → InvOf (call ∷ before) now'.came
  still call before now now' none keeps e inv = goes_on call before now'.came none keeps (subst (InvOf before) (sym e) inv)

  holds : (calls : List LiveCall) (now : Now) → Runs c calls now → AllCarried s run c.peers calls → InvOf calls now.came
  holds [] now is all = subst (InvOf []) (sym is.came_is) (record {
    hears = λ unit. tt;
    linked = λ at unit there stands_now. absurd (true≢false (sym (both_hold (has_unit c.listens unit) false stands_now).1));
  })
  holds (Receive line room bytes (received.Got n) ∷ calls) now (before, (runs, on)) all =
      goes_on (Receive line room bytes (received.Got n)) calls now.came (λ at. refl) (λ at unit there. refl)
      (same (λ at. was_given at calls) (λ at. stands at calls) _ now.came on.brings.came_is (blocks (λ at. was_given at calls) (λ at. stands at calls) (blocks_of bytes) before.came all.0 (holds calls before runs all.1)))
  holds (Receive line room bytes received.Quiet ∷ calls) now (before, (runs, on)) all = still (Receive line room bytes received.Quiet) calls before now (λ at. refl) (λ at unit there. refl) on.brings.came_is (holds calls before runs all.1)
  holds (Receive line room bytes received.Failed ∷ calls) now (before, (runs, on)) all = still (Receive line room bytes received.Failed) calls before now (λ at. refl) (λ at unit there. refl) on.brings.came_is (holds calls before runs all.1)
  holds (Wait more wait_end.Second ∷ calls) now (before, (runs, on)) all =
      goes_on (Wait more wait_end.Second) calls now.came (λ at. refl) (λ at unit there. refl) (seconds (λ at. was_given at calls) (λ at. stands at calls) 256 before now on.brings (holds calls before runs all.1))
  holds (Wait more wait_end.Ready ∷ calls) now (before, (runs, on)) all = still (Wait more wait_end.Ready) calls before now (λ at. refl) (λ at unit there. refl) on.brings.came_is (holds calls before runs all.1)
  holds (Wait more wait_end.Over ∷ calls) now (before, (runs, on)) all = still (Wait more wait_end.Over) calls before now (λ at. refl) (λ at unit there. refl) on.brings.came_is (holds calls before runs all.1)
  holds (Wait more wait_end.Failed ∷ calls) now (before, (runs, on)) all = still (Wait more wait_end.Failed) calls before now (λ at. refl) (λ at unit there. refl) on.brings.came_is (holds calls before runs all.1)
  holds (Open at opened.Begun ∷ calls) now (before, (runs, on)) all =
      let down = opens (ends_now c before) on.is_due.what at opened.Begun calls on.is_due.made (due_may (ways c) (ends_now c before) calls on.is_due.what on.is_due.due_is) in
      let peer = on.brings in
      elim peer.1.1 [
        | inl comes_now ↦ begun_one calls at down before now peer.0 peer.1.0 comes_now (holds calls before runs all.1)
        | inr stood ↦ subst (InvOf (Open at opened.Begun ∷ calls)) (sym stood.came_is) (begun_same calls at down before.came (holds calls before runs all.1))
      ]
  holds (Open at opened.Refused ∷ calls) now (before, (runs, on)) all =
      let down = opens (ends_now c before) on.is_due.what at opened.Refused calls on.is_due.made (due_may (ways c) (ends_now c before) calls on.is_due.what on.is_due.due_is) in
      subst (InvOf (Open at opened.Refused ∷ calls)) (sym on.brings.came_is) (none_stood (Open at opened.Refused) calls at (λ other. refl) (λ other. refl) before.came down (holds calls before runs all.1))
  holds (Take at room bytes (taken.Got n) ∷ calls) now (before, (runs, on)) all =
      let has = takes (ends_now c before) on.is_due.what at room bytes (taken.Got n) calls on.is_due.made (due_may (ways c) (ends_now c before) calls on.is_due.what on.is_due.due_is) in
      let peer = on.brings in
      let link = link_there before at peer.0 peer.1.0 has in
      elim peer.1.1 [
        | inl took_them ↦ takes_one calls at room n bytes before now peer.0 peer.1.0 all.0 link (holds calls before runs all.1) took_them
        | inr (count, lost_them) ↦ loses_one calls at room n bytes before now peer.0 peer.1.0 all.0 link (holds calls before runs all.1) count lost_them
      ]
  holds (Take at room bytes taken.Quiet ∷ calls) now (before, (runs, on)) all = still (Take at room bytes taken.Quiet) calls before now (λ other. refl) (λ other unit there. refl) on.brings.came_is (holds calls before runs all.1)
  holds (Take at room bytes taken.Ended ∷ calls) now (before, (runs, on)) all = ends_one (Take at room bytes taken.Ended) calls at (λ other. refl) (λ other. refl) before now on.brings.0 on.brings.1.0 on.brings.1.1 (holds calls before runs all.1)
  holds (Put at piece (put.Wrote n) ∷ calls) now (before, (runs, on)) all = still (Put at piece (put.Wrote n)) calls before now (λ other. refl) (λ other unit there. refl) on.brings.1.1.came_is (holds calls before runs all.1)
  holds (Put at piece put.Full ∷ calls) now (before, (runs, on)) all = still (Put at piece put.Full) calls before now (λ other. refl) (λ other unit there. refl) on.brings.came_is (holds calls before runs all.1)
  holds (Put at piece put.Ended ∷ calls) now (before, (runs, on)) all = ends_one (Put at piece put.Ended) calls at (λ other. refl) (λ other. refl) before now on.brings.0 on.brings.1.0 on.brings.1.1 (holds calls before runs all.1)
  holds (Close at ∷ calls) now (before, (runs, on)) all = ends_one (Close at) calls at (λ other. refl) (λ other. refl) before now on.brings.0 on.brings.1.0 on.brings.1.1 (holds calls before runs all.1)

pub carried_is_heard : CarriedIsHeard
carried_is_heard s run c calls now apart runs all = (holds s run c apart calls now runs all).hears
