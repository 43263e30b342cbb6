-- The relay of a unit hears a block.
use Rattle.std.proofs.Common.{◌≡◌, ◌≢◌, ℕ, ◌+◌, ◌++◌, fold, slice_get, ap, List, [], ◌∷◌, ◌==◌, length, refl, sym, ◌∙◌, subst, Option, Some, None, Result, Ok, Err}
use Rattle.std.specs.Result.{IsErr, IsErrAnd, IfErr}
use Rattle.std.proofs.Math.ListN.{set}
use Rattle.std.proofs.lemmas.Bool.{eq-eqb, ne_eqb, cond-false, cond-true}
use Rattle.std.proofs.lemmas.Option.{slice_get_within}
use Rattle.std.specs.List.{concat}
use Rattle.pitch_fields.proofs.Lists.{get_set}
use Rattle.unit_packets.specs.Blocks.{Block}
use Rattle.unit_packets.specs.Packing.{packed}
use Rattle.pitch_model.specs.Book.{Book, empty_book, after}
use Rattle.pitch_model.specs.History.{Entry, Raw}
use Rattle.unit_clients.specs.Tables.{AtEach, with_place}
use Rattle.unit_clients.proofs.Placing.{each_set}
use Rattle.relay_unit.specs.layers.AnyRelays.{book_in, book_at, with_more, HasSentAt, AppendAny}
use Rattle.relay_unit.specs.layers.AnyRelays.{AppendsAnyAt}
use Rattle.relay_unit.specs.layers.Calls.{AppendsAny}
use Rattle.relay_unit.specs.Following.{Sends, HasSent}
use Rattle.relay_unit.specs.layers.Outlets.{JoinsMore}
use Rattle.relay_unit.specs.Hearing.{first_heard, relay_heard, relay_history}
use Rattle.relay_unit.specs.Relays.{Relays, StandsFor, StandsAt, IsRelay}
use Rattle.relay_unit.specs.Sparing.{HasHeard, IsSpentBy, messages_heard}
use Rattle.relay_unit.specs.Stands.{Stands, followed_book, relay_unit_of}
use Rattle.relay_unit.specs.declared.relay.Relay.{Relay}
use Rattle.relay_unit.specs.declared.relay.RelayError.{RelayError}

pub history_same : (H : ℕ) (block : Block) (before : List Block) → relay_history H block.unit (block ∷ before) ≡ relay_heard H block (relay_history H block.unit before)
history_same H block before = cond-true (block.unit == block.unit) (relay_heard H block (relay_history H block.unit before)) (relay_history H block.unit before) (eq-eqb block.unit block.unit refl)

pub history_other : (H unit : ℕ) (block : Block) (before : List Block) → block.unit ≢ unit → relay_history H unit (block ∷ before) ≡ relay_history H unit before
history_other H unit block before other = cond-false (block.unit == unit) (relay_heard H block (relay_history H unit before)) (relay_history H unit before) (ne_eqb block.unit unit other)

count_same : (block : Block) (before : List Block) → messages_heard block.unit (block ∷ before) ≡ messages_heard block.unit before + length block.raws
count_same block before = cond-true (block.unit == block.unit) (messages_heard block.unit before + length block.raws) (messages_heard block.unit before) (eq-eqb block.unit block.unit refl)

count_other : (unit : ℕ) (block : Block) (before : List Block) → block.unit ≢ unit → messages_heard unit (block ∷ before) ≡ messages_heard unit before
count_other unit block before other = cond-false (block.unit == unit) (messages_heard unit before + length block.raws) (messages_heard unit before) (ne_eqb block.unit unit other)

pub spent_same : (block : Block) (before : List Block) (error : RelayError) → IsSpentBy (messages_heard block.unit before + length block.raws) error → IsSpentBy (messages_heard block.unit (block ∷ before)) error
spent_same block before error spent = subst (λ (n : ℕ). IsSpentBy n error) (sym (count_same block before)) spent

other_relay : (H unit : ℕ) (block : Block) (before : List Block) (slot : Option Relay) → block.unit ≢ unit → IsRelay H before unit slot → IsRelay H (block ∷ before) unit slot
other_relay H unit block before None other stands = history_other H unit block before other ∙ stands
other_relay H unit block before (Some relay) other stands = (
  (stands.0.0, subst (λ (E : List Entry). Stands relay H E) (sym (history_other H unit block before other)) stands.0.1),
  subst (HasHeard relay) (sym (count_other unit block before other)) stands.1,
)

this_relay : (H : ℕ) (block : Block) (before : List Block) (slot : Option Relay) → StandsAt H block.unit (relay_heard H block (relay_history H block.unit before)) (messages_heard block.unit before + length block.raws) slot → IsRelay H (block ∷ before) block.unit slot
this_relay H block before None stands = absurd stands
this_relay H block before (Some relay) stands = (
  (stands.0.0, subst (λ (E : List Entry). Stands relay H E) (sym (history_same H block before)) stands.0.1),
  subst (HasHeard relay) (sym (count_same block before)) stands.1,
)

pub relays_hear : (H : ℕ) (places : List (Option Relay)) (slot : Option Relay) (block : Block) (before : List Block) → AtEach (IsRelay H before) places
    → StandsAt H block.unit (relay_heard H block (relay_history H block.unit before)) (messages_heard block.unit before + length block.raws) slot → AtEach (IsRelay H (block ∷ before)) (set places block.unit slot)
relays_hear H places slot block before stands heard =
    each_set (IsRelay H before) (IsRelay H (block ∷ before)) places block.unit slot stands (λ unit other apart. other_relay H unit block before other (λ same. apart (sym same)))
    (this_relay H block before slot heard)

-- what holds of an error that is handed on holds of the answer
pub handed_on : {T E : Type 0} (r : Result T E) (error : E) (P : E → Type 0) → IsErr r × IsErrAnd r (λ e. e ≡ error) → P error → IfErr r P
handed_on (Ok x) error P is p = tt
handed_on (Err e) error P is p = subst P (sym is.1) p

-- a new relay stands where no block named its unit
pub new_relay : (H unit : ℕ) (relay : Relay) (slot : Option Relay) (before : List Block) → slot ≡ None → Stands relay H first_heard → IsRelay H before unit slot → Stands relay H (relay_history H unit before)
new_relay H unit relay slot before is fresh stands =
    let none : relay_history H unit before ≡ first_heard = subst (IsRelay H before unit) is stands in
    subst (λ (E : List Entry). Stands relay H E) (sym none) fresh

pub old_relay : (H unit : ℕ) (relay : Relay) (slot : Option Relay) (before : List Block) → slot ≡ Some relay → IsRelay H before unit slot → StandsFor relay H unit (relay_history H unit before) × HasHeard relay (messages_heard unit before)
old_relay H unit relay slot before is stands = subst (IsRelay H before unit) is stands

-- ---- Any input, honest or not
-- a relay that was made at the block
pub new_sends : (block : Block) (fresh relay : Relay) (place : Option Relay) (out out' : List ℕ)
    → place ≡ None → HasSent fresh [] → followed_book fresh ≡ empty_book → relay_unit_of fresh ≡ block.unit
    → relay_unit_of relay ≡ relay_unit_of fresh
    → AppendsAny fresh relay block (JoinsMore out out') → AppendsAnyAt place (Some relay) block out out'
new_sends block fresh relay place out out' is first empty named stays appends sent S =
    let none : sent ≡ [] = subst (HasSentAt block.unit sent) is S in
    let a = appends sent (subst (HasSent fresh) (sym none) first) in
    let m = a.2 in (
      concat a.0,
      a.1,
      record {
        more = m.more;
        added_is = ap concat m.datagrams_are ∙ ap (λ (u : ℕ). concat (packed u (length sent + 1) m.more)) named;
        sends = subst (λ (p : Option Relay). Sends (book_in p) m.more (followed_book relay)) (sym is)
            (subst (λ (b : Book). Sends b m.more (followed_book relay)) empty m.sends);
        line = λ some. m.line some ∙ ap (λ (b : Book). fold after b m.more) (empty ∙ ap book_in (sym is));
        sent_is = (stays ∙ named, m.sent_is);
      },
    )

-- a relay that was there
pub old_sends : (block : Block) (relay relay' : Relay) (place : Option Relay) (out out' : List ℕ)
    → place ≡ Some relay → relay_unit_of relay' ≡ relay_unit_of relay
    → AppendsAny relay relay' block (JoinsMore out out') → AppendsAnyAt place (Some relay') block out out'
old_sends block relay relay' place out out' is stays appends sent S =
    let there : (relay_unit_of relay ≡ block.unit) × HasSent relay sent = subst (HasSentAt block.unit sent) is S in
    let a = appends sent there.1 in
    let m = a.2 in (
      concat a.0,
      a.1,
      record {
        more = m.more;
        added_is = ap concat m.datagrams_are ∙ ap (λ (u : ℕ). concat (packed u (length sent + 1) m.more)) there.0;
        sends = subst (λ (p : Option Relay). Sends (book_in p) m.more (followed_book relay')) (sym is) m.sends;
        line = λ some. m.line some ∙ ap (λ (p : Option Relay). fold after (book_in p) m.more) (sym is);
        sent_is = (stays ∙ there.0, m.sent_is);
      },
    )

more_here : (Sent : ℕ → List Raw) (unit other : ℕ) (more : List Raw) → other ≡ unit → with_more Sent unit more other ≡ Sent other ++ more
more_here Sent unit other more same = cond-true (other == unit) (Sent other ++ more) (Sent other) (eq-eqb other unit same)

more_there : (Sent : ℕ → List Raw) (unit other : ℕ) (more : List Raw) → other ≢ unit → with_more Sent unit more other ≡ Sent other
more_there Sent unit other more differs = cond-false (other == unit) (Sent other ++ more) (Sent other) (ne_eqb other unit differs)

-- the relays of a stream, where the one in a unit's place sends
pub relays_send : (relays : Relays) (place place' : Option Relay) (block : Block) (out out' : List ℕ) → slice_get relays.places block.unit ≡ Some place
    → AppendsAnyAt place place' block out out' → AppendAny relays (with_place relays block.unit place') block out out'
relays_send relays place place' block out out' at appends Sent S =
    let unit = block.unit in
    let old = relays.places in
    let then : slice_get (set old unit place') unit ≡ Some place' = get_set old unit place' (slice_get_within old unit place at) in
    let a = appends (Sent unit) (S.each unit place at) in
    let m = a.2 in
    let Now : ℕ → Option Relay → Type 0 = λ n p. HasSentAt n (Sent n) p in
    let Then : ℕ → Option Relay → Type 0 = λ n p. HasSentAt n (with_more Sent unit m.more n) p in (
      a.0,
      a.1,
      record {
        more = m.more;
        added_is = m.added_is;
        sends = subst (λ (p : Option (Option Relay)). Sends (book_at p) m.more (book_at (slice_get (set old unit place') unit))) (sym at)
            (subst (λ (p : Option (Option Relay)). Sends (book_in place) m.more (book_at p)) (sym then) m.sends);
        line = λ some. ap book_at then ∙ m.line some ∙ ap (λ (p : Option (Option Relay)). fold after (book_at p) m.more) (sym at);
        sent_are = each_set Now Then old unit place' S
            (λ other p apart kept. subst (λ (rs : List Raw). HasSentAt other rs p) (sym (more_there Sent unit other m.more apart)) kept)
            (subst (λ (rs : List Raw). HasSentAt unit rs place') (sym (more_here Sent unit unit m.more refl)) m.sent_is);
      },
    )
