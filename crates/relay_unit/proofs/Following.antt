-- What a relay sends of any input, step by step.
use Rattle.std.proofs.Common.{◌≡◌, ◌≢◌, ℕ, zero, suc, ◌+◌, ◌<◌, inl, inr, take, List, [], ◌∷◌, ◌++◌, length, length-append, fold, refl, sym, ap, ◌∙◌, subst, append_assoc}
use Rattle.std.proofs.lemmas.List.{append-nil}
use Rattle.pitch_fields.specs.Limits.{last_sequence}
use Rattle.pitch_messages.specs.declared.message.Message.TheVariants.{UnitClear}
use Rattle.pitch_messages.specs.Writing.{written}
use Rattle.pitch_model.specs.History.{Raw}
use Rattle.pitch_model.specs.Book.{Book, empty_book, after, book_after}
use Rattle.pitch_model.specs.Image.{image_of}
use Rattle.unit_packets.specs.Blocks.{Block}
use Rattle.unit_packets.specs.Packing.{packed}
use Rattle.client_core.specs.Tracks.{Keeps}
use Rattle.client_core.specs.Client.{current_book}
use Rattle.client_core.specs.declared.client.UnitClient.{UnitClient}
use Rattle.relay_unit.specs.Following.{IsStep, AreSteps, sent_in, Sends, HasSent, SendsMore, LacksSequences}
use Rattle.relay_unit.specs.layers.Calls.{AppendsRelayed, AppendsAny}
use Rattle.relay_unit.specs.layers.Sending.{SendsFor, SendsApplied, added_datagrams, AddsRelayed}
use Rattle.relay_unit.specs.layers.Sending.{AddsAny}
use Rattle.relay_unit.specs.Stands.{followed_book, relay_unit_of}
use Rattle.relay_unit.specs.declared.relay.Relay.{Relay}
use Rattle.relay_unit.proofs.Sending.{clears}

-- ---- Steps
-- nothing is sent where the book stays
pub no_steps : (book book' : Book) → book' ≡ book → Sends book [] book'
no_steps book book' same = record { steps = []; are = same; joined = refl }

pub one_step : (book book' : Book) (raws : List Raw) → IsStep book raws book' → Sends book raws book'
one_step book book' raws step = record {
  steps = (raws, book') ∷ [];
  are = (step, refl);
  joined = sym (append-nil raws);
}

steps_then : (book book' book'' : Book) (steps more : List (List Raw × Book))
    → AreSteps book steps book' → AreSteps book' more book'' → AreSteps book (steps ++ more) book''
steps_then book book' book'' [] more same next = subst (λ (b : Book). AreSteps b more book'') same next
steps_then book book' book'' (step ∷ steps) more are next = (are.0, steps_then step.1 book' book'' steps more are.1 next)

sent_then : (steps more : List (List Raw × Book)) → sent_in (steps ++ more) ≡ sent_in steps ++ sent_in more
sent_then [] more = refl
sent_then (step ∷ steps) more =
    ap (λ (rs : List Raw). step.0 ++ rs) (sent_then steps more) ∙ sym (append_assoc step.0 (sent_in steps) (sent_in more))

pub sends_then : (book book' book'' : Book) (raws more : List Raw) → Sends book raws book' → Sends book' more book'' → Sends book (raws ++ more) book''
sends_then book book' book'' raws more s t = record {
  steps = s.steps ++ t.steps;
  are = steps_then book book' book'' s.steps t.steps s.are t.are;
  joined = ap (λ (rs : List Raw). rs ++ more) s.joined ∙ ap (λ (rs : List Raw). sent_in s.steps ++ rs) t.joined ∙ sym (sent_then s.steps t.steps);
}

pub sends_to : (book book' same : Book) (raws : List Raw) → book' ≡ same → Sends book raws book' → Sends book raws same
sends_to book book' same raws e s = subst (Sends book raws) e s

-- ---- What the code appends
pub sends_nothing : (book : Book) (sent : List Raw) → SendsFor book book sent sent
sends_nothing book sent = record { more = []; appended = sym (append-nil sent); sends = no_steps book book refl }

pub sends_again : (book book' book'' : Book) (sent sent' sent'' : List Raw)
    → SendsFor book book' sent sent' → SendsFor book' book'' sent' sent'' → SendsFor book book'' sent sent''
sends_again book book' book'' sent sent' sent'' s t = record {
  more = s.more ++ t.more;
  appended = t.appended ∙ ap (λ (rs : List Raw). rs ++ t.more) s.appended ∙ append_assoc sent s.more t.more;
  sends = sends_then book book' book'' s.more t.more s.sends t.sends;
}

pub applied_sends : (book book' : Book) (sent sent' more : List Raw)
    → sent' ≡ sent ++ more → book' ≡ fold after book more → SendsFor book book' sent sent'
applied_sends book book' sent sent' more appended applied = record {
  more = more;
  appended = appended;
  sends = one_step book book' more (inl applied);
}

pub taken_sends : (old book book' : Book) (clear : Raw) (sent sent1 sent2 sent3 : List Raw)
    → sent1 ≡ sent → sent2 ≡ sent1 ++ clear ∷ [] → clear ≡ written (UnitClear 0) → sent3 ≡ sent2 ++ image_of book
    → book_after (image_of book) ≡ book → book ≡ book' → SendsFor old book' sent sent3
taken_sends old book book' clear sent sent1 sent2 sent3 one two clears three leaves same = record {
  more = written (UnitClear 0) ∷ image_of book;
  appended =
      three ∙ ap (λ (rs : List Raw). rs ++ image_of book) two
      ∙ ap (λ (rs : List Raw). (rs ++ clear ∷ []) ++ image_of book) one
      ∙ ap (λ (c : Raw). (sent ++ c ∷ []) ++ image_of book) clears
      ∙ append_assoc sent (written (UnitClear 0) ∷ []) (image_of book);
  sends = sends_to old book book' (written (UnitClear 0) ∷ image_of book) same
      (one_step old book (written (UnitClear 0) ∷ image_of book) (inr (record { raws_are = refl; leaves = leaves })));
}

-- ---- A block
-- what is sent before the first
pub nothing_sent : (relay : Relay) → relay.sent ≡ 0 → followed_book relay ≡ empty_book → HasSent relay []
nothing_sent relay none empty = record { count_is = none; sends = no_steps empty_book (followed_book relay) empty }

-- a client that keeps the messages of a venue which has sent none has an empty book
pub kept_nothing : (client : UnitClient) → Keeps client [] → current_book client ≡ empty_book
kept_nothing client keeps = keeps.book_is ∙ ap book_after (none_taken client.hold.floor)
  where
    none_taken : (n : ℕ) → ◌≡◌ {A = List Raw} (take n []) []
    none_taken zero = refl
    none_taken (suc n) = refl

-- what a relay adds for a block, where `items` are the messages and `book` is its client's then
module _ (r r' : Relay) (book : Book) (block : Block) (none items : List Raw)
    (empty : none ≡ []) (any : SendsFor (followed_book r) book none items)
    (line : block.sequence ≢ 0 → SendsApplied (followed_book r) book none items)
    (book_is : followed_book r' ≡ book) (sent : List Raw) (S : HasSent r sent) where
  after_none : (more : List Raw) → none ++ more ≡ more
  after_none more = ap (λ (rs : List Raw). rs ++ more) empty

  block_sends : Sends (followed_book r) items (followed_book r')
  block_sends =
      let all : any.more ≡ items = sym (any.appended ∙ after_none any.more) in
      subst (Sends (followed_book r) items) (sym book_is) (subst (λ (rs : List Raw). Sends (followed_book r) rs book) all any.sends)

  block_applies : block.sequence ≢ 0 → followed_book r' ≡ fold after (followed_book r) items
  block_applies some =
      let l = line some in
      book_is ∙ l.applied ∙ ap (fold after (followed_book r)) (sym (l.appended ∙ after_none l.more))

  pub block_sends_more : r'.sent ≡ r.sent + length items → SendsMore r r' block sent (packed (relay_unit_of r) (r.sent + 1) items)
  block_sends_more counted = record {
    more = items;
    datagrams_are = ap (λ (n : ℕ). packed (relay_unit_of r) (n + 1) items) S.count_is;
    sends = block_sends;
    line = block_applies;
    sent_is = record {
      count_is = counted ∙ ap (λ (n : ℕ). n + length items) S.count_is ∙ sym (length-append sent items);
      sends = sends_then empty_book (followed_book r) (followed_book r') sent items S.sends block_sends;
    };
  }

  -- where they have no sequences any more
  pub block_lacks : (more : ℕ) → more ≡ length items → last_sequence < r.sent + more → LacksSequences r r' block sent r.sent more
  block_lacks more counted past = record {
    messages = items;
    sent_is = S.count_is;
    more_is = counted;
    past = past;
    sends = block_sends;
    line = block_applies;
  }

-- ---- What is appended for it
module _ (r r' : Relay) (block : Block) (Lays : List (List ℕ) → Type 0) (laid : Lays (added_datagrams r r')) where
  pub lays_relayed : AddsRelayed r r' block → AppendsRelayed r block Lays
  lays_relayed adds V H E S v = subst Lays (adds V H E S v) laid

  pub lays_any : AddsAny r r' block → AppendsAny r r' block Lays
  lays_any any sent S = (added_datagrams r r', laid, any sent S)
