-- What a stream says, and what a piece adds to it.
use Rattle.std.proofs.Common.{◌≡◌, ℕ, zero, suc, ◌+◌, ◌≤◌, List, [], ◌∷◌, ◌++◌, length, drop, refl, sym, ap, ◌∙◌, arith, false, subst, length-append, append_assoc, inl, inr, Option, Some, None}
use Rattle.std.proofs.lemmas.List.{append-nil, length-drop}
use Rattle.unit_packets.specs.Blocks.{Block}
use Rattle.unit_packets.specs.Causes.{counted}
use Rattle.unit_packets.specs.declared.header.Header.{Header}
use Rattle.unit_packets.specs.declared.header.BlockFault.{BlockFault}
use Rattle.unit_packets.specs.Judging.{judge}
use Rattle.unit_packets.specs.Cutting.{blocks_of, blocks_by, rest_of, rest_by, place_of, fault_in}
use Rattle.unit_packets.specs.Feeding.{fed_fault, kept_fault}
use Rattle.unit_packets.specs.Pieces.{Feeds, fed_answer}
use Rattle.unit_packets.proofs.Stable.{judge_found}
use Rattle.unit_packets.proofs.Cuts.{first_of, none_of, cases_Result, rest_short, appends}
use Rattle.unit_packets.proofs.Feeds.{stands_unread, stands_fault, fed_on, counted_on}
use Rattle.unit_packets.proofs.Streams.{lasting_of, lasting_more, fault_stays}
use Rattle.session_ends.specs.declared.inbox.Heard.{Heard}
use Rattle.session_ends.specs.Items.{onward, block_size, block_items, stream_items_from, stream_items, trouble}
use Rattle.session_ends.specs.Inboxes.{Inboxed, HasTaken}
use Rattle.session_ends.specs.layers.Hearing.{nothing_fed, TakesPiece}

-- ---- Places
onward_on : (place a b : ℕ) → onward (onward place a) b ≡ onward place (a + b)
onward_on place a b = let e : (place + a) + b ≡ place + (a + b) = omega arith in counted_on (place + a) b ∙ ap counted e

sizes : List Block → ℕ
sizes [] = 0
sizes (b ∷ bs) = block_size b + sizes bs

items_append : (place : ℕ) (xs ys : List Block) → counted place ≡ place → stream_items_from place (xs ++ ys) ≡ stream_items_from place xs ++ stream_items_from (onward place (sizes xs)) ys
unfolding sizes
items_append place [] ys is = let z : place + 0 ≡ place = omega arith in ap (λ (n : ℕ). stream_items_from n ys) (sym (ap counted z ∙ is))
items_append place (x ∷ xs) ys is =
    let size : ℕ = block_size x in
    ap (λ (l : List Heard). block_items place x ++ l)
    (items_append (onward place size) xs ys (omega arith)
    ∙ ap (λ (n : ℕ). stream_items_from (onward place size) xs ++ stream_items_from n ys) (onward_on place size (sizes xs)))
    ∙ sym (append_assoc (block_items place x) (stream_items_from (onward place size) xs) (stream_items_from (onward place (size + sizes xs)) ys))

sizes_by : (n : ℕ) (bytes : List ℕ) → length bytes ≤ n → sizes (blocks_of bytes) + length (rest_of bytes) ≡ length bytes
unfolding sizes
sizes_by zero bytes le = elim (cases_Result (judge bytes)) [
  | inl found ↦ let s = judge_found bytes found.0 found.1 in absurd (omega (arith, s.header, s.fits))
  | inr none ↦ let e = none_of bytes none.0 none.1 in omega (arith, ap sizes e.blocks, ap length e.rest)
]
sizes_by (suc n) bytes le = elim (cases_Result (judge bytes)) [
  | inl found ↦
      let h : Header = found.0 in
      let s = judge_found bytes h found.1 in
      let f = first_of bytes h found.1 in
      omega (arith, s.header, s.fits, s.size, ap sizes f.blocks, ap length f.rest, sizes_by n (drop h.length bytes) (omega (arith, s.header, s.fits, length-drop h.length bytes)), length-drop h.length bytes)
  | inr none ↦ let e = none_of bytes none.0 none.1 in omega (arith, ap sizes e.blocks, ap length e.rest)
]

-- ---- A piece more
-- what a piece adds to what the stream says
pub items_more : (fed piece : List ℕ) (added : List Block) → blocks_of (fed ++ piece) ≡ blocks_of fed ++ added → fed_fault fed ≡ None
    → stream_items (fed ++ piece) ≡ stream_items fed ++ (stream_items_from (counted (place_of fed)) added ++ trouble (fed_fault (fed ++ piece)))
unfolding stream_items
items_more fed piece added whole none =
    let at : 0 + sizes (blocks_of fed) ≡ place_of fed = omega (arith, sizes_by (length fed) fed (omega arith), rest_short fed) in
    let later : List Heard = trouble (fed_fault (fed ++ piece)) in
    ap (λ (bs : List Block). stream_items_from 0 bs ++ later) whole
    ∙ ap (λ (l : List Heard). l ++ later) (items_append 0 (blocks_of fed) added refl)
    ∙ append_assoc (stream_items_from 0 (blocks_of fed)) (stream_items_from (onward 0 (sizes (blocks_of fed))) added) later
    ∙ ap (λ (n : ℕ). stream_items_from 0 (blocks_of fed) ++ (stream_items_from (counted n) added ++ later)) at
    ∙ ap (λ (l : List Heard). l ++ (stream_items_from (counted (place_of fed)) added ++ later)) (sym (append-nil (stream_items_from 0 (blocks_of fed))))
    ∙ ap (λ (o : Option BlockFault). (stream_items_from 0 (blocks_of fed) ++ trouble o) ++ (stream_items_from (counted (place_of fed)) added ++ later)) (sym none)

-- behind a fault nothing is added
items_past : (fed piece : List ℕ) (fault : BlockFault) → fed_fault fed ≡ Some fault → stream_items (fed ++ piece) ≡ stream_items fed
unfolding stream_items
items_past fed piece fault is =
    let l = lasting_of (counted (place_of fed)) (rest_of fed) fault is in
    let stays = fault_stays fed piece l.error l.judged l.lasts in
    let same : fed_fault (fed ++ piece) ≡ fed_fault fed =
    ap (λ (p : ℕ). fault_in false (counted p) (rest_of (fed ++ piece))) stays.place_is
    ∙ ap (fault_in false (counted (place_of fed))) stays.rest_is
    ∙ lasting_more false (counted (place_of fed)) (rest_of fed) piece l.error l.judged l.lasts
    ∙ sym (ap Some l.is) ∙ sym is in
    ap (λ (bs : List Block). stream_items_from 0 bs ++ trouble (fed_fault (fed ++ piece))) stays.blocks ∙ ap (λ (o : Option BlockFault). stream_items_from 0 (blocks_of fed) ++ trouble o) same

stays_by : (fed piece : List ℕ) (o : Option BlockFault) → fed_fault fed ≡ o → (more : List Heard) × (stream_items (fed ++ piece) ≡ stream_items fed ++ more)
stays_by fed piece None is =
    let a = appends fed piece in
    (stream_items_from (counted (place_of fed)) (blocks_of (rest_of fed ++ piece)) ++ trouble (fed_fault (fed ++ piece)), items_more fed piece (blocks_of (rest_of fed ++ piece)) a.blocks is)
stays_by fed piece (Some fault) is = ([], items_past fed piece fault is ∙ sym (append-nil (stream_items fed)))

-- what the stream said stays, whatever comes
pub items_stay : (fed piece : List ℕ) → (more : List Heard) × (stream_items (fed ++ piece) ≡ stream_items fed ++ more)
items_stay fed piece = stays_by fed piece (fed_fault fed) refl

-- ---- An inbox
answer_one : (a b : Option BlockFault) → fed_answer a ≡ fed_answer b → a ≡ b
answer_one None None is = refl
answer_one None (Some f) is = cc
answer_one (Some f) None is = cc
answer_one (Some f) (Some g) is = cc

pub taken_in : (fed piece all : List ℕ) (old new : Inboxed) (passed : ℕ) (fault : Option BlockFault) (start : ℕ) (before mid after : List Heard)
    → HasTaken old fed → fed_fault fed ≡ None → all ≡ old.reading.rest ++ piece → start ≡ old.reading.place → passed ≡ place_of all → mid ≡ before ++ stream_items_from start (blocks_of all)
    → new.reading.place ≡ counted (old.reading.place + passed) → new.reading.rest ≡ drop passed all → fault ≡ fault_in false new.reading.place new.reading.rest
    → new.fed ≡ counted (old.fed + length piece) → after ≡ mid ++ trouble fault → TakesPiece fed piece new before after
taken_in fed piece all old new passed fault start before mid after old_is unspoiled are place cut heard on rest why count a =
    let none : kept_fault old.reading ≡ None = stands_fault false old.reading fed old_is.reads ∙ unspoiled in
    let f : Feeds fed piece new.reading [] (blocks_of all) (fed_answer fault) =
    fed_on fed piece all passed old.reading new.reading [] (blocks_of all) (fed_answer fault) old_is.reads none are cut refl on rest (ap fed_answer why) in
    let here : start ≡ counted (place_of fed) = place ∙ old_is.reads.place_is in
    let same : fault ≡ fed_fault (fed ++ piece) = answer_one fault (fed_fault (fed ++ piece)) f.fault in
    let given : blocks_of all ≡ f.added = f.given in
    record {
      stands = record {
        reads = f.stands;
        count = count ∙ ap (λ (n : ℕ). counted (n + length piece)) old_is.count ∙ counted_on (length fed) (length piece) ∙ ap counted (sym (length-append fed piece));
      };
      added = stream_items_from (counted (place_of fed)) f.added ++ trouble (fed_fault (fed ++ piece));
      are = items_more fed piece f.added f.blocks unspoiled;
      appended = a ∙ ap (λ (l : List Heard). l ++ trouble fault) heard ∙ append_assoc before (stream_items_from start (blocks_of all)) (trouble fault)
          ∙ ap (λ (n : ℕ). before ++ (stream_items_from n (blocks_of all) ++ trouble fault)) here
          ∙ ap (λ (bs : List Block). before ++ (stream_items_from (counted (place_of fed)) bs ++ trouble fault)) given
          ∙ ap (λ (o : Option BlockFault). before ++ (stream_items_from (counted (place_of fed)) f.added ++ trouble o)) same;
    }

-- nothing fed says nothing
pub items_none : stream_items [] ≡ []
unfolding stream_items blocks_of blocks_by rest_of rest_by
items_none = refl

pub nothing_taken : (inbox : Inboxed) → inbox ≡ nothing_fed → HasTaken inbox []
nothing_taken inbox is = subst (λ (i : Inboxed). HasTaken i []) (sym is) (record { reads = stands_unread; count = refl })
