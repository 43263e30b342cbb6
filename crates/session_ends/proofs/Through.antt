-- Going through what the bytes of a reader say.
use Rattle.std.proofs.Common.{◌≡◌, ℕ, ◌+◌, Bool, true, false, cond, ◌||◌, List, [], ◌∷◌, ◌++◌, length, drop, refl, sym, ap, ◌∙◌, arith, subst, append_assoc, Option, Some, None, Err, is_some, MatchOption, nat_eq}
use Rattle.std.specs.Prelude.{IfSome}
use Rattle.std.specs.List.{list_any}
use Rattle.std.proofs.lemmas.List.{length-drop, drop-drop}
use Rattle.unit_packets.specs.Blocks.{Block}
use Rattle.unit_packets.specs.Causes.{counted}
use Rattle.unit_packets.specs.Cutting.{blocks_of, rest_of, place_of, fault_from, fault_in}
use Rattle.unit_packets.specs.Feeding.{fed_fault}
use Rattle.unit_packets.specs.Judging.{judge}
use Rattle.unit_packets.specs.Held.{StandsFirst}
use Rattle.unit_packets.specs.Reading.{Reading}
use Rattle.unit_packets.specs.Pieces.{loaded, passed}
use Rattle.unit_packets.specs.declared.header.BlockError.{BlockError}
use Rattle.unit_packets.specs.declared.header.BlockFault.{BlockFault}
use Rattle.unit_packets.proofs.Cuts.{none_of, rest_short}
use Rattle.unit_packets.proofs.Streams.{leads, fault_judged}
use Rattle.session_ends.specs.declared.closed.CloseCause.TheVariants.{Sequenced}
use Rattle.session_ends.specs.declared.inbox.Heard.{Heard}
use Rattle.session_ends.specs.declared.inbox.Heard.TheVariants.{Broken}
use Rattle.session_ends.specs.Closing.{Setup, first_cause, logs_in}
use Rattle.session_ends.specs.Ending.{Ending}
use Rattle.session_ends.specs.layers.Hearing.{rest_items, reader_items, block_left, follows, IsCut}
use Rattle.session_ends.specs.layers.Hearing.{IsThrough}
use Rattle.session_ends.specs.Inboxes.{Inboxed, HasTaken}
use Rattle.session_ends.specs.layers.Hearing.{TakesPiece}
use Rattle.session_ends.specs.Items.{closed_at, messages_from, onward, block_size, block_items, stream_items_from, trouble}
use Rattle.session_ends.specs.Sending.{some_bytes}
use Rattle.session_ends.specs.layers.Driving.{Drives, HearsPiece}
use Rattle.session_ends.proofs.Ends.{pieced}
use Rattle.session_ends.proofs.Inboxes.{taken_in}

-- ---- One step
-- a block stands first
pub rest_more : (place : ℕ) (rest : List ℕ) (block : Block) → StandsFirst rest block
    → rest_items place rest ≡ block_items place block ++ rest_items (onward place (block_size block)) (drop (block_size block) rest)
unfolding rest_items
rest_more place rest block stands =
    let size : ℕ = block_size block in
    let next : List ℕ = drop size rest in
    let l = leads rest block stands in
    let e : counted (place + place_of rest) ≡ counted (onward place size + place_of next) =
    omega (arith, l.fits, ap length l.rest_is, length-drop size rest, rest_short next) in
    let later : List Heard = trouble (fault_from false (counted (onward place size + place_of next)) (judge (rest_of next))) in
    ap (λ (n : ℕ). stream_items_from place (blocks_of rest) ++ trouble (fault_from false n (judge (rest_of rest)))) e
    ∙ ap (λ (r : List ℕ). stream_items_from place (blocks_of rest) ++ trouble (fault_from false (counted (onward place size + place_of next)) (judge r))) l.rest_is
    ∙ ap (λ (bs : List Block). stream_items_from place bs ++ later) l.blocks
    ∙ append_assoc (block_items place block) (stream_items_from (onward place size) (blocks_of next)) later

-- no block does
pub rest_stop : (place : ℕ) (rest : List ℕ) (e : BlockError) → counted place ≡ place → judge rest ≡ Err e → rest_items place rest ≡ trouble (fault_from false place (Err e))
unfolding rest_items
rest_stop place rest e small is =
    let none = none_of rest e is in
    let at : counted (place + place_of rest) ≡ place = omega (arith, small, ap length none.rest) in
    ap (λ (bs : List Block). stream_items_from place bs ++ trouble (fault_from false (counted (place + place_of rest)) (judge (rest_of rest)))) none.blocks
    ∙ ap (λ (n : ℕ). trouble (fault_from false n (judge (rest_of rest)))) at
    ∙ ap (λ (r : List ℕ). trouble (fault_from false place (judge r))) none.rest
    ∙ ap (λ r. trouble (fault_from false place r)) is

-- the block that stands next is begun
module _ (bytes : List ℕ) (at place message : ℕ) (raws : List (List ℕ)) (inside : Bool) (stop : Option BlockError) (block : Block) (size : ℕ)
    (stands : StandsFirst (drop at bytes) block) (shut : inside ≡ false) (on : stop ≡ None) (is : size ≡ block_size block) where
  onto : drop (block_size block) (drop at bytes) ≡ drop (at + size) bytes
  onto = drop-drop (block_size block) at bytes ∙ ap (λ (k : ℕ). drop (at + k) bytes) (sym is)

  pub begun : block_left inside message raws ++ follows stop place (drop at bytes) ≡ block_items place block ++ follows stop (onward place size) (drop (at + size) bytes)
  begun = ap (λ (b : Bool). block_left b message raws ++ follows stop place (drop at bytes)) shut
      ∙ ap (λ (o : Option BlockError). follows o place (drop at bytes)) on
      ∙ rest_more place (drop at bytes) block stands
      ∙ ap (λ (r : List ℕ). block_items place block ++ rest_items (onward place (block_size block)) r) onto
      ∙ ap (λ (n : ℕ). block_items place block ++ rest_items (onward place n) (drop (at + size) bytes)) (sym is)
      ∙ ap (λ (o : Option BlockError). block_items place block ++ follows o (onward place size) (drop (at + size) bytes)) (sym on)

  -- its sequence is none of a session
  pub begun_broken : nat_eq block.sequence 0 ≡ false → block_left inside message raws ++ follows stop place (drop at bytes)
      ≡ Broken (closed_at Sequenced place) ∷ (block_left inside message raws ++ follows stop (onward place size) (drop (at + size) bytes))
  begun_broken some = begun
      ∙ ap (λ (b : Bool). cond b (messages_from (onward place 8) block.raws) (Broken (closed_at Sequenced place) ∷ []) ++ follows stop (onward place size) (drop (at + size) bytes)) some
      ∙ ap (λ (b : Bool). Broken (closed_at Sequenced place) ∷ (block_left b message raws ++ follows stop (onward place size) (drop (at + size) bytes))) (sym shut)

  pub begun_block : nat_eq block.sequence 0 ≡ true → block_left inside message raws ++ follows stop place (drop at bytes)
      ≡ block_left true (onward place 8) block.raws ++ follows stop (onward place size) (drop (at + size) bytes)
  begun_block none = begun
      ∙ ap (λ (b : Bool). cond b (messages_from (onward place 8) block.raws) (Broken (closed_at Sequenced place) ∷ []) ++ follows stop (onward place size) (drop (at + size) bytes)) none

  pub cut_more : IsCut bytes at stop → IsCut bytes (at + size) stop
  cut_more c =
      let l = leads (drop at bytes) block stands in
      record {
        within = omega (arith, l.fits, length-drop at bytes, c.within, is);
        rest = c.rest ∙ l.rest_is ∙ ap rest_of onto;
        stops = subst (λ (o : Option BlockError). IfSome o (λ error. judge (drop (at + size) bytes) ≡ Err error)) (sym on) tt;
      }

pub stopped : (bytes : List ℕ) (at place message : ℕ) (raws : List (List ℕ)) (inside : Bool) (stop : Option BlockError) (e : BlockError) (item : Option Heard)
    → inside ≡ false → stop ≡ None → counted place ≡ place → judge (drop at bytes) ≡ Err e
    → MatchOption item (trouble (fault_from false place (Err e)) ≡ []) (λ item. trouble (fault_from false place (Err e)) ≡ item ∷ [])
    → MatchOption item (block_left inside message raws ++ follows stop place (drop at bytes) ≡ []) (λ item. block_left inside message raws ++ follows stop place (drop at bytes) ≡ item ∷ [])
stopped bytes at place message raws inside stop e item shut on small is m =
    let all : block_left inside message raws ++ follows stop place (drop at bytes) ≡ trouble (fault_from false place (Err e)) =
    ap (λ (b : Bool). block_left b message raws ++ follows stop place (drop at bytes)) shut
    ∙ ap (λ (o : Option BlockError). follows o place (drop at bytes)) on ∙ rest_stop place (drop at bytes) e small is in
    subst (λ (l : List Heard). MatchOption item (l ≡ []) (λ item. l ≡ item ∷ [])) (sym all) m

-- nothing more follows
pub through : (bytes : List ℕ) (at : ℕ) (stop : Option BlockError) → IsCut bytes at stop → is_some stop ≡ true → IsThrough bytes at
through bytes at None c is = cc
through bytes at (Some e) c is = record { within = c.within; rest = c.rest ∙ (none_of (drop at bytes) e c.stops).rest; error = e; stop = c.stops }

-- ---- A piece
-- the reader of a piece, all of which was gone through
pub reader_through : (fed piece : List ℕ) (old new : Inboxed) (count : ℕ) → HasTaken old fed → fed_fault fed ≡ None → IsThrough (old.reading.rest ++ piece) count
    → new ≡ record { reading = passed (loaded old.reading piece) count; fed = counted (old.fed + length piece) } → TakesPiece fed piece new [] (reader_items (loaded old.reading piece))
unfolding rest_items
reader_through fed piece old new count taken none t is =
    let all : List ℕ = old.reading.rest ++ piece in
    let start : ℕ = old.reading.place in
    let says : List Heard = stream_items_from start (blocks_of all) in
    let fault : Option BlockFault = fault_in false (counted (start + count)) (drop count all) in
    let at : place_of all ≡ count = omega (arith, t.within, ap length t.rest, length-drop count all) in
    let after : says ++ trouble (fault_from false (counted (start + place_of all)) (judge (rest_of all))) ≡ says ++ trouble fault =
    ap (λ (n : ℕ). says ++ trouble (fault_from false (counted (start + n)) (judge (rest_of all)))) at
    ∙ ap (λ (r : List ℕ). says ++ trouble (fault_from false (counted (start + count)) (judge r))) t.rest
    ∙ ap (λ (f : Option BlockFault). says ++ trouble f) (sym (fault_judged (counted (start + count)) (drop count all))) in
    subst (λ (i : Inboxed). TakesPiece fed piece i [] (reader_items (loaded old.reading piece))) (sym is)
    (taken_in fed piece all old (record { reading = passed (loaded old.reading piece) count; fed = counted (old.fed + length piece) }) count fault start [] says (says ++ trouble (fault_from false (counted (start + place_of all)) (judge (rest_of all))))
    taken none refl refl (sym at) refl refl refl refl refl after)

-- an end took a piece in, heard all that its reader says, took the reader back, and noted what it
-- said
pub hears_piece : {X : Type 0} (answered : Setup → Bool → Heard → X → X → Type 0) (old taken heard back new : Ending) (piece said : List ℕ) (reader : Reading) (count : ℕ) (from to : X)
    → reader ≡ loaded old.inbox.reading piece → taken.inbox.fed ≡ counted (old.inbox.fed + length piece) → taken.heard ≡ (old.heard || some_bytes piece)
    → taken ≡ record old { inbox = taken.inbox; heard = taken.heard } → IsThrough reader.rest count
    → heard ≡ record taken { closed = heard.closed; logged = heard.logged } → heard.closed ≡ first_cause taken.setup taken.logged (reader_items reader)
    → (heard.closed ≡ None → heard.logged ≡ (taken.logged || list_any (logs_in taken.setup.role) (reader_items reader)))
    → back ≡ record heard { inbox = record { reading = passed reader count; fed = heard.inbox.fed } } → new ≡ record back { sent = (back.sent || some_bytes said) }
    → Drives answered taken.setup taken.logged (reader_items reader) from to → HearsPiece answered old new piece said from to
hears_piece answered old taken heard back new piece said reader count from to is fed hears first t then closed logged returned last drives =
    let inbox : new.inbox ≡ record { reading = passed reader count; fed = heard.inbox.fed } = ap (λ (v : Ending). v.inbox) last ∙ ap (λ (v : Ending). v.inbox) returned in
    let number : heard.inbox.fed ≡ counted (old.inbox.fed + length piece) = ap (λ (v : Ending). v.inbox.fed) then ∙ fed in
    let at_last : new.inbox ≡ record { reading = passed (loaded old.inbox.reading piece) count; fed = counted (old.inbox.fed + length piece) } =
    inbox ∙ ap (λ (n : ℕ). record { reading = passed reader count; fed = n }) number ∙ ap (λ (r : Reading). record { reading = passed r count; fed = counted (old.inbox.fed + length piece) }) is in
    record {
      items = reader_items reader;
      takes = λ before taken_before none.
          subst (λ (r : Reading). TakesPiece before piece new.inbox [] (reader_items r)) (sym is)
          (reader_through before piece old.inbox new.inbox count taken_before none (subst (λ (r : Reading). IsThrough r.rest count) is t) at_last);
      did = pieced old (record taken { inbox = new.inbox }) (record heard { inbox = new.inbox }) new piece said (reader_items reader)
          (ap (λ (v : Ending). record v { inbox = new.inbox }) first) hears (ap (λ (v : Ending). record v { inbox = new.inbox }) then) closed logged
          (last ∙ ap (λ (v : Ending). record v { sent = (v.sent || some_bytes said) }) returned
          ∙ ap (λ (i : Inboxed). record heard { inbox = i; sent = (heard.sent || some_bytes said) }) (sym inbox));
      drives = subst (λ (v : Ending). Drives answered v.setup v.logged (reader_items reader) from to) first drives;
    }
