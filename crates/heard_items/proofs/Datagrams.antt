-- What is heard of datagrams, and which datagrams are a venue's.
use Rattle.std.proofs.Common.{◌≡◌, ◌≢◌, ℕ, zero, suc, ◌+◌, ◌≤◌, ◌<◌, eqb, Bool, true, false, cond, List, [], ◌∷◌, ◌++◌, length, take, drop, filter, reverse, append_assoc, refl, sym, ap, ◌∙◌, subst, arith, Some, Ok, length-append, inl, inr}
use Rattle.std.specs.List.{AllByRecursion, slice_get, sum_by}
use Rattle.std.proofs.lemmas.Bool.{cond-false, ne_eqb}
use Rattle.std.proofs.lemmas.List.{append-nil, drop_all, take-append-drop}
use Rattle.std.proofs.lemmas.Grind.{reverse_onto}
use Rattle.std.proofs.lemmas.List.Sums.{sum_by-cons}
use Rattle.std.proofs.lemmas.Option.{slice_get_past, none-some}
use Rattle.unit_packets.proofs.OneCutting.{one_block as block_in_front}
use Rattle.pitch_fields.proofs.Lists.{get_behind, all_follows}
use Rattle.unit_packets.specs.Blocks.{Block, IsBlock}
use Rattle.unit_packets.specs.BlockBytes.{block_bytes, heartbeat_block}
use Rattle.unit_packets.specs.Cutting.{blocks_of, rest_of}
use Rattle.unit_packets.specs.Judging.{judge, header_of, block_at}
use Rattle.unit_packets.specs.Packing.{IsPacking, sequence_after}
use Rattle.unit_packets.specs.declared.header.Header.{Header}
use Rattle.unit_packets.proofs.Cuts.{first_of}
use Rattle.unit_packets.proofs.Judged.{front_judged}
use Rattle.unit_packets.proofs.Packs.{after_known}
use Rattle.unit_packets.proofs.Streams.{of_nothing}
use Rattle.unit_packets.proofs.Written.{written_is}
use Rattle.pitch_model.specs.History.{Entry, Raw, Message}
use Rattle.pitch_model.specs.Honest.{message_at, AreVenues, Honest}
use Rattle.pitch_model.proofs.Growing.{slice_more, venues_more}
use Rattle.pitch_model.proofs.Honesty.{venues_first, venues_rest}
use Rattle.heard_items.specs.Datagrams.{heard_blocks, block_messages, IsVenueBlock, IsPiece}
use Rattle.heard_items.specs.layers.DatagramCounts.{messages_in, fresh_in, overflows_in, changes_in}
use Rattle.heard_items.specs.Heard.{heard_block, heard_messages, heard_sequenced, block_fresh}
use Rattle.heard_items.specs.Heard.{block_overflows, fresh_messages, overflowed_messages}
use Rattle.heard_items.specs.Changes.{block_change}
use Rattle.heard_items.specs.declared.change.Change.{Change}
use Rattle.heard_items.specs.Units.{unit_history}
use Rattle.heard_items.proofs.Hearing.{fresh_messages-le, overflowed_messages-le}
use Rattle.heard_items.proofs.Units.{honest_block}

-- ---- Blocks one after another
pub heard_both : (E : List Entry) (xs ys : List Block) → heard_blocks (xs ++ ys) E ≡ heard_blocks ys (heard_blocks xs E)
heard_both E [] ys = refl
heard_both E (x ∷ xs) ys = heard_both (heard_block x E) xs ys

-- what was heard before some blocks is honest where what was heard with them is
pub honest_blocks : (Image : List Raw → ℕ → List Raw) (V : List Raw) (blocks : List Block) (E : List Entry) → Honest Image V (heard_blocks blocks E) → Honest Image V E
honest_blocks Image V [] E h = h
honest_blocks Image V (block ∷ blocks) E h = honest_block Image V block E (honest_blocks Image V blocks (heard_block block E) h)

pub fresh_sum : (H : ℕ) (E : List Entry) (blocks : List Block) → fresh_in H E blocks ≡ sum_by (λ change. change.fresh) (changes_in H E blocks)
fresh_sum H E [] = refl
fresh_sum H E (block ∷ blocks) =
    ap (λ (n : ℕ). block_fresh H E block + n) (fresh_sum H (heard_block block E) blocks)
    ∙ sym (sum_by-cons (λ (change : Change). change.fresh) (block_change H E block) (changes_in H (heard_block block E) blocks))

pub overflows_sum : (H : ℕ) (E : List Entry) (blocks : List Block) → overflows_in H E blocks ≡ sum_by (λ change. change.overflows) (changes_in H E blocks)
overflows_sum H E [] = refl
overflows_sum H E (block ∷ blocks) =
    ap (λ (n : ℕ). block_overflows H E block + n) (overflows_sum H (heard_block block E) blocks)
    ∙ sym (sum_by-cons (λ (change : Change). change.overflows) (block_change H E block) (changes_in H (heard_block block E) blocks))

fresh_one : (H : ℕ) (E : List Entry) (block : Block) → block_fresh H E block ≤ block_messages block
fresh_one H E block = by (eqb block.sequence 0)
  where
    by : (b : Bool) → cond b 0 (fresh_messages H block.sequence block.raws E) ≤ cond b 0 (length block.raws)
    by true = omega arith
    by false = fresh_messages-le H block.sequence block.raws E

overflows_one : (H : ℕ) (E : List Entry) (block : Block) → block_overflows H E block ≤ block_messages block
overflows_one H E block = by (eqb block.sequence 0)
  where
    by : (b : Bool) → cond b 0 (overflowed_messages H block.sequence block.raws E) ≤ cond b 0 (length block.raws)
    by true = omega arith
    by false = overflowed_messages-le H block.sequence block.raws E

pub fresh_few : (H : ℕ) (E : List Entry) (blocks : List Block) → fresh_in H E blocks ≤ messages_in blocks
fresh_few H E [] = omega arith
fresh_few H E (block ∷ blocks) = let one = fresh_one H E block in let rest = fresh_few H (heard_block block E) blocks in omega arith

pub overflows_few : (H : ℕ) (E : List Entry) (blocks : List Block) → overflows_in H E blocks ≤ messages_in blocks
overflows_few H E [] = omega arith
overflows_few H E (block ∷ blocks) = let one = overflows_one H E block in let rest = overflows_few H (heard_block block E) blocks in omega arith

-- ---- What a unit's client heard of a stream
abbrev of_unit : ℕ → Block → Bool
of_unit unit block = eqb block.unit unit

heard_of : (unit : ℕ) (blocks before : List Block) → unit_history unit (reverse blocks ++ before) ≡ heard_blocks (filter (of_unit unit) blocks) (unit_history unit before)
heard_of unit [] before = refl
heard_of unit (block ∷ blocks) before =
    ap (unit_history unit) (ap (λ (bs : List Block). bs ++ before) (reverse_onto blocks block []) ∙ append_assoc (reverse blocks) (block ∷ []) before)
    ∙ heard_of unit blocks (block ∷ before) ∙ by (eqb block.unit unit)
  where
    by : (b : Bool) → heard_blocks (filter (of_unit unit) blocks) (cond b (heard_block block (unit_history unit before)) (unit_history unit before))
        ≡ heard_blocks (cond b (block ∷ filter (of_unit unit) blocks) (filter (of_unit unit) blocks)) (unit_history unit before)
    by true = refl
    by false = refl

pub unit_heard : (unit : ℕ) (blocks : List Block) → unit_history unit (reverse blocks) ≡ heard_blocks (filter (of_unit unit) blocks) []
unit_heard unit blocks = ap (unit_history unit) (sym (append-nil (reverse blocks))) ∙ heard_of unit blocks []

-- ---- Places of lists
slice_drop : (n : ℕ) (xs : List Raw) (i : ℕ) → slice_get (drop n xs) i ≡ slice_get xs (n + i)
slice_drop zero xs i = let e : i ≡ 0 + i = omega arith in ap (slice_get xs) e
slice_drop (suc n) [] i = slice_get_past [] i (omega arith) ∙ sym (slice_get_past [] (suc n + i) (omega arith))
slice_drop (suc n) (x ∷ xs) i = let e : suc (n + i) ≡ suc n + i = omega arith in slice_drop n xs i ∙ ap (slice_get (x ∷ xs)) e

slice_prefix : (n : ℕ) (xs : List Raw) (i : ℕ) (x : Raw) → slice_get (take n xs) i ≡ Some x → slice_get xs i ≡ Some x
slice_prefix n xs i x at = subst (λ (ys : List Raw). slice_get ys i ≡ Some x) (take-append-drop n xs) (slice_more (take n xs) (drop n xs) i x at)

-- the messages after the first n, and some of the first of these
pub venues_slice : (V : List Raw) (n count : ℕ) → AreVenues V (n + 1) (take count (drop n V))
venues_slice V n count i raw at =
    let e : suc (n + i) ≡ (n + 1) + i = omega arith in
    subst (λ (k : ℕ). message_at V k ≡ Some raw) e (sym (slice_drop n V i) ∙ slice_prefix count (drop n V) i raw at)

pub venues_after : (V : List Raw) (n : ℕ) → AreVenues V (n + 1) (drop n V)
venues_after V n i raw at = let e : suc (n + i) ≡ (n + 1) + i = omega arith in subst (λ (k : ℕ). message_at V k ≡ Some raw) e (sym (slice_drop n V i) ∙ at)

venues_prefix : (V : List Raw) (first : ℕ) (prefix suffix : List Raw) → AreVenues V first (prefix ++ suffix) → AreVenues V first prefix
venues_prefix V first prefix suffix are i raw at = are i raw (slice_more prefix suffix i raw at)

venues_suffix : (V : List Raw) (first : ℕ) (prefix suffix : List Raw) → AreVenues V first (prefix ++ suffix) → AreVenues V (first + length prefix) suffix
venues_suffix V first prefix suffix are i raw at =
    let e : first + (length prefix + i) ≡ (first + length prefix) + i = omega arith in
    subst (λ (k : ℕ). message_at V k ≡ Some raw) e (are (length prefix + i) raw (get_behind prefix suffix i ∙ at))

-- ---- A datagram that is one block
-- it has no other
pub one_block : (datagram : List ℕ) (block : Block) → IsBlock datagram block → (blocks_of datagram ≡ block ∷ []) × (rest_of datagram ≡ [])
one_block datagram block is =
    let all : datagram ++ [] ≡ datagram = append-nil datagram in
    let h : Header = header_of datagram in
    let judged : judge datagram ≡ Ok h = subst (λ (d : List ℕ). judge d ≡ Ok (header_of d)) all (front_judged datagram [] block is) in
    let first = first_of datagram h judged in
    let behind : drop h.length datagram ≡ [] = drop_all h.length datagram (let size = is.size in omega arith) in
    let same : block_at h datagram ≡ block = subst (λ (d : List ℕ). block_at (header_of d) d ≡ block) all (block_in_front datagram [] block is) in (
      first.blocks ∙ ap (λ (b : Block). b ∷ blocks_of (drop h.length datagram)) same ∙ ap (λ (r : List ℕ). block ∷ blocks_of r) behind ∙ ap (λ (bs : List Block). block ∷ bs) of_nothing.blocks,
      first.rest ∙ ap rest_of behind ∙ of_nothing.rest,
    )

block_piece : (V : List Raw) (unit : ℕ) (datagram : List ℕ) (block : Block) → IsBlock datagram block → IsVenueBlock V unit block → IsPiece V unit datagram
block_piece V unit datagram block is of =
    let one = one_block datagram block is in
    record { whole = one.1; blocks = subst (AllByRecursion (IsVenueBlock V unit)) (sym one.0) (of, tt) }

-- what is packed is pieces
pub packing_pieces : (V : List Raw) (unit first : ℕ) (raws : List Raw) (datagrams : List (List ℕ)) → 0 < first → first + length raws ≤ length V + 1 → AreVenues V first raws → IsPacking unit first raws datagrams
    → AllByRecursion (IsPiece V unit) datagrams
packing_pieces V unit first raws [] known within are packing = tt
packing_pieces V unit first raws (d ∷ datagrams) known within are (prefix, suffix, split, is, full, rest) =
    let all : AreVenues V first (prefix ++ suffix) = subst (AreVenues V first) split are in
    let count : length raws ≡ length prefix + length suffix = ap (λ (rs : List Raw). length rs) split ∙ length-append prefix suffix in
    let some : first ≢ 0 = λ e. omega (arith, e, known) in
    let next : sequence_after first (length prefix) ≡ first + length prefix = after_known first (length prefix) some in (
      block_piece V unit d (record { unit = unit; sequence = first; raws = prefix }) is.block (record { unit_is = refl; sequenced = known; messages = venues_prefix V first prefix suffix all; within = omega (arith, within, count) }),
      packing_pieces V unit (first + length prefix) suffix datagrams (omega (arith, known)) (omega (arith, within, count)) (venues_suffix V first prefix suffix all)
          (subst (λ (n : ℕ). IsPacking unit n suffix datagrams) next rest),
    )

-- so is a heartbeat
pub heartbeat_piece : (V : List Raw) (unit next : ℕ) → unit < 256 → 0 < next → next ≤ length V + 1 → next ≤ 4294967295 → IsPiece V unit (block_bytes (heartbeat_block unit next))
heartbeat_piece V unit next small some within few =
    let block : Block = heartbeat_block unit next in
    block_piece V unit (block_bytes block) block (written_is block (record { unit = small; sequence = omega arith; size = omega arith; few = omega arith; raws = tt; within = inr (inl refl) }))
    (record { unit_is = refl; sequenced = some; messages = λ i raw at. absurd (none-some raw (sym (slice_get_past [] i (omega arith)) ∙ at)); within = omega arith })

-- ---- More messages
block_more : (V more : List Raw) (unit : ℕ) (block : Block) → IsVenueBlock V unit block → IsVenueBlock (V ++ more) unit block
block_more V more unit block of = record {
  unit_is = of.unit_is;
  sequenced = of.sequenced;
  messages = venues_more V more block.sequence block.raws of.messages;
  within = omega (arith, of.within, length-append V more);
}

pub piece_more : (V more : List Raw) (unit : ℕ) (datagram : List ℕ) → IsPiece V unit datagram → IsPiece (V ++ more) unit datagram
piece_more V more unit datagram piece = record { whole = piece.whole; blocks = all_follows (IsVenueBlock V unit) (IsVenueBlock (V ++ more) unit) (block_more V more unit) (blocks_of datagram) piece.blocks }

-- pieces stay pieces where the venue accepts more
pub pieces_more : (V more : List Raw) (unit : ℕ) (datagrams : List (List ℕ)) → AllByRecursion (IsPiece V unit) datagrams → AllByRecursion (IsPiece (V ++ more) unit) datagrams
pieces_more V more unit datagrams all = all_follows (IsPiece V unit) (IsPiece (V ++ more) unit) (piece_more V more unit) datagrams all

-- ---- What is heard of them is honest
module _ (Image : List Raw → ℕ → List Raw) (V : List Raw) where
  honest_messages_more : (first : ℕ) (raws : List Raw) (E : List Entry) → AreVenues V first raws → Honest Image V E → Honest Image V (heard_messages first raws E)
  honest_messages_more first [] E are h = h
  honest_messages_more first (raw ∷ raws) E are h =
      honest_messages_more (first + 1) raws (Message first raw ∷ E) (venues_rest V first (raw ∷ raws) raws raw refl are) (venues_first V first (raw ∷ raws) raws raw refl are, h)

  honest_sequenced_more : (sequence : ℕ) (raws : List Raw) (E : List Entry) → AreVenues V sequence raws → sequence ≤ length V + 1 → Honest Image V E → Honest Image V (heard_sequenced sequence raws E)
  honest_sequenced_more sequence [] E are within h = (within, h)
  honest_sequenced_more sequence (raw ∷ raws) E are within h = honest_messages_more sequence (raw ∷ raws) E are h

  honest_block_more : (unit : ℕ) (block : Block) (E : List Entry) → IsVenueBlock V unit block → Honest Image V E → Honest Image V (heard_block block E)
  honest_block_more unit block E of h =
      let known = of.sequenced in
      let within = of.within in
      let sequenced = ne_eqb block.sequence 0 (λ e. omega (arith, e, known)) in
      subst (Honest Image V) (sym (cond-false (eqb block.sequence 0) E (heard_sequenced block.sequence block.raws E) sequenced))
      (honest_sequenced_more block.sequence block.raws E of.messages (omega (arith, within)) h)

  honest_blocks_more : (unit : ℕ) (blocks : List Block) (E : List Entry) → AllByRecursion (IsVenueBlock V unit) blocks → Honest Image V E → Honest Image V (heard_blocks blocks E)
  honest_blocks_more unit [] E all h = h
  honest_blocks_more unit (block ∷ blocks) E all h = honest_blocks_more unit blocks (heard_block block E) all.1 (honest_block_more unit block E all.0 h)

  pub honest_piece : (unit : ℕ) (datagram : List ℕ) (E : List Entry) → IsPiece V unit datagram → Honest Image V E → Honest Image V (heard_blocks (blocks_of datagram) E)
  honest_piece unit datagram E piece h = honest_blocks_more unit (blocks_of datagram) E piece.blocks h
