-- What packed messages bring that are heard datagram by datagram.
use Rattle.std.proofs.Common.{◌≡◌, ℕ, ◌+◌, ◌<◌, Bool, cond, List, [], ◌∷◌, ◌++◌, length, sym, ap, ◌∙◌, subst, arith}
use Rattle.std.specs.List.{flat_map}
use Rattle.std.proofs.lemmas.Bool.{ne_eqb}
use Rattle.unit_packets.specs.Blocks.{Block}
use Rattle.unit_packets.specs.Cutting.{blocks_of}
use Rattle.unit_packets.specs.Packing.{IsPacking, IsDatagram, sequence_after}
use Rattle.pitch_model.specs.History.{Entry, Raw, Message}
use Rattle.heard_items.specs.Datagrams.{heard_blocks}
use Rattle.heard_items.specs.Heard.{heard_messages, heard_sequenced}
use Rattle.heard_items.proofs.Datagrams.{heard_both, one_block}

messages_both : (first : ℕ) (xs ys : List Raw) (E : List Entry) → heard_messages first (xs ++ ys) E ≡ heard_messages (first + length xs) ys (heard_messages first xs E)
messages_both first [] ys E = let e : first ≡ first + 0 = omega arith in ap (λ (n : ℕ). heard_messages n ys E) e
messages_both first (x ∷ xs) ys E =
    let e : (first + 1) + length xs ≡ first + length (x ∷ xs) = omega arith in
    messages_both (first + 1) xs ys (Message first x ∷ E) ∙ ap (λ (n : ℕ). heard_messages n ys (heard_messages (first + 1) xs (Message first x ∷ E))) e

-- one datagram
one_brings : (unit first : ℕ) (raws : List Raw) (datagram : List ℕ) (E : List Entry) → 0 < first → IsDatagram unit first raws datagram → heard_blocks (blocks_of datagram) E ≡ heard_messages first raws E
one_brings unit first [] datagram E low d = let some = d.some in absurd (omega (arith, some))
one_brings unit first (raw ∷ raws) datagram E low d =
    ap (λ (l : List Block). heard_blocks l E) (one_block datagram (record { unit = unit; sequence = first; raws = raw ∷ raws }) d.block).0
    ∙ ap (λ (b : Bool). cond b E (heard_sequenced first (raw ∷ raws) E)) (ne_eqb first 0 (λ e. omega (arith, e, low)))

-- all of them
pub packing_brings : (unit first : ℕ) (raws : List Raw) (datagrams : List (List ℕ)) (E : List Entry) → 0 < first → IsPacking unit first raws datagrams → heard_blocks (flat_map blocks_of datagrams) E ≡ heard_messages first raws E
packing_brings unit first raws [] E low packing = ap (λ (l : List Raw). heard_messages first l E) (sym packing)
packing_brings unit first raws (datagram ∷ datagrams) E low (front, back, split, d, full, packing) =
    let next : sequence_after first (length front) ≡ first + length front = ap (λ (b : Bool). cond b 0 (first + length front)) (ne_eqb first 0 (λ e. omega (arith, e, low))) in
    heard_both E (blocks_of datagram) (flat_map blocks_of datagrams)
    ∙ ap (heard_blocks (flat_map blocks_of datagrams)) (one_brings unit first front datagram E low d)
    ∙ packing_brings unit (first + length front) back datagrams (heard_messages first front E) (omega (arith, low)) (subst (λ (n : ℕ). IsPacking unit n back datagrams) next packing)
    ∙ sym (messages_both first front back E)
    ∙ ap (λ (l : List Raw). heard_messages first l E) (sym split)
