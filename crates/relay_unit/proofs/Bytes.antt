-- The blocks of a stream have no more messages than the stream has bytes.
use Rattle.std.proofs.Common.{◌≡◌, ℕ, zero, suc, ◌+◌, ◌≤◌, ◌==◌, List, [], ◌∷◌, ◌++◌, length, take, drop, reverse, slice_index, inl, inr, refl, ap, ◌∙◌, arith}
use Rattle.std.proofs.lemmas.Bool.{cond_both}
use Rattle.std.proofs.lemmas.List.{length-drop, length-take-le, reverse-append}
use Rattle.pitch_messages.specs.Raw.{begins_raw, raws_of}
use Rattle.pitch_messages.proofs.LongestChain.{begins_parts}
use Rattle.unit_packets.specs.Blocks.{Block}
use Rattle.unit_packets.specs.Cutting.{blocks_of}
use Rattle.unit_packets.specs.Judging.{judge, block_at}
use Rattle.unit_packets.specs.declared.header.Header.{Header}
use Rattle.unit_packets.proofs.Cuts.{cases_Result, first_of, none_of}
use Rattle.unit_packets.proofs.Stable.{judge_found}
use Rattle.relay_unit.specs.Sparing.{messages_heard}

-- how many messages some blocks have
abbrev all_messages : List Block → ℕ
all_messages [] = 0
all_messages (block ∷ blocks) = length block.raws + all_messages blocks

-- ---- No more than bytes
raws_few : (n : ℕ) (body : List ℕ) → length (raws_of n body) ≤ length body
unfolding raws_of
raws_few zero body = omega arith
raws_few (suc n) body =
    let size = slice_index body 0 in
    let left = length-drop size body in
    cond_both (begins_raw body) (take size body ∷ raws_of n (drop size body)) [] (λ (raws : List (List ℕ)). length raws ≤ length body)
    (λ t. let more = raws_few n (drop size body) in let is = begins_parts body t in let two = is.0 in let fits = is.1 in omega arith)
    (λ f. omega arith)

block_few : (bytes : List ℕ) (h : Header) → h.length ≤ length bytes → length (block_at h bytes).raws ≤ h.length
block_few bytes h fits =
    let few = raws_few h.count (drop 8 (take h.length bytes)) in
    let size = length-take-le h.length bytes fits in
    let left = length-drop 8 (take h.length bytes) in
    omega arith

few_by : (n : ℕ) (bytes : List ℕ) → length bytes ≤ n → all_messages (blocks_of bytes) ≤ length bytes
few_by zero bytes le = elim (cases_Result (judge bytes)) [
  | inl found ↦ let s = judge_found bytes found.0 found.1 in absurd (omega (arith, s.header, s.fits))
  | inr none ↦ omega (arith, ap all_messages (none_of bytes none.0 none.1).blocks)
]
few_by (suc n) bytes le = elim (cases_Result (judge bytes)) [
  | inl found ↦
      let h : Header = found.0 in
      let s = judge_found bytes h found.1 in
      let first = ap all_messages (first_of bytes h found.1).blocks in
      let few = block_few bytes h s.fits in
      let left = length-drop h.length bytes in
      let more = few_by n (drop h.length bytes) (omega (arith, s.header, s.fits, left)) in
      omega (arith, first, few, left, more, s.header, s.fits)
  | inr none ↦ omega (arith, ap all_messages (none_of bytes none.0 none.1).blocks)
]

-- ---- Of one unit, and newest first
all_append : (xs ys : List Block) → all_messages (xs ++ ys) ≡ all_messages xs + all_messages ys
all_append [] ys = omega arith
all_append (x ∷ xs) ys = let more = all_append xs ys in omega arith

all_reverse : (blocks : List Block) → all_messages (reverse blocks) ≡ all_messages blocks
all_reverse [] = refl
all_reverse (block ∷ blocks) =
    let turned = ap all_messages (reverse-append (block ∷ []) blocks) ∙ all_append (reverse blocks) (block ∷ []) in
    let more = all_reverse blocks in
    omega arith

heard_few : (unit : ℕ) (blocks : List Block) → messages_heard unit blocks ≤ all_messages blocks
heard_few unit [] = omega arith
heard_few unit (block ∷ blocks) =
    let more = heard_few unit blocks in
    cond_both (block.unit == unit) (messages_heard unit blocks + length block.raws) (messages_heard unit blocks) (λ n. n ≤ all_messages (block ∷ blocks)) (λ t. omega arith) (λ f. omega arith)

-- no unit has more messages than the bytes up to some block
pub heard_within : (unit : ℕ) (bytes : List ℕ) (done left : List Block) (block : Block) → blocks_of bytes ≡ done ++ (block ∷ left) → messages_heard unit (block ∷ reverse done) ≤ length bytes
heard_within unit bytes done left block are =
    let few = few_by (length bytes) bytes (omega arith) in
    let all = ap all_messages are ∙ all_append done (block ∷ left) in
    let turned = all_reverse done in
    let heard = heard_few unit (block ∷ reverse done) in
    omega arith
