-- The computed cutting is the longest list of blocks, and there is no other.
use Rattle.std.proofs.Common.{◌≡◌, ℕ, zero, suc, ◌+◌, ◌<◌, ◌≤◌, List, [], ◌∷◌, ◌++◌, length, take, drop, get_or, refl, sym, ap, ◌∙◌, arith, Err, subst, inl, inr}
use Rattle.std.proofs.lemmas.List.{length-drop, get_or-drop, take-append-drop, drop_at}
use Rattle.pitch_fields.proofs.Bytes.{byte_at}
use Rattle.pitch_messages.specs.Raw.{raws_of}
use Rattle.unit_packets.specs.Blocks.{Block, IsBlock}
use Rattle.unit_packets.specs.Cuts.{AreBlocks, BeginsNoBlock, Cuts}
use Rattle.unit_packets.specs.declared.header.Header.{Header}
use Rattle.unit_packets.specs.declared.header.BlockError.{BlockError}
use Rattle.unit_packets.specs.Judging.{judge, block_at, header_of}
use Rattle.unit_packets.specs.Cutting.{blocks_of, rest_of}
use Rattle.unit_packets.specs.layers.CuttingLaws.{CutsAreComputed, CutsAreOne}
use Rattle.unit_packets.proofs.Judged.{judged_begins, fault_none, front_stands}
use Rattle.unit_packets.proofs.Stable.{judge_found}
use Rattle.unit_packets.proofs.Cuts.{first_of, none_of, cases_Result}

-- each is a byte, by its place
abbrev pub AreSmall : List ℕ → Type 0
AreSmall bytes = (i : ℕ) → get_or bytes i 0 < 256

pub drop_small : (n : ℕ) (bytes : List ℕ) → AreSmall bytes → AreSmall (drop n bytes)
drop_small n bytes small i = subst (λ (v : ℕ). v < 256) (sym (get_or-drop n bytes i 0)) (small (n + i))

no_block : (bytes : List ℕ) (e : BlockError) → judge bytes ≡ Err e → Cuts bytes (blocks_of bytes) (rest_of bytes)
no_block bytes e is =
    let n = none_of bytes e is in
    subst (λ (bs : List Block). Cuts bytes bs (rest_of bytes)) (sym n.blocks) (record { whole = sym n.rest; longest = subst BeginsNoBlock (sym n.rest) (fault_none bytes e is) })

whole_by : (n : ℕ) (bytes : List ℕ) → length bytes ≤ n → AreSmall bytes → Cuts bytes (blocks_of bytes) (rest_of bytes)
whole_by zero bytes le small = elim (cases_Result (judge bytes)) [
  | inl found ↦ let s = judge_found bytes found.0 found.1 in absurd (omega (arith, s.header, s.fits))
  | inr none ↦ no_block bytes none.0 none.1
]
whole_by (suc n) bytes le small = elim (cases_Result (judge bytes)) [
  | inl found ↦
      let h : Header = found.0 in
      let s = judge_found bytes h found.1 in
      let f = first_of bytes h found.1 in
      let prefix = judged_begins bytes h small found.1 in
      let more = whole_by n (drop h.length bytes) (omega (arith, s.header, s.fits, length-drop h.length bytes)) (drop_small h.length bytes small) in
      subst (λ (bs : List Block). Cuts bytes bs (rest_of bytes)) (sym f.blocks)
      (subst (λ (r : List ℕ). Cuts bytes (block_at h bytes ∷ blocks_of (drop h.length bytes)) r) (sym f.rest)
      (record { whole = (take h.length bytes, drop h.length bytes, sym (take-append-drop h.length bytes), prefix.block, more.whole); longest = more.longest }))
  | inr none ↦ no_block bytes none.0 none.1
]

-- for bytes, the computed cutting is one
pub cuts_are_computed : CutsAreComputed
cuts_are_computed bytes all = whole_by (length bytes) bytes (omega arith) (byte_at bytes all)

abbrev made : ℕ → ℕ → List (List ℕ) → Block
made u s rs = record { unit = u; sequence = s; raws = rs }

same_block : (u s : ℕ) (rs : List (List ℕ)) (block : Block) → u ≡ block.unit → s ≡ block.sequence → rs ≡ block.raws → made u s rs ≡ block
same_block u s rs block a b c =
    ap (λ (v : ℕ). made v s rs) a ∙ ap (λ (v : ℕ). made block.unit v rs) b ∙ ap (λ (v : List (List ℕ)). made block.unit block.sequence v) c

pub one_block : (prefix suffix : List ℕ) (block : Block) → IsBlock prefix block → block_at (header_of (prefix ++ suffix)) (prefix ++ suffix) ≡ block
one_block prefix suffix block is =
    let s = front_stands prefix suffix block is in
    let raws : raws_of (header_of (prefix ++ suffix)).count (drop 8 (take (header_of (prefix ++ suffix)).length (prefix ++ suffix))) ≡ block.raws =
    ap (λ (n : ℕ). raws_of n (drop 8 (take (header_of (prefix ++ suffix)).length (prefix ++ suffix)))) s.count_is
    ∙ ap (λ (r : List ℕ). raws_of (length block.raws) (drop 8 r)) s.cut ∙ s.raws_are in
    same_block _ _ _ block s.unit_is s.sequence_is raws

-- blocks that stand at the start of the same bytes are one
same_prefix : (prefix suffix fore after : List ℕ) (block other : Block) → IsBlock prefix block → IsBlock fore other → prefix ++ suffix ≡ fore ++ after → (block ≡ other) × (suffix ≡ after)
same_prefix prefix suffix fore after block other is also same =
    let behind : (prefix suffix : List ℕ) (block : Block) → IsBlock prefix block → drop (header_of (prefix ++ suffix)).length (prefix ++ suffix) ≡ suffix =
    λ prefix suffix block is. ap (λ (k : ℕ). drop k (prefix ++ suffix)) (front_stands prefix suffix block is).length_is ∙ drop_at prefix suffix (length prefix) refl in (
      sym (one_block prefix suffix block is) ∙ ap (λ (bytes : List ℕ). block_at (header_of bytes) bytes) same ∙ one_block fore after other also,
      sym (behind prefix suffix block is) ∙ ap (λ (bytes : List ℕ). drop (header_of bytes).length bytes) same ∙ behind fore after other also,
    )

one_by : (bytes : List ℕ) (blocks others : List Block) (rest left : List ℕ) → AreBlocks bytes blocks rest → AreBlocks bytes others left → BeginsNoBlock rest → BeginsNoBlock left → (blocks ≡ others) × (rest ≡ left)
one_by bytes [] [] rest left one other none no_more = (refl, sym one ∙ other)
one_by bytes [] (o ∷ others) rest left one (fore, after, cut, also, more) none no_more = absurd (none fore after o (sym one ∙ cut) also)
one_by bytes (b ∷ blocks) [] rest left (prefix, suffix, split, is, more) other none no_more = absurd (no_more prefix suffix b (sym other ∙ split) is)
one_by bytes (b ∷ blocks) (o ∷ others) rest left (prefix, suffix, split, is, more) (fore, after, cut, also, also_more) none no_more =
    let first = same_prefix prefix suffix fore after b o is also (sym split ∙ cut) in
    let again = one_by suffix blocks others rest left more (subst (λ (r : List ℕ). AreBlocks r others left) (sym first.1) also_more) none no_more in
    (ap (λ (x : Block). x ∷ blocks) first.0 ∙ ap (λ (xs : List Block). o ∷ xs) again.0, again.1)

-- no cutting is another
pub cuts_are_one : CutsAreOne
cuts_are_one bytes blocks others rest left one other = one_by bytes blocks others rest left one.whole other.whole one.longest other.longest
