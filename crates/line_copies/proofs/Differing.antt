-- A sequence that is told came twice, with different bytes.
use Rattle.std.proofs.Common.{◌≡◌, ℕ, suc, ◌+◌, ◌<◌, Bool, true, false, not, nat_lt, ◌==◌, cond, ◌⊎◌, inl, inr, List, [], ◌∷◌, Option, Some, None, refl, sym, ap, ◌∙◌, subst, arith}
use Rattle.std.specs.List.{Contains}
use Rattle.std.specs.Option.{IfSome, option_or}
use Rattle.std.proofs.lemmas.Bool.{and_parts, cond_both, eqb-false, eqb-true, not-true}
use Rattle.std.proofs.lemmas.Option.{none-some, same_Some}
use Rattle.unit_packets.specs.Blocks.{Block}
use Rattle.pitch_model.specs.History.{Entry, Raw, Message, Next}
use Rattle.heard_items.specs.Heard.{heard_messages, heard_block}
use Rattle.heard_items.specs.HeardBlocks.{heard_sequenced}
use Rattle.line_copies.specs.Sums.{sum_of}
use Rattle.line_copies.specs.declared.kept.Kept.{Kept}
use Rattle.line_copies.specs.Copies.{slot_of, kept_of, later_of, nothing_kept, kept_at, is_other, first_differing, block_differing, CopiesDiffer}

-- ---- What is kept came
contains_later : {X : Type 0} (x y : X) (xs : List X) → Contains xs y → Contains (x ∷ xs) y
contains_later x y xs has = let within = has.1 in (suc has.0, omega arith, has.2)

contains_first : {X : Type 0} (x : X) (xs : List X) → Contains (x ∷ xs) x
contains_first x xs = (0, omega arith, refl)

-- a message of that slot came of which that is kept
pub record Came (E : List Entry) (slot : ℕ) (kept : Kept) : Type 0 where
  pub raw : Raw
  pub has : Contains E (Message kept.sequence raw)
  pub sum_is : kept.sum ≡ sum_of raw
  pub slot_is : slot_of kept.sequence ≡ slot

onward : (entry : Entry) (E : List Entry) (slot : ℕ) (kept : Kept) → (kept ≡ nothing_kept) ⊎ Came E slot kept → (kept ≡ nothing_kept) ⊎ Came (entry ∷ E) slot kept
onward entry E slot kept (inl none) = inl none
onward entry E slot kept (inr came) = inr (record { raw = came.raw; has = contains_later entry (Message kept.sequence came.raw) E came.has; sum_is = came.sum_is; slot_is = came.slot_is })

here : (E : List Entry) (sequence slot : ℕ) (raw : Raw) (kept : Kept) → slot_of sequence ≡ slot → (kept ≡ nothing_kept) ⊎ Came E slot kept
    → (later_of kept (kept_of sequence raw) ≡ nothing_kept) ⊎ Came (Message sequence raw ∷ E) slot (later_of kept (kept_of sequence raw))
here E sequence slot raw kept same before =
    cond_both (nat_lt sequence kept.sequence) kept (kept_of sequence raw) (λ (k : Kept). (k ≡ nothing_kept) ⊎ Came (Message sequence raw ∷ E) slot k)
    (λ lower. onward (Message sequence raw) E slot kept before)
    (λ later. inr (record { raw = raw; has = contains_first (Message sequence raw) E; sum_is = refl; slot_is = same }))

pub kept_came : (E : List Entry) (slot : ℕ) → (kept_at E slot ≡ nothing_kept) ⊎ Came E slot (kept_at E slot)
kept_came [] slot = inl refl
kept_came (Message sequence raw ∷ E) slot =
    cond_both (slot_of sequence == slot) (later_of (kept_at E slot) (kept_of sequence raw)) (kept_at E slot) (λ (k : Kept). (k ≡ nothing_kept) ⊎ Came (Message sequence raw ∷ E) slot k)
    (λ same. here E sequence slot raw (kept_at E slot) (eqb-true (slot_of sequence) slot same) (kept_came E slot))
    (λ other. onward (Message sequence raw) E slot (kept_at E slot) (kept_came E slot))
kept_came (entry ∷ E) slot = onward entry E slot (kept_at E slot) (kept_came E slot)

-- ---- One message
differ_later : (entry : Entry) (E : List Entry) (n : ℕ) → CopiesDiffer E n → CopiesDiffer (entry ∷ E) n
differ_later entry E n d = record {
  one = d.one;
  other = d.other;
  one_came = contains_later entry (Message n d.one) E d.one_came;
  other_came = contains_later entry (Message n d.other) E d.other_came;
  apart = d.apart;
}

differ_here : (E : List Entry) (n slot : ℕ) (raw : Raw) (kept : Kept) → 0 < n → (kept ≡ nothing_kept) ⊎ Came E slot kept → is_other kept n raw ≡ true → CopiesDiffer (Message n raw ∷ E) n
differ_here E n slot raw kept some (inl none) is =
    let parts = and_parts (kept.sequence == n) (not (kept.sum == sum_of raw)) is in
    let same : kept.sequence ≡ n = eqb-true kept.sequence n parts.0 in
    let zero_is : kept.sequence ≡ 0 = ap (λ (k : Kept). k.sequence) none in
    absurd (omega arith)
differ_here E n slot raw kept some (inr came) is =
    let parts = and_parts (kept.sequence == n) (not (kept.sum == sum_of raw)) is in
    let same : kept.sequence ≡ n = eqb-true kept.sequence n parts.0 in
    record {
      one = came.raw;
      other = raw;
      one_came = contains_later (Message n raw) (Message n came.raw) E (subst (λ (m : ℕ). Contains E (Message m came.raw)) same came.has);
      other_came = contains_first (Message n raw) E;
      apart = λ e. eqb-false kept.sum (sum_of raw) (not-true (kept.sum == sum_of raw) parts.1) (came.sum_is ∙ ap sum_of e);
    }

-- ---- Messages one after another
differ_on : (first : ℕ) (raws : List Raw) (E : List Entry) (n : ℕ) → CopiesDiffer E n → CopiesDiffer (heard_messages first raws E) n
differ_on first [] E n d = d
differ_on first (raw ∷ raws) E n d = differ_on (first + 1) raws (Message first raw ∷ E) n (differ_later (Message first raw) E n d)

messages_differ : (first : ℕ) (raws : List Raw) (E : List Entry) (n : ℕ) → 0 < first → first_differing first raws E ≡ Some n → CopiesDiffer (heard_messages first raws E) n
messages_differ first [] E n some is = absurd (none-some n is)
messages_differ first (raw ∷ raws) E n some is = by (is_other (kept_at E (slot_of first)) first raw) refl is (λ at. messages_differ (first + 1) raws (Message first raw ∷ E) n (omega arith) at)
  where
    by : (b : Bool) → is_other (kept_at E (slot_of first)) first raw ≡ b → option_or (cond b (Some first) None) (first_differing (first + 1) raws (Message first raw ∷ E)) ≡ Some n
        → (first_differing (first + 1) raws (Message first raw ∷ E) ≡ Some n → CopiesDiffer (heard_messages (first + 1) raws (Message first raw ∷ E)) n)
        → CopiesDiffer (heard_messages (first + 1) raws (Message first raw ∷ E)) n
    by true told at others =
        let d : CopiesDiffer (Message first raw ∷ E) first = differ_here E first (slot_of first) raw (kept_at E (slot_of first)) some (kept_came E (slot_of first)) told in
        differ_on (first + 1) raws (Message first raw ∷ E) n (subst (CopiesDiffer (Message first raw ∷ E)) (same_Some first n at) d)
    by false told at others = others at

-- ---- A block
sequenced_differs : (sequence : ℕ) (raws : List Raw) (E : List Entry) (n : ℕ) → 0 < sequence → first_differing sequence raws E ≡ Some n → CopiesDiffer (heard_sequenced sequence raws E) n
sequenced_differs sequence [] E n some is = absurd (none-some n is)
sequenced_differs sequence (raw ∷ raws) E n some is = messages_differ sequence (raw ∷ raws) E n some is

pub block_differs : (block : Block) (E : List Entry) (n : ℕ) → block_differing block E ≡ Some n → CopiesDiffer (heard_block block E) n
block_differs block E n is = by (block.sequence == 0) refl is
  where
    by : (b : Bool) → (block.sequence == 0) ≡ b → cond b None (first_differing block.sequence block.raws E) ≡ Some n → CopiesDiffer (cond b E (heard_sequenced block.sequence block.raws E)) n
    by true none at = absurd (none-some n at)
    by false some at =
        let apart = eqb-false block.sequence 0 some in
        sequenced_differs block.sequence block.raws E n (omega arith) at

-- what is told is so
pub told_differs : (told : Option ℕ) (P : List Entry → Type 0) (block : Block) → ((E : List Entry) → P E → told ≡ block_differing block E) → IfSome told (λ n. (E : List Entry) → P E → CopiesDiffer (heard_block block E) n)
told_differs None P block is = tt
told_differs (Some n) P block is = λ E holds. block_differs block E n (sym (is E holds))

-- and stays so after a block more
pub differ_after : (block : Block) (E : List Entry) (n : ℕ) → CopiesDiffer E n → CopiesDiffer (heard_block block E) n
differ_after block E n d = by (block.sequence == 0)
  where
    sequenced : (raws : List Raw) → CopiesDiffer (heard_sequenced block.sequence raws E) n
    sequenced [] = differ_later (Next block.sequence) E n d
    sequenced (raw ∷ raws) = differ_on block.sequence (raw ∷ raws) E n d

    by : (b : Bool) → CopiesDiffer (cond b E (heard_sequenced block.sequence block.raws E)) n
    by true = d
    by false = sequenced block.raws
