-- What is kept of messages, one after another.
use Rattle.std.proofs.Common.{◌≡◌, ◌≢◌, ℕ, zero, suc, ◌+◌, ◌<◌, ◌==◌, inl, inr, List, [], ◌∷◌, Option, Some, None, refl, sym, ap, ◌∙◌, subst, arith}
use Rattle.std.specs.List.{slice_get}
use Rattle.std.specs.Option.{option_or}
use Rattle.std.proofs.Math.ListN.{set, length-set}
use Rattle.std.proofs.lemmas.Bool.{cases_eq, eq-eqb, ne_eqb, cond-true, cond-false}
use Rattle.pitch_fields.proofs.Lists.{get_set}
use Rattle.unit_packets.specs.Blocks.{Block}
use Rattle.pitch_model.specs.History.{Entry, Raw, Message}
use Rattle.heard_items.specs.Heard.{heard_messages, heard_block}
use Rattle.heard_items.specs.HeardBlocks.{heard_sequenced}
use Rattle.line_copies.specs.declared.kept.Kept.{Kept}
use Rattle.line_copies.specs.Copies.{slot_of, kept_of, kept_at, later_of, told_by, first_differing, block_differing, Keeps}

-- ---- One message more
elsewhere : {X : Type 0} (xs : List X) (i k : ℕ) (x : X) → k ≢ i → slice_get (set xs i x) k ≡ slice_get xs k
elsewhere [] i k x apart = refl
elsewhere (y ∷ xs) zero zero x apart = absurd (apart refl)
elsewhere (y ∷ xs) zero (suc k) x apart = refl
elsewhere (y ∷ xs) (suc i) zero x apart = refl
elsewhere (y ∷ xs) (suc i) (suc k) x apart = elsewhere xs i k x (λ same. apart (ap suc same))

slot_within : (sequence : ℕ) → slot_of sequence < 65536
slot_within sequence = omega arith

keeps_more : (slots slots' : List Kept) (E : List Entry) (sequence : ℕ) (raw : Raw)
    → ((kept : Kept) → slice_get slots (slot_of sequence) ≡ Some kept → slots' ≡ set slots (slot_of sequence) (later_of kept (kept_of sequence raw))) → Keeps slots E → Keeps slots' (Message sequence raw ∷ E)
keeps_more slots slots' E sequence raw put keeps =
    subst (λ (s : List Kept). Keeps s (Message sequence raw ∷ E)) (sym (put (kept_at E (slot_of sequence)) (keeps.each (slot_of sequence) (slot_within sequence)))) whole
  where
    there : slice_get (set slots (slot_of sequence) (later_of (kept_at E (slot_of sequence)) (kept_of sequence raw))) (slot_of sequence) ≡ Some (kept_at (Message sequence raw ∷ E) (slot_of sequence))
    there =
        let many = keeps.many in
        let within = slot_within sequence in
        get_set slots (slot_of sequence) (later_of (kept_at E (slot_of sequence)) (kept_of sequence raw)) (omega arith)
        ∙ ap (λ (k : Kept). Some k) (sym (cond-true (slot_of sequence == slot_of sequence) (later_of (kept_at E (slot_of sequence)) (kept_of sequence raw)) (kept_at E (slot_of sequence)) (eq-eqb (slot_of sequence) (slot_of sequence) refl)))

    at : (slot : ℕ) → slot < 65536 → slice_get (set slots (slot_of sequence) (later_of (kept_at E (slot_of sequence)) (kept_of sequence raw))) slot ≡ Some (kept_at (Message sequence raw ∷ E) slot)
    at slot within = elim (cases_eq (slot_of sequence) slot) [
      | inl same ↦ subst (λ (k : ℕ). slice_get (set slots (slot_of sequence) (later_of (kept_at E (slot_of sequence)) (kept_of sequence raw))) k ≡ Some (kept_at (Message sequence raw ∷ E) k)) same there
      | inr apart ↦
          elsewhere slots (slot_of sequence) slot (later_of (kept_at E (slot_of sequence)) (kept_of sequence raw)) (λ e. apart (sym e))
          ∙ keeps.each slot within
          ∙ ap (λ (k : Kept). Some k) (sym (cond-false (slot_of sequence == slot) (later_of (kept_at E slot) (kept_of sequence raw)) (kept_at E slot) (ne_eqb (slot_of sequence) slot apart)))
    ]

    whole : Keeps (set slots (slot_of sequence) (later_of (kept_at E (slot_of sequence)) (kept_of sequence raw))) (Message sequence raw ∷ E)
    whole = record { many = length-set slots (slot_of sequence) (later_of (kept_at E (slot_of sequence)) (kept_of sequence raw)) ∙ keeps.many; each = at }

-- ---- Messages one after another
or_none : (told : Option ℕ) → option_or told None ≡ told
or_none None = refl
or_none (Some n) = refl

or_then : (a b c : Option ℕ) → option_or a (option_or b c) ≡ option_or (option_or a b) c
or_then None b c = refl
or_then (Some n) b c = refl

-- the messages before `raws` were heard of `all`, and the slots and what was told are what they leave
pub record Along (slots : List Kept) (first sequence : ℕ) (all raws : List Raw) (told : Option ℕ) (E : List Entry) : Type 0 where
  pub now : List Entry
  pub keeps : Keeps slots now
  pub heard : heard_messages first all E ≡ heard_messages sequence raws now
  pub told_is : first_differing first all E ≡ option_or told (first_differing sequence raws now)

pub along_none : (slots : List Kept) (first : ℕ) (raws : List Raw) (E : List Entry) → Keeps slots E → Along slots first first raws raws None E
along_none slots first raws E keeps = record { now = E; keeps = keeps; heard = refl; told_is = refl }

pub along_more : (slots slots' : List Kept) (first sequence : ℕ) (all raws raws' : List Raw) (raw : Raw) (told one told' : Option ℕ) (E : List Entry) → raws ≡ raw ∷ raws'
    → ((kept : Kept) → slice_get slots (slot_of sequence) ≡ Some kept → slots' ≡ set slots (slot_of sequence) (later_of kept (kept_of sequence raw)))
    → ((kept : Kept) → slice_get slots (slot_of sequence) ≡ Some kept → one ≡ told_by kept sequence raw) → told' ≡ option_or told one → Along slots first sequence all raws told E → Along slots' first (sequence + 1) all raws' told' E
along_more slots slots' first sequence all raws raws' raw told one told' E split put says joined A = record {
  now = Message sequence raw ∷ A.now;
  keeps = keeps_more slots slots' A.now sequence raw put A.keeps;
  heard = A.heard ∙ ap (λ (rs : List Raw). heard_messages sequence rs A.now) split;
  told_is =
      let rest : Option ℕ = first_differing (sequence + 1) raws' (Message sequence raw ∷ A.now) in
      A.told_is ∙ ap (λ (rs : List Raw). option_or told (first_differing sequence rs A.now)) split
      ∙ ap (λ (o : Option ℕ). option_or told (option_or o rest)) (sym (says (kept_at A.now (slot_of sequence)) (A.keeps.each (slot_of sequence) (slot_within sequence))))
      ∙ or_then told one rest ∙ ap (λ (o : Option ℕ). option_or o rest) (sym joined);
}

pub along_keeps : (slots : List Kept) (first sequence : ℕ) (all raws : List Raw) (told : Option ℕ) (E : List Entry) → raws ≡ [] → Along slots first sequence all raws told E → Keeps slots (heard_messages first all E)
along_keeps slots first sequence all raws told E none A =
    subst (Keeps slots) (sym (A.heard ∙ ap (λ (rs : List Raw). heard_messages sequence rs A.now) none)) A.keeps

pub along_told : (slots : List Kept) (first sequence : ℕ) (all raws : List Raw) (told : Option ℕ) (E : List Entry) → raws ≡ [] → Along slots first sequence all raws told E → told ≡ first_differing first all E
along_told slots first sequence all raws told E none A =
    sym (A.told_is ∙ ap (λ (rs : List Raw). option_or told (first_differing sequence rs A.now)) none ∙ or_none told)

-- ---- A block
sequenced_keeps : (slots : List Kept) (sequence : ℕ) (raws : List Raw) (E : List Entry) → Keeps slots (heard_messages sequence raws E) → Keeps slots (heard_sequenced sequence raws E)
sequenced_keeps slots sequence [] E keeps = record { many = keeps.many; each = keeps.each }
sequenced_keeps slots sequence (raw ∷ raws) E keeps = keeps

pub block_keeps : (slots : List Kept) (block : Block) (E : List Entry) → block.sequence ≢ 0 → Keeps slots (heard_messages block.sequence block.raws E) → Keeps slots (heard_block block E)
block_keeps slots block E some keeps =
    subst (Keeps slots) (sym (cond-false (block.sequence == 0) E (heard_sequenced block.sequence block.raws E) (ne_eqb block.sequence 0 some))) (sequenced_keeps slots block.sequence block.raws E keeps)

pub block_told : (block : Block) (E : List Entry) (told : Option ℕ) → block.sequence ≢ 0 → told ≡ first_differing block.sequence block.raws E → told ≡ block_differing block E
block_told block E told some is = is ∙ sym (cond-false (block.sequence == 0) None (first_differing block.sequence block.raws E) (ne_eqb block.sequence 0 some))

-- an unsequenced one
pub none_keeps : (slots : List Kept) (block : Block) (E : List Entry) → block.sequence ≡ 0 → Keeps slots E → Keeps slots (heard_block block E)
none_keeps slots block E none keeps =
    subst (Keeps slots) (sym (cond-true (block.sequence == 0) E (heard_sequenced block.sequence block.raws E) (eq-eqb block.sequence 0 none))) keeps

pub none_told : (block : Block) (E : List Entry) → block.sequence ≡ 0 → None ≡ block_differing block E
none_told block E none = sym (cond-true (block.sequence == 0) None (first_differing block.sequence block.raws E) (eq-eqb block.sequence 0 none))
