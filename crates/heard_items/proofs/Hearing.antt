-- What is heard, one message after another.
use Rattle.std.proofs.Common.{◌≡◌, ℕ, suc, ◌+◌, ◌≤◌, ◌<◌, Bool, true, false, cond, List, [], ◌∷◌, ◌++◌, take, length, refl, sym, ap, ◌∙◌, arith, Some, add-one, length-take, ◌==◌, inl, inr}
use Rattle.std.specs.List.{slice_get}
use Rattle.std.proofs.Math.Seq.{take-suc}
use Rattle.std.proofs.lemmas.Option.{slice_get_within, get_or_from_slice_get}
use Rattle.std.proofs.lemmas.Bool.{cond-true, cond-false, eq-eqb, ne_eqb}
use Rattle.pitch_messages.specs.Room.{Roomy}
use Rattle.unit_packets.specs.Blocks.{Block, StaysWithin}
use Rattle.pitch_model.specs.History.{Entry, Raw, Message}
use Rattle.pitch_model.specs.Reach.{is_overflow, reach}
use Rattle.pitch_model.specs.Status.{status_of}
use Rattle.pitch_model.proofs.Rises.{reach_rises}
use Rattle.heard_items.specs.Heard.{heard, heard_block, heard_sequenced, heard_messages, is_fresh}
use Rattle.heard_items.specs.Heard.{fresh_messages, overflowed_messages, block_fresh}
use Rattle.heard_items.specs.Heard.{block_overflows}
use Rattle.heard_items.specs.Changes.{IsItem, IsItemOf, fresh_of, overflows_of, image_end}
use Rattle.heard_items.specs.Changes.{change_of, block_change}
use Rattle.heard_items.specs.declared.change.ImageEnd.TheVariants.{NoImage}
use Rattle.heard_items.specs.declared.item.Item.{Item}
use Rattle.heard_items.specs.declared.item.Item.TheVariants as item

-- ---- A last message
heard_push : (first : ℕ) (raws : List Raw) (raw : Raw) (E : List Entry) → heard_messages first (raws ++ raw ∷ []) E ≡ Message (first + length raws) raw ∷ heard_messages first raws E
heard_push first [] raw E = ap (λ n. Message n raw ∷ E) (omega arith)
heard_push first (r ∷ raws) raw E = heard_push (first + 1) raws raw (Message first r ∷ E) ∙ ap (λ n. Message n raw ∷ heard_messages (first + 1) raws (Message first r ∷ E)) (omega arith)

passed_over : (a b b' c x : ℕ) → x ≡ b + c → b ≡ b' → a + x ≡ b' + (a + c)
passed_over a b b' c x e f = omega arith

fresh_push : (H first : ℕ) (raws : List Raw) (raw : Raw) (E : List Entry) → fresh_messages H first (raws ++ raw ∷ []) E ≡ cond (is_fresh H (heard_messages first raws E) (first + length raws)) 1 0 + fresh_messages H first raws E
fresh_push H first [] raw E = ap (λ n. cond (is_fresh H E n) 1 0 + 0) (omega arith)
fresh_push H first (r ∷ raws) raw E =
    let e : (first + 1) + length raws ≡ first + suc (length raws) = omega arith in
    passed_over (cond (is_fresh H E first) 1 0) _ _ _ _ (fresh_push H (first + 1) raws raw (Message first r ∷ E)) (ap (λ n. cond (is_fresh H (heard_messages (first + 1) raws (Message first r ∷ E)) n) 1 0) e)

overflowed_push : (H first : ℕ) (raws : List Raw) (raw : Raw) (E : List Entry) → overflowed_messages H first (raws ++ raw ∷ []) E ≡ cond (is_overflow H (heard_messages first raws E) (Message (first + length raws) raw)) 1 0 + overflowed_messages H first raws E
overflowed_push H first [] raw E = ap (λ n. cond (is_overflow H E (Message n raw)) 1 0 + 0) (omega arith)
overflowed_push H first (r ∷ raws) raw E =
    let e : (first + 1) + length raws ≡ first + suc (length raws) = omega arith in
    passed_over (cond (is_overflow H E (Message first r)) 1 0) _ _ _ _ (overflowed_push H (first + 1) raws raw (Message first r ∷ E)) (ap (λ n. cond (is_overflow H (heard_messages (first + 1) raws (Message first r ∷ E)) (Message n raw)) 1 0) e)

-- ---- One message more of a list
module _ (H first : ℕ) (raws : List Raw) (i : ℕ) (raw : Raw) (E : List Entry) (at : slice_get raws i ≡ Some raw) where
  take_is : take (i + 1) raws ≡ take i raws ++ raw ∷ []
  take_is = ap (λ n. take n raws) (add-one i) ∙ take-suc raws i raw (slice_get_within raws i raw at) ∙ ap (λ r. take i raws ++ r ∷ []) (get_or_from_slice_get raws i raw raw at)

  length_is : length (take i raws) ≡ i
  length_is = let within = slice_get_within raws i raw at in omega (arith, length-take {A = List ℕ})

  pub heard_more : heard_messages first (take (i + 1) raws) E ≡ Message (first + i) raw ∷ heard_messages first (take i raws) E
  heard_more = ap (λ rs. heard_messages first rs E) take_is ∙ heard_push first (take i raws) raw E ∙ ap (λ n. Message (first + n) raw ∷ heard_messages first (take i raws) E) length_is

  pub fresh_more : fresh_messages H first (take (i + 1) raws) E ≡ cond (is_fresh H (heard_messages first (take i raws) E) (first + i)) 1 0 + fresh_messages H first (take i raws) E
  fresh_more = ap (λ rs. fresh_messages H first rs E) take_is ∙ fresh_push H first (take i raws) raw E
      ∙ ap (λ n. cond (is_fresh H (heard_messages first (take i raws) E) (first + n)) 1 0 + fresh_messages H first (take i raws) E) length_is

  pub overflowed_more : overflowed_messages H first (take (i + 1) raws) E ≡ cond (is_overflow H (heard_messages first (take i raws) E) (Message (first + i) raw)) 1 0 + overflowed_messages H first (take i raws) E
  overflowed_more = ap (λ rs. overflowed_messages H first rs E) take_is ∙ overflowed_push H first (take i raws) raw E
      ∙ ap (λ n. cond (is_overflow H (heard_messages first (take i raws) E) (Message (first + n) raw)) 1 0 + overflowed_messages H first (take i raws) E) length_is

pub bit_le : (b : Bool) → cond b 1 0 ≤ 1
bit_le true = omega arith
bit_le false = omega arith

-- no more are fresh, and with no more does the hold overflow, than there are
pub fresh_messages-le : (H first : ℕ) (raws : List Raw) (E : List Entry) → fresh_messages H first raws E ≤ length raws
fresh_messages-le H first [] E = omega arith
fresh_messages-le H first (raw ∷ raws) E = let b = bit_le (is_fresh H E first) in let r = fresh_messages-le H (first + 1) raws (Message first raw ∷ E) in omega arith

pub overflowed_messages-le : (H first : ℕ) (raws : List Raw) (E : List Entry) → overflowed_messages H first raws E ≤ length raws
overflowed_messages-le H first [] E = omega arith
overflowed_messages-le H first (raw ∷ raws) E = let b = bit_le (is_overflow H E (Message first raw)) in let r = overflowed_messages-le H (first + 1) raws (Message first raw ∷ E) in omega arith

-- ---- Blocks
-- a block with messages
sequenced_messages : (sequence : ℕ) (raws : List Raw) (E : List Entry) → 0 < length raws → heard_sequenced sequence raws E ≡ heard_messages sequence raws E
sequenced_messages sequence [] E some = absurd (omega arith)
sequenced_messages sequence (raw ∷ raws) E some = refl

-- the item of a block says what the block says
pub heard_item : (block : Block) (it : Item) (E : List Entry) → IsItemOf block it → heard it E ≡ heard_block block E
heard_item block (item.Messages first raws) E is =
    let sequenced = ne_eqb block.sequence 0 (λ e. let p = is.0 in omega arith) in
    ap (λ n. heard_messages n raws.items E) is.2 ∙ ap (λ rs. heard_messages block.sequence rs E) is.3 ∙ sym (sequenced_messages block.sequence block.raws E is.1) ∙ sym (cond-false (block.sequence == 0) E (heard_sequenced block.sequence block.raws E) sequenced)
heard_item block (item.Next next) E is =
    let sequenced = ne_eqb block.sequence 0 (λ e. let p = is.0 in omega arith) in
    ap (λ n. heard_sequenced n [] E) is.2 ∙ ap (λ rs. heard_sequenced block.sequence rs E) (sym is.1) ∙ sym (cond-false (block.sequence == 0) E (heard_sequenced block.sequence block.raws E) sequenced)
heard_item block item.Nothing E is = sym (cond-true (block.sequence == 0) E (heard_sequenced block.sequence block.raws E) (eq-eqb block.sequence 0 is))
heard_item block item.GrpUp E is = absurd is
heard_item block item.GrpDown E is = absurd is
heard_item block (item.GapReply sequence count status) E is = absurd is
heard_item block item.SpinUp E is = absurd is
heard_item block item.SpinDown E is = absurd is
heard_item block (item.Advertised sequence) E is = absurd is
heard_item block (item.SpinReply sequence orders status) E is = absurd is
heard_item block (item.ImageMessages raws) E is = absurd is
heard_item block (item.SpinFinished sequence) E is = absurd is

-- what is counted of messages and of nothing else
record CountsMessages (of : Item → ℕ) (count : ℕ → List Raw → ℕ) : Type 0 where
  messages : (first : ℕ) (raws : Roomy Raw) → of (item.Messages first raws) ≡ count first raws.items
  next : (n : ℕ) → of (item.Next n) ≡ 0
  nothing : of item.Nothing ≡ 0
  none : (first : ℕ) → count first [] ≡ 0

counted_item : (of : Item → ℕ) (count : ℕ → List Raw → ℕ) (block : Block) (it : Item) → CountsMessages of count → IsItemOf block it → of it ≡ cond (block.sequence == 0) 0 (count block.sequence block.raws)
counted_item of count block (item.Messages first raws) counts is =
    let sequenced = ne_eqb block.sequence 0 (λ e. let p = is.0 in omega arith) in
    counts.messages first raws
    ∙ ap (λ n. count n raws.items) is.2 ∙ ap (λ rs. count block.sequence rs) is.3 ∙ sym (cond-false (block.sequence == 0) 0 (count block.sequence block.raws) sequenced)
counted_item of count block (item.Next next) counts is =
    let sequenced = ne_eqb block.sequence 0 (λ e. let p = is.0 in omega arith) in
    counts.next next
    ∙ sym (counts.none block.sequence) ∙ ap (λ rs. count block.sequence rs) (sym is.1) ∙ sym (cond-false (block.sequence == 0) 0 (count block.sequence block.raws) sequenced)
counted_item of count block item.Nothing counts is = counts.nothing ∙ sym (cond-true (block.sequence == 0) 0 (count block.sequence block.raws) (eq-eqb block.sequence 0 is))
counted_item of count block item.GrpUp counts is = absurd is
counted_item of count block item.GrpDown counts is = absurd is
counted_item of count block (item.GapReply sequence number status) counts is = absurd is
counted_item of count block item.SpinUp counts is = absurd is
counted_item of count block item.SpinDown counts is = absurd is
counted_item of count block (item.Advertised sequence) counts is = absurd is
counted_item of count block (item.SpinReply sequence orders status) counts is = absurd is
counted_item of count block (item.ImageMessages raws) counts is = absurd is
counted_item of count block (item.SpinFinished sequence) counts is = absurd is

pub overflows_item : (H : ℕ) (block : Block) (it : Item) (E : List Entry) → IsItemOf block it → overflows_of H E it ≡ block_overflows H E block
overflows_item H block it E =
    counted_item (overflows_of H E) (λ first raws. overflowed_messages H first raws E) block it
    (record { messages = λ first raws. refl; next = λ n. refl; nothing = refl; none = λ first. refl })

pub fresh_item : (H : ℕ) (block : Block) (it : Item) (E : List Entry) → IsItemOf block it → fresh_of H E it ≡ block_fresh H E block
fresh_item H block it E =
    counted_item (fresh_of H E) (λ first raws. fresh_messages H first raws E) block it
    (record { messages = λ first raws. refl; next = λ n. refl; nothing = refl; none = λ first. refl })

no_image_item : (H : ℕ) (block : Block) (it : Item) (E : List Entry) → IsItemOf block it → image_end H E it ≡ NoImage
no_image_item H block (item.Messages first raws) E is = refl
no_image_item H block (item.Next next) E is = refl
no_image_item H block item.Nothing E is = refl
no_image_item H block item.GrpUp E is = refl
no_image_item H block item.GrpDown E is = refl
no_image_item H block (item.GapReply sequence count status) E is = refl
no_image_item H block item.SpinUp E is = refl
no_image_item H block item.SpinDown E is = refl
no_image_item H block (item.Advertised sequence) E is = refl
no_image_item H block (item.SpinReply sequence orders status) E is = refl
no_image_item H block (item.ImageMessages raws) E is = refl
no_image_item H block (item.SpinFinished sequence) E is = absurd is

pub change_item : (H : ℕ) (block : Block) (it : Item) (E : List Entry) → IsItemOf block it → change_of H E it ≡ block_change H E block
change_item H block it E is = λ i. record {
  before = status_of H E;
  after = status_of H (heard_item block it E is i);
  fresh = fresh_item H block it E is i;
  overflows = overflows_item H block it E is i;
  image = no_image_item H block it E is i;
}

-- the item of a block of a feed is an item of a feed
pub item_fits : (block : Block) (it : Item) → StaysWithin block.sequence (length block.raws) → IsItemOf block it → IsItem it
item_fits block (item.Messages first raws) within is =
    let named = is.2 in
    let some = is.0 in
    let filled = is.1 in
    let count : length raws.items ≡ length block.raws = ap (λ (rs : List Raw). length rs) is.3 in
    elim within [
      | inl none ↦ absurd (omega arith)
      | inr rest ↦ elim rest [
        | inl empty ↦ absurd (omega arith)
        | inr fits ↦ (omega arith, omega arith)
      ]
    ]
item_fits block (item.Next next) within is = let named = is.2 in let some = is.0 in omega arith
item_fits block item.Nothing within is = tt
item_fits block item.GrpUp within is = tt
item_fits block item.GrpDown within is = tt
item_fits block (item.GapReply sequence count status) within is = tt
item_fits block item.SpinUp within is = tt
item_fits block item.SpinDown within is = tt
item_fits block (item.Advertised sequence) within is = tt
item_fits block (item.SpinReply sequence orders status) within is = tt
item_fits block (item.ImageMessages raws) within is = tt
item_fits block (item.SpinFinished sequence) within is = tt

-- what is heard of a block only raises the reach
pub messages_rise : (H first : ℕ) (raws : List Raw) (E : List Entry) → reach H E ≤ reach H (heard_messages first raws E)
messages_rise H first [] E = omega arith
messages_rise H first (raw ∷ raws) E =
    let one = reach_rises H E (Message first raw) in
    let more = messages_rise H (first + 1) raws (Message first raw ∷ E) in
    omega arith
