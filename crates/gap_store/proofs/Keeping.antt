-- The last messages of a growing list.
use Rattle.std.proofs.Common.{◌≡◌, ℕ, zero, suc, ◌+◌, ◌-◌, ◌<◌, ◌≤◌, List, [], ◌∷◌, ◌++◌, length, take, drop, refl, sym, ap, ◌∙◌, arith, subst, length-append, append_assoc, Some, None, slice_get, nat_lt, nat_eq}
use Rattle.std.proofs.lemmas.List.{length-drop, length-take, drop-drop, append-nil, take_more, drop-append-le}
use Rattle.std.proofs.lemmas.Option.{slice_get_within, get_or_from_slice_get}
use Rattle.std.proofs.lemmas.Bool.{cond-true, cond-false, lt-ltb, le-ltb, ne_eqb, eq-eqb}
use Rattle.circular_buffer.proofs.Places.{slice_get-drop}
use Rattle.gap_store.specs.declared.found.Found.{Found}
use Rattle.gap_store.specs.declared.found.Found.TheVariants.{Kept, Ahead, NotKept}
use Rattle.circular_buffer.specs.Buffer.{keep_last}
use Rattle.gap_store.specs.Look.{View, Store, store_of, look, slice_of, oldest}
use Rattle.gap_store.specs.layers.Looking.{IsLater, first_kept, given, LooksAt, FindsAt, PacksRange}
use Rattle.gap_store.specs.layers.Looking.{PacksAt, AnswersLook, AnswersPack}
use Rattle.unit_packets.specs.Packing.{packed_on}

pub keep_push : (n : ℕ) (xs : List (List ℕ)) (x : List ℕ) → keep_last n (keep_last n xs ++ x ∷ []) ≡ keep_last n (xs ++ x ∷ [])
keep_push n xs x =
    let k : ℕ = length xs - n in
    let e : keep_last n xs ++ x ∷ [] ≡ drop k (xs ++ x ∷ []) = sym (drop-append-le k xs (x ∷ []) (omega arith)) in
    ap (keep_last n) e ∙ drop-drop (length (drop k (xs ++ x ∷ [])) - n) k (xs ++ x ∷ [])
    ∙ ap (λ (m : ℕ). drop m (xs ++ x ∷ [])) (omega (arith, length-drop k (xs ++ x ∷ []), length-append xs (x ∷ [])))

abbrev store : List (List ℕ) → ℕ → ℕ → Store
store items room pushed = record { items = items; room = room; pushed = pushed }

pub pushed_on : (v : View) (old new : Store) (x : List ℕ) → old ≡ store_of v → new.items ≡ keep_last old.room (old.items ++ x ∷ []) → new.room ≡ old.room → new.pushed ≡ old.pushed + 1
    → new ≡ store_of (record { messages = v.messages ++ x ∷ []; kept = v.kept })
pushed_on v old new x is items room pushed =
    let r : old.room ≡ v.kept = ap (λ (s : Store). s.room) is in
    let i : new.items ≡ keep_last v.kept (v.messages ++ x ∷ []) =
    items ∙ ap (λ (m : ℕ). keep_last m (old.items ++ x ∷ [])) r ∙ ap (λ (s : Store). keep_last v.kept (s.items ++ x ∷ [])) is ∙ keep_push v.kept v.messages x in
    let p : new.pushed ≡ length (v.messages ++ x ∷ []) = omega (arith, pushed, ap (λ (s : Store). s.pushed) is, length-append v.messages (x ∷ [])) in
    ap (λ (a : List (List ℕ)). store a new.room new.pushed) i
    ∙ ap (λ (m : ℕ). store (keep_last v.kept (v.messages ++ x ∷ [])) m new.pushed) (room ∙ r)
    ∙ ap (λ (m : ℕ). store (keep_last v.kept (v.messages ++ x ∷ [])) v.kept m) p

pub none_past : (xs : List (List ℕ)) (i : ℕ) → i < length xs → slice_get xs i ≡ None → ⊥
none_past [] i lt none = omega arith
none_past (x ∷ xs) zero lt none = cc
none_past (x ∷ xs) (suc i) lt none = none_past xs i (omega arith) none

pub copies_more : (items before so_far so_far' : List (List ℕ)) (at i : ℕ) (x : List ℕ) → so_far ≡ before ++ take i (drop at items) → slice_get items (at + i) ≡ Some x → so_far' ≡ so_far ++ x ∷ []
    → so_far' ≡ before ++ take (i + 1) (drop at items)
copies_more items before so_far so_far' at i x are there more =
    let here : slice_get (drop at items) i ≡ Some x = slice_get-drop at items i (at + i) refl ∙ there in
    let lt : i < length (drop at items) = slice_get_within (drop at items) i x here in
    more ∙ ap (λ (l : List (List ℕ)). l ++ x ∷ []) are ∙ append_assoc before (take i (drop at items)) (x ∷ [])
    ∙ ap (λ (y : List ℕ). before ++ (take i (drop at items) ++ y ∷ [])) (sym (get_or_from_slice_get (drop at items) i x x here))
    ∙ ap (λ (l : List (List ℕ)). before ++ l) (sym (take_more (drop at items) i x lt))

-- a ring with room for all takes one more of them
pub ring_more : (items so_far : List (List ℕ)) (room i : ℕ) (x : List ℕ) → so_far ≡ take i items → slice_get items i ≡ Some x → length items ≤ room → keep_last room (so_far ++ x ∷ []) ≡ take (i + 1) items
ring_more items so_far room i x are there fits =
    let there' : slice_get items (0 + i) ≡ Some x = subst (λ (n : ℕ). slice_get items n ≡ Some x) (omega arith) there in
    let more : so_far ++ x ∷ [] ≡ take (i + 1) items = copies_more items [] so_far (so_far ++ x ∷ []) 0 i x are there' refl in
    let size : length (take (i + 1) items) ≤ room = omega (arith, length-take (i + 1) items) in
    let none : length (take (i + 1) items) - room ≡ 0 = omega (arith, size) in
    ap (keep_last room) more ∙ ap (λ (n : ℕ). drop n (take (i + 1) items)) none

-- ---- Ranges
pub found_ahead : (v : View) (s : Store) (first count last : ℕ) → s ≡ store_of v → last ≡ s.pushed → s.pushed < first + count - 1 → Ahead last ≡ look v first count
found_ahead v s first count last is same past =
    let p : s.pushed ≡ length v.messages = ap (λ (t : Store). t.pushed) is in
    ap Ahead (same ∙ p) ∙ sym (cond-true (nat_lt (length v.messages) (first + count - 1)) _ _ (lt-ltb (length v.messages) (first + count - 1) (omega arith)))

pub found_behind : (v : View) (s : Store) (first count least : ℕ) → s ≡ store_of v → 1 ≤ s.room → least ≡ s.pushed - length s.items + 1 → first + count - 1 ≤ s.pushed → first < least
    → 1 ≤ count → 1 ≤ first → NotKept least ≡ look v first count
found_behind v s first count least is fits same there gone one some =
    let p : s.pushed ≡ length v.messages = ap (λ (t : Store). t.pushed) is in
    let r : s.room ≡ v.kept = ap (λ (t : Store). t.room) is in
    let k : length s.items ≡ length v.messages - (length v.messages - v.kept) = ap (λ (t : Store). length t.items) is ∙ length-drop (length v.messages - v.kept) v.messages in
    let e : least ≡ oldest v = omega (arith, r) in
    ap NotKept e ∙ sym (cond-false (nat_lt (length v.messages) (first + count - 1)) _ _ (le-ltb (length v.messages) (first + count - 1) (omega arith))
    ∙ cond-true (nat_lt first (oldest v)) _ _ (lt-ltb first (oldest v) (omega arith)))

pub found_kept : (v : View) (s : Store) (first count least : ℕ) → s ≡ store_of v → 1 ≤ s.room → least ≡ s.pushed - length s.items + 1 → first + count - 1 ≤ s.pushed → least ≤ first
    → 1 ≤ count → 1 ≤ first → Kept ≡ look v first count
found_kept v s first count least is fits same there kept one some =
    let p : s.pushed ≡ length v.messages = ap (λ (t : Store). t.pushed) is in
    let r : s.room ≡ v.kept = ap (λ (t : Store). t.room) is in
    let k : length s.items ≡ length v.messages - (length v.messages - v.kept) = ap (λ (t : Store). length t.items) is ∙ length-drop (length v.messages - v.kept) v.messages in
    sym (cond-false (nat_lt (length v.messages) (first + count - 1)) _ _ (le-ltb (length v.messages) (first + count - 1) (omega arith))
    ∙ cond-false (nat_lt first (oldest v)) _ _ (le-ltb first (oldest v) (omega (arith, r))))

-- the range in what is kept
pub range_is : (v : View) (s : Store) (first at count : ℕ) → s ≡ store_of v → at ≡ first - (s.pushed - length s.items + 1) → s.pushed - length s.items + 1 ≤ first
    → take count (drop at s.items) ≡ slice_of v first count
range_is v s first at count is place kept =
    let p : s.pushed ≡ length v.messages = ap (λ (t : Store). t.pushed) is in
    let r : s.room ≡ v.kept = ap (λ (t : Store). t.room) is in
    let k : length s.items ≡ length v.messages - (length v.messages - v.kept) = ap (λ (t : Store). length t.items) is ∙ length-drop (length v.messages - v.kept) v.messages in
    ap (λ (t : Store). take count (drop at t.items)) is
    ∙ ap (take count) (drop-drop at (length v.messages - v.kept) v.messages ∙ ap (λ (m : ℕ). drop m v.messages) (omega (arith, r)))

pub same_view : (v : View) → IsLater v v
same_view v = record { more = []; messages = sym (append-nil v.messages); kept = refl }

-- ---- Answers of a store
pub finds_by : (v : View) (s : Store) (first count : ℕ) (found : Found) → s ≡ store_of v → found ≡ look v first count → FindsAt (λ w. s ≡ store_of w) v first count found
finds_by v s first count found is answer = record { now = v; later = same_view v; shows = is; answer = answer }

none_given : (v : View) (first count : ℕ) (found : Found) → found ≡ look v first count → (found ≡ Kept → ⊥) → given (look v first count) v first count ≡ []
none_given v first count Kept answer other = absurd (other refl)
none_given v first count (Ahead last) answer other = ap (λ (f : Found). given f v first count) (sym answer)
none_given v first count (NotKept least) answer other = ap (λ (f : Found). given f v first count) (sym answer)

pub looks_none : (v : View) (s : Store) (first count : ℕ) (found : Found) (before : List (List ℕ)) → s ≡ store_of v → found ≡ look v first count → (found ≡ Kept → ⊥)
    → AnswersLook v first count found before before
looks_none v s first count found before is answer other = record {
  answer = answer;
  given = sym (append-nil before) ∙ ap (λ (g : List (List ℕ)). before ++ g) (sym (none_given v first count found answer other));
}

pub looks_kept : (v : View) (s : Store) (first count at : ℕ) (before after : List (List ℕ)) → s ≡ store_of v → Kept ≡ look v first count → at ≡ first - (s.pushed - length s.items + 1) → s.pushed - length s.items + 1 ≤ first
    → after ≡ before ++ take count (drop at s.items) → AnswersLook v first count Kept before after
looks_kept v s first count at before after is answer place kept copied = record {
  answer = answer;
  given = copied ∙ ap (λ (g : List (List ℕ)). before ++ g) (range_is v s first at count is place kept ∙ ap (λ (f : Found). given f v first count) answer);
}

packs_nothing : (unit first : ℕ) (raws lines : List (List ℕ)) → raws ≡ [] → PacksRange unit first raws lines lines
unfolding packed_on
packs_nothing unit first raws lines none = subst (λ (r : List (List ℕ)). PacksRange unit first r lines lines) (sym none) (record { packing = refl; appended = sym (append-nil lines) })

pub packs_none : (v : View) (s : Store) (unit first count : ℕ) (found : Found) (before : List (List ℕ)) → s ≡ store_of v → found ≡ look v first count → (found ≡ Kept → ⊥)
    → AnswersPack v unit first count found before before
packs_none v s unit first count found before is answer other = record {
  answer = answer;
  packs = packs_nothing unit first _ before (none_given v first count found answer other);
}

pub packs_kept : (v : View) (s : Store) (unit first count at : ℕ) (before after : List (List ℕ)) → s ≡ store_of v → Kept ≡ look v first count → at ≡ first - (s.pushed - length s.items + 1) → s.pushed - length s.items + 1 ≤ first
    → PacksRange unit first (take count (drop at s.items)) before after → AnswersPack v unit first count Kept before after
packs_kept v s unit first count at before after is answer place kept packs = record {
  answer = answer;
  packs = subst (λ (r : List (List ℕ)). PacksRange unit first r before after) (range_is v s first at count is place kept ∙ ap (λ (f : Found). given f v first count) answer) packs;
}

-- the answer of a store that shows this view
pub looks_by : (v : View) (s : Store) (first count : ℕ) (found : Found) (before after : List (List ℕ)) → s ≡ store_of v → AnswersLook v first count found before after → LooksAt (λ w. s ≡ store_of w) v first count found before after
looks_by v s first count found before after is answers = record { now = v; later = same_view v; shows = is; answer = answers.answer; given = answers.given }

pub packs_by : (v : View) (s : Store) (unit first count : ℕ) (found : Found) (before after : List (List ℕ)) → s ≡ store_of v → AnswersPack v unit first count found before after → PacksAt (λ w. s ≡ store_of w) v unit first count found before after
packs_by v s unit first count found before after is answers = record { now = v; later = same_view v; shows = is; answer = answers.answer; packs = answers.packs }

pub first_is : (s : Store) (v : View) (n : ℕ) → s ≡ store_of v → 1 ≤ s.room → 0 < s.pushed → n ≡ s.pushed - length s.items + 1 → Some n ≡ first_kept v
first_is s v n is fits some e =
    let p : s.pushed ≡ length v.messages = ap (λ (t : Store). t.pushed) is in
    let r : s.room ≡ v.kept = ap (λ (t : Store). t.room) is in
    let k : length s.items ≡ length v.messages - (length v.messages - v.kept) = ap (λ (t : Store). length t.items) is ∙ length-drop (length v.messages - v.kept) v.messages in
    let o : n ≡ oldest v = omega (arith, r) in
    ap Some o ∙ sym (cond-false (nat_eq (length v.messages) 0) _ _ (ne_eqb (length v.messages) 0 (λ z. omega arith)))

pub first_none : (s : Store) (v : View) → s ≡ store_of v → s.pushed ≡ 0 → None ≡ first_kept v
first_none s v is none =
    let z : length v.messages ≡ 0 = sym (ap (λ (t : Store). t.pushed) is) ∙ none in
    sym (cond-true (nat_eq (length v.messages) 0) _ _ (eq-eqb (length v.messages) 0 z))
