-- Ranges of a ring, packed.
use Rattle.std.proofs.Common.{◌≡◌, Bool, true, false, nat_lt, cond, ◌-◌, ℕ, suc, ◌+◌, ◌<◌, ◌≤◌, List, [], ◌∷◌, ◌++◌, length, take, drop, refl, sym, ap, ◌∙◌, subst, arith, Some, slice_get}
use Rattle.std.proofs.lemmas.List.{append-nil, length-drop, length-take, length-take-le, nil_from_length}
use Rattle.std.proofs.lemmas.Option.{slice_get_within, get_or_from_slice_get}
use Rattle.std.proofs.Math.Seq.{drop-cons}
use Rattle.std.proofs.lemmas.Bool.{cond-true}
use Rattle.std.proofs.lemmas.Bool.Decides.{nat_tests}
use Rattle.gap_store.specs.declared.found.Found.TheVariants.{Kept, Ahead, NotKept}
use Rattle.gap_store.specs.Look.{View, look, oldest}
use Rattle.circular_buffer.proofs.Places.{slice_get-drop, slice_get-take}
use Rattle.pitch_messages.specs.Raw.{IsRaw}
use Rattle.pitch_messages.specs.Room.{Roomy}
use Rattle.unit_packets.specs.Blocks.{StaysWithin}
use Rattle.unit_packets.specs.Packing.{IsPacking, packed, bytes_in}
use Rattle.unit_packets.specs.Pushing.{Packing, HasPacked}
use Rattle.unit_packets.specs.layers.Packings.{Finishes, GivesPacking, unpacked}
use Rattle.unit_packets.proofs.PackingAll.{SoFar, none_so_far, all_packed}
use Rattle.unit_packets.proofs.Packs.{packed_none, bytes_append}
use Rattle.gap_store.specs.layers.Looking.{PacksRange}

drop_one : (xs : List (List ℕ)) (i : ℕ) (x : List ℕ) → slice_get xs i ≡ Some x → drop i xs ≡ x ∷ drop (i + 1) xs
drop_one xs i x is =
    let e : suc i ≡ i + 1 = omega arith in
    drop-cons xs i x (slice_get_within xs i x is) ∙ ap (λ (y : List ℕ). y ∷ drop (suc i) xs) (get_or_from_slice_get xs i x x is) ∙ ap (λ (n : ℕ). x ∷ drop n xs) e

-- the messages of a range from its i-th on
pub left_of : List (List ℕ) → ℕ → ℕ → ℕ → List (List ℕ)
left_of items at count i = drop i (take count (drop at items))

next_left : (items : List (List ℕ)) (at count i : ℕ) (x : List ℕ) → i < count → slice_get items (at + i) ≡ Some x → left_of items at count i ≡ x ∷ left_of items at count (i + 1)
unfolding left_of
next_left items at count i x lt is = drop_one (take count (drop at items)) i x (slice_get-take count (drop at items) i lt ∙ slice_get-drop at items i (at + i) refl ∙ is)

pub next_raw : (items : List (List ℕ)) (at count i : ℕ) (x y : List ℕ) → i < count → slice_get items (at + i) ≡ Some x → y ≡ x → IsRaw x → (left_of items at count i ≡ y ∷ left_of items at count (i + 1)) × IsRaw y
next_raw items at count i x y lt is same raw =
    (next_left items at count i x lt is ∙ ap (λ (r : List ℕ). r ∷ left_of items at count (i + 1)) (sym same), subst IsRaw (sym same) raw)

pub none_left : (items : List (List ℕ)) (at count i : ℕ) → i ≡ count → left_of items at count i ≡ []
unfolding left_of
none_left items at count i is =
    let size : length (take count (drop at items)) ≤ i = omega (arith, length-take count (drop at items)) in
    nil_from_length (drop i (take count (drop at items))) (omega (arith, length-drop i (take count (drop at items))))

-- a range that is there has its size
pub range_size : (items : List (List ℕ)) (at count first : ℕ) → at + count ≤ length items → StaysWithin first count → StaysWithin first (length (take count (drop at items)))
range_size items at count first le within =
    let size : length (take count (drop at items)) ≡ count = length-take-le count (drop at items) (omega (arith, length-drop at items)) in
    subst (StaysWithin first) (sym size) within

pub packs_first : (items : List (List ℕ)) (at count : ℕ) (packer : Packing) (before : List (Roomy ℕ)) → packer ≡ unpacked packer.unit packer.sequence
    → SoFar packer.unit packer.sequence (take count (drop at items)) (left_of items at count 0) packer before before
unfolding left_of
packs_first items at count packer before is = none_so_far packer.unit packer.sequence (take count (drop at items)) packer before
    (subst (λ (p : Packing). HasPacked p packer.unit packer.sequence [] []) (sym is) (packed_none packer.unit packer.sequence))

pub packs_last : (unit first : ℕ) (all rest : List (List ℕ)) (packer packer' : Packing) (before so_far after : List (Roomy ℕ)) → SoFar unit first all rest packer before so_far → rest ≡ []
    → StaysWithin first (length all) → Finishes packer packer' so_far after → GivesPacking packer so_far after → PacksRange unit first all (bytes_in before) (bytes_in after)
packs_last unit first all rest packer packer' before so_far after s none within f gives =
    let whole : s.taken ≡ all = sym (append-nil s.taken) ∙ ap (λ (r : List (List ℕ)). s.taken ++ r) (sym none) ∙ sym s.split in
    let more : bytes_in after ≡ bytes_in so_far ++ bytes_in f.added = ap (λ (l : List (Roomy ℕ)). bytes_in l) f.given ∙ bytes_append so_far f.added in
    let fits : StaysWithin first (length s.taken) = subst (λ (r : List (List ℕ)). StaysWithin first (length r)) (sym whole) within in
    let is : IsPacking unit first s.taken (bytes_in s.added ++ bytes_in f.added) = gives unit first s.taken (bytes_in s.added) (bytes_in f.added) s.packs more s.raws fits in
    let same : IsPacking unit first s.taken (packed unit first s.taken) = subst (IsPacking unit first s.taken) (f.whole unit first s.taken (bytes_in s.added) s.packs) is in
    record {
      packing = subst (λ (r : List (List ℕ)). IsPacking unit first r (packed unit first r)) whole same;
      appended = all_packed unit first all rest packer packer' before so_far after s none f;
    }

-- a range that is kept ends within the messages
pub kept_within : (v : View) (first count : ℕ) → Kept ≡ look v first count → first + count - 1 ≤ length v.messages
kept_within v first count e = by (nat_lt (length v.messages) (first + count - 1)) refl
  where
    by : (b : Bool) → nat_lt (length v.messages) (first + count - 1) ≡ b → first + count - 1 ≤ length v.messages
    by true t = absurd (ahead (e ∙ cond-true (nat_lt (length v.messages) (first + count - 1)) (Ahead (length v.messages)) (cond (nat_lt first (oldest v)) (NotKept (oldest v)) Kept) t))
      where
        ahead : Kept ≡ Ahead (length v.messages) → ⊥
        ahead e = cc
    by false f = grind (arith, nat_tests, f)
