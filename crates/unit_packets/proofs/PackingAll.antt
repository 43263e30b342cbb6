-- All messages of a list, packed.
use Rattle.std.proofs.Common.{◌≡◌, ℕ, ◌<◌, ◌≤◌, List, [], ◌∷◌, ◌++◌, length, take, refl, sym, ap, ◌∙◌, subst, arith, length-append, append_assoc, inl, inr}
use Rattle.std.proofs.lemmas.List.{append-nil, take_at}
use Rattle.std.proofs.lemmas.Bool.{cases_eq}
use Rattle.std.specs.List.{AllByRecursion}
use Rattle.pitch_messages.specs.Raw.{IsRaw}
use Rattle.pitch_messages.specs.Room.{Roomy}
use Rattle.pitch_messages.proofs.Chains.{all_append}
use Rattle.unit_packets.specs.Blocks.{StaysWithin}
use Rattle.unit_packets.specs.Packing.{IsPacking, packed, bytes_in, sequence_after}
use Rattle.unit_packets.specs.Pushing.{Packing, HasPacked, next_sequence}
use Rattle.unit_packets.specs.layers.Packings.{Pushes, Finishes}
use Rattle.unit_packets.proofs.OnePacking.{packing_is_computed}
use Rattle.unit_packets.proofs.Packs.{after_known, after_zero, bytes_append}

-- some of the messages were packed, the others are left
pub record SoFar (unit first : ℕ) (all rest : List (List ℕ)) (packer : Packing) (before so_far : List (Roomy ℕ)) : Type 0 where
  pub taken : List (List ℕ)
  pub split : all ≡ taken ++ rest
  pub raws : AllByRecursion IsRaw taken
  pub added : List (Roomy ℕ)
  pub are : so_far ≡ before ++ added
  pub packs : HasPacked packer unit first taken (bytes_in added)

pub none_so_far : (unit first : ℕ) (all : List (List ℕ)) (packer : Packing) (before : List (Roomy ℕ)) → HasPacked packer unit first [] [] → SoFar unit first all all packer before before
none_so_far unit first all packer before packs = record { taken = []; split = refl; raws = tt; added = []; are = sym (append-nil before); packs = packs }

next_within : (first n m : ℕ) → StaysWithin first m → n < m → sequence_after first n ≤ 4294967294
next_within first n m within lt = elim (cases_eq first 0) [
  | inl none ↦ let e = after_zero first n none in omega arith
  | inr some ↦
      let e = after_known first n some in
      elim within [
        | inl zero ↦ absurd (some zero)
        | inr more ↦ elim more [ inl nothing ↦ absurd (omega arith) | inr most ↦ omega arith ]
      ]
]

module _ (unit first : ℕ) (all rest rest' : List (List ℕ)) (raw : List ℕ) (packer : Packing) (before so_far : List (Roomy ℕ)) (s : SoFar unit first all rest packer before so_far) (is : (rest ≡ raw ∷ rest') × IsRaw raw) where
  pub may_push : StaysWithin first (length all) → next_sequence packer ≤ 4294967294
  may_push within =
      let size : length s.taken < length all = omega (arith, ap length s.split, length-append s.taken rest, ap length is.0) in
      let next = s.packs.next_is in
      let le = next_within first (length s.taken) (length all) within size in
      omega arith

  pub more_so_far : (packer' : Packing) (so_far' : List (Roomy ℕ)) → Pushes packer raw packer' so_far so_far' → SoFar unit first all rest' packer' before so_far'
  more_so_far packer' so_far' p = record {
    taken = s.taken ++ raw ∷ [];
    split = s.split ∙ ap (λ (r : List (List ℕ)). s.taken ++ r) is.0 ∙ sym (append_assoc s.taken (raw ∷ []) rest');
    raws = all_append s.taken raw s.raws is.1;
    added = s.added ++ p.added;
    are = p.given ∙ ap (λ (l : List (Roomy ℕ)). l ++ p.added) s.are ∙ append_assoc before s.added p.added;
    packs = subst (HasPacked packer' unit first (s.taken ++ raw ∷ [])) (sym (bytes_append s.added p.added)) (p.stands unit first s.taken (bytes_in s.added) s.packs);
  }

pub all_packed : (unit first : ℕ) (all rest : List (List ℕ)) (packer packer' : Packing) (before so_far after : List (Roomy ℕ)) → SoFar unit first all rest packer before so_far → rest ≡ []
    → Finishes packer packer' so_far after → bytes_in after ≡ bytes_in before ++ packed unit first all
all_packed unit first all rest packer packer' before so_far after s none f =
    let whole : s.taken ≡ all = sym (append-nil s.taken) ∙ ap (λ (r : List (List ℕ)). s.taken ++ r) (sym none) ∙ sym s.split in
    ap (λ (l : List (Roomy ℕ)). bytes_in l) (f.given ∙ ap (λ (l : List (Roomy ℕ)). l ++ f.added) s.are ∙ append_assoc before s.added f.added)
    ∙ bytes_append before (s.added ++ f.added)
    ∙ ap (λ (l : List (List ℕ)). bytes_in before ++ l) (bytes_append s.added f.added ∙ f.whole unit first s.taken (bytes_in s.added) s.packs ∙ ap (packed unit first) whole)

pub all_packing : (unit first : ℕ) (all rest : List (List ℕ)) (packer : Packing) (before so_far : List (Roomy ℕ)) → SoFar unit first all rest packer before so_far → rest ≡ []
    → unit < 256 → StaysWithin first (length all) → IsPacking unit first all (packed unit first all)
all_packing unit first all rest packer before so_far s none small within =
    let whole : s.taken ≡ all = sym (append-nil s.taken) ∙ ap (λ (r : List (List ℕ)). s.taken ++ r) (sym none) ∙ sym s.split in
    packing_is_computed unit first all small (subst (λ (rs : List (List ℕ)). AllByRecursion IsRaw rs) whole s.raws) within

pub cut_back : (n : ℕ) (unit first : ℕ) (all rest : List (List ℕ)) (packer : Packing) (before so_far : List (Roomy ℕ)) → SoFar unit first all rest packer before so_far → n ≡ length before → take n so_far ≡ before
cut_back n unit first all rest packer before so_far s is = ap (λ (k : ℕ). take k so_far) is ∙ ap (take (length before)) s.are ∙ take_at before s.added (length before) refl
