-- The raws that are computed are the longest chain, and there is no other.
use Rattle.std.proofs.Common.{◌≡◌, ℕ, zero, suc, ◌+◌, ◌-◌, ◌≤◌, ◌⊎◌, Bool, true, false, List, [], ◌∷◌, ◌++◌, length, take, drop, refl, sym, ap, ◌∙◌, arith, subst, length-append, append_assoc, inl, inr, slice_index, nat_le}
use Rattle.std.specs.List.{concat}
use Rattle.std.proofs.lemmas.Bool.{cases_Bool, and_parts, leb-true}
use Rattle.std.proofs.lemmas.List.{drop-drop, length-take-le, take-append-drop, get_or_append_left}
use Rattle.std.proofs.Math.Seq.{take-append_seam, drop-append_seam}
use Rattle.std.proofs.lemmas.Bool.Decides.{nat_tests}
use Rattle.pitch_fields.proofs.Bytes.{byte_at}
use Rattle.pitch_messages.specs.Raw.{IsRaw, raws_of, begins_raw}
use Rattle.pitch_messages.specs.layers.Chains.{BeginsNoRaw, IsLongestChain, RawsAreLongest}
use Rattle.pitch_messages.specs.layers.Chains.{LongestChainIsOne}
use Rattle.pitch_messages.proofs.Chains.{raws_are_raw, raws_none, raws_some}

pub begins_parts : (body : List ℕ) → begins_raw body ≡ true → (2 ≤ slice_index body 0) × (slice_index body 0 ≤ length body)
begins_parts body h =
    let parts = and_parts (nat_le 2 (slice_index body 0)) (nat_le (slice_index body 0) (length body)) h in
    (leb-true 2 (slice_index body 0) parts.0, leb-true (slice_index body 0) (length body) parts.1)

pub raws_few : (n : ℕ) (body : List ℕ) → length (raws_of n body) ≤ n
raws_few zero body = unfold raws_of in omega arith
raws_few (suc n) body = elim (cases_Bool (begins_raw body)) [
  | inl b ↦ omega (arith, ap length (raws_some n body b), raws_few n (drop (slice_index body 0) body))
  | inr b ↦ omega (arith, ap length (raws_none (suc n) body b))
]

-- the raws are a prefix of the body
pub raws_prefix : (n : ℕ) (body : List ℕ) → body ≡ concat (raws_of n body) ++ drop (length (concat (raws_of n body))) body
raws_prefix zero body = unfold raws_of in refl
raws_prefix (suc n) body = elim (cases_Bool (begins_raw body)) [
  | inl b ↦
      let k : ℕ = slice_index body 0 in
      let more : List ℕ = concat (raws_of n (drop k body)) in
      let e : concat (raws_of (suc n) body) ≡ take k body ++ more = ap concat (raws_some n body b) in
      let size : length (take k body) ≡ k = length-take-le k body (begins_parts body b).1 in
      let all : length (concat (raws_of (suc n) body)) ≡ k + length more = omega (arith, ap length e, size, length-append (take k body) more) in
      sym (take-append-drop k body)
      ∙ ap (λ (r : List ℕ). take k body ++ r) (raws_prefix n (drop k body) ∙ ap (λ (r : List ℕ). more ++ r) (drop-drop (length more) k body))
      ∙ sym (append_assoc (take k body) more (drop (k + length more) body))
      ∙ ap (λ (r : List ℕ). r ++ drop (k + length more) body) (sym e)
      ∙ ap (λ (m : ℕ). concat (raws_of (suc n) body) ++ drop m body) (sym all)
  | inr b ↦
      let e : raws_of (suc n) body ≡ [] = raws_none (suc n) body b in
      ap (λ (rs : List (List ℕ)). concat rs ++ drop (length (concat rs)) body) (sym e)
]

-- a raw at the start is seen
raw_begins : (raw rest : List ℕ) → IsRaw raw → begins_raw (raw ++ rest) ≡ true
raw_begins raw rest raw_is =
    let k : slice_index (raw ++ rest) 0 ≡ length raw = get_or_append_left raw rest 0 0 (omega (arith, raw_is.least)) ∙ raw_is.first in
    grind (arith, nat_tests, k, raw_is.least, length-append raw rest)

none_begins : (body : List ℕ) → begins_raw body ≡ false → BeginsNoRaw body
none_begins body none raw rest split raw_is = apart (begins_raw (raw ++ rest)) (raw_begins raw rest raw_is) (sym (ap begins_raw split) ∙ none)
  where
    apart : (b : Bool) → b ≡ true → b ≡ false → ⊥
    apart b is not = cc

-- either so many raws stand, or none follows them
all_or_none : (n : ℕ) (body : List ℕ) → (length (raws_of n body) ≡ n) ⊎ BeginsNoRaw (drop (length (concat (raws_of n body))) body)
all_or_none zero body = inl (unfold raws_of in refl)
all_or_none (suc n) body = elim (cases_Bool (begins_raw body)) [
  | inl b ↦
      let k : ℕ = slice_index body 0 in
      let are = raws_some n body b in
      let size : length (take k body) ≡ k = length-take-le k body (begins_parts body b).1 in
      let all : k + length (concat (raws_of n (drop k body))) ≡ length (concat (raws_of (suc n) body)) = omega (arith, ap (λ (rs : List (List ℕ)). length (concat rs)) are, size, length-append (take k body) (concat (raws_of n (drop k body)))) in
      elim (all_or_none n (drop k body)) [
        | inl many ↦ inl (omega (arith, ap length are, many))
        | inr none ↦ inr (subst BeginsNoRaw (drop-drop (length (concat (raws_of n (drop k body)))) k body ∙ ap (λ (m : ℕ). drop m body) all) none)
      ]
  | inr b ↦
      let e : raws_of (suc n) body ≡ [] = raws_none (suc n) body b in
      inr (subst BeginsNoRaw (ap (λ (rs : List (List ℕ)). drop (length (concat rs)) body) (sym e)) (none_begins body b))
]

pub raws_are_longest : RawsAreLongest
raws_are_longest most bytes all = record {
  each = raws_are_raw most bytes (byte_at bytes all);
  whole = raws_prefix most bytes;
  few = raws_few most bytes;
  longest = all_or_none most bytes;
}

-- ---- there is no other

-- two raws at the start of the same bytes are one
same_raw : (raw other rest left : List ℕ) → IsRaw raw → IsRaw other → raw ++ rest ≡ other ++ left → (raw ≡ other) × (rest ≡ left)
same_raw raw other rest left is also same =
    let first : (r tail : List ℕ) → IsRaw r → slice_index (r ++ tail) 0 ≡ length r = λ r tail h. get_or_append_left r tail 0 0 (omega (arith, h.least)) ∙ h.first in
    let size : length raw ≡ length other = sym (first raw rest is) ∙ ap (λ (xs : List ℕ). slice_index xs 0) same ∙ first other left also in (
      sym (take-append_seam raw rest) ∙ ap (take (length raw)) same ∙ ap (λ (n : ℕ). take n (other ++ left)) size ∙ take-append_seam other left,
      sym (drop-append_seam raw rest) ∙ ap (drop (length raw)) same ∙ ap (λ (n : ℕ). drop n (other ++ left)) size ∙ drop-append_seam other left,
    )

-- a chain that could go on is not the longest
goes_on : (most : ℕ) (bytes rest raw : List ℕ) (others : List (List ℕ)) (left : List ℕ) → IsLongestChain most bytes [] rest → IsLongestChain most bytes (raw ∷ others) left → ⊥
goes_on most bytes rest raw others left short long = elim short.longest [
  | inl full ↦ omega (arith, full, long.few)
  | inr none ↦ none raw (concat others ++ left) (sym short.whole ∙ long.whole ∙ append_assoc raw (concat others) left) long.each.0
]

-- the chain behind the first raw
later : (most : ℕ) (bytes raw : List ℕ) (raws : List (List ℕ)) (rest : List ℕ) → IsLongestChain most bytes (raw ∷ raws) rest → IsLongestChain (most - 1) (concat raws ++ rest) raws rest
later most bytes raw raws rest chain = record {
  each = chain.each.1;
  whole = refl;
  few = omega (arith, chain.few);
  longest = elim chain.longest [ inl full ↦ inl (omega (arith, full)) | inr none ↦ inr none ];
}

pub longest_chain_is_one : LongestChainIsOne
longest_chain_is_one most bytes [] [] rest left one other = (refl, sym one.whole ∙ other.whole)
longest_chain_is_one most bytes [] (o ∷ others) rest left one other = absurd (goes_on most bytes rest o others left one other)
longest_chain_is_one most bytes (r ∷ raws) [] rest left one other = absurd (goes_on most bytes left r raws rest other one)
longest_chain_is_one most bytes (r ∷ raws) (o ∷ others) rest left one other =
    let split = same_raw r o (concat raws ++ rest) (concat others ++ left) one.each.0 other.each.0 (sym (append_assoc r (concat raws) rest) ∙ sym one.whole ∙ other.whole ∙ append_assoc o (concat others) left) in
    let again = longest_chain_is_one (most - 1) (concat raws ++ rest) raws others rest left
    (later most bytes r raws rest one)
    (subst (λ (xs : List ℕ). IsLongestChain (most - 1) xs others left) (sym split.1) (later most bytes o others left other)) in
    (ap (λ (x : List ℕ). x ∷ raws) split.0 ∙ ap (λ (xs : List (List ℕ)). o ∷ xs) again.0, again.1)
