-- Chains of raws that stand end to end.
use Rattle.std.proofs.Common.{◌≡◌, ◌≢◌, ℕ, zero, suc, ◌+◌, ◌-◌, ◌<◌, ◌≤◌, Bool, true, false, cond, List, [], ◌∷◌, ◌++◌, length, take, drop, refl, sym, ap, ◌∙◌, arith, subst, length-append, append_assoc, inl, inr, slice_index, min, Option, None, Some, Bor, MatchOption, slice_get}
use Rattle.std.specs.Option.{option_copied}
use Rattle.std.specs.List.{concat, AllByRecursion}
use Rattle.std.proofs.lemmas.Bool.{cases_Bool}
use Rattle.std.proofs.lemmas.List.{append-nil, drop-drop, get_or-drop, get_or-take, length-take-le, take-append-drop, append_cancel_left, get_or_append_left, length-take}
use Rattle.std.proofs.Math.Seq.{take-append_seam, drop-append_seam}
use Rattle.std.proofs.lemmas.List.Folds.{concat-append}
use Rattle.std.proofs.lemmas.Bool.Decides.{nat_tests}
use Rattle.pitch_messages.specs.Raw.{IsRaw, raws_of, begins_raw}
use Rattle.pitch_messages.specs.layers.Chains.{IsChain}

pub raws_none : (n : ℕ) (body : List ℕ) → begins_raw body ≡ false → raws_of n body ≡ []
unfolding raws_of
raws_none zero body h = refl
raws_none (suc n) body h = ap (λ (b : Bool). cond b (take (slice_index body 0) body ∷ raws_of n (drop (slice_index body 0) body)) []) h

pub raws_some : (n : ℕ) (body : List ℕ) → begins_raw body ≡ true → raws_of (suc n) body ≡ take (slice_index body 0) body ∷ raws_of n (drop (slice_index body 0) body)
unfolding raws_of
raws_some n body h = ap (λ (b : Bool). cond b (take (slice_index body 0) body ∷ raws_of n (drop (slice_index body 0) body)) []) h

-- a chain that is not empty begins with a raw
chain_begins : (n : ℕ) (bytes : List ℕ) → IsChain (suc n) bytes → begins_raw bytes ≡ true
chain_begins n bytes chain = elim (cases_Bool (begins_raw bytes)) [
  | inl b ↦ b
  | inr b ↦ absurd (omega (arith, chain.many, ap length (raws_none (suc n) bytes b)))
]

-- the first raw of a chain of n, its length, and the chain behind it
pub record Starts (n k : ℕ) (bytes : List ℕ) : Type 0 where
  pub least : 2 ≤ k
  pub fits : k ≤ length bytes
  pub are : raws_of n bytes ≡ take k bytes ∷ raws_of (n - 1) (drop k bytes)
  pub raw : IsRaw (take k bytes)
  pub rest : IsChain (n - 1) (drop k bytes)

starts_suc : (n : ℕ) (bytes : List ℕ) → IsChain (suc n) bytes → Starts (suc n) (slice_index bytes 0) bytes
starts_suc n bytes chain =
    let b = chain_begins n bytes chain in
    let k : ℕ = slice_index bytes 0 in
    let are : raws_of (suc n) bytes ≡ take k bytes ∷ raws_of n (drop k bytes) = raws_some n bytes b in
    let less : suc n - 1 ≡ n = omega arith in
    let all : AllByRecursion IsRaw (take k bytes ∷ raws_of n (drop k bytes)) = subst (λ (rs : List (List ℕ)). AllByRecursion IsRaw rs) are chain.raws in
    let joined : take k bytes ++ concat (raws_of n (drop k bytes)) ≡ take k bytes ++ drop k bytes = sym (ap concat are) ∙ chain.whole ∙ sym (take-append-drop k bytes) in
    let rest : IsChain n (drop k bytes) = record {
      many = omega (arith, chain.many, ap length are);
      whole = append_cancel_left (take k bytes) (concat (raws_of n (drop k bytes))) (drop k bytes) joined;
      raws = all.1;
    } in
    record {
      least = grind (arith, nat_tests, b);
      fits = grind (arith, nat_tests, b);
      are = are ∙ ap (λ (m : ℕ). take k bytes ∷ raws_of m (drop k bytes)) (sym less);
      raw = all.0;
      rest = subst (λ (m : ℕ). IsChain m (drop k bytes)) (sym less) rest;
    }

pub starts : (n : ℕ) (bytes : List ℕ) → n ≢ 0 → IsChain n bytes → Starts n (slice_index bytes 0) bytes
starts zero bytes more chain = absurd (omega arith)
starts (suc n) bytes more chain = starts_suc n bytes chain

-- the raws of an empty chain
pub no_raws : (bytes : List ℕ) → raws_of 0 bytes ≡ []
unfolding raws_of
no_raws bytes = refl

-- what a chain cut out of bytes has
pub raws_are_raw : (n : ℕ) (body : List ℕ) → ((k : ℕ) → slice_index body k < 256) → AllByRecursion IsRaw (raws_of n body)
unfolding raws_of
raws_are_raw zero body small = tt
raws_are_raw (suc n) body small = elim (cases_Bool (begins_raw body)) [
  | inl b ↦
      let k : ℕ = slice_index body 0 in
      let least : 2 ≤ k = grind (arith, nat_tests, b) in
      let fits : k ≤ length body = grind (arith, nat_tests, b) in
      let size : length (take k body) ≡ k = length-take-le k body fits in
      let rest = raws_are_raw n (drop k body) (λ i. rw (get_or-drop k body i 0) (small (k + i))) in
      let raw : IsRaw (take k body) = record {
        least = omega (arith, size);
        most = omega (arith, size, small 0);
        first = get_or-take k body 0 0 (omega arith) ∙ sym size;
      } in
      subst (λ (rs : List (List ℕ)). AllByRecursion IsRaw rs) (sym (raws_some n body b)) (raw, rest)
  | inr b ↦ subst (λ (rs : List (List ℕ)). AllByRecursion IsRaw rs) (sym (raws_none (suc n) body b)) tt
]

-- raws that are joined stand again
pub raws_of-concat : (rs : List (List ℕ)) (tail : List ℕ) → AllByRecursion IsRaw rs → raws_of (length rs) (concat rs ++ tail) ≡ rs
raws_of-concat [] tail all = no_raws tail
raws_of-concat (r ∷ rs) tail all =
    let raw : IsRaw r = all.0 in
    let after : List ℕ = concat rs ++ tail in
    let same : (r ++ concat rs) ++ tail ≡ r ++ after = append_assoc r (concat rs) tail in
    let k : slice_index (r ++ after) 0 ≡ length r = get_or_append_left r after 0 0 (omega (arith, raw.least)) ∙ raw.first in
    let begins : begins_raw (r ++ after) ≡ true = grind (arith, nat_tests, k, raw.least, length-append r after) in
    ap (λ (body : List ℕ). raws_of (suc (length rs)) body) same
    ∙ raws_some (length rs) (r ++ after) begins
    ∙ ap (λ (n : ℕ). take n (r ++ after) ∷ raws_of (length rs) (drop n (r ++ after))) k
    ∙ ap (λ (prefix : List ℕ). prefix ∷ raws_of (length rs) (drop (length r) (r ++ after))) (take-append_seam r after)
    ∙ ap (λ (body : List ℕ). r ∷ raws_of (length rs) body) (drop-append_seam r after)
    ∙ ap (λ (more : List (List ℕ)). r ∷ more) (raws_of-concat rs tail all.1)

-- a chain with its raws
pub record Chain (count : ℕ) (bytes : List ℕ) (rs : List (List ℕ)) : Type 0 where
  pub are : raws_of count bytes ≡ rs
  pub chain : IsChain count bytes

-- the raws of a list, joined
pub chain_of : (rs : List (List ℕ)) (count : ℕ) (bytes : List ℕ) → length rs ≡ count → concat rs ≡ bytes → AllByRecursion IsRaw rs → Chain count bytes rs
chain_of rs count bytes many whole all =
    let are : raws_of count bytes ≡ rs =
    ap (λ (n : ℕ). raws_of n bytes) (sym many) ∙ ap (λ (body : List ℕ). raws_of (length rs) body) (sym whole ∙ sym (append-nil (concat rs))) ∙ raws_of-concat rs [] all in
    record {
      are = are;
      chain = record {
        many = ap length are ∙ many;
        whole = ap concat are ∙ whole;
        raws = subst (λ (xs : List (List ℕ)). AllByRecursion IsRaw xs) (sym are) all;
      };
    }

pub all_append : (rs : List (List ℕ)) (raw : List ℕ) → AllByRecursion IsRaw rs → IsRaw raw → AllByRecursion IsRaw (rs ++ raw ∷ [])
all_append [] raw all is = (is, tt)
all_append (r ∷ rs) raw all is = (all.0, all_append rs raw all.1 is)

all_take : (n : ℕ) (rs : List (List ℕ)) → AllByRecursion IsRaw rs → AllByRecursion IsRaw (take n rs)
all_take zero rs all = tt
all_take (suc n) [] all = tt
all_take (suc n) (r ∷ rs) all = (all.0, all_take n rs all.1)

-- one more raw behind a chain
pub chain_push : (count : ℕ) (bytes raw : List ℕ) → IsChain count bytes → IsRaw raw → Chain (count + 1) (bytes ++ raw) (raws_of count bytes ++ raw ∷ [])
chain_push count bytes raw chain is =
    let rs : List (List ℕ) = raws_of count bytes in
    chain_of (rs ++ raw ∷ []) (count + 1) (bytes ++ raw)
    (omega (arith, length-append rs (raw ∷ []), chain.many))
    (concat-append rs (raw ∷ []) ∙ ap (λ (tail : List ℕ). concat rs ++ tail) (append-nil raw) ∙ ap (λ (prefix : List ℕ). prefix ++ raw) chain.whole)
    (all_append rs raw chain.raws is)

-- the bytes of a chain without those of its raws from the nth on
pub chain_take : (n count k : ℕ) (bytes : List ℕ) → IsChain count bytes → k + length (concat (drop n (raws_of count bytes))) ≡ length bytes
    → Chain (min n count) (take k bytes) (take n (raws_of count bytes))
chain_take n count k bytes chain rest =
    let rs : List (List ℕ) = raws_of count bytes in
    let prefix : List ℕ = concat (take n rs) in
    let suffix : List ℕ = concat (drop n rs) in
    let whole : prefix ++ suffix ≡ bytes = sym (concat-append (take n rs) (drop n rs)) ∙ ap concat (take-append-drop n rs) ∙ chain.whole in
    let size : k ≡ length prefix = omega (arith, rest, length-append prefix suffix, ap length whole) in
    let cut : prefix ≡ take k bytes = sym (take-append_seam prefix suffix) ∙ ap (λ (m : ℕ). take m (prefix ++ suffix)) (sym size) ∙ ap (λ (xs : List ℕ). take k xs) whole in
    chain_of (take n rs) (min n count) (take k bytes)
    (length-take n rs ∙ ap (λ (m : ℕ). min n m) chain.many)
    cut (all_take n rs chain.raws)

-- a chain has fewer raws than a machine can count, and than its bytes
pub chain_count : (rs : List (List ℕ)) → AllByRecursion IsRaw rs → length rs + length rs ≤ length (concat rs)
chain_count [] all = omega arith
chain_count (r ∷ rs) all = let raw : IsRaw r = all.0 in omega (arith, chain_count rs all.1, length-append r (concat rs), raw.least)

pub empty_chain : (bytes : List ℕ) → bytes ≡ [] → IsChain 0 bytes
empty_chain bytes e = subst (λ (xs : List ℕ). IsChain 0 xs) (sym e) (chain_of [] 0 [] refl refl tt).chain

-- what a step over the raws gave
abbrev pub Stepped : List (List ℕ) → Option (Bor (List ℕ)) → List (List ℕ) → Type 0
Stepped old raw new = MatchOption raw ((old ≡ []) × (new ≡ [])) (λ x. (old ≡ x.now ∷ new) × IsRaw x.now)

pub stepped_on : (rs old new : List (List ℕ)) (raw : Option (Bor (List ℕ))) (i : ℕ) → old ≡ drop i rs → Stepped old raw new → new ≡ drop (i + 1) rs
stepped_on rs old new None i at (none, left) = left ∙ ap (λ (xs : List (List ℕ)). drop 1 xs) (sym none ∙ at) ∙ drop-drop 1 i rs
stepped_on rs old new (Some x) i at (first, is) = ap (λ (xs : List (List ℕ)). drop 1 xs) (sym first ∙ at) ∙ drop-drop 1 i rs

pub stepped_at : (rs new : List (List ℕ)) (raw : Option (Bor (List ℕ))) (i : ℕ) → Stepped (drop i rs) raw new → option_copied raw ≡ slice_get rs i
stepped_at [] new None i step = refl
stepped_at [] new (Some x) zero step = cc (step.0)
stepped_at [] new (Some x) (suc i) step = cc (step.0)
stepped_at (r ∷ rs) new None zero step = cc (step.0)
stepped_at (r ∷ rs) new (Some x) zero step = ap (λ (o : List (List ℕ)). slice_get o 0) (sym step.0)
stepped_at (r ∷ rs) new raw (suc i) step = stepped_at rs new raw i step

-- the bytes of the raws from the nth on, as a part of all
pub rest_within : (n count : ℕ) (bytes : List ℕ) → IsChain count bytes → length (concat (drop n (raws_of count bytes))) ≤ length bytes
rest_within n count bytes chain =
    let rs : List (List ℕ) = raws_of count bytes in
    omega (arith, length-append (concat (take n rs)) (concat (drop n rs)), ap length (sym (concat-append (take n rs) (drop n rs)) ∙ ap concat (take-append-drop n rs) ∙ chain.whole))
