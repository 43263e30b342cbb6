-- Texts that name things, each the one at its place.
use Rattle.std.proofs.Common.{◌≡◌, ◌∙◌, ℕ, zero, suc, ◌<◌, ◌+◌, List, [], ◌∷◌, ◌++◌, length, map, take, slice_index_or, Bor, arith, refl, ap, sym, subst}
use Rattle.std.proofs.lemmas.List.{length-map, get_or-map}
use Rattle.std.proofs.Math.Seq.{take-suc}
use Rattle.long_options.specs.Words.{Text}
use Rattle.live_words.specs.Options.{AreNamed}

-- one more text names one more thing
pub named_more : {A : Type 0} (Names : Text → A → Type 0) (ts : List Text) (xs : List A) (t : Text) (x : A) → AreNamed Names ts xs → Names t x → AreNamed Names (ts ++ t ∷ []) (xs ++ x ∷ [])
named_more Names [] [] t x named name = (name, record {})
named_more Names [] (y ∷ xs) t x named name = absurd named
named_more Names (s ∷ ts) [] t x named name = absurd named
named_more Names (s ∷ ts) (y ∷ xs) t x named name = (named.0, named_more Names ts xs t x named.1 name)

-- each text names something
pub named_at : {A : Type 0} (Names : Text → A → Type 0) (ts : List Text) (xs : List A) (d : Text) (i : ℕ) → i < length ts → AreNamed Names ts xs → (x : A) × Names (slice_index_or ts i d) x
named_at Names [] xs d i lt named = absurd (omega arith)
named_at Names (t ∷ ts) [] d i lt named = absurd named
named_at Names (t ∷ ts) (x ∷ xs) d zero lt named = (x, named.0)
named_at Names (t ∷ ts) (x ∷ xs) d (suc i) lt named = named_at Names ts xs d i (omega arith) named.1

-- they are as many
pub named_length : {A : Type 0} (Names : Text → A → Type 0) (ts : List Text) (xs : List A) → AreNamed Names ts xs → length ts ≡ length xs
named_length Names [] [] named = refl
named_length Names [] (x ∷ xs) named = absurd named
named_length Names (t ∷ ts) [] named = absurd named
named_length Names (t ∷ ts) (x ∷ xs) named = ap suc (named_length Names ts xs named.1)

-- the next of the texts names the next thing
pub named_next : {A : Type 0} (Names : Text → A → Type 0) (bs : List (Bor Text)) (i : ℕ) (d : Bor Text) (xs : List A) (x : A) → i < length bs → AreNamed Names (take i (map (λ (b : Bor Text). b.now) bs)) xs → Names (slice_index_or bs i d).now x
    → AreNamed Names (take (i + 1) (map (λ (b : Bor Text). b.now) bs)) (xs ++ x ∷ [])
named_next Names bs i d xs x lt named name =
    let texts : List Text = map (λ (b : Bor Text). b.now) bs in
    let is : slice_index_or texts i [] ≡ (slice_index_or bs i d).now = get_or-map (λ (b : Bor Text). b.now) bs i d [] lt in
    let place : i < length texts = subst (λ (n : ℕ). i < n) (sym (length-map bs (λ (b : Bor Text). b.now))) lt in
    let e : i + 1 ≡ suc i = omega arith in
    let more = named_more Names (take i texts) xs (slice_index_or texts i []) x named (subst (λ (t : Text). Names t x) (sym is) name) in
    subst (λ (ts : List Text). AreNamed Names ts (xs ++ x ∷ [])) (sym (ap (λ (n : ℕ). take n texts) e ∙ take-suc texts i [] place)) more
