-- The units that blocks name, one after another.
use Rattle.std.proofs.Common.{◌≡◌, ℕ, zero, suc, ◌+◌, ◌≤◌, ◌<◌, inl, inr, Bool, true, false, ◌||◌, ◌==◌, cond, List, [], ◌∷◌, ◌++◌, eqb, ltb, refl, sym, ap, ◌∙◌, arith, append_assoc}
use Rattle.std.proofs.lemmas.List.{append-nil}
use Rattle.std.proofs.lemmas.Bool.{cases_eq, cases_lt, eq-eqb, ne_eqb, lt-ltb, le-ltb, cond-true, cond-false}
use Rattle.std.proofs.Math.Bool.{or-true}
use Rattle.unit_packets.specs.Blocks.{Block}
use Rattle.heard_items.specs.Units.{with_number, units_of}
use Rattle.stream_print.specs.Rising.{named_below}
use Rattle.unit_clients.specs.Clients.{is_named}

pub below_none : (p : ℕ → Bool) → named_below p 0 ≡ []
unfolding named_below
below_none p = refl

pub below_more : (p : ℕ → Bool) (n : ℕ) → named_below p (n + 1) ≡ named_below p n ++ cond (p n) (n ∷ []) []
unfolding named_below
below_more p n = ap (named_below p) (one n)
  where
    one : (n : ℕ) → n + 1 ≡ suc n
    one n = omega arith

-- those below i come first
pub below_split : (p : ℕ → Bool) (i n : ℕ) → i ≤ n → (rest : List ℕ) × (named_below p n ≡ named_below p i ++ rest)
unfolding named_below
below_split p i zero le = ([], ap (named_below p) (zero_is i le) ∙ sym (append-nil (named_below p i)))
  where
    zero_is : (i : ℕ) → i ≤ 0 → 0 ≡ i
    zero_is i le = omega arith
below_split p i (suc n) le = elim (cases_lt n i) [
  | inl lt ↦ ([], ap (named_below p) (same i n le lt) ∙ sym (append-nil (named_below p i)))
  | inr more ↦
      let before = below_split p i n more in
      (before.0 ++ cond (p n) (n ∷ []) [], ap (λ (l : List ℕ). l ++ cond (p n) (n ∷ []) []) before.1 ∙ append_assoc (named_below p i) before.0 (cond (p n) (n ∷ []) []))
]
  where
    same : (i n : ℕ) → i ≤ suc n → n < i → suc n ≡ i
    same i n le lt = omega arith

-- ---- A number put into its place
-- behind smaller ones
behind : (u : ℕ) (p : ℕ → Bool) (n : ℕ) (ys : List ℕ) → n ≤ u → with_number u (named_below p n ++ ys) ≡ named_below p n ++ with_number u ys
unfolding named_below
behind u p zero ys le = refl
behind u p (suc n) ys le =
    ap (with_number u) (append_assoc (named_below p n) (cond (p n) (n ∷ []) []) ys)
    ∙ behind u p n (cond (p n) (n ∷ []) [] ++ ys) (omega arith)
    ∙ ap (λ (l : List ℕ). named_below p n ++ l) (one (p n))
    ∙ sym (append_assoc (named_below p n) (cond (p n) (n ∷ []) []) (with_number u ys))
  where
    past : with_number u (n ∷ ys) ≡ n ∷ with_number u ys
    past = cond-false (eqb u n) (n ∷ ys) (cond (ltb u n) (u ∷ n ∷ ys) (n ∷ with_number u ys)) (ne_eqb u n (λ e. omega arith))
        ∙ cond-false (ltb u n) (u ∷ n ∷ ys) (n ∷ with_number u ys) (le-ltb u n (omega arith))

    one : (b : Bool) → with_number u (cond b (n ∷ []) [] ++ ys) ≡ cond b (n ∷ []) [] ++ with_number u ys
    one true = past
    one false = refl

-- before greater ones
ahead : (u m : ℕ) (xs : List ℕ) → u < m → with_number u (xs ++ m ∷ []) ≡ with_number u xs ++ m ∷ []
ahead u m [] lt =
    cond-false (eqb u m) (m ∷ []) (cond (ltb u m) (u ∷ m ∷ []) (m ∷ u ∷ [])) (ne_eqb u m (λ e. omega arith))
    ∙ cond-true (ltb u m) (u ∷ m ∷ []) (m ∷ u ∷ []) (lt-ltb u m lt)
ahead u m (x ∷ xs) lt = by (ahead u m xs lt) (eqb u x) (ltb u x)
  where
    by : with_number u (xs ++ m ∷ []) ≡ with_number u xs ++ m ∷ [] → (a b : Bool) → cond a (x ∷ (xs ++ m ∷ [])) (cond b (u ∷ x ∷ (xs ++ m ∷ [])) (x ∷ with_number u (xs ++ m ∷ []))) ≡ cond a (x ∷ xs) (cond b (u ∷ x ∷ xs) (x ∷ with_number u xs)) ++ m ∷ []
    by rest true b = refl
    by rest false true = refl
    by rest false false = ap (λ (l : List ℕ). x ∷ l) rest

-- the test that one more number passes
abbrev or_is : ℕ → (ℕ → Bool) → ℕ → Bool
or_is u p q = (q == u) || p q

others_same : (u : ℕ) (p : ℕ → Bool) (n : ℕ) → n ≤ u → named_below (or_is u p) n ≡ named_below p n
unfolding named_below
others_same u p zero le = refl
others_same u p (suc n) le =
    ap (λ (l : List ℕ). l ++ cond (or_is u p n) (n ∷ []) []) (others_same u p n (omega arith))
    ∙ ap (λ (b : Bool). named_below p n ++ cond (b || p n) (n ∷ []) []) (ne_eqb n u (λ e. omega arith))

put_in : (u : ℕ) (p : ℕ → Bool) (n : ℕ) → u < n → with_number u (named_below p n) ≡ named_below (or_is u p) n
unfolding named_below
put_in u p zero lt = absurd (omega arith)
put_in u p (suc n) lt = elim (cases_eq u n) [
  | inl same ↦
      behind u p n (cond (p n) (n ∷ []) []) (omega arith)
      ∙ ap (λ (l : List ℕ). named_below p n ++ l) (here (p n) same)
      ∙ ap (λ (l : List ℕ). l ++ n ∷ []) (sym (others_same u p n (omega arith)))
      ∙ ap (λ (b : Bool). named_below (or_is u p) n ++ cond (b || p n) (n ∷ []) []) (sym (eq-eqb n u (sym same)))
  | inr apart ↦
      there (p n) (omega arith)
      ∙ ap (λ (l : List ℕ). l ++ cond (p n) (n ∷ []) []) (put_in u p n (omega arith))
      ∙ ap (λ (b : Bool). named_below (or_is u p) n ++ cond (b || p n) (n ∷ []) []) (sym (ne_eqb n u (λ e. apart (sym e))))
]
  where
    here : (b : Bool) → u ≡ n → with_number u (cond b (n ∷ []) []) ≡ n ∷ []
    here true same = cond-true (eqb u n) (n ∷ []) (cond (ltb u n) (u ∷ n ∷ []) (n ∷ u ∷ [])) (eq-eqb u n same)
    here false same = ap (λ (k : ℕ). k ∷ []) same

    there : (b : Bool) → u < n → with_number u (named_below p n ++ cond b (n ∷ []) []) ≡ with_number u (named_below p n) ++ cond b (n ∷ []) []
    there true lt = ahead u n (named_below p n) lt
    there false lt = ap (with_number u) (append-nil (named_below p n)) ∙ sym (append-nil (with_number u (named_below p n)))

none_below : (n : ℕ) → named_below (λ q. false) n ≡ []
unfolding named_below
none_below zero = refl
none_below (suc n) = ap (λ (l : List ℕ). l ++ []) (none_below n)

-- the units that the blocks name are those below n that they name
pub units_below : (n : ℕ) (before : List Block) → ((unit : ℕ) → is_named before unit ≡ true → unit < n) → units_of before ≡ named_below (is_named before) n
units_below n [] low = sym (none_below n)
units_below n (block ∷ before) low =
    ap (with_number block.unit) (units_below n before (λ unit named. low unit (ap (λ (b : Bool). (unit == block.unit) || b) named ∙ or-true (unit == block.unit))))
    ∙ put_in block.unit (is_named before) n (low block.unit (ap (λ (b : Bool). b || is_named before block.unit) (eq-eqb block.unit block.unit refl)))
