-- What the lexer makes of `--name` and `--name=value`.
use Rattle.std.proofs.Common.{◌≡◌, ◌∙◌, ◌==◌, ℕ, Bool, true, false, suc, zero, refl, sym, ap, subst, arith, [], ◌∷◌, ◌++◌, Option, Some, None, true≢false, cond}
use Rattle.std.proofs.lemmas.Bool.{or_parts}
use Rattle.std.specs.Prelude.{option_and_then}
use Rattle.std.specs.Str.{bytes_eq}
use Rattle.std.proofs.lemmas.Slice.Eq.{bytes_eq-Decides}
use Rattle.std.proofs.lemmas.Bool.Decides.{nat_tests}
use Rattle.clap.specs.Lexer.{has_byte, long_of, long_of_rest, name_and_value, strip_byte}
use Rattle.clap.proofs.CutLemmas.{Lacks}
use Rattle.clap.proofs.LexerLemmas.{name_and_value-at, name_and_value-without}
use Rattle.long_options.specs.Words.{Text, long_flag}

pub lacks : (xs : Text) → has_byte 61 xs ≡ false → Lacks 61 xs
lacks [] e i lt = absurd (omega arith)
lacks (x ∷ xs) e zero lt = let h = (or_parts (x == 61) _ e).0 in grind (arith, nat_tests)
lacks (x ∷ xs) e (suc i) lt = lacks xs (or_parts (x == 61) _ e).1 i (omega arith)

-- a text with a `=` is cut at the first one
pub cut : (text : Text) → has_byte 61 text ≡ true → (xs : Text) × (ys : Text) × (text ≡ xs ++ 61 ∷ ys) × (has_byte 61 xs ≡ false)
cut [] e = absurd (true≢false (sym e))
cut (x ∷ xs) e = go (x == 61) refl (cut xs)
  where
    go : (b : Bool) → (x == 61) ≡ b → (has_byte 61 xs ≡ true → (front : Text) × (ys : Text) × (xs ≡ front ++ 61 ∷ ys) × (has_byte 61 front ≡ false)) → (front : Text) × (ys : Text) × (x ∷ xs ≡ front ++ 61 ∷ ys) × (has_byte 61 front ≡ false)
    go true is ih = let same : x ≡ 61 = grind (arith, nat_tests) in ([], xs, ap (λ y. y ∷ xs) same, refl)
    go false is ih =
        let rest = ih (rw is at e) in
        (x ∷ rest.0, rest.1, ap (λ t. x ∷ t) rest.2, rw is rest.3)

pub long_of-long_flag : (n : ℕ) (ns : Text) → has_byte 61 (n ∷ ns) ≡ false → long_of (long_flag (n ∷ ns)) ≡ Some (n ∷ ns, None)
long_of-long_flag n ns e = ap Some (name_and_value-without (n ∷ ns) (lacks (n ∷ ns) e))

pub long_of-attached : (n : ℕ) (ns v : Text) → has_byte 61 (n ∷ ns) ≡ false → long_of (long_flag (n ∷ ns) ++ 61 ∷ v) ≡ Some (n ∷ ns, Some v)
long_of-attached n ns v e = ap Some (name_and_value-at (n ∷ ns) v (lacks (n ∷ ns) e))

-- the word that was read so
abbrev pub IsWordOf : Text → Text → Option Text → Type 0
IsWordOf word n None = word ≡ long_flag n
IsWordOf word n (Some v) = word ≡ long_flag n ++ 61 ∷ v

value_of_rest : (t : Text) (n : Text) (v : Option Text) → name_and_value t ≡ (n, v) → IsWordOf (45 ∷ 45 ∷ t) n v
value_of_rest t n v e = go (has_byte 61 t) refl
  where
    go : (b : Bool) → has_byte 61 t ≡ b → IsWordOf (45 ∷ 45 ∷ t) n v
    go true is =
        let c = cut t is in
        let made : (c.0, Some c.1) ≡ (n, v) = sym (name_and_value-at c.0 c.1 (lacks c.0 c.3)) ∙ sym (ap name_and_value c.2) ∙ e in
        subst (λ (p : Text × Option Text). IsWordOf (45 ∷ 45 ∷ t) p.0 p.1) made (ap (λ x. 45 ∷ 45 ∷ x) c.2)
    go false is =
        let made : (t, None) ≡ (n, v) = sym (name_and_value-without t (lacks t is)) ∙ e in
        subst (λ (p : Text × Option Text). IsWordOf (45 ∷ 45 ∷ t) p.0 p.1) made refl

some_is : (p : Text × Option Text) (n : Text) (v : Option Text) → Some p ≡ Some (n, v) → p ≡ (n, v)
some_is p n v e = cc

word_of_rest : (t n : Text) (v : Option Text) → long_of_rest t ≡ Some (n, v) → IsWordOf (45 ∷ 45 ∷ t) n v
word_of_rest [] n v e = cc
word_of_rest (x ∷ xs) n v e = value_of_rest (x ∷ xs) n v (some_is (name_and_value (x ∷ xs)) n v e)

second : (b : ℕ) (t n : Text) (v : Option Text) (y : Bool) → (b == 45) ≡ y → option_and_then long_of_rest (cond y (Some t) None) ≡ Some (n, v) → IsWordOf (45 ∷ b ∷ t) n v
second b t n v true is e =
    let same : 45 ≡ b = grind (arith, nat_tests) in
    subst (λ (x : ℕ). IsWordOf (45 ∷ x ∷ t) n v) same (word_of_rest t n v e)
second b t n v false is e = cc

first : (a b : ℕ) (t n : Text) (v : Option Text) (y : Bool) → (a == 45) ≡ y → option_and_then long_of_rest (option_and_then (strip_byte 45) (cond y (Some (b ∷ t)) None)) ≡ Some (n, v)
    → IsWordOf (a ∷ b ∷ t) n v
first a b t n v true is e =
    let same : 45 ≡ a = grind (arith, nat_tests) in
    subst (λ (x : ℕ). IsWordOf (x ∷ b ∷ t) n v) same (second b t n v (b == 45) refl e)
first a b t n v false is e = cc

alone : (n : Text) (v : Option Text) (y : Bool) → option_and_then long_of_rest (option_and_then (strip_byte 45) (cond y (Some []) None)) ≡ Some (n, v) → ⊥
alone n v true e = cc
alone n v false e = cc

pub word_of : (word n : Text) (v : Option Text) → long_of word ≡ Some (n, v) → IsWordOf word n v
word_of [] n v e = cc
word_of (a ∷ []) n v e = absurd (alone n v (a == 45) e)
word_of (a ∷ b ∷ t) n v e = first a b t n v (a == 45) refl e

pub some_none : {X : Type 0} (t : X) → Some t ≡ None → ⊥
some_none t e = cc

-- such a word isn't `--`
pub not_dashes : (word n : Text) (v : Option Text) → long_of word ≡ Some (n, v) → bytes_eq word (45 ∷ 45 ∷ []) ≡ false
not_dashes word n v e = go (bytes_eq word (45 ∷ 45 ∷ [])) refl
  where
    go : (b : Bool) → bytes_eq word (45 ∷ 45 ∷ []) ≡ b → b ≡ false
    go false is = refl
    go true is =
        let same : word ≡ 45 ∷ 45 ∷ [] = (bytes_eq-Decides word (45 ∷ 45 ∷ [])).0 is in
        absurd (some_none (n, v) (sym e ∙ ap long_of same))
