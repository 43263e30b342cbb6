-- A value as a word of its own.
use Rattle.std.proofs.Common.{◌≡◌, ◌∙◌, ◌==◌, ℕ, Bool, cond, true, false, refl, sym, ap, ap₂, subst, arith, List, [], ◌∷◌, ◌++◌, Some, None, true≢false}
use Rattle.long_options.proofs.LongWords.{some_none}
use Rattle.std.specs.Prelude.{option_and_then, slice_get}
use Rattle.std.specs.Str.{IsUtf8, bytes_eq, chars}
use Rattle.std.proofs.lemmas.Bool.Decides.{nat_tests}
use Rattle.std.proofs.lemmas.Slice.Eq.{bytes_eq-Decides}
use Rattle.std.proofs.lemmas.Str.{encode_ascii, encodes-chars}
use Rattle.std.specs.Str.{encode_utf8_all}
use Rattle.clap.specs.Lexer.{long_of, long_of_rest, short_of, short_of_rest, strip_byte}
use Rattle.long_options.specs.Words.{IsApart, Text}
use Rattle.long_options.specs.Plain.{dashes}

-- a hyphen is followed by a character, or by nothing
pub first_char : (x : ℕ) (xs : Text) → IsUtf8 (45 ∷ x ∷ xs) → slice_get (chars (x ∷ xs)) 0 ≡ None → ⊥
unfolding chars
first_char x xs u none = go (chars (x ∷ xs)) refl none
  where
    go : (cs : List ℕ) → chars (x ∷ xs) ≡ cs → slice_get cs 0 ≡ None → ⊥
    go [] e n = let same : 45 ∷ [] ≡ 45 ∷ x ∷ xs = sym (ap (λ t. t ++ []) (encode_ascii 45 (omega arith))) ∙ ap (λ cs. encode_utf8_all (45 ∷ cs)) (sym e) ∙ encodes-chars (45 ∷ x ∷ xs) u in cc
    go (c ∷ cs) e n = some_none c n

-- the word that has these flags
pub short_word : (word : Text) (x : ℕ) (xs : Text) → short_of word ≡ Some (x ∷ xs) → word ≡ 45 ∷ x ∷ xs
short_word [] x xs e = cc
short_word (w ∷ ws) x xs e = go (w == 45) refl e
  where
    rest : (ws : Text) → short_of_rest ws ≡ Some (x ∷ xs) → ws ≡ x ∷ xs
    rest [] e = cc
    rest (y ∷ ys) e = here (y == 45) e
      where
        here : (b : Bool) → cond b None (Some (y ∷ ys)) ≡ Some (x ∷ xs) → y ∷ ys ≡ x ∷ xs
        here true e = cc
        here false e = cc

    go : (b : Bool) → (w == 45) ≡ b → option_and_then short_of_rest (cond b (Some ws) None) ≡ Some (x ∷ xs) → w ∷ ws ≡ 45 ∷ x ∷ xs
    go true is e = let same : w ≡ 45 = grind (arith, nat_tests) in ap₂ (λ a b. a ∷ b) same (rest ws e)
    go false is e = cc

-- a word that is read as no option may stand alone
pub apart_of : (word : Text) → bytes_eq word dashes ≡ false → long_of word ≡ None → short_of word ≡ None → IsApart word
apart_of word d l s [] e = refl
apart_of word d l s (x ∷ xs) e = absurd (go (x == 45) refl)
  where
    two : (t : Text) → word ≡ 45 ∷ 45 ∷ t → ⊥
    two [] is = true≢false (sym ((bytes_eq-Decides word dashes).1 is) ∙ d)
    two (y ∷ ys) is = some_none _ (sym (ap long_of is) ∙ l)

    go : (b : Bool) → (x == 45) ≡ b → ⊥
    go true is = let same : x ≡ 45 = grind (arith, nat_tests) in two xs (e ∙ ap (λ y. 45 ∷ y ∷ xs) same)
    go false is = some_none (x ∷ xs) (sym (ap short_of e ∙ ap (λ b. cond b None (Some (x ∷ xs))) is) ∙ s)

pub plain_dashes : (v : Text) → strip_byte 45 v ≡ None → bytes_eq v dashes ≡ false
plain_dashes v e = go (bytes_eq v dashes) refl
  where
    go : (b : Bool) → bytes_eq v dashes ≡ b → b ≡ false
    go false is = refl
    go true is =
        let same : v ≡ dashes = (bytes_eq-Decides v dashes).0 is in
        absurd (some_none (45 ∷ []) (sym (ap (strip_byte 45) same) ∙ e))

abbrev pub IsNoOption : Text → Type 0
IsNoOption v = (bytes_eq v dashes ≡ false) × (long_of v ≡ None) × (short_of v ≡ None)

without_hyphen : (v : Text) → strip_byte 45 v ≡ None → IsNoOption v
without_hyphen v e = (plain_dashes v e, ap (λ o. option_and_then long_of_rest (option_and_then (strip_byte 45) o)) e, ap (option_and_then short_of_rest) e)

-- and is read as no option
pub no_option : (v : Text) → IsApart v → IsNoOption v
no_option [] apart = (refl, refl, refl)
no_option (x ∷ xs) apart = go (x == 45) refl
  where
    alone : IsNoOption (45 ∷ [])
    alone = (refl, refl, refl)

    go : (b : Bool) → (x == 45) ≡ b → IsNoOption (x ∷ xs)
    go true is =
        let same : x ≡ 45 = grind (arith, nat_tests) in
        let first : x ∷ xs ≡ 45 ∷ xs = ap (λ y. y ∷ xs) same in
        subst IsNoOption (sym (first ∙ ap (λ t. 45 ∷ t) (apart xs first))) alone
    go false is = without_hyphen (x ∷ xs) (ap (λ b. cond b (Some xs) None) is)
