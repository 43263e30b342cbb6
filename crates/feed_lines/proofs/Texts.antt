-- The texts of a list's items, one after another.
use Rattle.std.proofs.Common.{◌≡◌, ℕ, List, [], ◌∷◌, ◌++◌, reverse, refl, sym, ap, ◌∙◌, append_assoc}
use Rattle.std.proofs.lemmas.List.{append-nil, reverse-append}
use Rattle.std.proofs.lemmas.Grind.{reverse_onto}
use Rattle.feed_lines.specs.Texts.{texts_after}

module _ {A : Type 0} where
  pub texts_none : (text : List A → A → List ℕ) (before : List A) → texts_after text before [] ≡ []
  unfolding texts_after
  texts_none text before = refl

  pub texts_first : (text : List A → A → List ℕ) (before : List A) (x : A) (xs : List A) → texts_after text before (x ∷ xs) ≡ text before x ++ texts_after text (x ∷ before) xs
  unfolding texts_after
  texts_first text before x xs = refl

  reverse_cons : (x : A) (xs before : List A) → reverse (x ∷ xs) ++ before ≡ reverse xs ++ (x ∷ before)
  reverse_cons x xs before = ap (λ (ys : List A). ys ++ before) (reverse_onto xs x []) ∙ append_assoc (reverse xs) (x ∷ []) before

  -- an item more
  pub texts_more : (text : List A → A → List ℕ) (before xs : List A) (x : A) → texts_after text before (xs ++ x ∷ []) ≡ texts_after text before xs ++ text (reverse xs ++ before) x
  unfolding texts_after
  texts_more text before [] x = append-nil (text before x)
  texts_more text before (y ∷ xs) x =
      ap (λ (t : List ℕ). text before y ++ t) (texts_more text (y ∷ before) xs x)
      ∙ sym (append_assoc (text before y) (texts_after text (y ∷ before) xs) (text (reverse xs ++ (y ∷ before)) x))
      ∙ ap (λ (ys : List A). (text before y ++ texts_after text (y ∷ before) xs) ++ text ys x) (sym (reverse_cons y xs before))

  -- the texts from the start on, with an item more
  pub texts_grown : (text : List A → A → List ℕ) (xs : List A) (x : A) → texts_after text [] (xs ++ x ∷ []) ≡ texts_after text [] xs ++ text (reverse xs) x
  texts_grown text xs x = texts_more text [] xs x ∙ ap (λ (ys : List A). texts_after text [] xs ++ text ys x) (append-nil (reverse xs))

  pub reverse_more : (xs : List A) (x : A) → reverse (xs ++ x ∷ []) ≡ x ∷ reverse xs
  reverse_more xs x = reverse-append xs (x ∷ [])
