-- What is noted of messages that are applied one after another.
use Rattle.std.proofs.Common.{◌≡◌, ℕ, ◌≤◌, List, [], ◌++◌, take, drop, sym, ap, ◌∙◌, subst}
use Rattle.std.specs.List.{fold}
use Rattle.std.proofs.lemmas.List.{take-append-drop}
use Rattle.std.proofs.lemmas.List.Sums.{fold-append}
use Rattle.pitch_model.specs.Book.{Book, after, book_after, empty_book}
use Rattle.client_core.proofs.Slices.{take_take, slices, no_slice}

-- ---- The venue's messages from one place to another
-- the book at the one place makes the book at the other
pub book_between : (V : List (List ℕ)) (a b : ℕ) (book book' : Book) → a ≤ b → book ≡ book_after (take a V) → book' ≡ book_after (take b V) → book' ≡ fold after book (drop a (take b V))
book_between V a b book book' ab is is' =
    is'
    ∙ ap book_after (sym (take-append-drop a (take b V)))
    ∙ fold-append after empty_book (take a (take b V)) (drop a (take b V))
    ∙ ap (λ (raws : List (List ℕ)). fold after (book_after raws) (drop a (take b V))) (take_take a b V ab)
    ∙ ap (λ (x : Book). fold after x (drop a (take b V))) (sym is)

-- nothing is noted where the floor stays
pub noted_still : {N : Type 0} (noted : N → N → Book → List (List ℕ) → Type 0) (notes : N) → ((book : Book) → noted notes notes book []) → (V : List (List ℕ)) (a b : ℕ) (book : Book) → b ≡ a → noted notes notes book (drop a (take b V))
noted_still noted notes nothing V a b book same =
    subst (λ (n : ℕ). noted notes notes book (drop a (take n V))) (sym same)
    (subst (λ (raws : List (List ℕ)). noted notes notes book raws) (sym (no_slice a V)) (nothing book))

-- ---- Messages, and then others
module _ {N : Type 0} (noted : N → N → Book → List (List ℕ) → Type 0) (both : (first middle last : N) (book : Book) (xs ys : List (List ℕ)) → noted first middle book xs → noted middle last (fold after book xs) ys → noted first last book (xs ++ ys)) where
  pub noted_both : (book book' : Book) (xs ys : List (List ℕ)) (first middle last : N) → book' ≡ fold after book xs → noted first middle book xs → noted middle last book' ys → noted first last book (xs ++ ys)
  noted_both book book' xs ys first middle last then x y = both first middle last book xs ys x (subst (λ (b : Book). noted middle last b ys) then y)

  -- what is noted from a to b, and then from b to c
  pub noted_then : (V : List (List ℕ)) (a b c : ℕ) (book book' : Book) (first middle last : N) → a ≤ b → b ≤ c → book ≡ book_after (take a V) → book' ≡ book_after (take b V)
      → noted first middle book (drop a (take b V)) → noted middle last book' (drop b (take c V)) → noted first last book (drop a (take c V))
  noted_then V a b c book book' first middle last ab bc is is' x y =
      subst (λ (raws : List (List ℕ)). noted first last book raws) (slices a b c V ab bc)
      (noted_both book book' (drop a (take b V)) (drop b (take c V)) first middle last (book_between V a b book book' ab is is') x y)
