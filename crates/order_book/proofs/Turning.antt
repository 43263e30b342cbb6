-- What a message did to the open orders, by which of them it touches.
use Rattle.std.proofs.Common.{◌≡◌, ℕ, suc, List, [], ◌∷◌, ◌++◌, fold, length, refl, ap, ◌∙◌, sym}
use Rattle.pitch_model.specs.Book.{Book, after}
use Rattle.order_book.specs.Naming.{touched}
use Rattle.order_book.specs.Turns.{turn_between, turn_of, turns_of}
use Rattle.order_book.specs.declared.naming.Touches.{Touches}
use Rattle.order_book.specs.declared.turn.Turn.{Turn}

pub turn_is : (book book' : Book) (raw : List ℕ) (t u : Touches) → book' ≡ after book raw → t ≡ touched raw → t ≡ u → turn_between u book book' ≡ turn_of book raw
unfolding turn_of
turn_is book book' raw t u then is here =
    ap (λ (b : Book). turn_between u book b) then ∙ ap (λ (x : Touches). turn_between x book (after book raw)) (sym here ∙ is)

-- the turns of some messages and of those after them
pub turns_of-append : (book : Book) (xs ys : List (List ℕ)) → turns_of book (xs ++ ys) ≡ turns_of book xs ++ turns_of (fold after book xs) ys
turns_of-append book [] ys = refl
turns_of-append book (x ∷ xs) ys = ap (λ (turns : List Turn). turn_of book x ∷ turns) (turns_of-append (after book x) xs ys)

-- each message has its turn
pub length-turns_of : (book : Book) (raws : List (List ℕ)) → length (turns_of book raws) ≡ length raws
length-turns_of book [] = refl
length-turns_of book (raw ∷ raws) = ap (λ (n : ℕ). suc n) (length-turns_of (after book raw) raws)
