-- Messages that are applied and noted one after another.
use Rattle.std.proofs.Common.{◌≡◌, ℕ, ◌+◌, ◌≤◌, List, [], ◌∷◌, ◌++◌, sym, ap, ◌∙◌, subst, arith, length-append, take, drop}
use Rattle.std.specs.FinMap.{len}
use Rattle.std.specs.List.{fold}
use Rattle.std.proofs.lemmas.List.Sums.{fold-append}
use Rattle.order_book.specs.Standing.{Standing}
use Rattle.pitch_model.specs.Book.{Book, after}
use Rattle.hold_buffer.specs.HoldView.{HoldView}
use Rattle.client_core.specs.Keeping.{KeepsAt}
use Rattle.client_core.specs.Applying.{Applies}
use Rattle.client_core.specs.Tracks.{Keeps}
use Rattle.client_core.specs.Client.{IsStill, reached, held_number, current_book}
use Rattle.client_core.specs.layers.Bookkeeping.{NotesApplied, NotesVenues}
use Rattle.client_core.specs.layers.Hearing.{KeepsNoteRoom}
use Rattle.client_core.specs.declared.client.UnitClient.{UnitClient}
use Rattle.client_core.proofs.Noting.{noted_both, noted_still}

applied_then : (n m n' : ℕ) (a b c : Standing) (xs ys : List (List ℕ)) → Applies n m a b xs → Applies m n' b c ys → Applies n n' a c (xs ++ ys)
applied_then n m n' a b c xs ys first later =
    let l = length-append xs ys in
    let r = first.reach_is in
    let r' = later.reach_is in
    let s = first.spare in
    let s' = later.spare in
    record {
      book_is = later.book_is ∙ ap (λ (book : _). fold after book ys) first.book_is ∙ sym (fold-append after a.book xs ys);
      reach_is = omega arith;
      spare = omega arith;
    }

-- nothing was applied
pub none_noted : {N : Type 0} (noted : N → N → Book → List (List ℕ) → Type 0) (notes : N) → ((book : Book) → noted notes notes book []) → (n n' : ℕ) (book book' : Standing) → n' ≡ n → book'.book ≡ book.book → book.spare ≤ book'.spare → NotesApplied noted n n' book book' notes notes
none_noted noted notes nothing n n' book book' e b s = record {
  applied = [];
  applies = record { book_is = b; reach_is = omega arith; spare = omega arith };
  noted_are = nothing book.book;
}

-- one message was
pub one_noted : {N : Type 0} (noted : N → N → Book → List (List ℕ) → Type 0) (n n' : ℕ) (book book' : Standing) (first last : N) (raw : List ℕ) → n' ≡ n + 1 → book'.book ≡ after book.book raw → book.spare ≤ book'.spare + 1 → noted first last book.book (raw ∷ [])
    → NotesApplied noted n n' book book' first last
one_noted noted n n' book book' first last raw e b s is = record {
  applied = raw ∷ [];
  applies = record { book_is = b; reach_is = e; spare = s };
  noted_are = is;
}

-- some were, and then others
pub notes_then : {N : Type 0} (noted : N → N → Book → List (List ℕ) → Type 0) → ((first middle last : N) (book : Book) (xs ys : List (List ℕ)) → noted first middle book xs → noted middle last (fold after book xs) ys → noted first last book (xs ++ ys))
    → (n m n' : ℕ) (a b c : Standing) (first middle last : N) → NotesApplied noted n m a b first middle → NotesApplied noted m n' b c middle last → NotesApplied noted n n' a c first last
notes_then noted both n m n' a b c first middle last x y = record {
  applied = x.applied ++ y.applied;
  applies = applied_then n m n' a b c x.applied y.applied x.applies y.applies;
  noted_are = noted_both noted both a.book b.book x.applied y.applied first middle last x.applies.book_is x.noted_are y.noted_are;
}

-- what was noted after nothing was, by a book with more room
pub notes_after : {N : Type 0} (noted : N → N → Book → List (List ℕ) → Type 0) → ((first middle last : N) (book : Book) (xs ys : List (List ℕ)) → noted first middle book xs → noted middle last (fold after book xs) ys → noted first last book (xs ++ ys))
    → (n m n' : ℕ) (a b c : Standing) (first middle last : N) → m ≡ n → b.book ≡ a.book → a.spare ≤ b.spare → noted first middle a.book [] → NotesApplied noted m n' b c middle last → NotesApplied noted n n' a c first last
notes_after noted both n m n' a b c first middle last e same room nothing x = record {
  applied = x.applied;
  applies =
      let r = x.applies.reach_is in
      let s = x.applies.spare in
      record {
        book_is = x.applies.book_is ∙ ap (λ (book : Book). fold after book x.applied) same;
        reach_is = omega arith;
        spare = omega arith;
      };
  noted_are = noted_both noted both a.book b.book [] x.applied first middle last same nothing x.noted_are;
}

-- likewise what was noted of the venue's messages
pub venues_after : {N : Type 0} (noted : N → N → Book → List (List ℕ) → Type 0) → ((first middle last : N) (book : Book) (xs ys : List (List ℕ)) → noted first middle book xs → noted middle last (fold after book xs) ys → noted first last book (xs ++ ys))
    → (c c' c'' : UnitClient) (V : List (List ℕ)) (first middle last : N) → reached c' ≡ reached c → current_book c' ≡ current_book c → noted first middle (current_book c) [] → NotesVenues noted c' c'' V middle last → NotesVenues noted c c'' V first last
venues_after noted both c c' c'' V first middle last e same nothing x =
    noted_both noted both (current_book c) (current_book c') [] (drop (reached c) (take (reached c'') V)) first middle last same nothing
    (subst (λ (n : ℕ). noted middle last (current_book c') (drop n (take (reached c'') V))) e x)

-- ---- A client that is still
still_keeps_at : (h h' : HoldView) (book book' : Book) (V : List (List ℕ)) → h' ≡ h → book' ≡ book → KeepsAt h book V → KeepsAt h' book' V
still_keeps_at h h' book book' V e b K = subst (λ (v : HoldView). KeepsAt v book' V) (sym e) (subst (λ (x : Book). KeepsAt h x V) (sym b) K)

module _ (c c' : UnitClient) (still : IsStill c c') where
  pub still_keeps : (V : List (List ℕ)) → Keeps c V → Keeps c' V
  still_keeps V K = still_keeps_at c.hold c'.hold c.book.book c'.book.book V still.hold_is (ap (λ (b : Standing). b.book) still.book_is) K

  pub still_held : (count : ℕ) → reached c' + held_number c' ≤ (reached c + held_number c) + count
  still_held count = let floor = ap (λ (h : HoldView). h.floor) still.hold_is in let held = ap (λ (h : HoldView). len h.held) still.hold_is in omega arith

  pub still_notes : {N : Type 0} (noted : N → N → Book → List (List ℕ) → Type 0) (notes : N) → ((book : Book) → noted notes notes book []) → NotesApplied noted (reached c) (reached c') c.book c'.book notes notes
  still_notes noted notes nothing =
      let same = ap (λ (b : Standing). b.spare) still.book_is in
      none_noted noted notes nothing c.hold.floor c'.hold.floor c.book c'.book (ap (λ (h : HoldView). h.floor) still.hold_is) (ap (λ (b : Standing). b.book) still.book_is) (omega arith)

  pub still_venues : {N : Type 0} (noted : N → N → Book → List (List ℕ) → Type 0) (notes : N) → ((book : Book) → noted notes notes book []) → (V : List (List ℕ)) → NotesVenues noted c c' V notes notes
  still_venues noted notes nothing V = noted_still noted notes nothing V c.hold.floor c'.hold.floor c.book.book (ap (λ (h : HoldView). h.floor) still.hold_is)

  pub still_room : {N : Type 0} (can_note : N → ℕ → Type 0) (notes : N) → ((few many : ℕ) → few ≤ many → can_note notes many → can_note notes few) → (count : ℕ) → KeepsNoteRoom can_note c c' count notes notes
  still_room can_note notes fewer count more room = let held = ap (λ (h : HoldView). len h.held) still.hold_is in fewer (held_number c' + more) ((count + held_number c) + more) (omega arith) room
