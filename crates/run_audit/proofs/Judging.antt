-- Reports that agree, part by part.
use Rattle.std.proofs.Common.{◌≡◌, ℕ, suc, ◌+◌, ◌-◌, ◌<◌, ◌^◌, true, List, [], ◌∷◌, ◌++◌, length, take, refl, sym, ap, ◌∙◌, subst, arith, append_assoc, Option, Some, None}
use Rattle.std.specs.Prelude.{codes}
use Rattle.std.specs.List.{flat_map, AllByRecursion, count_by}
use Rattle.std.proofs.lemmas.Bool.{false≢true}
use Rattle.std.proofs.lemmas.List.{append_cancel_left}
use Rattle.std.specs.Prelude.{decimal}
use Rattle.std.specs.FinMap as fin
use Rattle.pitch_model.specs.Book.{Book, book_after}
use Rattle.pitch_model.specs.Statuses.{statuses_of}
use Rattle.feed_lines.specs.BookText.{book_orders, book_text, second_text, order_line, status_line}
use Rattle.pitch_model.specs.History.{Raw}
use Rattle.run_audit.specs.Report.{lines_of, is_of_book, book_lines, Part, Passed, Printed, is_book, part_lines, IsPart, Agrees, with_end, SameThrough, IsFirstWrong}
use Rattle.run_audit.specs.layers.Laws.{AreFew}
use Rattle.run_audit.specs.layers.Lines.{book_front}
use Rattle.run_audit.proofs.Cutting.{Begins, front_stays}
use Rattle.run_audit.proofs.Fronts.{front_names, front_rest, front_is_line}

-- ---- What two reports share
same_first : (x : List ℕ) (rest r : List (List ℕ)) (j : ℕ) → SameThrough (suc j) r (x ∷ rest) → (more : List (List ℕ)) × (r ≡ x ∷ more) × SameThrough j more rest
same_first x rest [] j e = absurd (none_some x (heads_are None (Some x) (take j []) (take j (with_end rest)) e))
  where
    heads_are : (a b : Option (List ℕ)) (us vs : List (Option (List ℕ))) → (a ∷ us) ≡ (b ∷ vs) → a ≡ b
    heads_are a b us vs e = cc

    none_some : (x : List ℕ) → ◌≡◌ {A = Option (List ℕ)} None (Some x) → ⊥
    none_some x e = cc
same_first x rest (y ∷ r) j e = (r, ap (λ (l : List ℕ). l ∷ r) (lines_are y x (take j (with_end r)) (take j (with_end rest)) e), tails_are (Some y) (Some x) (take j (with_end r)) (take j (with_end rest)) e)
  where
    lines_are : (a b : List ℕ) (us vs : List (Option (List ℕ))) → (Some a ∷ us) ≡ (Some b ∷ vs) → a ≡ b
    lines_are a b us vs e = cc

    tails_are : (a b : Option (List ℕ)) (us vs : List (Option (List ℕ))) → (a ∷ us) ≡ (b ∷ vs) → us ≡ vs
    tails_are a b us vs e = cc

pub same_front : (xs rest r : List (List ℕ)) (j : ℕ) → SameThrough (length xs + j) r (xs ++ rest) → (more : List (List ℕ)) × (r ≡ xs ++ more) × SameThrough j more rest
same_front [] rest r j e = (r, refl, subst (λ (i : ℕ). SameThrough i r rest) (none j) e)
  where
    none : (j : ℕ) → 0 + j ≡ j
    none j = omega arith
same_front (x ∷ xs) rest r j e =
    let a = same_first x (xs ++ rest) r (length xs + j) (subst (λ (i : ℕ). SameThrough i r (x ∷ xs ++ rest)) (one (length xs) j) e) in
    let b = same_front xs rest a.0 j a.2 in
    (b.0, a.1 ∙ ap (λ (l : List (List ℕ)). x ∷ l) b.1, b.2)
  where
    one : (a j : ℕ) → suc a + j ≡ suc (a + j)
    one a j = omega arith

pub same_behind : (xs rest more : List (List ℕ)) (j : ℕ) → SameThrough j more rest → SameThrough (length xs + j) (xs ++ more) (xs ++ rest)
same_behind [] rest more j e = subst (λ (i : ℕ). SameThrough i more rest) (none j) e
  where
    none : (j : ℕ) → j ≡ 0 + j
    none j = omega arith
same_behind (x ∷ xs) rest more j e =
    subst (λ (i : ℕ). SameThrough i (x ∷ xs ++ more) (x ∷ xs ++ rest)) (one (length xs) j) (ap (λ (l : List (Option (List ℕ))). Some x ∷ l) (same_behind xs rest more j e))
  where
    one : (a j : ℕ) → suc (a + j) ≡ suc a + j
    one a j = omega arith

-- ---- Parts
-- the text of a book begins with its front
text_front : (unit n : ℕ) (book : Book) → (tail : List ℕ) × (book_text unit n book ≡ book_front unit n ++ tail)
unfolding book_orders book_text
text_front unit n book = (
  _,
  grouped (codes "book unit ") (decimal unit) (codes " at ") (decimal n) (codes " second ") (second_text book.second) (codes " orders ") (decimal (fin.len book.orders)) (10 ∷ [])
      (flat_map (λ e. order_line e.0 e.1) (fin.entries book.orders)) (flat_map status_line (statuses_of book)),
)
  where
    grouped : (a b c d e s o k l x y : List ℕ) → ((((((((((a ++ b) ++ c) ++ d) ++ e) ++ s) ++ o) ++ k) ++ l) ++ x) ++ y) ≡ (a ++ (b ++ (c ++ (d ++ e)))) ++ (s ++ (o ++ (k ++ (l ++ (x ++ y)))))
    grouped a b c d e s o k l x y = simp append_assoc

-- the first line of a book begins with its front
pub book_begins : (Vs : ℕ → List Raw) (unit n : ℕ) → unit < 2 ^ 64 → n < 2 ^ 64 → Begins (book_front unit n) (book_lines Vs unit n)
book_begins Vs unit n small little =
    let t = text_front unit n (book_after (take n (Vs unit))) in
    subst (λ (l : List ℕ). Begins (book_front unit n) (lines_of l)) (sym t.1) (front_stays 98 (front_rest unit n) t.0 refl (front_is_line unit n small little))

of_book : (unit n : ℕ) (x : List ℕ) → is_of_book (book_front unit n ++ x) ≡ true
of_book unit n x = refl

-- parts with the same first line are one
pub one_part : (Vs : ℕ → List Raw) (few : AreFew Vs) (p q : Part) (x y : List (List ℕ)) → IsPart Vs p → IsPart Vs q → part_lines Vs p ++ x ≡ part_lines Vs q ++ y → p ≡ q
one_part Vs few (Passed l) (Passed m) x y a b e = ap Passed (heads l m x y e)
  where
    heads : (l m : List ℕ) (x y : List (List ℕ)) → (l ∷ x) ≡ (m ∷ y) → l ≡ m
    heads l m x y e = cc
one_part Vs few (Passed l) (Printed unit n) x y a b e =
    let le = b.1 in
    let f = few unit in
    let g = book_begins Vs unit n (omega (arith, b.0)) (omega arith) in
    absurd (false≢true (sym a ∙ ap is_of_book (heads l (book_front unit n ++ g.line) x (g.more ++ y) (e ∙ ap (λ (ls : List (List ℕ)). ls ++ y) g.are)) ∙ of_book unit n g.line))
  where
    heads : (l m : List ℕ) (x y : List (List ℕ)) → (l ∷ x) ≡ (m ∷ y) → l ≡ m
    heads l m x y e = cc
one_part Vs few (Printed unit n) (Passed l) x y a b e =
    let le = a.1 in
    let f = few unit in
    let g = book_begins Vs unit n (omega (arith, a.0)) (omega arith) in
    absurd (false≢true (sym b ∙ ap is_of_book (heads l (book_front unit n ++ g.line) y (g.more ++ x) (sym e ∙ ap (λ (ls : List (List ℕ)). ls ++ x) g.are)) ∙ of_book unit n g.line))
  where
    heads : (l m : List ℕ) (x y : List (List ℕ)) → (l ∷ x) ≡ (m ∷ y) → l ≡ m
    heads l m x y e = cc
one_part Vs few (Printed unit n) (Printed other m) x y a b e =
    let la = a.1 in
    let lb = b.1 in
    let fa = few unit in
    let fb = few other in
    let g = book_begins Vs unit n (omega (arith, a.0)) (omega arith) in
    let h = book_begins Vs other m (omega (arith, b.0)) (omega arith) in
    let first = heads (book_front unit n ++ g.line) (book_front other m ++ h.line) (g.more ++ x) (h.more ++ y)
    (sym (ap (λ (ls : List (List ℕ)). ls ++ x) g.are) ∙ e ∙ ap (λ (ls : List (List ℕ)). ls ++ y) h.are) in
    let named = front_names unit n other m g.line h.line (omega (arith, a.0)) (omega arith) (omega (arith, b.0)) (omega arith) first in
    ap (λ (u : ℕ). Printed u n) named.0 ∙ ap (Printed other) named.1
  where
    heads : (l m : List ℕ) (x y : List (List ℕ)) → (l ∷ x) ≡ (m ∷ y) → l ≡ m
    heads l m x y e = cc

-- a part has a first line
pub part_begins : (Vs : ℕ → List Raw) (few : AreFew Vs) (p : Part) → IsPart Vs p → Begins [] (part_lines Vs p)
part_begins Vs few (Passed l) a = record { line = l; more = []; are = refl }
part_begins Vs few (Printed unit n) a =
    let le = a.1 in
    let f = few unit in
    let g = book_begins Vs unit n (omega (arith, a.0)) (omega arith) in
    record { line = book_front unit n ++ g.line; more = g.more; are = g.are }

-- ---- Reports
pub no_part : (Vs : ℕ → List Raw) → Agrees Vs [] 0
no_part Vs = record { parts = []; are = tt; made = refl; count = refl }

-- what follows the parts of one report in another
pub parts_behind : (Vs : ℕ → List Raw) (few : AreFew Vs) (ps qs : List Part) (more : List (List ℕ)) → AllByRecursion (IsPart Vs) ps → AllByRecursion (IsPart Vs) qs → flat_map (part_lines Vs) ps ++ more ≡ flat_map (part_lines Vs) qs
    → (rs : List Part) × (qs ≡ ps ++ rs) × AllByRecursion (IsPart Vs) rs × (more ≡ flat_map (part_lines Vs) rs)
parts_behind Vs few [] qs more a b e = (qs, refl, b, e)
parts_behind Vs few (p ∷ ps) [] more a b e =
    let g = part_begins Vs few p a.0 in
    absurd (nothing g.line (g.more ++ (flat_map (part_lines Vs) ps ++ more)) (sym (append_assoc (part_lines Vs p) (flat_map (part_lines Vs) ps) more ∙ ap (λ (ls : List (List ℕ)). ls ++ (flat_map (part_lines Vs) ps ++ more)) g.are) ∙ e))
  where
    nothing : (l : List ℕ) (x : List (List ℕ)) → (l ∷ x) ≡ [] → ⊥
    nothing l x e = cc
parts_behind Vs few (p ∷ ps) (q ∷ qs) more a b e =
    let joined = sym (append_assoc (part_lines Vs p) (flat_map (part_lines Vs) ps) more) ∙ e in
    let same = one_part Vs few p q (flat_map (part_lines Vs) ps ++ more) (flat_map (part_lines Vs) qs) a.0 b.0 joined in
    let rest = append_cancel_left (part_lines Vs p) (flat_map (part_lines Vs) ps ++ more) (flat_map (part_lines Vs) qs)
    (joined ∙ ap (λ (x : Part). part_lines Vs x ++ flat_map (part_lines Vs) qs) (sym same)) in
    let r = parts_behind Vs few ps qs more a.1 b.1 rest in
    (r.0, ap (λ (xs : List Part). q ∷ xs) r.1 ∙ ap (λ (x : Part). x ∷ ps ++ r.0) (sym same), r.2, r.3)

-- a report begins us one that agrees: what follows agrees too
pub behind_agrees : (Vs : ℕ → List Raw) (few : AreFew Vs) (done more : List (List ℕ)) (books all : ℕ) → Agrees Vs done books → Agrees Vs (done ++ more) all → (left : ℕ) × Agrees Vs more left
behind_agrees Vs few done more books all A B =
    let r = parts_behind Vs few A.parts B.parts more A.are B.are (ap (λ (ls : List (List ℕ)). ls ++ more) (sym A.made) ∙ B.made) in
    (count_by is_book r.0, record { parts = r.0; are = r.2; made = r.3; count = refl })

-- the first wrong line behind lines that agree
pub wrong_behind : (Vs : ℕ → List Raw) (few : AreFew Vs) (done rest : List (List ℕ)) (books k : ℕ) → Agrees Vs done books
    → (begun : List (List ℕ)) (all : ℕ) → Agrees Vs (done ++ begun) all → SameThrough k begun rest
    → ((other : List (List ℕ)) (left : ℕ) → Agrees Vs other left → SameThrough (k + 1) other rest → ⊥)
    → IsFirstWrong Vs (done ++ rest) (length done + k + 1)
wrong_behind Vs few done rest books k A begun all B same none = record {
  other = done ++ begun;
  books = all;
  agrees = B;
  before = subst (λ (j : ℕ). SameThrough j (done ++ begun) (done ++ rest)) (one (length done) k) (same_behind done rest begun k same);
  wrong = λ others count C shared.
      let f = same_front done rest others (k + 1) (subst (λ (j : ℕ). SameThrough j others (done ++ rest)) (two (length done) k) shared) in
      let D = behind_agrees Vs few done f.0 books count A (subst (λ (ls : List (List ℕ)). Agrees Vs ls count) f.1 C) in
      none f.0 D.0 D.1 f.2;
}
  where
    one : (a k : ℕ) → a + k ≡ a + k + 1 - 1
    one a k = omega arith

    two : (a k : ℕ) → a + k + 1 ≡ a + (k + 1)
    two a k = omega arith
