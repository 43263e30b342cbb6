-- Books that are compared before the report is gone through.
use Rattle.std.proofs.Common.{◌≡◌, ℕ, ◌+◌, ◌-◌, ◌<◌, List, [], ◌∷◌, ◌++◌, length, drop, refl, sym, ap, ◌∙◌, subst, inr, arith, Option, Some, None, Result, Ok, Err, IfOk, OnOk, length-append, length-drop}
use Rattle.std.specs.Option.{IfSome, MatchOption}
use Rattle.std.specs.List.{All, Contains}
use Rattle.std.proofs.lemmas.List.{drop-drop}
use Rattle.std.proofs.Common.{slice_index_or}
use Rattle.std.specs.List.Sorted.{IsPermutation}
use Rattle.std.proofs.lemmas.List.Elements.{All-contains, All-push, All-same}
use Rattle.std.proofs.lemmas.List.Sorted.{All-permutation}
use Rattle.pitch_model.specs.Book.{book_after}
use Rattle.pitch_model.specs.History.{Raw}
use Rattle.std.proofs.Common.{take}
use Rattle.feed_lines.specs.BookText.{book_text}
use Rattle.run_audit.specs.layers.Backward.{BeginsWith, IsAgreed, IsAsked, JudgesBook, Stands}
use Rattle.run_audit.specs.layers.Finding.{Names, Reads}
use Rattle.run_audit.specs.layers.Lines.{Compares}
use Rattle.run_audit.specs.Report.{IsPart, Printed, book_lines, lines_of}
use Rattle.run_audit.specs.declared.backward.AgreedBook.{AgreedBook}
use Rattle.run_audit.specs.declared.backward.Asked.{Asked}
use Rattle.run_audit.specs.declared.lines.Compared.{Compared}
use Rattle.run_audit.specs.declared.lines.Compared.TheVariants.{Same, Differs}
use Rattle.run_audit.proofs.Cutting.{few_lines}
use Rattle.run_audit.proofs.Judging.{part_begins}
use Rattle.run_audit.specs.layers.Laws.{AreFew}

pub on_ok : {A E : Type 0} (P : Type 0) (r : Result A E) → P → OnOk r P
on_ok P (Ok x) p = p
on_ok P (Err e) p = tt

-- ---- Lines one after another
-- a line less
one_less : {T : Type 0} (f : T → List ℕ) (r : Option T) (old new : List (List ℕ)) → MatchOption r ((old ≡ []) × (new ≡ [])) (λ x. old ≡ f x ∷ new) → new ≡ drop 1 old
one_less f None old new m = m.1 ∙ sym (ap (λ (l : List (List ℕ)). drop 1 l) m.0)
one_less f (Some x) old new m = sym (ap (λ (l : List (List ℕ)). drop 1 l) m)

-- and so another line of the whole
pub next_of : {T : Type 0} (f : T → List ℕ) (r : Option T) (all old new : List (List ℕ)) (k : ℕ) → MatchOption r ((old ≡ []) × (new ≡ [])) (λ x. old ≡ f x ∷ new) → old ≡ drop k all → new ≡ drop (k + 1) all
next_of f r all old new k m e = one_less f r old new m ∙ ap (λ (l : List (List ℕ)). drop 1 l) e ∙ drop-drop 1 k all

behind : (xs ys : List (List ℕ)) → drop (length xs) (xs ++ ys) ≡ ys
behind [] ys = refl
behind (x ∷ xs) ys = behind xs ys

-- where a report was gone through up to a line, its lines from there on are left
left_from : (Vs : ℕ → List Raw) (all lines : List (List ℕ)) (books number : ℕ) → Reads Vs all lines books number → lines ≡ drop (number - 1) all
left_from Vs all lines books number R =
    sym (ap (λ (k : ℕ). drop k all) (plain number (length R.done) R.number_is) ∙ ap (λ (l : List (List ℕ)). drop (length R.done) l) R.all_is ∙ behind R.done lines)
  where
    plain : (number a : ℕ) → number ≡ a + 1 → number - 1 ≡ a
    plain number a e = omega arith

-- ---- Books that stand
-- one of the books that were asked for, whatever their order
pub asked_at : (all : List (List ℕ)) (first sorted walked : List Asked) (i : ℕ) (asked : Asked) → All (IsAsked all) first → IsPermutation first sorted → walked ≡ sorted → i < length walked → asked ≡ slice_index_or walked i asked → IsAsked all asked
asked_at all first sorted walked i asked are moved same lt is =
    let each : All (IsAsked all) walked = All-same (IsAsked all) walked sorted same (All-permutation (IsAsked all) first sorted moved are) in
    subst (IsAsked all) (sym is) (each i asked lt)

pub asked_few : (text : List ℕ) (asked : Asked) → length text < 4294967295 → IsAsked (lines_of text) asked → length asked.lines < 4294967295
asked_few text asked small is =
    let few = few_lines text in
    omega (arith, ap length is, few, small, length-drop (asked.line - 1) (lines_of text))

pub begins : (lines copy wanted left : List (List ℕ)) (bytes text : List ℕ) (count : ℕ) → copy ≡ lines → wanted ≡ lines_of bytes → bytes ≡ text → copy ≡ wanted ++ left → count ≡ length wanted → BeginsWith lines text count
begins lines copy wanted left bytes text count same w b e c =
    let are : wanted ≡ lines_of text = w ∙ ap lines_of b in
    (left, sym same ∙ e ∙ ap (λ (l : List (List ℕ)). l ++ left) are, c ∙ ap length are)

stands_one : (Vs : ℕ → List Raw) (lines : List (List ℕ)) (unit n : ℕ) (text : List ℕ) (found : Option ℕ) → IsPart Vs (Printed unit n) → text ≡ book_text unit n (book_after (take n (Vs unit)))
    → IfSome found (BeginsWith lines text) → IfSome found (Stands Vs lines)
stands_one Vs lines unit n text None part is begins = tt
stands_one Vs lines unit n text (Some count) part is (left, are, counted) = record {
  unit = unit;
  n = n;
  part = part;
  left = left;
  lines_are = are ∙ ap (λ (l : List (List ℕ)). l ++ left) (ap lines_of is);
  count_is = counted ∙ ap length (ap lines_of is);
}

pub stands_there : {E : Type 0} (Vs : ℕ → List Raw) (lines : List (List ℕ)) (unit n : ℕ) (text : List ℕ) (r : Result (Option ℕ) E) → IsPart Vs (Printed unit n) × (text ≡ book_text unit n (book_after (take n (Vs unit))))
    → IfOk r (λ found. IfSome found (BeginsWith lines text)) → IfOk r (λ found. IfSome found (Stands Vs lines))
stands_there Vs lines unit n text (Err e) book b = tt
stands_there Vs lines unit n text (Ok found) book b = stands_one Vs lines unit n text found book.0 book.1 b

-- a book that stands where it was asked for agrees
pub agreed_one : (Vs : ℕ → List Raw) (all : List (List ℕ)) (asked : Asked) (found : Option ℕ) (count : ℕ) → IfSome found (Stands Vs asked.lines) → found ≡ Some count → IsAsked all asked
    → IsAgreed Vs all (record { line = asked.line; count = count })
agreed_one Vs all asked found count stands is from =
    let here : Stands Vs asked.lines count = subst (λ (o : Option ℕ). IfSome o (Stands Vs asked.lines)) is stands in
    subst (λ (l : List (List ℕ)). Stands Vs l count) from here

pub agreed_more : (Vs : ℕ → List Raw) (all : List (List ℕ)) (old new : List AgreedBook) (book : AgreedBook) → All (IsAgreed Vs all) old → new ≡ old ++ book ∷ [] → IsAgreed Vs all book → All (IsAgreed Vs all) new
agreed_more Vs all old new book are e is = All-same (IsAgreed Vs all) new (old ++ book ∷ []) e (All-push (IsAgreed Vs all) old book are is)

-- and it stands first where the report was gone through up to it
pub stands_first : (Vs : ℕ → List Raw) (all lines : List (List ℕ)) (books number : ℕ) (agreed : List AgreedBook) (book : AgreedBook) → Reads Vs all lines books number → All (IsAgreed Vs all) agreed → Contains agreed book → book.line ≡ number
    → Stands Vs lines book.count
stands_first Vs all lines books number agreed book R are has at =
    subst (λ (l : List (List ℕ)). Stands Vs l book.count) (ap (λ (k : ℕ). drop (k - 1) all) at ∙ sym (left_from Vs all lines books number R)) (All-contains (IsAgreed Vs all) agreed book are has)

-- ---- Judging a book
pub judged_before : (Vs : ℕ → List Raw) (line : List ℕ) (lines new : List (List ℕ)) (number count : ℕ) (agreed : List AgreedBook) → ((book : AgreedBook) → Contains agreed book → book.line ≡ number → Stands Vs lines book.count)
    → (book : AgreedBook) × Contains agreed book × (book.line ≡ number) × (book.count ≡ count) → new ≡ drop count lines → JudgesBook Vs line lines new (Same count)
judged_before Vs line lines new number count agreed all (book, has, at, is) e =
    let S : Stands Vs lines count = subst (λ (k : ℕ). Stands Vs lines k) is (all book has at) in
    (S, sym (e ∙ ap (λ (k : ℕ). drop k lines) S.count_is ∙ ap (λ (l : List (List ℕ)). drop (length (book_lines Vs S.unit S.n)) l) S.lines_are ∙ behind (book_lines Vs S.unit S.n) S.left))

pub judged_named : (Vs : ℕ → List Raw) (line : List ℕ) (lines left book : List (List ℕ)) (r : Compared) → Names Vs line book → Compares book lines left r → JudgesBook Vs line lines left r
judged_named Vs line lines left book (Same count) N c = (
  record {
    unit = N.unit;
    n = N.n;
    part = N.part;
    left = left;
    lines_are = c.0 ∙ ap (λ (l : List (List ℕ)). l ++ left) N.lines_are;
    count_is = c.1 ∙ ap length N.lines_are;
  },
  refl,
)
judged_named Vs line lines left book (Differs count) N c = inr (book, N, c)

-- a book that stands has a line at least, and no more than are there
pub stands_some : (Vs : ℕ → List Raw) (few : AreFew Vs) (lines : List (List ℕ)) (count : ℕ) → Stands Vs lines count → 0 < count
stands_some Vs few lines count S =
    let b = part_begins Vs few (Printed S.unit S.n) S.part in
    let c = S.count_is in
    omega (arith, c, ap length b.are)

pub stands_within : (Vs : ℕ → List Raw) (lines left : List (List ℕ)) (count : ℕ) → (S : Stands Vs lines count) → S.left ≡ left → length lines ≡ count + length left
stands_within Vs lines left count S e =
    let c = S.count_is in
    omega (arith, c, ap length e, ap length S.lines_are, length-append (book_lines Vs S.unit S.n) S.left)
