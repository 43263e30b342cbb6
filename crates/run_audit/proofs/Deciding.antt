-- What a report is found to be, step by step.
use Rattle.std.proofs.Common.{◌≡◌, ℕ, ◌+◌, ◌<◌, ◌≤◌, Bool, true, false, ◌||◌, cond, List, [], ◌∷◌, ◌++◌, length, refl, sym, ap, ◌∙◌, subst, arith, Option, Some, None, length-append}
use Rattle.std.specs.Prelude.{nat_eq, codes}
use Rattle.std.specs.List.{flat_map, starts_with, AllByRecursion, count_by}
use Rattle.pitch_messages.specs.Room.{Roomy}
use Rattle.pitch_model.specs.History.{Raw}
use Rattle.run_audit.specs.Report.{lines_of, is_inner, is_of_book, Part, Passed, Printed, is_book, part_lines, IsPart, IsFirstWrong, Judges}
use Rattle.run_audit.specs.layers.Backward.{JudgesBook, Stands}
use Rattle.run_audit.specs.declared.lines.Compared.{Compared}
use Rattle.run_audit.specs.declared.lines.Compared.TheVariants.{Same, Differs}
use Rattle.std.proofs.Common.{inl, inr}
use Rattle.run_audit.specs.layers.Finding.{Finds, Names, Reads}
use Rattle.run_audit.specs.layers.Lines.{Parts}
use Rattle.run_audit.specs.declared.verdict.Verdict.TheVariants.{Yes, No}
use Rattle.run_audit.proofs.Cutting.{few_lines}
use Rattle.run_audit.proofs.Judging.{part_begins, no_part}
use Rattle.run_audit.specs.layers.Laws.{AreFew}
use Rattle.run_audit.proofs.Reporting.{first_is, reads_all, wrong_first, wrong_within}
use Rattle.run_audit.specs.layers.Lines.{book_front}
use Rattle.std.specs.Option.{MatchOption}
use Rattle.std.proofs.lemmas.List.Sums.{sum_by-append}
use Rattle.std.proofs.lemmas.Bool.{false≢true, or_right, or_from}

-- ---- The verdict
pub says_no : (Vs : ℕ → List Raw) (lines : List (List ℕ)) (k : ℕ) → IsFirstWrong Vs lines k → Judges Vs lines (No k)
unfolding Judges
says_no Vs lines k wrong = wrong

pub says_yes : (Vs : ℕ → List Raw) (all lines : List (List ℕ)) (books number : ℕ) → Reads Vs all lines books number → lines ≡ [] → Judges Vs all (Yes books)
unfolding Judges
says_yes Vs all lines books number R e = reads_all Vs all lines books number R e

-- ---- Where it begins
pub reads_none : (Vs : ℕ → List Raw) (all lines : List (List ℕ)) → lines ≡ all → Reads Vs all lines 0 1
reads_none Vs all lines e = record { done = []; all_is = sym e; agrees = no_part Vs; number_is = refl }

-- ---- Its numbers
-- so many lines are left that their number stays small
pub few_left : (Vs : ℕ → List Raw) (text : List ℕ) (lines : List (List ℕ)) (books number : ℕ) → Reads Vs (lines_of text) lines books number → length text < 4294967295 → number + length lines < 4294967296
few_left Vs text lines books number R small =
    let all = ap length R.all_is in
    let few = few_lines text in
    let n = R.number_is in
    omega (arith, all, few, n, small, length-append R.done lines)

-- each part has a line
counted : (Vs : ℕ → List Raw) (few : AreFew Vs) (ps : List Part) → AllByRecursion (IsPart Vs) ps → count_by is_book ps ≤ length (flat_map (part_lines Vs) ps)
counted Vs few [] are = omega arith
counted Vs few (p ∷ ps) are =
    let b = part_begins Vs few p are.0 in
    let some = ap length b.are in
    let rest = counted Vs few ps are.1 in
    let one = at_most_one p in
    let sum : count_by is_book (p ∷ ps) ≡ (0 + cond (is_book p) 1 0) + count_by is_book ps = sum_by-append (λ x. cond (is_book x) 1 0) (p ∷ []) ps in
    omega (arith, some, rest, one, sum, length-append (part_lines Vs p) (flat_map (part_lines Vs) ps))
  where
    at_most_one : (p : Part) → cond (is_book p) 1 0 ≤ 1
    at_most_one (Passed line) = omega arith
    at_most_one (Printed unit n) = omega arith

pub few_books : (Vs : ℕ → List Raw) (few : AreFew Vs) (text : List ℕ) (lines : List (List ℕ)) (books number : ℕ) → Reads Vs (lines_of text) lines books number → length text < 4294967295 → books + 1 < 4294967296
few_books Vs few text lines books number R small =
    let A = R.agrees in
    let c = counted Vs few A.parts A.are in
    let is = A.count in
    let made = ap length A.made in
    let left = few_left Vs text lines books number R small in
    let n = R.number_is in
    omega (arith, c, is, made, left, n)

-- ---- A book that is named
pub names : (Vs : ℕ → List Raw) (line : List ℕ) (found : Option (Roomy ℕ)) (book : Roomy ℕ) (bytes : List ℕ) (wanted : List (List ℕ)) → Finds Vs line found → found ≡ Some book → bytes ≡ book.items → wanted ≡ lines_of bytes → Names Vs line wanted
names Vs line found book bytes wanted f some b w = subst (Names Vs line) (sym (w ∙ ap lines_of b)) (subst (Finds Vs line) some f)

pub names_none : (Vs : ℕ → List Raw) (line : List ℕ) (found : Option (Roomy ℕ)) → Finds Vs line found → found ≡ None → Finds Vs line None
names_none Vs line found f none = subst (Finds Vs line) none f

-- how many lines were passed
pub passed_few : (wanted lines : List (List ℕ)) (count : ℕ) → Parts wanted lines count → count ≤ length lines
passed_few wanted lines count P =
    let W = P.passes in
    let c = W.count_is in
    let l = ap length W.lines_are in
    omega (arith, c, l, length-append W.same P.left)

-- ---- How a line begins
pub first_of_book : (line : List ℕ) (b : Bool) → b ≡ starts_with nat_eq line (codes "book ") → b ≡ true → is_of_book line ≡ true
first_of_book line b is t = ap (λ (x : Bool). x || is_inner line) (sym is ∙ t)

pub later_of_book : (line : List ℕ) (b : Bool) → b ≡ is_inner line → b ≡ true → is_of_book line ≡ true
later_of_book line b is t = or_right (starts_with nat_eq line (codes "book ")) (is_inner line) (sym is ∙ t)

pub not_of_book : (line : List ℕ) (a b : Bool) → a ≡ starts_with nat_eq line (codes "book ") → a ≡ false → b ≡ is_inner line → b ≡ false → is_of_book line ≡ false
not_of_book line a b ais f bis g = or_from (starts_with nat_eq line (codes "book ")) (is_inner line) (sym ais ∙ f) (sym bis ∙ g)

pub no_front : (line : List ℕ) (b : Bool) → b ≡ is_inner line → b ≡ true → (unit n : ℕ) (more : List ℕ) → line ≡ book_front unit n ++ more → ⊥
no_front line b is t unit n more e = absurd (false≢true (sym (is_none unit n more) ∙ ap is_inner (sym e) ∙ sym is ∙ t))
  where
    is_none : (unit n : ℕ) (more : List ℕ) → is_inner (book_front unit n ++ more) ≡ false
    is_none unit n more = refl

-- ---- A line that is passed over
pub passed_line : {T : Type 0} (f : T → List ℕ) (r : Option T) (lines new rest : List (List ℕ)) (line : List ℕ) → MatchOption r ((lines ≡ []) × (new ≡ [])) (λ x. lines ≡ f x ∷ new) → lines ≡ line ∷ rest → lines ≡ line ∷ new
passed_line f None lines new rest line m e = absurd cc
passed_line f (Some x) lines new rest line m e = m ∙ ap (λ (l : List ℕ). l ∷ new) (first_is (f x) line new rest (sym m ∙ e))

-- ---- A book that was judged
pub judged_same : (Vs : ℕ → List Raw) (line : List ℕ) (lines left : List (List ℕ)) (r : Compared) (count : ℕ) → JudgesBook Vs line lines left r → r ≡ Same count → (S : Stands Vs lines count) × (S.left ≡ left)
judged_same Vs line lines left r count j is = subst (JudgesBook Vs line lines left) is j

pub judged_differs : (Vs : ℕ → List Raw) (line : List ℕ) (lines left : List (List ℕ)) (r : Compared) (count : ℕ) → JudgesBook Vs line lines left r → r ≡ Differs count → JudgesBook Vs line lines left (Differs count)
judged_differs Vs line lines left r count j is = subst (JudgesBook Vs line lines left) is j

-- the line where it differs is the first wrong one
pub wrong_book : (Vs : ℕ → List Raw) (few : AreFew Vs) (all lines rest left : List (List ℕ)) (line : List ℕ) (books number count : ℕ) → Reads Vs all lines books number → lines ≡ line ∷ rest → is_of_book line ≡ true
    → JudgesBook Vs line lines left (Differs count) → IsFirstWrong Vs all (number + count)
wrong_book Vs few all lines rest left line books number count R e h (inl (none, names)) =
    subst (IsFirstWrong Vs all) (same number count none) (wrong_first Vs few all lines rest line books number R e h names)
  where
    same : (number count : ℕ) → count ≡ 0 → number ≡ number + count
    same number count e = omega arith
wrong_book Vs few all lines rest left line books number count R e h (inr (book, N, P)) = wrong_within Vs few all lines rest book line books number count R e h N P

-- and there are as many lines before it
pub differs_few : (Vs : ℕ → List Raw) (line : List ℕ) (lines left : List (List ℕ)) (count : ℕ) → JudgesBook Vs line lines left (Differs count) → count ≤ length lines
differs_few Vs line lines left count (inl (none, names)) = omega (arith, none)
differs_few Vs line lines left count (inr (book, N, P)) = passed_few book lines count P
