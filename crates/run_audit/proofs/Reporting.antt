-- A report, gone through part by part.
use Rattle.std.proofs.Common.{◌≡◌, ℕ, zero, suc, ◌+◌, ◌<◌, ◌^◌, true, false, cond, List, [], ◌∷◌, ◌++◌, length, take, refl, sym, ap, ◌∙◌, subst, arith, append_assoc, Option, Some, None, length-append}
use Rattle.std.specs.List.{flat_map, AllByRecursion, count_by}
use Rattle.std.proofs.lemmas.Bool.{false≢true}
use Rattle.std.proofs.lemmas.List.{append-nil, append_cancel_left}
use Rattle.std.proofs.lemmas.Grind.{flat_map-append}
use Rattle.std.proofs.lemmas.List.Sums.{sum_by-append}
use Rattle.pitch_model.specs.History.{Raw}
use Rattle.run_audit.specs.Report.{is_of_book, book_lines, Part, Passed, Printed, is_book, part_lines, IsPart, Agrees, with_end, SameThrough, IsFirstWrong}
use Rattle.run_audit.specs.layers.Lines.{book_front, Parts}
use Rattle.std.proofs.Common.{Result, Ok, Err, IfOk}
use Rattle.pitch_fields.proofs.Lists.{all_push}
use Rattle.pitch_messages.specs.Room.{Roomy}
use Rattle.run_audit.specs.Report.{lines_of}
use Rattle.run_audit.specs.layers.Backward.{Stands}
use Rattle.run_audit.specs.layers.Finding.{Finds, IsBookAt, Names, Reads}
use Rattle.run_audit.proofs.Judging.{book_begins, no_part, same_front, same_behind, wrong_behind}
use Rattle.run_audit.specs.layers.Laws.{AreFew}

-- ---- One part more
counted_more : (ps : List Part) (p : Part) → count_by is_book (ps ++ p ∷ []) ≡ count_by is_book ps + cond (is_book p) 1 0
counted_more ps p = sum_by-append (λ x. cond (is_book x) 1 0) ps (p ∷ []) ∙ ap (λ (n : ℕ). count_by is_book ps + n) (one (cond (is_book p) 1 0))
  where
    one : (n : ℕ) → 0 + n ≡ n
    one n = omega arith

pub agrees_more : (Vs : ℕ → List Raw) (done : List (List ℕ)) (books : ℕ) (p : Part) → Agrees Vs done books → IsPart Vs p → Agrees Vs (done ++ part_lines Vs p) (books + cond (is_book p) 1 0)
agrees_more Vs done books p A is = record {
  parts = A.parts ++ p ∷ [];
  are = all_push (IsPart Vs) A.parts p A.are is;
  made = ap (λ (ls : List (List ℕ)). ls ++ part_lines Vs p) A.made ∙ ap (λ (ls : List (List ℕ)). flat_map (part_lines Vs) A.parts ++ ls) (sym (append-nil (part_lines Vs p))) ∙ sym (flat_map-append (part_lines Vs) A.parts (p ∷ []));
  count = ap (λ (n : ℕ). n + cond (is_book p) 1 0) A.count ∙ sym (counted_more A.parts p);
}

-- ---- Going on
pub reads_none : (Vs : ℕ → List Raw) (all : List (List ℕ)) → Reads Vs all all 0 1
reads_none Vs all = record { done = []; all_is = refl; agrees = no_part Vs; number_is = refl }

pub reads_passed : (Vs : ℕ → List Raw) (all lines rest : List (List ℕ)) (line : List ℕ) (books number : ℕ) → Reads Vs all lines books number → lines ≡ line ∷ rest → is_of_book line ≡ false → Reads Vs all rest books (number + 1)
reads_passed Vs all lines rest line books number R e h = record {
  done = R.done ++ line ∷ [];
  all_is = R.all_is ∙ ap (λ (ls : List (List ℕ)). R.done ++ ls) e ∙ sym (append_assoc R.done (line ∷ []) rest);
  agrees = subst (Agrees Vs (R.done ++ line ∷ [])) (none books) (agrees_more Vs R.done books (Passed line) R.agrees h);
  number_is = longer R.done line number R.number_is;
}
  where
    none : (books : ℕ) → books + 0 ≡ books
    none books = omega arith

    longer : (done : List (List ℕ)) (line : List ℕ) (number : ℕ) → number ≡ length done + 1 → number + 1 ≡ length (done ++ line ∷ []) + 1
    longer done line number e = omega (arith, length-append done (line ∷ []), e)

pub reads_book : (Vs : ℕ → List Raw) (all lines : List (List ℕ)) (books number count : ℕ) → Reads Vs all lines books number → (S : Stands Vs lines count) → Reads Vs all S.left (books + 1) (number + count)
reads_book Vs all lines books number count R S = record {
  done = R.done ++ book_lines Vs S.unit S.n;
  all_is = R.all_is ∙ ap (λ (ls : List (List ℕ)). R.done ++ ls) S.lines_are ∙ sym (append_assoc R.done (book_lines Vs S.unit S.n) S.left);
  agrees = agrees_more Vs R.done books (Printed S.unit S.n) R.agrees S.part;
  number_is = longer R.done (book_lines Vs S.unit S.n) number count R.number_is S.count_is;
}
  where
    longer : (done book : List (List ℕ)) (number count : ℕ) → number ≡ length done + 1 → count ≡ length book → number + count ≡ length (done ++ book) + 1
    longer done book number count e f = omega (arith, length-append done book, e, f)

pub reads_all : (Vs : ℕ → List Raw) (all lines : List (List ℕ)) (books number : ℕ) → Reads Vs all lines books number → lines ≡ [] → Agrees Vs all books
reads_all Vs all lines books number R e = subst (λ (ls : List (List ℕ)). Agrees Vs ls books) (sym (R.all_is ∙ ap (λ (ls : List (List ℕ)). R.done ++ ls) e ∙ append-nil R.done)) R.agrees

-- ---- A line that is wrong
pub first_is : (l m : List ℕ) (x y : List (List ℕ)) → (l ∷ x) ≡ (m ∷ y) → l ≡ m
first_is l m x y e = cc

-- a report that agrees and begins with a line: that is passed over, or it is the first of a book
pub first_part : (Vs : ℕ → List Raw) (few : AreFew Vs) (r : List (List ℕ)) (count : ℕ) (line : List ℕ) (more : List (List ℕ)) → Agrees Vs r count → r ≡ line ∷ more → is_of_book line ≡ true
    → (unit : ℕ) × (n : ℕ) × (x : List ℕ) × (y : List (List ℕ)) × IsPart Vs (Printed unit n) × (line ≡ book_front unit n ++ x) × (r ≡ book_lines Vs unit n ++ y)
first_part Vs few r count line more A e h = by A.parts A.are A.made
  where
    by : (ps : List Part) → AllByRecursion (IsPart Vs) ps → r ≡ flat_map (part_lines Vs) ps
        → (unit : ℕ) × (n : ℕ) × (x : List ℕ) × (y : List (List ℕ)) × IsPart Vs (Printed unit n) × (line ≡ book_front unit n ++ x) × (r ≡ book_lines Vs unit n ++ y)
    by [] a m = absurd (nothing line more (sym e ∙ m))
      where
        nothing : (l : List ℕ) (x : List (List ℕ)) → (l ∷ x) ≡ [] → ⊥
        nothing l x e = cc
    by (Passed l ∷ ps) a m = absurd (false≢true (sym a.0 ∙ ap is_of_book (first_is l line (flat_map (part_lines Vs) ps) more (sym m ∙ e)) ∙ h))
    by (Printed unit n ∷ ps) a m =
        let p : IsPart Vs (Printed unit n) = a.0 in
        let le = p.1 in
        let f = few unit in
        let g = book_begins Vs unit n (omega (arith, p.0)) (omega arith) in
        (unit, n, g.line, flat_map (part_lines Vs) ps, p, first_is line (book_front unit n ++ g.line) more (g.more ++ flat_map (part_lines Vs) ps) (sym e ∙ m ∙ ap (λ (ls : List (List ℕ)). ls ++ flat_map (part_lines Vs) ps) g.are), m)

-- what shares its first line
shares_first : (other rest : List (List ℕ)) (line : List ℕ) → SameThrough 1 other (line ∷ rest) → (more : List (List ℕ)) × (other ≡ line ∷ more)
shares_first other rest line e = let f = same_front (line ∷ []) rest other 0 e in (f.0, f.1)

-- a line that begins no part
pub wrong_first : (Vs : ℕ → List Raw) (few : AreFew Vs) (all lines rest : List (List ℕ)) (line : List ℕ) (books number : ℕ) → Reads Vs all lines books number → lines ≡ line ∷ rest → is_of_book line ≡ true
    → ((unit n : ℕ) (more : List ℕ) → IsPart Vs (Printed unit n) → line ≡ book_front unit n ++ more → ⊥) → IsFirstWrong Vs all number
wrong_first Vs few all lines rest line books number R e h none =
    subst (λ (ls : List (List ℕ)). IsFirstWrong Vs ls number) (sym R.all_is)
    (subst (IsFirstWrong Vs (R.done ++ lines)) (sym (R.number_is ∙ plain (length R.done)))
    (wrong_behind Vs few R.done lines books 0 R.agrees [] books (subst (λ (ls : List (List ℕ)). Agrees Vs ls books) (sym (append-nil R.done)) R.agrees) refl
    (λ other left A shared.
    let s = shares_first other rest line (subst (SameThrough 1 other) e shared) in
    let f = first_part Vs few other left line s.0 A s.1 h in
    none f.0 f.1 f.2 f.4 f.5)))
  where
    plain : (a : ℕ) → a + 1 ≡ a + 0 + 1
    plain a = omega arith

-- a line inside a book
pub wrong_within : (Vs : ℕ → List Raw) (few : AreFew Vs) (all lines rest book : List (List ℕ)) (line : List ℕ) (books number count : ℕ) → Reads Vs all lines books number → lines ≡ line ∷ rest → is_of_book line ≡ true
    → Names Vs line book → Parts book lines count → IsFirstWrong Vs all (number + count)
wrong_within Vs few all lines rest book line books number count R e h N P =
    let W = P.passes in
    let begun : Agrees Vs (R.done ++ book) (books + 1) = subst (λ (ls : List (List ℕ)). Agrees Vs (R.done ++ ls) (books + 1)) (sym N.lines_are) (agrees_more Vs R.done books (Printed N.unit N.n) R.agrees N.part) in
    subst (λ (ls : List (List ℕ)). IsFirstWrong Vs ls (number + count)) (sym R.all_is)
    (subst (IsFirstWrong Vs (R.done ++ lines)) (sym (ap (λ (n : ℕ). n + count) R.number_is ∙ plain (length R.done) count))
    (wrong_behind Vs few R.done lines books count R.agrees book (books + 1) begun
    (subst (λ (ls : List (List ℕ)). SameThrough count book ls) (sym W.lines_are) (subst (λ (ls : List (List ℕ)). SameThrough count ls (W.same ++ P.left)) (sym W.wanted_is)
    (subst (λ (k : ℕ). SameThrough k (W.same ++ P.line ∷ P.rest) (W.same ++ P.left)) (nothing (length W.same) count W.count_is) (same_behind W.same P.left (P.line ∷ P.rest) 0 refl))))
    (λ other left A shared.
    let s = shares_first other rest line (subst (SameThrough 1 other) e (fewer count other lines shared)) in
    let f = first_part Vs few other left line s.0 A s.1 h in
    let o = N.only f.0 f.1 f.2 f.4 f.5 in
    let whole : other ≡ book ++ f.3 = f.6 ∙ ap (λ (ls : List (List ℕ)). ls ++ f.3) (ap (λ (u : ℕ). book_lines Vs u f.1) o.0 ∙ ap (book_lines Vs N.unit) o.1 ∙ sym N.lines_are) in
    let parted : other ≡ W.same ++ (P.line ∷ P.rest ++ f.3) = whole ∙ ap (λ (ls : List (List ℕ)). ls ++ f.3) W.wanted_is ∙ append_assoc W.same (P.line ∷ P.rest) f.3 in
    let turned : SameThrough (length W.same + 1) (W.same ++ P.left) (W.same ++ (P.line ∷ P.rest ++ f.3)) =
    subst (λ (ls : List (List ℕ)). SameThrough (length W.same + 1) (W.same ++ P.left) ls) parted (subst (λ (k : ℕ). SameThrough k (W.same ++ P.left) other) (one (length W.same) count W.count_is)
    (subst (λ (ls : List (List ℕ)). SameThrough (count + 1) ls other) W.lines_are (sym shared))) in
    let behind = same_front W.same (P.line ∷ P.rest ++ f.3) (W.same ++ P.left) 1 turned in
    let first = shares_first behind.0 (P.rest ++ f.3) P.line behind.2 in
    P.differs first.0 (append_cancel_left W.same P.left behind.0 behind.1 ∙ first.1))))
  where
    plain : (a c : ℕ) → a + 1 + c ≡ a + c + 1
    plain a c = omega arith

    nothing : (a c : ℕ) → c ≡ a → a + 0 ≡ c
    nothing a c e = omega arith

    one : (a c : ℕ) → c ≡ a → c + 1 ≡ a + 1
    one a c e = omega arith

    fewer : (c : ℕ) (other lines : List (List ℕ)) → SameThrough (c + 1) other lines → SameThrough 1 other lines
    fewer c other lines e = sym (take-take-less c (with_end other)) ∙ ap (take 1) e ∙ take-take-less c (with_end lines)
      where
        take-take-less : (c : ℕ) (xs : List (Option (List ℕ))) → take 1 (take (c + 1) xs) ≡ take 1 xs
        take-take-less c [] = ap (take 1) (take-nil (c + 1))
          where
            take-nil : (k : ℕ) → ◌≡◌ {A = List (Option (List ℕ))} (take k []) []
            take-nil zero = refl
            take-nil (suc k) = refl
        take-take-less c (x ∷ xs) = ap (λ (k : ℕ). take 1 (take k (x ∷ xs))) (up c)
          where
            up : (c : ℕ) → c + 1 ≡ suc c
            up c = omega arith

-- ---- What a line names
pub found : {E : Type 0} (Vs : ℕ → List Raw) (few : AreFew Vs) (line : List ℕ) (unit n : ℕ) (named : Option (ℕ × ℕ)) (r : Result (Option (Roomy ℕ)) E)
    → ((u m : ℕ) (more : List ℕ) → u < 256 → m < 2 ^ 32 → line ≡ book_front u m ++ more → named ≡ Some (u, m)) → named ≡ Some (unit, n) → IfOk r (IsBookAt Vs unit n) → IfOk r (Finds Vs line)
found Vs few line unit n named (Err e) all is b = tt
found Vs few line unit n named (Ok None) all is b = λ u m more part e.
    let le = part.1 in
    let f = few u in
    let same = both u m unit n (sym (all u m more part.0 (omega (arith, le, f)) e) ∙ is) in
    let has = ap (λ (w : ℕ). length (Vs w)) same.0 in
    let here = same.1 in
    absurd (omega (arith, b, le, has, here))
  where
    both : (a b c d : ℕ) → ◌≡◌ {A = Option (ℕ × ℕ)} (Some (a, b)) (Some (c, d)) → (a ≡ c) × (b ≡ d)
    both a b c d e = let p : ◌≡◌ {A = ℕ × ℕ} (a, b) (c, d) = cc in (ap (λ (x : ℕ × ℕ). x.0) p, ap (λ (x : ℕ × ℕ). x.1) p)
found Vs few line unit n named (Ok (Some text)) all is b = record {
  unit = unit;
  n = n;
  part = b.0;
  lines_are = ap lines_of b.1;
  only = λ u m more part e.
      let le = part.1 in
      let f = few u in
      both u m unit n (sym (all u m more part.0 (omega (arith, le, f)) e) ∙ is);
}
  where
    both : (a b c d : ℕ) → ◌≡◌ {A = Option (ℕ × ℕ)} (Some (a, b)) (Some (c, d)) → (a ≡ c) × (b ≡ d)
    both a b c d e = let p : ◌≡◌ {A = ℕ × ℕ} (a, b) (c, d) = cc in (ap (λ (x : ℕ × ℕ). x.0) p, ap (λ (x : ℕ × ℕ). x.1) p)
