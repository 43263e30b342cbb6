-- A report gets one verdict at most.
use Rattle.std.proofs.Common.{◌≡◌, ℕ, ◌-◌, ◌<◌, ◌≤◌, List, [], ◌∷◌, ◌++◌, take, refl, sym, ap, ◌∙◌, inl, inr, arith}
use Rattle.std.proofs.lemmas.Bool.{cases_lt}
use Rattle.std.proofs.lemmas.List.{append-nil, take-take}
use Rattle.std.specs.List.{flat_map, AllByRecursion, count_by}
use Rattle.pitch_model.specs.History.{Raw}
use Rattle.run_audit.specs.Report.{Part, part_lines, is_book, IsPart, Agrees, with_end, SameThrough, IsFirstWrong, Judges}
use Rattle.run_audit.specs.declared.verdict.Verdict.TheVariants.{Yes, No}
use Rattle.run_audit.proofs.Judging.{parts_behind, part_begins}
use Rattle.run_audit.specs.layers.Laws.{AreFew, VerdictIsOne}

-- no parts have no lines
no_parts : (Vs : ℕ → List Raw) (few : AreFew Vs) (ps : List Part) → AllByRecursion (IsPart Vs) ps → [] ≡ flat_map (part_lines Vs) ps → ps ≡ []
no_parts Vs few [] are e = refl
no_parts Vs few (p ∷ ps) are e =
    let g = part_begins Vs few p are.0 in
    absurd (nothing g.line (g.more ++ flat_map (part_lines Vs) ps) (e ∙ ap (λ (ls : List (List ℕ)). ls ++ flat_map (part_lines Vs) ps) g.are))
  where
    nothing : (l : List ℕ) (x : List (List ℕ)) → [] ≡ (l ∷ x) → ⊥
    nothing l x e = cc

-- a report has so many books
books_are_one : (Vs : ℕ → List Raw) (few : AreFew Vs) (lines : List (List ℕ)) (a b : ℕ) → Agrees Vs lines a → Agrees Vs lines b → a ≡ b
books_are_one Vs few lines a b A B =
    let r = parts_behind Vs few A.parts B.parts [] A.are B.are (append-nil (flat_map (part_lines Vs) A.parts) ∙ sym A.made ∙ B.made) in
    A.count ∙ ap (count_by is_book) (sym (append-nil A.parts)) ∙ ap (λ (ps : List Part). count_by is_book (A.parts ++ ps)) (sym (no_parts Vs few r.0 r.2 r.3)) ∙ ap (count_by is_book) (sym r.1) ∙ sym B.count

-- reports that share more lines share fewer
fewer : (j k : ℕ) (a b : List (List ℕ)) → j ≤ k → SameThrough k a b → SameThrough j a b
fewer j k a b le e = sym (take-take j k (with_end a) le) ∙ ap (take j) e ∙ take-take j k (with_end b) le

not_before : (Vs : ℕ → List Raw) (lines : List (List ℕ)) (j k : ℕ) → IsFirstWrong Vs lines j → IsFirstWrong Vs lines k → j < k → ⊥
not_before Vs lines j k F G lt = F.wrong G.other G.books G.agrees (fewer j (k - 1) G.other lines (omega (arith, lt)) G.before)

pub verdict_is_one : (Vs : ℕ → List Raw) → AreFew Vs → VerdictIsOne Vs
unfolding Judges
verdict_is_one Vs few lines (Yes a) (Yes b) A B = ap Yes (books_are_one Vs few lines a b A B)
verdict_is_one Vs few lines (Yes a) (No k) A F = absurd (F.wrong lines a A refl)
verdict_is_one Vs few lines (No k) (Yes a) F A = absurd (F.wrong lines a A refl)
verdict_is_one Vs few lines (No j) (No k) F G = elim (cases_lt j k) [
  | inl lt ↦ absurd (not_before Vs lines j k F G lt)
  | inr le ↦ elim (cases_lt k j) [
    | inl lt ↦ absurd (not_before Vs lines k j G F lt)
    | inr more ↦ ap No (omega (arith, le, more))
  ]
]
