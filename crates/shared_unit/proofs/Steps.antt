-- Each step keeps the rule.
use Rattle.std.proofs.Common.{◌≡◌, ℕ, zero, suc, ◌+◌, ◌-◌, ◌<◌, ◌≤◌, ◌==◌, nat_lt, Bool, true, false, List, [], ◌∷◌, ◌++◌, length, set, slice_index, refl, ap, sym, subst, ◌∙◌, arith, inl, length-append, None}
use Rattle.std.proofs.lemmas.Grind.{flat_map-append}
use Rattle.std.proofs.lemmas.List.{append-nil}
use Rattle.std.proofs.lemmas.List.Sums.{sum_by-append}
use Rattle.std.proofs.lemmas.Bool.Decides.{nat_tests}
use mathlib.Core.List.{IsPrefix}
use prog.Atomic.{either}
use Rattle.logbook.specs.Pages.{Cell, cell, keeps, gives, adds, Nib, no_nib, step, Away, Moves, Goes}
use Rattle.pitch_model.specs.Advertising.{Operation}
use Rattle.shared_unit.specs.layers.Histories.{IsLegal, then_done}
use Rattle.shared_unit.specs.layers.Moments.{Moment, Opening, Doing, Publishing, Answering, done_at}
use Rattle.shared_unit.specs.layers.Moments.{history_in, right_at, rights_in, published_at}
use Rattle.shared_unit.specs.layers.Moments.{published_in}
use Rattle.shared_unit.specs.layers.Rules.{KeepsHistory, HasRight, GivesFirst, MakesCell}
use Rattle.shared_unit.specs.layers.Rules.{AddsOperation, SeesWhole, PublishesNext, BeginsAnswer}
use Rattle.shared_unit.proofs.Fronts.{prefix_length, prefix_trans}

-- ---- One moment more
pub history_more : (log more : List Moment) → history_in (log ++ more) ≡ history_in log ++ history_in more
history_more log more = flat_map-append done_at log more

pub rights_more : (log more : List Moment) → rights_in (log ++ more) ≡ rights_in log ++ rights_in more
rights_more log more = flat_map-append right_at log more

published_more : (log more : List Moment) → published_in (log ++ more) ≡ published_in log + published_in more
published_more log more = sum_by-append published_at log more

-- ---- Beginnings
pub history_prefix : (seen log : List Moment) → IsPrefix seen log → IsPrefix (history_in seen) (history_in log)
history_prefix seen log p = (history_in p.0, sym (history_more seen p.0) ∙ ap history_in p.1)

pub published_prefix : (seen log : List Moment) → IsPrefix seen log → published_in seen ≤ published_in log
published_prefix seen log p = omega (arith, published_more seen p.0, ap published_in p.1)

-- where no right was given nothing was done
nothing_done : (log : List Moment) → rights_in log ≡ [] → history_in log ≡ []
nothing_done [] e = refl
nothing_done (Opening r ∷ log) e = absurd (cc e)
nothing_done (Doing o r ∷ log) e = absurd (cc e)
nothing_done (Publishing ∷ log) e = nothing_done log e
nothing_done (Answering s ∷ log) e = nothing_done log e

index_left : (xs ys : List ℕ) (k : ℕ) → k < length xs → slice_index (xs ++ ys) k ≡ slice_index xs k
index_left [] ys k le = absurd (omega arith)
index_left (x ∷ xs) ys zero le = refl
index_left (x ∷ xs) ys (suc k) le = index_left xs ys k (omega arith)

-- ---- Cells
-- a cell that is at home stays so
home_set : (cs : List Cell) (i k n : ℕ) → (cell cs k).1 ≡ true → (cell (set cs i (n, true)) k).1 ≡ true
home_set [] i k n h = absurd (cc h)
home_set (c ∷ cs) zero zero n h = refl
home_set (c ∷ cs) zero (suc k) n h = h
home_set (c ∷ cs) (suc i) zero n h = h
home_set (c ∷ cs) (suc i) (suc k) n h = home_set cs i k n h

home_there : (cs : List Cell) (k n : ℕ) → k < length cs → (cell (set cs k (n, true)) k).1 ≡ true
home_there [] k n le = absurd (omega arith)
home_there (c ∷ cs) zero n le = refl
home_there (c ∷ cs) (suc k) n le = home_there cs k n (omega arith)

home_more : (cs : List Cell) (c : Cell) (k : ℕ) → (cell cs k).1 ≡ true → (cell (cs ++ c ∷ []) k).1 ≡ true
home_more [] c k h = absurd (cc h)
home_more (d ∷ cs) c zero h = h
home_more (d ∷ cs) c (suc k) h = home_more cs c k h

abbrev cells_of : ℕ → ℕ → List Cell → List Cell
cells_of a b more = (a, true) ∷ (b, true) ∷ more

both : (a b c d : ℕ) (more : List Cell) → a ≡ c → b ≡ d → cells_of a b more ≡ cells_of c d more
both a b c d more p q = ap (λ (x : ℕ). cells_of x b more) p ∙ ap (λ (y : ℕ). cells_of c y more) q

-- a cell that is not at home is none of the two words
beyond : (a b n x : ℕ) (more : List Cell) (key : ℕ) → (cell (cells_of a b more) key).1 ≡ false → (rest : List Cell) × (set (cells_of n b more) key (x, true) ≡ cells_of n b rest)
beyond a b n x more zero e = absurd (cc e)
beyond a b n x more (suc zero) e = absurd (cc e)
beyond a b n x more (suc (suc k)) e = (set more k (x, true), refl)

abbrev Taken : List Cell → List Moment → Type 0
Taken cells log = (k : ℕ) → k + 1 < length (rights_in log) → (cell cells (slice_index (rights_in log) k)).1 ≡ true

-- after a write, and moments without a right, the same are at home
taken_set : (cs : List Cell) (i n : ℕ) (log log' : List Moment) → rights_in log' ≡ rights_in log → Taken cs log → Taken (set cs i (n, true)) log'
taken_set cs i n log log' same taken k le =
    subst (λ (rs : List ℕ). (cell (set cs i (n, true)) (slice_index rs k)).1 ≡ true) (sym same) (home_set cs i _ n (taken k (subst (λ (rs : List ℕ). k + 1 < length rs) same le)))

-- ---- Who has the right is alone
pub alone : (fixed : Bool) (plan : List (List ℕ)) (cells : List Cell) (log v : List Moment) (nib : Nib) → KeepsHistory fixed plan cells log → IsPrefix v log → HasRight v nib → Away nib cells
    → (history_in log ≡ history_in v) × (rights_in log ≡ rights_in v)
alone fixed plan cells log v nib kept pre has away = by (rights_in pre.0) refl
  where
    by : (rs : List ℕ) → rights_in pre.0 ≡ rs → (history_in log ≡ history_in v) × (rights_in log ≡ rights_in v)
    by [] e = (
      ap history_in (sym pre.1) ∙ (history_more v pre.0 ∙ (ap (λ (l : List Operation). history_in v ++ l) (nothing_done pre.0 e) ∙ append-nil (history_in v))),
      ap rights_in (sym pre.1) ∙ (rights_more v pre.0 ∙ (ap (λ (l : List ℕ). rights_in v ++ l) e ∙ append-nil (rights_in v))),
    )
    by (r ∷ rs) e =
        let all : rights_in log ≡ rights_in v ++ r ∷ rs = ap rights_in (sym pre.1) ∙ (rights_more v pre.0 ∙ ap (λ (l : List ℕ). rights_in v ++ l) e) in
        let len : length (rights_in log) ≡ length (rights_in v) + length (r ∷ rs) = ap (λ (l : List ℕ). length l) all ∙ length-append (rights_in v) (r ∷ rs) in
        let n = length (rights_in v) - 1 in
        let at : slice_index (rights_in log) n ≡ nib.key = ap (λ (l : List ℕ). slice_index l n) all ∙ (index_left (rights_in v) (r ∷ rs) n (omega (arith, has.some)) ∙ has.last) in
        let home : (cell cells nib.key).1 ≡ true = subst (λ (k : ℕ). (cell cells k).1 ≡ true) at (kept.taken n (omega (arith, has.some, len))) in
        absurd (cc (home, (away has.may).1))

-- ---- Steps
abbrev pub shown : List Moment → List Moment
shown log = []

abbrev pub moved : List Moment → List Moment → ℕ → Type 0
moved xs ys n = Unit {0}

module _ (fixed : Bool) (plan : List (List ℕ)) where
  -- ---- Adding an operation
  taken_done : (cs : List Cell) (n x : ℕ) (log : List Moment) (e : Operation) (r key : ℕ) → key < length cs → 0 < length (rights_in log) → slice_index (rights_in log) (length (rights_in log) - 1) ≡ key → Taken cs log
      → Taken (set (set cs 0 (n, true)) key (x, true)) (log ++ Doing e r ∷ [])
  taken_done cs n x log e r key le some last taken k less = subst (λ (rs : List ℕ). (cell (set (set cs 0 (n, true)) key (x, true)) (slice_index rs k)).1 ≡ true) (sym all)
      (subst (λ (s : ℕ). (cell (set (set cs 0 (n, true)) key (x, true)) s).1 ≡ true) (sym (index_left (rights_in log) (r ∷ []) k within)) (by (nat_lt (k + 1) (length (rights_in log))) refl))
    where
      length_set : (cs : List Cell) (n key : ℕ) → key < length cs → key < length (set cs 0 (n, true))
      length_set [] n key le = le
      length_set (c ∷ cs) n key le = le

      all : rights_in (log ++ Doing e r ∷ []) ≡ rights_in log ++ r ∷ []
      all = rights_more log (Doing e r ∷ [])

      within : k < length (rights_in log)
      within = omega (arith, less, ap (λ (l : List ℕ). length l) all, length-append (rights_in log) (r ∷ []))

      by : (b : Bool) → nat_lt (k + 1) (length (rights_in log)) ≡ b → (cell (set (set cs 0 (n, true)) key (x, true)) (slice_index (rights_in log) k)).1 ≡ true
      by true is =
          let before : k + 1 < length (rights_in log) = grind (arith, nat_tests) in
          home_set (set cs 0 (n, true)) key _ x (home_set cs 0 _ n (taken k before))
      by false is =
          let after : (k + 1 < length (rights_in log)) → ⊥ = grind (arith, nat_tests) in
          let here : k ≡ length (rights_in log) - 1 = omega (arith, within, after) in
          let at : slice_index (rights_in log) k ≡ key = ap (λ (i : ℕ). slice_index (rights_in log) i) here ∙ last in
          subst (λ (s : ℕ). (cell (set (set cs 0 (n, true)) key (x, true)) s).1 ≡ true) (sym at) (home_there (set cs 0 (n, true)) key x (length_set cs n key le))

  adds_goes : (log v : List Moment) (e : Operation) (r old : ℕ) (nib : Nib) (more : List Cell) → length (rights_in v) ≡ old → HasRight v nib → IsLegal fixed plan (then_done (history_in v) e)
      → history_in log ≡ history_in v → rights_in log ≡ rights_in v → published_in log ≤ length (history_in log) → Taken (cells_of (length (rights_in log)) (published_in log) more) log
      → Away nib (cells_of (length (rights_in log)) (published_in log) more)
      → Goes (KeepsHistory fixed plan) shown moved 0 (v, (nib, None)) (λ n. either (n == old) (old + 1) n) (AddsOperation fixed plan (step 0 old (old + 1) (Doing e r)) (v, (nib, None))) (cells_of (length (rights_in log)) (published_in log) more) log
  adds_goes log v e r old nib more len has may same given order taken away =
      let a = length (rights_in log) in
      let b = published_in log in
      let here : a ≡ old = ap (λ (l : List ℕ). length l) given ∙ len in
      let is : (a == old) ≡ true = grind (arith, nat_tests) in
      let grown : history_in (log ++ Doing e r ∷ []) ≡ then_done (history_in v) e = history_more log (Doing e r ∷ []) ∙ ap (λ (h : List Operation). then_done h e) same in
      let rights : rights_in (log ++ Doing e r ∷ []) ≡ rights_in v ++ r ∷ [] = rights_more log (Doing e r ∷ []) ∙ ap (λ (l : List ℕ). l ++ r ∷ []) given in
      let legal' : IsLegal fixed plan (history_in (log ++ Doing e r ∷ [])) = subst (IsLegal fixed plan) (sym grown) may in
      let longer : length (rights_in (log ++ Doing e r ∷ [])) ≡ a + 1 = ap (λ (l : List ℕ). length l) (rights_more log (Doing e r ∷ [])) ∙ length-append (rights_in log) (r ∷ []) in
      let p : published_in (log ++ Doing e r ∷ []) ≡ b = omega (arith, published_more log (Doing e r ∷ [])) in
      let n : ℕ = either (a == old) (old + 1) a in
      let n_is : n ≡ length (rights_in (log ++ Doing e r ∷ [])) = rw is (omega (arith, longer, here)) in
      let rest = beyond a b n nib.value more nib.key (away has.may).1 in
      let last : slice_index (rights_in log) (length (rights_in log) - 1) ≡ nib.key = subst (λ (l : List ℕ). slice_index l (length l - 1) ≡ nib.key) (sym given) has.last in
      let some : 0 < length (rights_in log) = subst (λ (l : List ℕ). 0 < length l) (sym given) has.some in
      let h : length (history_in (log ++ Doing e r ∷ [])) ≡ length (history_in log) + 1 = ap (λ (l : List Operation). length l) (history_more log (Doing e r ∷ [])) ∙ length-append (history_in log) (e ∷ []) in (
        gives,
        Doing e r ∷ [],
        None,
        has.may,
        record {
          more = rest.0;
          words = rest.1 ∙ both _ _ _ _ rest.0 n_is (sym p);
          legal = legal';
          order = omega (arith, order, p, h);
          taken = taken_done (cells_of a b more) n nib.value log e r nib.key (away has.may).0 some last taken;
        },
        inl (refl, refl),
        (grown, rights, legal'),
      )

  -- who has the right adds the operation to the history that was seen, which is the whole one
  pub adds_moves : (v : List Moment) (e : Operation) (r old : ℕ) (nib : Nib) → length (rights_in v) ≡ old → HasRight v nib → IsLegal fixed plan (then_done (history_in v) e)
      → Moves (KeepsHistory fixed plan) shown moved 0 (v, (nib, None)) (λ n. either (n == old) (old + 1) n) (AddsOperation fixed plan (step 0 old (old + 1) (Doing e r)) (v, (nib, None)))
  adds_moves v e r old nib len has may cs log kept pre away =
      let only = alone fixed plan cs log v nib kept pre has away in
      let P : List Cell → Type 0 = λ c. Taken c log → Away nib c → (0 < length c) × ((cell c 0).1 ≡ true) × Goes (KeepsHistory fixed plan) shown moved 0 (v, (nib, None)) (λ n. either (n == old) (old + 1) n) (AddsOperation fixed plan (step 0 old (old + 1) (Doing e r)) (v, (nib, None))) c log in
      subst P (sym kept.words) (λ taken out. (omega arith, refl, adds_goes log v e r old nib kept.more len has may only.0 only.1 kept.order taken out)) kept.taken away

  -- ---- Looking
  looks_goes : (log v : List Moment) (nib : Nib) (more : List Cell) → ((own : List Moment) → IsPrefix own v → HasRight own nib → history_in log ≡ history_in own)
      → IsLegal fixed plan (history_in log) → published_in log ≤ length (history_in log) → Taken (cells_of (length (rights_in log)) (published_in log) more) log → (b : Bool) → (length (rights_in log) == 0) ≡ b
      → Goes (KeepsHistory fixed plan) shown moved 0 (v, (nib, None)) (λ n. either (n == 0) 0 n) (SeesWhole (step 0 0 0 Publishing) (v, (nib, None))) (cells_of (length (rights_in log)) (published_in log) more) log
  looks_goes log v nib more whole legal order taken b is =
      let all : log ++ [] ≡ log = append-nil log in
      let n : either (length (rights_in log) == 0) 0 (length (rights_in log)) ≡ length (rights_in (log ++ [])) = same b is ∙ ap (λ (l : List Moment). length (rights_in l)) (sym all) in
      let p : published_in log ≡ published_in (log ++ []) = ap published_in (sym all) in (
        keeps,
        [],
        None,
        tt,
        record {
          more = more;
          words = both _ _ _ _ more n p;
          legal = subst (λ (l : List Moment). IsLegal fixed plan (history_in l)) (sym all) legal;
          order = subst (λ (l : List Moment). published_in l ≤ length (history_in l)) (sym all) order;
          taken = taken_set (cells_of (length (rights_in log)) (published_in log) more) 0 _ log (log ++ []) (ap rights_in all) taken;
        },
        inl (refl, refl),
        (refl, λ own at has. ap history_in all ∙ whole own at has),
      )
    where
      same : (b : Bool) → (length (rights_in log) == 0) ≡ b → either (length (rights_in log) == 0) 0 (length (rights_in log)) ≡ length (rights_in log)
      same true is = let z : length (rights_in log) ≡ 0 = grind (arith, nat_tests) in rw is (sym z)
      same false is = rw is refl

  pub looks_moves : (v : List Moment) (nib : Nib) → Moves (KeepsHistory fixed plan) shown moved 0 (v, (nib, None)) (λ n. either (n == 0) 0 n) (SeesWhole (step 0 0 0 Publishing) (v, (nib, None)))
  looks_moves v nib cs log kept pre away =
      let whole : (own : List Moment) → IsPrefix own v → HasRight own nib → history_in log ≡ history_in own = λ own at has. (alone fixed plan cs log own nib kept (prefix_trans own v log at pre) has away).0 in
      let P : List Cell → Type 0 = λ c. Taken c log → (0 < length c) × ((cell c 0).1 ≡ true) × Goes (KeepsHistory fixed plan) shown moved 0 (v, (nib, None)) (λ n. either (n == 0) 0 n) (SeesWhole (step 0 0 0 Publishing) (v, (nib, None))) c log in
      subst P (sym kept.words) (λ taken. (omega arith, refl, looks_goes log v nib kept.more whole kept.legal kept.order taken (length (rights_in log) == 0) refl)) kept.taken

  -- ---- The first right
  first_goes : (log v : List Moment) (more : List Cell) → IsLegal fixed plan (history_in log) → published_in log ≤ length (history_in log) → Taken (cells_of (length (rights_in log)) (published_in log) more) log
      → (b : Bool) → (length (rights_in log) == 0) ≡ b
      → Goes (KeepsHistory fixed plan) shown moved 0 (v, (no_nib, None)) (λ n. either (n == 0) 1 n) (GivesFirst (step 0 0 1 Publishing) (v, (no_nib, None))) (cells_of (length (rights_in log)) (published_in log) more) log
  first_goes log v more legal order taken true is =
      let none : length (rights_in log) ≡ 0 = grind (arith, nat_tests) in
      let empty : rights_in log ≡ [] = nothing (rights_in log) none in
      let done : history_in log ≡ [] = nothing_done log empty in
      let k : ℕ = length (cells_of (length (rights_in log)) (published_in log) more) in
      let h : history_in (log ++ Opening k ∷ []) ≡ history_in log = history_more log (Opening k ∷ []) ∙ append-nil (history_in log) in
      let r : rights_in (log ++ Opening k ∷ []) ≡ k ∷ [] = rights_more log (Opening k ∷ []) ∙ ap (λ (l : List ℕ). l ++ k ∷ []) empty in
      let n : either (length (rights_in log) == 0) 1 (length (rights_in log)) ≡ length (rights_in (log ++ Opening k ∷ [])) = rw is (ap (λ (l : List ℕ). length l) (sym r)) in
      let p : published_in (log ++ Opening k ∷ []) ≡ published_in log = omega (arith, published_more log (Opening k ∷ [])) in (
        adds,
        Opening k ∷ [],
        None,
        tt,
        record {
          more = more ++ (0, false) ∷ [];
          words = both _ _ _ _ (more ++ (0, false) ∷ []) n (sym p);
          legal = subst (IsLegal fixed plan) (sym h) legal;
          order = omega (arith, order, p, ap (λ (l : List Operation). length l) h);
          taken = λ j le. absurd (omega (arith, le, ap (λ (l : List ℕ). length l) r));
        },
        inl (refl, refl),
        rw is (h ∙ done, r, refl),
      )
    where
      nothing : (rs : List ℕ) → length rs ≡ 0 → rs ≡ []
      nothing [] e = refl
      nothing (r ∷ rs) e = absurd (omega (arith, e))
  first_goes log v more legal order taken false is =
      let all : log ++ [] ≡ log = append-nil log in
      let n : either (length (rights_in log) == 0) 1 (length (rights_in log)) ≡ length (rights_in (log ++ [])) = rw is (ap (λ (l : List Moment). length (rights_in l)) (sym all)) in
      let p : published_in log ≡ published_in (log ++ []) = ap published_in (sym all) in (
        keeps,
        [],
        None,
        tt,
        record {
          more = more;
          words = both _ _ _ _ more n p;
          legal = subst (λ (l : List Moment). IsLegal fixed plan (history_in l)) (sym all) legal;
          order = subst (λ (l : List Moment). published_in l ≤ length (history_in l)) (sym all) order;
          taken = taken_set (cells_of (length (rights_in log)) (published_in log) more) 0 _ log (log ++ []) (ap rights_in all) taken;
        },
        inl (refl, refl),
        rw is tt,
      )

  pub first_moves : (v : List Moment) → Moves (KeepsHistory fixed plan) shown moved 0 (v, (no_nib, None)) (λ n. either (n == 0) 1 n) (GivesFirst (step 0 0 1 Publishing) (v, (no_nib, None)))
  first_moves v cs log kept pre away =
      let P : List Cell → Type 0 = λ c. Taken c log → (0 < length c) × ((cell c 0).1 ≡ true) × Goes (KeepsHistory fixed plan) shown moved 0 (v, (no_nib, None)) (λ n. either (n == 0) 1 n) (GivesFirst (step 0 0 1 Publishing) (v, (no_nib, None))) c log in
      subst P (sym kept.words) (λ taken. (omega arith, refl, first_goes log v kept.more kept.legal kept.order taken (length (rights_in log) == 0) refl)) kept.taken

  -- ---- A cell more
  cell_goes : (log v : List Moment) (more : List Cell) → IsLegal fixed plan (history_in log) → published_in log ≤ length (history_in log) → Taken (cells_of (length (rights_in log)) (published_in log) more) log
      → Goes (KeepsHistory fixed plan) shown moved 0 (v, (no_nib, None)) (λ n. either (n == 0) 0 n) (MakesCell (step 0 0 0 Publishing) (v, (no_nib, None))) (cells_of (length (rights_in log)) (published_in log) more) log
  cell_goes log v more legal order taken =
      let all : log ++ [] ≡ log = append-nil log in
      let cs = cells_of (length (rights_in log)) (published_in log) more in
      let n : either (length (rights_in log) == 0) 0 (length (rights_in log)) ≡ length (rights_in (log ++ [])) = same (length (rights_in log) == 0) refl ∙ ap (λ (l : List Moment). length (rights_in l)) (sym all) in
      let p : published_in log ≡ published_in (log ++ []) = ap published_in (sym all) in (
        adds,
        [],
        None,
        tt,
        record {
          more = more ++ (0, false) ∷ [];
          words = both _ _ _ _ (more ++ (0, false) ∷ []) n p;
          legal = subst (λ (l : List Moment). IsLegal fixed plan (history_in l)) (sym all) legal;
          order = subst (λ (l : List Moment). published_in l ≤ length (history_in l)) (sym all) order;
          taken = λ k le. home_more (set cs 0 (either (length (rights_in log) == 0) 0 (length (rights_in log)), true)) (0, false) _ (taken_set cs 0 _ log (log ++ []) (ap rights_in all) taken k le);
        },
        inl (refl, refl),
        refl,
      )
    where
      same : (b : Bool) → (length (rights_in log) == 0) ≡ b → either (length (rights_in log) == 0) 0 (length (rights_in log)) ≡ length (rights_in log)
      same true is = let z : length (rights_in log) ≡ 0 = grind (arith, nat_tests) in rw is (sym z)
      same false is = rw is refl

  pub cell_moves : (v : List Moment) → Moves (KeepsHistory fixed plan) shown moved 0 (v, (no_nib, None)) (λ n. either (n == 0) 0 n) (MakesCell (step 0 0 0 Publishing) (v, (no_nib, None)))
  cell_moves v cs log kept pre away =
      let P : List Cell → Type 0 = λ c. Taken c log → (0 < length c) × ((cell c 0).1 ≡ true) × Goes (KeepsHistory fixed plan) shown moved 0 (v, (no_nib, None)) (λ n. either (n == 0) 0 n) (MakesCell (step 0 0 0 Publishing) (v, (no_nib, None))) c log in
      subst P (sym kept.words) (λ taken. (omega arith, refl, cell_goes log v kept.more kept.legal kept.order taken)) kept.taken

  -- ---- Publishing
  publishes_goes : (log v : List Moment) (more : List Cell) (old : ℕ) → old < length (history_in v) → IsLegal fixed plan (history_in log) → published_in log ≤ length (history_in log)
      → Taken (cells_of (length (rights_in log)) (published_in log) more) log → IsPrefix v log → (b : Bool) → (published_in log == old) ≡ b
      → Goes (KeepsHistory fixed plan) shown moved 1 (v, (no_nib, None)) (λ n. either (n == old) (old + 1) n) (PublishesNext (step 1 old (old + 1) Publishing) (v, (no_nib, None))) (cells_of (length (rights_in log)) (published_in log) more) log
  publishes_goes log v more old less legal order taken pre true is =
      let here : published_in log ≡ old = grind (arith, nat_tests) in
      let longer : length (history_in v) ≤ length (history_in log) = prefix_length (history_in v) (history_in log) (history_prefix v log pre) in
      let same : history_in (log ++ Publishing ∷ []) ≡ history_in log = history_more log (Publishing ∷ []) ∙ append-nil (history_in log) in
      let rights : rights_in (log ++ Publishing ∷ []) ≡ rights_in log = rights_more log (Publishing ∷ []) ∙ append-nil (rights_in log) in
      let p : published_in (log ++ Publishing ∷ []) ≡ published_in log + 1 = published_more log (Publishing ∷ []) in
      let n : either (published_in log == old) (old + 1) (published_in log) ≡ published_in (log ++ Publishing ∷ []) = rw is (omega (arith, p, here)) in (
        keeps,
        Publishing ∷ [],
        None,
        tt,
        record {
          more = more;
          words = both _ _ _ _ more (ap (λ (l : List ℕ). length l) (sym rights)) n;
          legal = subst (IsLegal fixed plan) (sym same) legal;
          order = omega (arith, ap (λ (l : List Operation). length l) same, p, here, less, longer);
          taken = taken_set (cells_of (length (rights_in log)) (published_in log) more) 1 _ log (log ++ Publishing ∷ []) rights taken;
        },
        inl (refl, refl),
        λ le. omega (arith, p, here),
      )
  publishes_goes log v more old less legal order taken pre false is =
      let all : log ++ [] ≡ log = append-nil log in
      let n : either (published_in log == old) (old + 1) (published_in log) ≡ published_in (log ++ []) = rw is (ap published_in (sym all)) in
      let m : length (rights_in log) ≡ length (rights_in (log ++ [])) = ap (λ (l : List Moment). length (rights_in l)) (sym all) in
      let other : published_in log ≡ old → ⊥ = grind (arith, nat_tests) in
      let less' : published_in v ≤ published_in log = published_prefix v log pre in (
        keeps,
        [],
        None,
        tt,
        record {
          more = more;
          words = both _ _ _ _ more m n;
          legal = subst (λ (l : List Moment). IsLegal fixed plan (history_in l)) (sym all) legal;
          order = subst (λ (l : List Moment). published_in l ≤ length (history_in l)) (sym all) order;
          taken = taken_set (cells_of (length (rights_in log)) (published_in log) more) 1 _ log (log ++ []) (ap rights_in all) taken;
        },
        inl (refl, refl),
        λ le. subst (λ (l : List Moment). old + 1 ≤ published_in l) (sym all) (omega (arith, le, less', other)),
      )

  pub publishes_moves : (v : List Moment) (old : ℕ) → old < length (history_in v)
      → Moves (KeepsHistory fixed plan) shown moved 1 (v, (no_nib, None)) (λ n. either (n == old) (old + 1) n) (PublishesNext (step 1 old (old + 1) Publishing) (v, (no_nib, None)))
  publishes_moves v old less cs log kept pre away =
      let P : List Cell → Type 0 = λ c. Taken c log → (1 < length c) × ((cell c 1).1 ≡ true) × Goes (KeepsHistory fixed plan) shown moved 1 (v, (no_nib, None)) (λ n. either (n == old) (old + 1) n) (PublishesNext (step 1 old (old + 1) Publishing) (v, (no_nib, None))) c log in
      subst P (sym kept.words) (λ taken. (omega arith, refl, publishes_goes log v kept.more old less kept.legal kept.order taken pre (published_in log == old) refl)) kept.taken

  -- ---- Beginning an answer
  begins_goes : (log v : List Moment) (more : List Cell) (server : ℕ) → IsLegal fixed plan (history_in log) → published_in log ≤ length (history_in log) → Taken (cells_of (length (rights_in log)) (published_in log) more) log → IsPrefix v log
      → Goes (KeepsHistory fixed plan) shown moved 1 (v, (no_nib, None)) (λ n. n) (BeginsAnswer (step 1 0 0 (Answering server)) (v, (no_nib, None))) (cells_of (length (rights_in log)) (published_in log) more) log
  begins_goes log v more server legal order taken pre =
      let same : history_in (log ++ Answering server ∷ []) ≡ history_in log = history_more log (Answering server ∷ []) ∙ append-nil (history_in log) in
      let rights : rights_in (log ++ Answering server ∷ []) ≡ rights_in log = rights_more log (Answering server ∷ []) ∙ append-nil (rights_in log) in
      let p : published_in (log ++ Answering server ∷ []) ≡ published_in log = omega (arith, published_more log (Answering server ∷ [])) in (
        keeps,
        Answering server ∷ [],
        None,
        tt,
        record {
          more = more;
          words = both _ _ _ _ more (ap (λ (l : List ℕ). length l) (sym rights)) (sym p);
          legal = subst (IsLegal fixed plan) (sym same) legal;
          order = omega (arith, ap (λ (l : List Operation). length l) same, p, order);
          taken = taken_set (cells_of (length (rights_in log)) (published_in log) more) 1 _ log (log ++ Answering server ∷ []) rights taken;
        },
        inl (refl, refl),
        record { between = pre.0; now_is = ap (λ (l : List Moment). l ++ Answering server ∷ []) (sym pre.1); published_is = ap published_in (sym pre.1) },
      )

  pub begins_moves : (v : List Moment) (server : ℕ)
      → Moves (KeepsHistory fixed plan) shown moved 1 (v, (no_nib, None)) (λ n. n) (BeginsAnswer (step 1 0 0 (Answering server)) (v, (no_nib, None)))
  begins_moves v server cs log kept pre away =
      let P : List Cell → Type 0 = λ c. Taken c log → (1 < length c) × ((cell c 1).1 ≡ true) × Goes (KeepsHistory fixed plan) shown moved 1 (v, (no_nib, None)) (λ n. n) (BeginsAnswer (step 1 0 0 (Answering server)) (v, (no_nib, None))) c log in
      subst P (sym kept.words) (λ taken. (omega arith, refl, begins_goes log v kept.more server kept.legal kept.order taken pre)) kept.taken
