-- Bytes of a page that are given, and what is left.
use Rattle.std.proofs.Common.{◌≡◌, ◌∙◌, ℕ, ◌+◌, ◌*◌, ◌-◌, ◌<◌, ◌≤◌, List, [], ◌++◌, length, take, drop, Bool, true, false, true≢false, ◌==◌, IsTrue, arith, rules, ap, sym, subst, append_assoc, length-append}
use Rattle.std.proofs.lemmas.Bool.{eqb-true}
use Rattle.std.proofs.lemmas.List.{take-append-drop, drop-drop, length-take-le, nil_from_length, take_at, take_rest}
use Rattle.std.proofs.Math.Nat.{mul-le-mul_right}
use Rattle.venue_plan.specs.Text.{PlanState, left_until, made_lines}
use Rattle.venue_plan.proofs.Lines.{lines_until, lines_some}

-- some bytes of the page are given, and the others are left
pub page_given : (page into others : List ℕ) (given count : ℕ) → take count into ≡ take count (drop given page)
    → drop given page ++ others ≡ take count into ++ (drop (given + count) page ++ others)
page_given page into others given count e =
    sym (ap (λ (t : List ℕ). t ++ (drop (given + count) page ++ others)) e
    ∙ ap (λ (t : List ℕ). take count (drop given page) ++ (t ++ others)) (sym (drop-drop count given page))
    ∙ sym (append_assoc (take count (drop given page)) (drop count (drop given page)) others)
    ∙ ap (λ (t : List ℕ). t ++ others) (take-append-drop count (drop given page)))

-- a new page holds the lines that follow, up to an end
pub page_turned : (number : ℕ) (units : List ℕ) (count made at end : ℕ) (page : List ℕ) → page ≡ made_lines number units count made (at - made) → made ≤ at → at ≤ end
    → page ++ made_lines number units count at (end - at) ≡ made_lines number units count made (end - made)
page_turned number units count made at end page e from to =
    ap (λ (t : List ℕ). t ++ made_lines number units count at (end - at)) e ∙ lines_until number units count made at end from to

-- where not all lines were made some follow
pub some_follow : (number : ℕ) (units : List ℕ) (count made end : ℕ) → made < end → made_lines number units count made (end - made) ≡ [] → ⊥
some_follow number units count made end lt none =
    let some = lines_some number units count made (end - made) (omega arith) in
    let z : length (made_lines number units count made (end - made)) ≡ 0 = ap length none in
    omega arith

-- a new page leaves what was left
pub turned_until : (old new : PlanState) (commands commands' : ℕ) → old.left ≡ [] → new.number ≡ old.number → new.units ≡ old.units → new.count ≡ old.count → commands' ≡ commands
    → new.left ≡ made_lines old.number old.units old.count old.made (new.made - old.made) → old.made ≤ new.made → new.made ≤ commands * length old.units
    → left_until commands' new ≡ left_until commands old
turned_until old new commands commands' empty nu un co cm page from to =
    (λ i. new.left ++ made_lines (nu i) (un i) (co i) new.made (cm i * length (un i) - new.made))
    ∙ page_turned old.number old.units old.count old.made new.made (commands * length old.units) new.left page from to
    ∙ sym (ap (λ (t : List ℕ). t ++ made_lines old.number old.units old.count old.made (commands * length old.units - old.made)) empty)

-- what is made within what is due is within all
pub within_all : (made due count n : ℕ) → made ≤ due * n → due ≤ count → made ≤ count * n
within_all made due count n most le = omega (arith, mul-le-mul_right n le)

pub within_same : (made d n due m : ℕ) → made ≤ d * n → d ≡ due → n ≡ m → made ≤ due * m
within_same made d n due m most e f = let P : ℕ → Type 0 = λ k. made ≤ k in subst P (λ i. e i * f i) most

-- ---- the part of a page that is not given yet, as a slice of it
the_rest : (d page : List ℕ) (given : ℕ) → d ≡ page → take (length d - given) (drop given d) ≡ drop given page
the_rest d page given e = take_rest d given ∙ ap (λ (t : List ℕ). drop given t) e

-- some bytes of it are copied
pub given_next : (d page into copied others : List ℕ) (given count : ℕ) → d ≡ page → length copied ≡ length (take count into) → count ≤ length into
    → copied ≡ take count (take (length d - given) (drop given d))
    → drop given page ++ others ≡ take count (copied ++ drop count into) ++ (drop (given + count) page ++ others)
given_next d page into copied others given count e size room copy =
    let long : length copied ≡ count = size ∙ length-take-le count into room in
    page_given page (copied ++ drop count into) others given count
    (take_at copied (drop count into) count long ∙ copy ∙ ap (λ (t : List ℕ). take count t) (the_rest d page given e))

-- it is empty, or not
pub nothing_left : (d page : List ℕ) (given : ℕ) (b : Bool) → d ≡ page → b ≡ (length (take (length d - given) (drop given d)) == 0) → b ≡ true → drop given page ≡ []
nothing_left d page given b e test so =
    let none : length (take (length d - given) (drop given d)) ≡ 0 = eqb-true _ _ (sym test ∙ so) in
    nil_from_length (drop given page) (sym (ap length (the_rest d page given e)) ∙ none)

pub some_left : (d page : List ℕ) (given : ℕ) (b : Bool) → d ≡ page → b ≡ (length (take (length d - given) (drop given d)) == 0) → b ≡ false → drop given page ≡ [] → ⊥
some_left d page given b e test not_so none =
    let zero_long : length (take (length d - given) (drop given d)) ≡ 0 = ap length (the_rest d page given e ∙ none) in
    true≢false (sym (test ∙ ap (λ (n : ℕ). n == 0) zero_long) ∙ not_so)

-- where bytes are left, bytes of the text are, and where all of a page was given and lines are left
pub some_due : (plan : PlanState) (commands : ℕ) → (plan.left ≡ [] → ⊥) → left_until commands plan ≡ [] → ⊥
some_due plan commands some none =
    let e = length-append plan.left (made_lines plan.number plan.units plan.count plan.made (commands * length plan.units - plan.made)) in
    let z : length (left_until commands plan) ≡ 0 = ap length none in
    some (nil_from_length plan.left (omega (arith, e, z)))

pub some_lines_due : (plan : PlanState) (commands : ℕ) → plan.left ≡ [] → plan.made ≤ commands * length plan.units → (plan.made ≡ commands * length plan.units → ⊥) → left_until commands plan ≡ [] → ⊥
some_lines_due plan commands empty within not_all none =
    let rest = made_lines plan.number plan.units plan.count plan.made (commands * length plan.units - plan.made) in
    some_follow plan.number plan.units plan.count plan.made (commands * length plan.units) (less (commands * length plan.units) within not_all)
    (sym (ap (λ (t : List ℕ). t ++ rest) empty) ∙ none)
  where
    less : (end : ℕ) → plan.made ≤ end → (plan.made ≡ end → ⊥) → plan.made < end
    less end le ne = omega arith

-- a test can't be both
pub not_both : (b : Bool) → IsTrue b → b ≡ false → ⊥
not_both b so not_so = search (rules, so, not_so)
