-- The rounds that runs of missing messages need: a request for the first of them, at most 100, takes
-- one off.
use Rattle.std.proofs.Common.{◌≡◌, ◌⊎◌, ℕ, zero, suc, ◌+◌, ◌-◌, ◌*◌, ◌/◌, ◌≤◌, ◌<◌, Bool, true, false, ◌&&◌, cond, [], ◌++◌, refl, sym, ap, ◌∙◌, arith, inl, inr, sum_by, nat_lt, add-one}
use Rattle.std.proofs.lemmas.Bool.{lt-ltb, le-ltb}
use Rattle.std.proofs.lemmas.List.Sums.{sum_by-append, sum_by-cons}
use Rattle.std.proofs.lemmas.Nat.{div-mul-add}
use Rattle.std.proofs.Math.Nat.{add-div_right}
use Rattle.world_laws.specs.Rounds.{ended_run, runs_on, rounds_for}

-- ---- One run
-- at most 100 messages take one round
pub one_round : (run : ℕ) → 1 ≤ run → run ≤ 100 → rounds_for run ≡ 1
one_round run some most =
    let is : run + 99 ≡ 1 * 100 + (run - 1) = omega (arith, some) in
    ap (λ (n : ℕ). n / 100) is ∙ div-mul-add 1 100 (run - 1) (omega (arith, some, most))

-- 100 more take one more
one_more : (run : ℕ) → rounds_for (run + 100) ≡ suc (rounds_for run)
one_more run =
    let is : (run + 100) + 99 ≡ (run + 99) + 100 = omega arith in
    ap (λ (n : ℕ). n / 100) is ∙ add-div_right (run + 99) (omega arith) ∙ add-one ((run + 99) / 100)

ended_sum : (run : ℕ) → sum_by rounds_for (ended_run run) ≡ rounds_for run
ended_sum zero = refl
ended_sum (suc n) = sum_by-cons rounds_for (suc n) [] ∙ alone (rounds_for (suc n))
  where
    alone : (x : ℕ) → x + 0 ≡ x
    alone x = omega arith

-- no message takes none
none_first : (x : ℕ) → rounds_for 0 + x ≡ x
none_first x = ap (λ (n : ℕ). n + x) none ∙ rest
  where
    none : rounds_for 0 ≡ 0
    none = refl

    rest : 0 + x ≡ x
    rest = omega arith

suc_plus : (a x : ℕ) → suc a + x ≡ suc (a + x)
suc_plus a x = omega arith

-- ---- All runs
abbrev pub sum_on : (ℕ → Bool) → ℕ → ℕ → ℕ → ℕ
sum_on missing k run left = sum_by rounds_for (runs_on missing k run left)

-- where tests agree from here on, the rounds do
same_runs : (p q : ℕ → Bool) (k run left : ℕ) → ((j : ℕ) → k < j → p j ≡ q j) → runs_on p k run left ≡ runs_on q k run left
same_runs p q k run zero same = refl
same_runs p q k run (suc left) same =
    let next = same (suc k) (omega arith) in
    let on = same_runs p q (suc k) (suc run) left (λ j above. same j (omega (arith, above))) in
    let off = same_runs p q (suc k) 0 left (λ j above. same j (omega (arith, above))) in
    (λ i. cond (next i) (on i) (ended_run run ++ off i))

module _ (missing : ℕ → Bool) where
  -- one message more, which is missing or not
  lacks : (k run left : ℕ) → missing (suc k) ≡ true → sum_on missing k run (suc left) ≡ sum_on missing (suc k) (suc run) left
  lacks k run left is = ap (λ (b : Bool). sum_by rounds_for (cond b (runs_on missing (suc k) (suc run) left) (ended_run run ++ runs_on missing (suc k) 0 left))) is

  has : (k run left : ℕ) → missing (suc k) ≡ false → sum_on missing k run (suc left) ≡ rounds_for run + sum_on missing (suc k) 0 left
  has k run left is =
      ap (λ (b : Bool). sum_by rounds_for (cond b (runs_on missing (suc k) (suc run) left) (ended_run run ++ runs_on missing (suc k) 0 left))) is
      ∙ sum_by-append rounds_for (ended_run run) (runs_on missing (suc k) 0 left)
      ∙ ap (λ (n : ℕ). n + sum_on missing (suc k) 0 left) (ended_sum run)

  -- messages of which none is missing, up to the j-th
  pub skip : (n k left m j : ℕ) → m ≡ n + left → j ≡ k + n → ((i : ℕ) → k < i → i ≤ j → missing i ≡ false) → sum_on missing k 0 m ≡ sum_on missing j 0 left
  skip zero k left m j parts ends none =
      let e : m ≡ left = omega (arith, parts) in
      let f : k ≡ j = omega (arith, ends) in
      (λ i. sum_on missing (f i) 0 (e i))
  skip (suc n) k left m j parts ends none =
      let e : m ≡ suc (n + left) = omega (arith, parts) in
      ap (sum_on missing k 0) e
      ∙ has k 0 (n + left) (none (suc k) (omega arith) (omega (arith, ends)))
      ∙ none_first (sum_on missing (suc k) 0 (n + left))
      ∙ skip n (suc k) left (n + left) j refl (omega (arith, ends)) (λ i above below. none i (omega (arith, above)) below)

  -- messages of which each is missing, up to the j-th
  pub gather : (n k run left m j all_run : ℕ) → m ≡ n + left → j ≡ k + n → all_run ≡ run + n → ((i : ℕ) → k < i → i ≤ j → missing i ≡ true) → sum_on missing k run m ≡ sum_on missing j all_run left
  gather zero k run left m j all_run parts ends long all =
      let e : m ≡ left = omega (arith, parts) in
      let f : k ≡ j = omega (arith, ends) in
      let g : run ≡ all_run = omega (arith, long) in
      (λ i. sum_on missing (f i) (g i) (e i))
  gather (suc n) k run left m j all_run parts ends long all =
      let e : m ≡ suc (n + left) = omega (arith, parts) in
      ap (sum_on missing k run) e
      ∙ lacks k run (n + left) (all (suc k) (omega arith) (omega (arith, ends)))
      ∙ gather n (suc k) (suc run) left (n + left) j all_run refl (omega (arith, ends)) (omega (arith, long)) (λ i above below. all i (omega (arith, above)) below)

  -- a run with 100 messages more, whose next message is missing or not
  hundred_by : (left k run : ℕ) (b : Bool) → missing (suc k) ≡ b → sum_on missing (suc k) (suc run + 100) left ≡ suc (sum_on missing (suc k) (suc run) left) → sum_on missing k (run + 100) (suc left) ≡ suc (sum_on missing k run (suc left))
  hundred_by left k run true is on =
      let e : suc (run + 100) ≡ suc run + 100 = omega arith in
      lacks k (run + 100) left is ∙ ap (λ (n : ℕ). sum_on missing (suc k) n left) e ∙ on ∙ ap suc (sym (lacks k run left is))
  hundred_by left k run false is on =
      has k (run + 100) left is
      ∙ ap (λ (n : ℕ). n + sum_on missing (suc k) 0 left) (one_more run)
      ∙ suc_plus (rounds_for run) (sum_on missing (suc k) 0 left)
      ∙ ap suc (sym (has k run left is))

  pub hundred : (left k run : ℕ) → sum_on missing k (run + 100) left ≡ suc (sum_on missing k run left)
  hundred zero k run = ended_sum (run + 100) ∙ one_more run ∙ ap suc (sym (ended_sum run))
  hundred (suc left) k run = hundred_by left k run (missing (suc k)) refl (hundred left (suc k) (suc run))

  -- a run of at most 100 that ends here
  pub ends_here : (k run left : ℕ) → 1 ≤ run → run ≤ 100 → (left ≡ 0) ⊎ (missing (suc k) ≡ false) → sum_on missing k run left ≡ suc (sum_on missing k 0 left)
  ends_here k run zero some most is = ended_sum run ∙ one_round run some most
  ends_here k run (suc left) some most (inl none) = absurd (omega (arith, none))
  ends_here k run (suc left) some most (inr is) =
      has k run left is
      ∙ ap (λ (n : ℕ). n + sum_on missing (suc k) 0 left) (one_round run some most)
      ∙ suc_plus 0 (sum_on missing (suc k) 0 left)
      ∙ ap suc (sym (has k 0 left is))

-- ---- One request
module _ (missing : ℕ → Bool) where
  -- what is missing beyond the n-th message
  abbrev pub beyond : ℕ → ℕ → Bool
  beyond n j = nat_lt n j && missing j

  beyond_same : (n j : ℕ) → n < j → missing j ≡ beyond n j
  beyond_same n j above = sym (ap (λ (b : Bool). b && missing j) (lt-ltb n j above))

  beyond_none : (n j : ℕ) → j ≤ n → beyond n j ≡ false
  beyond_none n j below = ap (λ (b : Bool). b && missing j) (le-ltb n j below)

  -- r messages are not missing, the next c are, and either these are 100, or there are no more up to
  -- the top, or the next one is not missing: with these c one round less is needed
  pub one_less : (r c top : ℕ) → ((j : ℕ) → j ≤ r → missing j ≡ false) → ((j : ℕ) → r < j → j ≤ r + c → missing j ≡ true) → 1 ≤ c → c ≤ 100 → r + c ≤ top
      → (c ≡ 100) ⊎ ((r + c ≡ top) ⊎ (missing (suc (r + c)) ≡ false)) → sum_on missing 0 0 top ≡ suc (sum_on (beyond (r + c)) 0 0 top)
  one_less r c top none all some most within ends =
      let n : ℕ = r + c in
      let left : ℕ = top - (r + c) in
      let whole : top ≡ r + (c + left) = omega (arith, within) in
      let parted : r + (c + left) ≡ n + left = omega arith in
      let first : sum_on missing 0 0 top ≡ sum_on missing n c left =
      skip missing r 0 (c + left) top r whole (omega arith) (λ j above below. none j below) ∙ gather missing c r 0 left (c + left) n c refl refl (omega arith) all in
      let rest : sum_on (beyond n) 0 0 top ≡ sum_on missing n 0 left =
      skip (beyond n) n 0 left top n (whole ∙ parted) (omega arith) (λ j above below. beyond_none n j below)
      ∙ ap (sum_by rounds_for) (sym (same_runs missing (beyond n) n 0 left (beyond_same n))) in
      first ∙ last ends ∙ ap suc (sym rest)
    where
      hundred_is : 100 ≡ 0 + 100
      hundred_is = refl

      last : (c ≡ 100) ⊎ ((r + c ≡ top) ⊎ (missing (suc (r + c)) ≡ false)) → sum_on missing (r + c) c (top - (r + c)) ≡ suc (sum_on missing (r + c) 0 (top - (r + c)))
      last (inl is) = ap (λ (m : ℕ). sum_on missing (r + c) m (top - (r + c))) (is ∙ hundred_is) ∙ hundred missing (top - (r + c)) (r + c) 0
      last (inr (inl is)) = ends_here missing (r + c) c (top - (r + c)) some most (inl (omega (arith, is)))
      last (inr (inr is)) = ends_here missing (r + c) c (top - (r + c)) some most (inr is)
