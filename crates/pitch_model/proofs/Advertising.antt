-- The sequences that are advertised.
use Rattle.std.proofs.Common.{◌≡◌, ℕ, suc, ◌+◌, ◌≤◌, Bool, true, false, ◌||◌, cond, eqb, List, [], ◌∷◌, ◌++◌, length, fold, refl, ap, ◌∙◌, subst, arith, length-drop, zero, ◌-◌, Some, sym}
use Rattle.std.specs.List.{AllByRecursion}
use Rattle.std.specs.List.Sorted.{IsStrictlyIncreasing, IsStrictlySortedBy}
use Rattle.std.specs.Ordering.{nat_cmp}
use Rattle.std.specs.Set.{is_member}
use Rattle.std.specs.declared.cmp.Ordering.TheVariants.{Less}
use Rattle.std.proofs.lemmas.Bool.Decides.{nat_tests}
use Rattle.std.proofs.lemmas.List.Sums.{fold-append}
use Rattle.std.proofs.lemmas.List.{append-nil}
use Rattle.std.proofs.lemmas.Map.Keys.{IsStrictlyIncreasing-from_sorted}
use Rattle.std.specs.List.{slice_get}
use Rattle.std.proofs.lemmas.Bool.{eqb-true, eq-eqb, false≢true}
use Rattle.std.proofs.lemmas.Option.{slice_get_past, none-some, same_Some}
use Rattle.std.proofs.Math.Bool.{or-true}
use Rattle.pitch_fields.proofs.Lists.{all_push, all_follows}
use Rattle.pitch_model.specs.Advertising.{Operation, Accept, Advertise, accepted_at, accepted_by, told_by, with_sequence, advertised_by, last_ten, newest_of}
use Rattle.pitch_model.specs.History.{Raw}

-- ---- One operation more
pub accepted_more : (operations : List Operation) (operation : Operation) → accepted_by (operations ++ operation ∷ []) ≡ accepted_by operations ++ accepted_at operation
accepted_more [] operation = append-nil (accepted_at operation)
accepted_more (Accept raw ∷ operations) operation = ap (λ (raws : List Raw). raw ∷ raws) (accepted_more operations operation)
accepted_more (Advertise ∷ operations) operation = accepted_more operations operation

told_more : (n : ℕ) (operations : List Operation) (operation : Operation) → told_by n (operations ++ operation ∷ []) ≡ told_by n operations ++ told_by (n + length (accepted_by operations)) (operation ∷ [])
told_more n [] operation = ap (λ (m : ℕ). told_by m (operation ∷ [])) (omega arith)
told_more n (Accept raw ∷ operations) operation =
    let e : (n + 1) + length (accepted_by operations) ≡ n + suc (length (accepted_by operations)) = omega arith in
    told_more (n + 1) operations operation ∙ ap (λ (m : ℕ). told_by (n + 1) operations ++ told_by m (operation ∷ [])) e
told_more n (Advertise ∷ operations) operation = ap (λ (ns : List ℕ). n ∷ ns) (told_more n operations operation)

pub advertised_accept : (operations : List Operation) (raw : Raw) → advertised_by (operations ++ Accept raw ∷ []) ≡ advertised_by operations
advertised_accept operations raw = ap (λ (ns : List ℕ). fold with_sequence [] ns) (told_more 0 operations (Accept raw) ∙ append-nil (told_by 0 operations))

pub advertised_advertise : (operations : List Operation) → advertised_by (operations ++ Advertise ∷ []) ≡ with_sequence (advertised_by operations) (length (accepted_by operations))
advertised_advertise operations =
    let e : 0 + length (accepted_by operations) ≡ length (accepted_by operations) = omega arith in
    ap (λ (ns : List ℕ). fold with_sequence [] ns) (told_more 0 operations Advertise ∙ ap (λ (n : ℕ). told_by 0 operations ++ n ∷ []) e)
    ∙ fold-append with_sequence [] (told_by 0 operations) (length (accepted_by operations) ∷ [])

-- ---- They rise, and none is above what was accepted
abbrev UpTo : ℕ → List ℕ → Type 0
UpTo n ns = IsStrictlySortedBy nat_cmp ns × AllByRecursion (λ m. m ≤ n) ns

absent_below : (n : ℕ) (ns : List ℕ) → is_member eqb ns n ≡ false → AllByRecursion (λ m. m ≤ n) ns → AllByRecursion (λ m. nat_cmp m n ≡ Less) ns
absent_below n [] absent all = tt
absent_below n (m ∷ ns) absent all = by (eqb n m) refl absent (absent_below n ns)
  where
    by : (b : Bool) → eqb n m ≡ b → (b || is_member eqb ns n) ≡ false → (is_member eqb ns n ≡ false → AllByRecursion (λ m. m ≤ n) ns → AllByRecursion (λ m. nat_cmp m n ≡ Less) ns)
        → AllByRecursion (λ m. nat_cmp m n ≡ Less) (m ∷ ns)
    by true same e rest = absurd (false≢true (sym e))
    by false other e rest = (let low = all.0 in grind (arith, nat_tests, low, other), rest e all.1)

sorted_last : (n : ℕ) (ns : List ℕ) → IsStrictlySortedBy nat_cmp ns → AllByRecursion (λ m. nat_cmp m n ≡ Less) ns → IsStrictlySortedBy nat_cmp (ns ++ n ∷ [])
unfolding IsStrictlySortedBy
sorted_last n [] sorted below = (tt, tt)
sorted_last n (m ∷ ns) sorted below = (all_push (λ y. nat_cmp m y ≡ Less) ns n sorted.0 below.0, sorted_last n ns sorted.1 below.1)

up_to_with : (n : ℕ) (ns : List ℕ) → UpTo n ns → UpTo n (with_sequence ns n)
up_to_with n ns up = by (is_member eqb ns n) refl
  where
    by : (b : Bool) → is_member eqb ns n ≡ b → UpTo n (cond b ns (ns ++ n ∷ []))
    by true there = up
    by false absent = (sorted_last n ns up.0 (absent_below n ns absent up.1), all_push (λ m. m ≤ n) ns n up.1 (omega arith))

up_to : (n : ℕ) (ns : List ℕ) (operations : List Operation) → UpTo n ns → UpTo (n + length (accepted_by operations)) (fold with_sequence ns (told_by n operations))
up_to n ns [] up = let e : n ≡ n + 0 = omega arith in subst (λ (m : ℕ). UpTo m ns) e up
up_to n ns (Accept raw ∷ operations) up =
    let e : (n + 1) + length (accepted_by operations) ≡ n + suc (length (accepted_by operations)) = omega arith in
    subst (λ (m : ℕ). UpTo m (fold with_sequence ns (told_by (n + 1) operations))) e (up_to (n + 1) ns operations (up.0, all_follows (λ m. m ≤ n) (λ m. m ≤ n + 1) (λ m le. omega (arith, le)) ns up.1))
up_to n ns (Advertise ∷ operations) up = up_to n (with_sequence ns n) operations (up_to_with n ns up)

advertised_up_to : (operations : List Operation) → UpTo (length (accepted_by operations)) (advertised_by operations)
unfolding IsStrictlySortedBy
advertised_up_to operations = let e : 0 + length (accepted_by operations) ≡ length (accepted_by operations) = omega arith in subst (λ (m : ℕ). UpTo m (advertised_by operations)) e (up_to 0 [] operations (tt, tt))

pub advertised_rise : (operations : List Operation) → IsStrictlyIncreasing (advertised_by operations)
advertised_rise operations = IsStrictlyIncreasing-from_sorted (advertised_by operations) (advertised_up_to operations).0

pub advertised_within : (operations : List Operation) → AllByRecursion (λ sequence. sequence ≤ length (accepted_by operations)) (advertised_by operations)
advertised_within operations = (advertised_up_to operations).1

pub ten_at_most : (advertised : List ℕ) → length (last_ten advertised) ≤ 10
ten_at_most advertised = omega (arith, length-drop {A = ℕ})

-- ---- A repeat is one of the newest
newest_from : (n : ℕ) (ns : List ℕ) → UpTo n ns → is_member eqb ns n ≡ true → newest_of ns ≡ Some n
unfolding IsStrictlySortedBy
newest_from n [] up there = absurd (false≢true there)
newest_from n (x ∷ []) up there = by (eqb n x) refl there
  where
    by : (b : Bool) → eqb n x ≡ b → (b || false) ≡ true → Some x ≡ Some n
    by true same e = ap (λ (m : ℕ). Some m) (sym (eqb-true n x same))
    by false other e = absurd (false≢true e)
newest_from n (x ∷ y ∷ ys) up there =
    let less = up.0.0.0 in
    let most = up.1.1.0 in
    let other : eqb n x ≡ false = grind (arith, nat_tests, less, most) in
    let rest : is_member eqb (y ∷ ys) n ≡ true = sym (ap (λ (b : Bool). b || is_member eqb (y ∷ ys) n) other) ∙ there in
    let e : length (x ∷ y ∷ ys) - 1 ≡ suc (length (y ∷ ys) - 1) = omega arith in
    ap (slice_get (x ∷ y ∷ ys)) e ∙ newest_from n (y ∷ ys) (up.0.1, up.1.1) rest

pub newest_repeats : (operations : List Operation) → is_member eqb (advertised_by operations) (length (accepted_by operations)) ≡ true → newest_of (advertised_by operations) ≡ Some (length (accepted_by operations))
newest_repeats operations there = newest_from (length (accepted_by operations)) (advertised_by operations) (advertised_up_to operations) there

member_at : (ns : List ℕ) (i n : ℕ) → slice_get ns i ≡ Some n → is_member eqb ns n ≡ true
member_at [] i n at = absurd (none-some n (sym (slice_get_past [] i (omega arith)) ∙ at))
member_at (x ∷ ns) zero n at = ap (λ (b : Bool). b || is_member eqb ns n) (eq-eqb n x (sym (same_Some x n at)))
member_at (x ∷ ns) (suc i) n at = ap (λ (b : Bool). eqb n x || b) (member_at ns i n at) ∙ or-true (eqb n x)

pub newest_is_advertised : (advertised : List ℕ) (n : ℕ) → newest_of advertised ≡ Some n → is_member eqb advertised n ≡ true
newest_is_advertised advertised n at = member_at advertised (length advertised - 1) n at
