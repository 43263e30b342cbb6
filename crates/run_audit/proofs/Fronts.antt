-- What the first line of a book names.
use Rattle.std.proofs.Common.{◌≡◌, ℕ, zero, suc, ◌<◌, ◌^◌, true, false, not, ◌==◌, List, [], ◌∷◌, ◌++◌, length, eqb, refl, sym, ap, ◌∙◌, arith, append_assoc, leb}
use Rattle.std.specs.Prelude.{codes, decimal}
use Rattle.std.specs.List.{list_all}
use Rattle.std.specs.Char.{is_ascii_digit}
use Rattle.std.proofs.lemmas.Bool.{and_parts, and_from, ne_eqb, leb-true}
use Rattle.std.proofs.lemmas.List.{append_cancel_left}
use Rattle.std.proofs.lemmas.List.Folds.{list_all-append}
use Rattle.std.proofs.lemmas.Fmt.{decimal_injective}
use Rattle.run_audit.specs.layers.Lines.{book_front}
use Rattle.text_lines.proofs.KindLemmas.{in_range, decimal_digits, number_again}
use Rattle.text_lines.specs.Kinds.{number_of}
use Rattle.std.specs.List.{position_or_len}
use Rattle.std.proofs.lemmas.List.{get_or_append_left, get_or_at, take_at, drop_at}
use Rattle.std.proofs.lemmas.List.Sums.{position_or_len_is}
use Rattle.std.proofs.Common.{length-append, get_or, take, drop, Option, Some, None, eq-eqb}
use Rattle.std.proofs.lemmas.Option.{same_Some}
use Rattle.run_audit.proofs.Cutting.{stays}

not_a_space : (d : ℕ) → is_ascii_digit d ≡ true → d ≡ 32 → ⊥
not_a_space d h e = let p = and_parts (leb 48 d) (leb d 57) h in let l = leb-true 48 d p.0 in omega arith

-- digits end at the first space
digits_end : (ds es x y : List ℕ) → list_all is_ascii_digit ds ≡ true → list_all is_ascii_digit es ≡ true → ds ++ 32 ∷ x ≡ es ++ 32 ∷ y → (ds ≡ es) × (x ≡ y)
digits_end [] [] x y h k e = (refl, cc)
digits_end [] (b ∷ es) x y h k e = let p = and_parts (is_ascii_digit b) (list_all is_ascii_digit es) k in absurd (not_a_space b p.0 cc)
digits_end (d ∷ ds) [] x y h k e = let p = and_parts (is_ascii_digit d) (list_all is_ascii_digit ds) h in absurd (not_a_space d p.0 cc)
digits_end (d ∷ ds) (b ∷ es) x y h k e =
    let p = and_parts (is_ascii_digit d) (list_all is_ascii_digit ds) h in
    let q = and_parts (is_ascii_digit b) (list_all is_ascii_digit es) k in
    let r = digits_end ds es x y p.1 q.1 cc in
    let same : d ≡ b = cc in
    (ap (λ (z : ℕ). z ∷ ds) same ∙ ap (λ (zs : List ℕ). b ∷ zs) r.0, r.1)

number_ends : (a b : ℕ) (x y : List ℕ) → a < 2 ^ 64 → b < 2 ^ 64 → decimal a ++ 32 ∷ x ≡ decimal b ++ 32 ∷ y → (a ≡ b) × (x ≡ y)
number_ends a b x y small little e =
    let r = digits_end (decimal a) (decimal b) x y (decimal_digits a small) (decimal_digits b little) e in
    (decimal_injective a b small little r.0, r.1)

-- the words around the two numbers
abbrev pub opening : List ℕ
opening = codes "book unit "

abbrev middle : List ℕ → List ℕ
middle rest = codes " at " ++ rest

-- the front of a book and what follows it, regrouped
regrouped : (unit n : ℕ) (x : List ℕ) → book_front unit n ++ x ≡ opening ++ (decimal unit ++ (codes " at " ++ (decimal n ++ (codes " second " ++ x))))
regrouped unit n x =
    append_assoc opening (decimal unit ++ (codes " at " ++ (decimal n ++ codes " second "))) x
    ∙ ap (λ (l : List ℕ). opening ++ l) (append_assoc (decimal unit) (codes " at " ++ (decimal n ++ codes " second ")) x
    ∙ ap (λ (l : List ℕ). decimal unit ++ l) (append_assoc (codes " at ") (decimal n ++ codes " second ") x
    ∙ ap (λ (l : List ℕ). codes " at " ++ l) (append_assoc (decimal n) (codes " second ") x)))

-- a front names one unit and one number
pub front_names : (unit n other m : ℕ) (x y : List ℕ) → unit < 2 ^ 64 → n < 2 ^ 64 → other < 2 ^ 64 → m < 2 ^ 64 → book_front unit n ++ x ≡ book_front other m ++ y → (unit ≡ other) × (n ≡ m)
front_names unit n other m x y small little fits low e =
    let same = append_cancel_left opening (decimal unit ++ (codes " at " ++ (decimal n ++ (codes " second " ++ x)))) (decimal other ++ (codes " at " ++ (decimal m ++ (codes " second " ++ y))))
    (sym (regrouped unit n x) ∙ e ∙ regrouped other m y) in
    let first = number_ends unit other (codes "at " ++ (decimal n ++ (codes " second " ++ x))) (codes "at " ++ (decimal m ++ (codes " second " ++ y))) small fits same in
    let then = append_cancel_left (codes "at ") (decimal n ++ (codes " second " ++ x)) (decimal m ++ (codes " second " ++ y)) first.1 in
    let second = number_ends n m (codes "second " ++ x) (codes "second " ++ y) little low then in
    (first.0, second.0)

-- no byte of it ends a line
digits_stay : (ds : List ℕ) → list_all is_ascii_digit ds ≡ true → list_all stays ds ≡ true
digits_stay [] h = refl
digits_stay (d ∷ ds) h =
    let p = and_parts (is_ascii_digit d) (list_all is_ascii_digit ds) h in
    and_from (stays d) (list_all stays ds) (ap not (ne_eqb d 10 (λ e. let r = in_range d p.0 in let l = r.0 in omega arith))) (digits_stay ds p.1)

joined_stay : (xs ys : List ℕ) → list_all stays xs ≡ true → list_all stays ys ≡ true → list_all stays (xs ++ ys) ≡ true
joined_stay xs ys h k = list_all-append stays xs ys ∙ and_from (list_all stays xs) (list_all stays ys) h k

-- the front without its first byte
abbrev pub front_rest : ℕ → ℕ → List ℕ
front_rest unit n = codes "ook unit " ++ (decimal unit ++ (codes " at " ++ (decimal n ++ codes " second ")))

pub front_is_line : (unit n : ℕ) → unit < 2 ^ 64 → n < 2 ^ 64 → list_all stays (front_rest unit n) ≡ true
front_is_line unit n small little =
    joined_stay (codes "ook unit ") (decimal unit ++ (codes " at " ++ (decimal n ++ codes " second "))) refl
    (joined_stay (decimal unit) (codes " at " ++ (decimal n ++ codes " second ")) (digits_stay (decimal unit) (decimal_digits unit small))
    (joined_stay (codes " at ") (decimal n ++ codes " second ") refl
    (joined_stay (decimal n) (codes " second ") (digits_stay (decimal n) (decimal_digits n little)) refl)))

-- ---- Reading it
-- a byte of digits is no space
digit_at : (ds : List ℕ) (k : ℕ) → list_all is_ascii_digit ds ≡ true → k < length ds → eqb (get_or ds k 0) 32 ≡ false
digit_at [] k h lt = absurd (omega arith)
digit_at (d ∷ ds) zero h lt = let p = and_parts (is_ascii_digit d) (list_all is_ascii_digit ds) h in ne_eqb d 32 (not_a_space d p.0)
digit_at (d ∷ ds) (suc k) h lt = let p = and_parts (is_ascii_digit d) (list_all is_ascii_digit ds) h in digit_at ds k p.1 (omega arith)

space_place : (ds more : List ℕ) → list_all is_ascii_digit ds ≡ true → position_or_len (λ b. b == 32) (ds ++ 32 ∷ more) ≡ length ds
space_place ds more h =
    position_or_len_is (λ b. b == 32) (ds ++ 32 ∷ more) (length ds) 0 (omega (arith, length-append ds (32 ∷ more)))
    (λ k lt. rw (get_or_append_left ds (32 ∷ more) 0 k lt) (digit_at ds k h lt))
    (λ lt. eq-eqb _ _ (get_or_at ds 32 more 0 (length ds) refl))

-- the number up to the first space, and what follows it
pub number_taken : (bytes digits rest more : List ℕ) (place n : ℕ) → n < 2 ^ 32 → bytes ≡ decimal n ++ 32 ∷ more → place ≡ position_or_len (λ b. b == 32) bytes → digits ≡ take place bytes → rest ≡ drop place bytes
    → (number_of 0 4294967295 digits ≡ Some n) × (rest ≡ 32 ∷ more)
number_taken bytes digits rest more place n small e at front back =
    let here : place ≡ length (decimal n) = at ∙ ap (position_or_len (λ b. b == 32)) e ∙ space_place (decimal n) more (decimal_digits n (omega (arith, small))) in
    let digits_are : digits ≡ decimal n = front ∙ ap (take place) e ∙ take_at (decimal n) (32 ∷ more) place (sym here) in (
      ap (number_of 0 4294967295) digits_are ∙ number_again 0 4294967295 n (omega arith) (omega (arith, small)) (omega (arith, small)),
      back ∙ ap (drop place) e ∙ drop_at (decimal n) (32 ∷ more) place (sym here),
    )

pub taken_is : (bytes digits rest more : List ℕ) (place n value : ℕ) (r : Option ℕ) → r ≡ number_of 0 4294967295 digits → r ≡ Some value → n < 2 ^ 32 → bytes ≡ decimal n ++ 32 ∷ more → place ≡ position_or_len (λ b. b == 32) bytes → digits ≡ take place bytes → rest ≡ drop place bytes
    → (value ≡ n) × (rest ≡ 32 ∷ more)
taken_is bytes digits rest more place n value r is some small e at front back =
    let t = number_taken bytes digits rest more place n small e at front back in
    (same_Some value n (sym some ∙ is ∙ t.0), t.1)

pub none_taken : (bytes digits rest more : List ℕ) (place n : ℕ) (r : Option ℕ) → r ≡ number_of 0 4294967295 digits → r ≡ None → n < 2 ^ 32 → bytes ≡ decimal n ++ 32 ∷ more → place ≡ position_or_len (λ b. b == 32) bytes → digits ≡ take place bytes → rest ≡ drop place bytes → ⊥
none_taken bytes digits rest more place n r is none small e at front back =
    let t = number_taken bytes digits rest more place n small e at front back in
    differ n (sym none ∙ is ∙ t.0)
  where
    differ : (n : ℕ) → ◌≡◌ {A = Option ℕ} None (Some n) → ⊥
    differ n e = cc
