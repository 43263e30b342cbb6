-- What is printed of a field reads as that field.
use Rattle.std.proofs.Common.{◌≡◌, ℕ, ◌+◌, ◌*◌, ◌-◌, ◌/◌, ◌%◌, ◌^◌, ◌<◌, ◌≤◌, Bool, true, false, if◌then◌else◌, eqb, ltb, leb, List, [], ◌∷◌, ◌++◌, length, drop, Some, None, refl, sym, ap, ◌∙◌, arith, length-append, append_assoc, take, get_or, ◌&&◌}
use Rattle.std.proofs.Math.Nat.{pow-le-pow_right}
use Rattle.std.proofs.lemmas.List.Folds.{list_all_more, list_all-append}
use Rattle.std.proofs.lemmas.Int.Digits.{digits_value_more}
use Rattle.std.specs.Str.Parse.{digits_value}
use Rattle.std.specs.Prelude.{decimal, nat_eq}
use Rattle.std.specs.Cmp.Lexicographic.{pointwise}
use Rattle.std.specs.List.{list_all, position_or_len, before_first, after_first}
use Rattle.std.proofs.lemmas.List.{get_or_append_left, get_or_at, take_at, drop_at, take_all, take-append-drop}
use Rattle.std.specs.Char.{is_ascii_digit}
use Rattle.std.specs.Int.{IsInRange}
use Rattle.std.specs.Char.{digit_value}
use Rattle.std.proofs.lemmas.Bool.{ne_eqb, eq-eqb, le-leb, lt-ltb, le-ltb, leb-true, and_parts, and_from, false≢true}
use Rattle.std.proofs.lemmas.Str.Parse.{IsDigitsTest, numerals_by_value, not_in_digits}
use Rattle.std.proofs.lemmas.List.Sums.{position_or_len_is}
use Rattle.pitch_fields.specs.Price.{price_digits}
use Rattle.std.proofs.lemmas.Fmt.{digits_decimal, digits_value-decimal, decimal_nonempty, length-decimal-le}
use Rattle.text_lines.specs.Kinds.{number_of, digits_of, fraction_of, price_in, is_point}

abbrev AreDigits : List ℕ → Type 0
AreDigits ds = list_all is_ascii_digit ds ≡ true

pub in_range : (c : ℕ) → is_ascii_digit c ≡ true → IsInRange 48 57 c
in_range c h = let p = and_parts (leb 48 c) (leb c 57) h in (leb-true 48 c p.0, leb-true c 57 p.1)

from_range : (c : ℕ) → IsInRange 48 57 c → is_ascii_digit c ≡ true
from_range c r = and_from (leb 48 c) (leb c 57) (le-leb 48 c r.0) (le-leb c 57 r.1)

tells : IsDigitsTest AreDigits
tells = record {
  empty = refl;
  parts = λ c cs h. let p = and_parts (is_ascii_digit c) (list_all is_ascii_digit cs) h in (in_range c p.0, p.1);
  more = λ c cs r h. and_from (is_ascii_digit c) (list_all is_ascii_digit cs) (from_range c r) h;
}

-- ---- reading digits

-- a number of up to 18 digits has room for one more in 64 bits
pub room_for_digit : (n i : ℕ) → n < 10 ^ i → i < 19 → n * 10 + 9 < 2 ^ 64
room_for_digit n i small lt =
    let least : 10 ^ i ≤ 10 ^ 18 = pow-le-pow_right {n = 10} (omega arith) {i = i} {j = 18} (omega arith) in
    omega (arith, small, least)

tests_twenty : (bytes : List ℕ) (d : ℕ) → 19 < length bytes → d ≡ get_or bytes 19 0 → length bytes ≤ 20 → list_all is_ascii_digit bytes ≡ (list_all is_ascii_digit (take 19 bytes) && is_ascii_digit d)
tests_twenty bytes d has at most =
    ap (list_all is_ascii_digit) (sym (take_all 20 bytes most))
    ∙ list_all_more is_ascii_digit bytes 19 0 has
    ∙ ap (λ (x : ℕ). list_all is_ascii_digit (take 19 bytes) && is_ascii_digit x) (sym at)

value_twenty : (bytes : List ℕ) (d : ℕ) → 19 < length bytes → d ≡ get_or bytes 19 0 → length bytes ≤ 20 → digits_value 10 bytes ≡ digits_value 10 (take 19 bytes) * 10 + digit_value d
value_twenty bytes d has at most =
    ap (digits_value 10) (sym (take_all 20 bytes most))
    ∙ digits_value_more 10 bytes 19 has
    ∙ ap (λ (x : ℕ). digits_value 10 (take 19 bytes) * 10 + digit_value x) (sym at)

some_if : (b : Bool) (v value : ℕ) → Some value ≡ (if b then Some v else None) → (b ≡ true) × (v ≡ value)
some_if true v value h = (refl, cc)
some_if false v value h = absurd cc

none_if : (b : Bool) (v : ℕ) → None ≡ (if b then Some v else None) → b ≡ false
none_if true v h = absurd cc
none_if false v h = refl

-- digits of which the first 19 are a number, and one byte follows
pub twenty_digits : (most : ℕ) (bytes : List ℕ) (d value : ℕ) → 19 < length bytes → d ≡ get_or bytes 19 0 → most ≤ 20 → length bytes ≤ most
    → Some value ≡ (if list_all is_ascii_digit (take 19 bytes) then Some (digits_value 10 (take 19 bytes)) else None)
    → (if is_ascii_digit d then Some (value * 10 + digit_value d) else None) ≡ digits_of most bytes
twenty_digits most bytes d value has at small short prefix =
    let number = some_if (list_all is_ascii_digit (take 19 bytes)) (digits_value 10 (take 19 bytes)) value prefix in
    let filled : ltb 0 (length bytes) ≡ true = lt-ltb _ _ (omega arith) in
    let fits : leb (length bytes) most ≡ true = le-leb _ _ short in
    rw (filled, fits, tests_twenty bytes d has at (omega arith), number.0, value_twenty bytes d has at (omega arith), number.1) refl

-- digits are no number where some of the first ones are none
pub no_digits : (most : ℕ) (bytes : List ℕ) (k : ℕ) → 0 < length bytes → length bytes ≤ most
    → None ≡ (if list_all is_ascii_digit (take k bytes) then Some (digits_value 10 (take k bytes)) else None) → None ≡ digits_of most bytes
no_digits most bytes k some short prefix =
    let filled : ltb 0 (length bytes) ≡ true = lt-ltb _ _ some in
    let fits : leb (length bytes) most ≡ true = le-leb _ _ short in
    let split : list_all is_ascii_digit bytes ≡ (list_all is_ascii_digit (take k bytes) && list_all is_ascii_digit (drop k bytes))
    = ap (list_all is_ascii_digit) (sym (take-append-drop k bytes)) ∙ list_all-append is_ascii_digit (take k bytes) (drop k bytes) in
    rw (filled, fits, split, none_if (list_all is_ascii_digit (take k bytes)) (digits_value 10 (take k bytes)) prefix) refl

digits_again : (most n : ℕ) → n < 2 ^ 64 → length (decimal n) ≤ most → digits_of most (decimal n) ≡ Some n
digits_again most n small short =
    let own = numerals_by_value AreDigits tells in
    let filled : ltb 0 (length (decimal n)) ≡ true = lt-ltb _ _ (decimal_nonempty n small) in
    let fits : leb (length (decimal n)) most ≡ true = le-leb _ _ short in
    rw (filled, fits, digits_decimal own n small, digits_value-decimal own n small) refl

pub number_again : (low high n : ℕ) → low ≤ n → n ≤ high → n < 2 ^ 64 → number_of low high (decimal n) ≡ Some n
number_again low high n l h small =
    let from : leb low n ≡ true = le-leb _ _ l in
    let to : leb n high ≡ true = le-leb _ _ h in
    rw (digits_again 20 n small (length-decimal-le 20 n (omega arith) (omega arith) small), from, to) refl

-- ---- prices

digit_is : (d : ℕ) → d < 10 → digit_value (48 + d) ≡ d
digit_is d lt =
    let a : ltb (48 + d) 48 ≡ false = le-ltb _ _ (omega arith) in
    let b : ltb (48 + d) 58 ≡ true = lt-ltb _ _ (omega arith) in
    rw (a, b) (omega arith)

digit_tests : (d : ℕ) → d < 10 → is_ascii_digit (48 + d) ≡ true
digit_tests d lt = from_range (48 + d) (omega arith, omega arith)

four_digits : (a b c d : ℕ) → a < 10 → b < 10 → c < 10 → d < 10 → fraction_of ((48 + a) ∷ (48 + b) ∷ (48 + c) ∷ (48 + d) ∷ []) ≡ Some (((a * 10 + b) * 10 + c) * 10 + d)
four_digits a b c d ha hb hc hd =
    let same : ((((0 + a) * 10 + b) * 10 + c) * 10 + d) * 1 ≡ ((a * 10 + b) * 10 + c) * 10 + d = omega arith in
    rw (digit_tests a ha, digit_tests b hb, digit_tests c hc, digit_tests d hd, digit_is a ha, digit_is b hb, digit_is c hc, digit_is d hd) (ap (λ (n : ℕ). Some n) same)

point_place : (n : ℕ) (f : List ℕ) → n < 2 ^ 64 → position_or_len is_point (decimal n ++ 46 ∷ f) ≡ length (decimal n)
point_place n f small =
    let own = numerals_by_value AreDigits tells in
    position_or_len_is is_point (decimal n ++ 46 ∷ f) (length (decimal n)) 0 (omega (arith, length-append (decimal n) (46 ∷ f)))
    (λ k lt. rw (get_or_append_left (decimal n) (46 ∷ f) 0 k lt) (ne_eqb _ _ (not_in_digits own (decimal n) 46 (digits_decimal own n small) (λ r. absurd (omega (arith, r.0, r.1))) k lt)))
    (λ lt. eq-eqb _ _ (get_or_at (decimal n) 46 f 0 (length (decimal n)) refl))

price_of_parts : (whole f : List ℕ) (q m : ℕ) → position_or_len is_point (whole ++ 46 ∷ f) ≡ length whole → digits_of 16 whole ≡ Some q → fraction_of f ≡ Some m → q * 10000 + m < 2 ^ 64 → price_in (whole ++ 46 ∷ f) ≡ Some (q * 10000 + m)
price_of_parts whole f q m place w r small =
    let prefix : before_first is_point (whole ++ 46 ∷ f) ≡ whole = rw place (take_at whole (46 ∷ f) (length whole) refl) in
    let suffix : after_first is_point (whole ++ 46 ∷ f) ≡ f = rw place (ap (drop (length whole + 1)) (sym (append_assoc whole (46 ∷ []) f)) ∙ drop_at (whole ++ 46 ∷ []) f (length whole + 1) (length-append whole (46 ∷ []))) in
    let has : ltb (position_or_len is_point (whole ++ 46 ∷ f)) (length (whole ++ 46 ∷ f)) ≡ true = rw place (lt-ltb _ _ (omega (arith, length-append whole (46 ∷ f)))) in
    let fits : leb (q * 10000 + m) (2 ^ 64 - 1) ≡ true = le-leb _ _ (omega arith) in
    let low : leb 0 (q * 10000 + m) ≡ true = le-leb _ _ (omega arith) in
    rw (has, suffix, r, prefix, w, fits, low) refl

pub price_again : (p : ℕ) → p < 2 ^ 64 → price_in (price_digits p) ≡ Some p
price_again p small =
    let q = p / 10000 in
    let r = p % 10000 in
    let f = four_digits (r / 1000) (r / 100 % 10) (r / 10 % 10) (r % 10) (omega arith) (omega arith) (omega arith) (omega arith) in
    let w = digits_again 16 q (omega arith) (length-decimal-le 16 q (omega arith) (omega arith) (omega arith)) in
    let whole : q * 10000 + (((r / 1000 * 10 + r / 100 % 10) * 10 + r / 10 % 10) * 10 + r % 10) ≡ p = omega arith in
    price_of_parts (decimal q) _ q _ (point_place q _ (omega arith)) w f (omega arith) ∙ ap (λ (n : ℕ). Some n) whole

-- ---- digits are no word

not_word_at : (ds : List ℕ) (b : ℕ) (bs : List ℕ) → list_all is_ascii_digit ds ≡ true → is_ascii_digit b ≡ false → pointwise nat_eq ds (b ∷ bs) ≡ false
not_word_at [] b bs h n = refl
not_word_at (d ∷ ds) b bs h n =
    let p = and_parts (is_ascii_digit d) (list_all is_ascii_digit ds) h in
    let differ : eqb d b ≡ false = ne_eqb d b (λ e. false≢true (sym n ∙ ap is_ascii_digit (sym e) ∙ p.0)) in
    rw differ refl

pub not_word : (n b : ℕ) (bs : List ℕ) → n < 2 ^ 64 → is_ascii_digit b ≡ false → pointwise nat_eq (decimal n) (b ∷ bs) ≡ false
not_word n b bs small h = not_word_at (decimal n) b bs (digits_decimal (numerals_by_value AreDigits tells) n small) h

pub decimal_digits : (n : ℕ) → n < 2 ^ 64 → list_all is_ascii_digit (decimal n) ≡ true
decimal_digits n small = digits_decimal (numerals_by_value AreDigits tells) n small
