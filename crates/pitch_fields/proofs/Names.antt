-- Names without the spaces at their end.
use Rattle.std.proofs.Common.{◌≡◌, ℕ, ◌-◌, ◌<◌, ◌≤◌, Bool, true, false, cond, ◌&&◌, List, [], ◌∷◌, ◌++◌, length, take, get_or, refl, sym, ap, ◌∙◌, arith, nat_eq, not, inl, inr, Some, None}
use Rattle.std.specs.List.{list_all, flat_map}
use Rattle.std.proofs.lemmas.List.{nil_from_length, take_more}
use Rattle.std.proofs.lemmas.List.Folds.{list_all-append}
use Rattle.std.proofs.lemmas.Bool.{cases_Bool, and_right, cond-false, cond-true, eqb-true, ne_eqb}
use Rattle.pitch_fields.specs.Name.{is_blank, is_printing, is_well_formed, six_of, without_spaces, name_shown, shown_byte}

and_true : (b : Bool) → (b && true) ≡ b
and_true true = refl
and_true false = refl

blank_push : (xs : List ℕ) → is_blank (xs ++ 32 ∷ []) ≡ is_blank xs
blank_push xs = list_all-append (λ x. nat_eq x 32) xs (32 ∷ []) ∙ and_true (is_blank xs)

spaces_push : (xs : List ℕ) → without_spaces (xs ++ 32 ∷ []) ≡ without_spaces xs
spaces_push [] = refl
spaces_push (x ∷ xs) =
    ap (λ (b : Bool). cond (nat_eq x 32 && b) [] (x ∷ without_spaces (xs ++ 32 ∷ []))) (blank_push xs)
    ∙ ap (λ (r : List ℕ). cond (nat_eq x 32 && is_blank xs) [] (x ∷ r)) (spaces_push xs)

-- one space less at the end changes nothing
pub spaces_less : (xs : List ℕ) (n : ℕ) → n ≤ length xs → 0 < n → get_or xs (n - 1) 0 ≡ 32 → without_spaces (take n xs) ≡ without_spaces xs → without_spaces (take (n - 1) xs) ≡ without_spaces xs
spaces_less xs n le some is same =
    let e : take n xs ≡ take (n - 1) xs ++ 32 ∷ [] = ap (λ (k : ℕ). take k xs) (omega arith) ∙ take_more xs (n - 1) 0 (omega arith) ∙ ap (λ (v : ℕ). take (n - 1) xs ++ v ∷ []) is in
    sym (ap without_spaces e ∙ spaces_push (take (n - 1) xs)) ∙ same

last_blank : (xs : List ℕ) (x : ℕ) → (x ≡ 32 → ⊥) → is_blank (xs ++ x ∷ []) ≡ false
last_blank xs x other = list_all-append (λ y. nat_eq y 32) xs (x ∷ []) ∙ and_right (is_blank xs) (nat_eq x 32 && true) (ap (λ (b : Bool). b && true) (ne_eqb x 32 other))

last_kept : (xs : List ℕ) (x : ℕ) → (x ≡ 32 → ⊥) → without_spaces (xs ++ x ∷ []) ≡ xs ++ x ∷ []
last_kept [] x other = cond-false (nat_eq x 32 && true) [] (x ∷ []) (ap (λ (b : Bool). b && true) (ne_eqb x 32 other))
last_kept (y ∷ xs) x other =
    cond-false (nat_eq y 32 && is_blank (xs ++ x ∷ [])) [] (y ∷ without_spaces (xs ++ x ∷ [])) (and_right (nat_eq y 32) (is_blank (xs ++ x ∷ [])) (last_blank xs x other))
    ∙ ap (λ (r : List ℕ). y ∷ r) (last_kept xs x other)

-- where the last of the bytes is no space, they are the name without its spaces
pub spaces_none : (xs : List ℕ) (n : ℕ) → n ≤ length xs → 0 < n → (get_or xs (n - 1) 0 ≡ 32 → ⊥) → without_spaces (take n xs) ≡ without_spaces xs → take n xs ≡ without_spaces xs
spaces_none xs n le some other same =
    let e : take n xs ≡ take (n - 1) xs ++ get_or xs (n - 1) 0 ∷ [] = ap (λ (k : ℕ). take k xs) (omega arith) ∙ take_more xs (n - 1) 0 (omega arith) in
    sym (ap without_spaces e ∙ last_kept (take (n - 1) xs) (get_or xs (n - 1) 0) other ∙ sym e) ∙ same

cons_none : (y : ℕ) (ys : List ℕ) → y ∷ ys ≡ [] → ⊥
cons_none y ys h = cc

-- a name is blank where nothing but spaces is in it
pub none_blank : (xs : List ℕ) → without_spaces xs ≡ [] → is_blank xs ≡ true
none_blank [] e = refl
none_blank (x ∷ xs) e = elim (cases_Bool (is_blank (x ∷ xs))) [
  | inl b ↦ b
  | inr b ↦ let some : without_spaces (x ∷ xs) ≡ x ∷ without_spaces xs = cond-false (is_blank (x ∷ xs)) [] (x ∷ without_spaces xs) b in absurd (cons_none x (without_spaces xs) (sym some ∙ e))
]

blank_none : (xs : List ℕ) → is_blank xs ≡ true → without_spaces xs ≡ []
blank_none [] b = refl
blank_none (x ∷ xs) b = cond-true (is_blank (x ∷ xs)) [] (x ∷ without_spaces xs) b

pub some_left : (xs : List ℕ) → (without_spaces xs ≡ [] → ⊥) → is_blank xs ≡ false
some_left xs other = elim (cases_Bool (is_blank xs)) [
  | inl b ↦ absurd (other (blank_none xs b))
  | inr b ↦ b
]

-- a blank name is shown as one space
pub shown_blank : (xs : List ℕ) → without_spaces xs ≡ [] → name_shown xs ≡ 92 ∷ 120 ∷ 50 ∷ 48 ∷ []
unfolding name_shown
shown_blank xs e = cond-true (is_blank xs) _ (flat_map shown_byte (without_spaces xs)) (none_blank xs e)

-- any other is shown byte by byte, without the spaces at its end
pub shown_some : (xs : List ℕ) → (without_spaces xs ≡ [] → ⊥) → name_shown xs ≡ flat_map shown_byte (without_spaces xs)
unfolding name_shown
shown_some xs other = cond-false (is_blank xs) _ (flat_map shown_byte (without_spaces xs)) (some_left xs other)

-- where no byte is left before the spaces, the name has none without them
pub no_byte_left : (xs : List ℕ) (n : ℕ) → n ≡ 0 → without_spaces (take n xs) ≡ without_spaces xs → take n xs ≡ without_spaces xs
no_byte_left xs n e same = ap (λ (k : ℕ). take k xs) e ∙ sym (ap (λ (k : ℕ). without_spaces (take k xs)) e) ∙ same

-- a name of spaces alone is not well formed
pub blank_ill_formed : (xs : List ℕ) → without_spaces xs ≡ [] → is_well_formed xs ≡ false
blank_ill_formed xs e = ap (λ (b : Bool). not b && list_all is_printing (without_spaces xs)) (none_blank xs e)

-- any other is well formed where each byte before the spaces is a printing one
pub some_well_formed : (xs : List ℕ) → (without_spaces xs ≡ [] → ⊥) → is_well_formed xs ≡ list_all is_printing (without_spaces xs)
some_well_formed xs other = ap (λ (b : Bool). not b && list_all is_printing (without_spaces xs)) (some_left xs other)

-- eight bytes whose last two are spaces have six before them
pub six_left : (xs : List ℕ) → length xs ≡ 8 → get_or xs 6 0 ≡ 32 → get_or xs 7 0 ≡ 32 → six_of xs ≡ Some (get_or xs 0 0 ∷ get_or xs 1 0 ∷ get_or xs 2 0 ∷ get_or xs 3 0 ∷ get_or xs 4 0 ∷ get_or xs 5 0 ∷ [])
six_left [] size g h = absurd (omega arith)
six_left (a ∷ []) size g h = absurd (omega arith)
six_left (a ∷ b ∷ []) size g h = absurd (omega arith)
six_left (a ∷ b ∷ c ∷ []) size g h = absurd (omega arith)
six_left (a ∷ b ∷ c ∷ d ∷ []) size g h = absurd (omega arith)
six_left (a ∷ b ∷ c ∷ d ∷ e ∷ []) size g h = absurd (omega arith)
six_left (a ∷ b ∷ c ∷ d ∷ e ∷ f ∷ []) size g h = absurd (omega arith)
six_left (a ∷ b ∷ c ∷ d ∷ e ∷ f ∷ y ∷ []) size g h = absurd (omega arith)
six_left (a ∷ b ∷ c ∷ d ∷ e ∷ f ∷ y ∷ z ∷ []) size g h =
    cond-true (is_blank (y ∷ z ∷ [])) (Some (a ∷ b ∷ c ∷ d ∷ e ∷ f ∷ [])) None
    (ap (λ (v : ℕ). nat_eq v 32 && (nat_eq z 32 && true)) g ∙ ap (λ (v : ℕ). nat_eq v 32 && true) h)
six_left (a ∷ b ∷ c ∷ d ∷ e ∷ f ∷ y ∷ z ∷ (x ∷ xs)) size g h = absurd (omega arith)

-- what is left of a name without its spaces, where it has no byte
pub nothing_left : (shown xs : List ℕ) → shown ≡ without_spaces xs → nat_eq (length shown) 0 ≡ true → without_spaces xs ≡ []
nothing_left shown xs is none = sym is ∙ nil_from_length shown (eqb-true (length shown) 0 none)

-- and where it has some
pub something_left : (shown xs : List ℕ) → shown ≡ without_spaces xs → nat_eq (length shown) 0 ≡ false → without_spaces xs ≡ [] → ⊥
something_left shown xs is some e = both (nat_eq (length shown) 0) (ap (λ (ys : List ℕ). nat_eq (length ys) 0) (is ∙ e)) some
  where
    both : (b : Bool) → b ≡ true → b ≡ false → ⊥
    both b y n = cc
