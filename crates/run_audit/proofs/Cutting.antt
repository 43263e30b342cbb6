-- How a text is cut into lines.
use Rattle.std.proofs.Common.{◌≡◌, ℕ, suc, ◌+◌, ◌-◌, ◌<◌, ◌≤◌, Bool, true, false, not, ◌==◌, cond, List, [], ◌∷◌, ◌++◌, length, take, drop, refl, sym, ap, ◌∙◌, subst, inl, inr, arith}
use Rattle.std.specs.List.{list_all, position_or_len}
use Rattle.std.proofs.lemmas.List.{length-drop, drop-drop, take_all}
use Rattle.std.proofs.lemmas.Bool.{and_parts, cases_Bool}
use Rattle.run_audit.specs.Report.{in_front, lines_of}

-- a byte that ends no line
abbrev pub stays : ℕ → Bool
stays byte = not (byte == 10)

pub lines_none : lines_of [] ≡ []
unfolding lines_of
lines_none = refl

pub lines_other : (byte : ℕ) (text : List ℕ) → (byte == 10) ≡ false → lines_of (byte ∷ text) ≡ in_front byte (lines_of text)
unfolding lines_of
lines_other byte text h = ap (λ (b : Bool). cond b ([] ∷ lines_of text) (in_front byte (lines_of text))) h

pub lines_end : (byte : ℕ) (text : List ℕ) → (byte == 10) ≡ true → lines_of (byte ∷ text) ≡ [] ∷ lines_of text
unfolding lines_of
lines_end byte text h = ap (λ (b : Bool). cond b ([] ∷ lines_of text) (in_front byte (lines_of text))) h

stays_is : (byte : ℕ) → stays byte ≡ true → (byte == 10) ≡ false
stays_is byte h = by (byte == 10) h
  where
    by : (b : Bool) → not b ≡ true → b ≡ false
    by true e = absurd cc
    by false e = refl

-- a first line begins with these bytes
pub record Begins (front : List ℕ) (lines : List (List ℕ)) : Type 0 where
  pub line : List ℕ
  pub more : List (List ℕ)
  pub are : lines ≡ (front ++ line) ∷ more

fronted : (byte : ℕ) (lines : List (List ℕ)) → Begins (byte ∷ []) (in_front byte lines)
fronted byte [] = record { line = []; more = []; are = refl }
fronted byte (line ∷ lines) = record { line = line; more = lines; are = refl }

fronted_more : (byte : ℕ) (front : List ℕ) (lines : List (List ℕ)) → Begins front lines → Begins (byte ∷ front) (in_front byte lines)
fronted_more byte front lines b = record { line = b.line; more = b.more; are = ap (in_front byte) b.are }

-- bytes that end no line stay in front of the first one
pub front_stays : (byte : ℕ) (front text : List ℕ) → stays byte ≡ true → list_all stays front ≡ true → Begins (byte ∷ front) (lines_of (byte ∷ front ++ text))
front_stays byte [] text h all = subst (Begins (byte ∷ [])) (sym (lines_other byte text (stays_is byte h))) (fronted byte (lines_of text))
front_stays byte (c ∷ front) text h all =
    let p = and_parts (stays c) (list_all stays front) all in
    subst (Begins (byte ∷ c ∷ front)) (sym (lines_other byte (c ∷ front ++ text) (stays_is byte h))) (fronted_more byte (c ∷ front) (lines_of (c ∷ front ++ text)) (front_stays c front text p.0 p.1))

-- a line is cut off at its first line feed
abbrev pub place : List ℕ → ℕ
place text = position_or_len (λ b. b == 10) text

pub place_end : (byte : ℕ) (text : List ℕ) → (byte == 10) ≡ true → place (byte ∷ text) ≡ 0
place_end byte text h = rw h refl

pub place_more : (byte : ℕ) (text : List ℕ) → (byte == 10) ≡ false → place (byte ∷ text) ≡ suc (place text)
place_more byte text h = rw h (omega arith)

-- the line behind some bytes, and what follows its line feed
pub record Cut (text line behind : List ℕ) : Type 0 where
  pub are : lines_of text ≡ line ∷ lines_of behind

cut_here : (byte : ℕ) (text : List ℕ) → 0 < length (byte ∷ text) → lines_of (byte ∷ text) ≡ take (place (byte ∷ text)) (byte ∷ text) ∷ lines_of (drop (suc (place (byte ∷ text))) (byte ∷ text))
cut_here byte [] some = elim (cases_Bool (byte == 10)) [
  | inl h ↦ lines_end byte [] h ∙ sym (ap (λ (k : ℕ). take k (byte ∷ []) ∷ lines_of (drop (suc k) (byte ∷ []))) (place_end byte [] h))
  | inr h ↦ lines_other byte [] h ∙ ap (in_front byte) lines_none ∙ sym (ap (λ (k : ℕ). take k (byte ∷ []) ∷ lines_of (drop (suc k) (byte ∷ []))) (place_more byte [] h) ∙ ap (λ (ls : List (List ℕ)). (byte ∷ []) ∷ ls) lines_none)
]
cut_here byte (c ∷ text) some = elim (cases_Bool (byte == 10)) [
  | inl h ↦ lines_end byte (c ∷ text) h ∙ sym (ap (λ (k : ℕ). take k (byte ∷ c ∷ text) ∷ lines_of (drop (suc k) (byte ∷ c ∷ text))) (place_end byte (c ∷ text) h))
  | inr h ↦
      lines_other byte (c ∷ text) h
      ∙ ap (in_front byte) (cut_here c text (omega arith))
      ∙ sym (ap (λ (k : ℕ). take k (byte ∷ c ∷ text) ∷ lines_of (drop (suc k) (byte ∷ c ∷ text))) (place_more byte (c ∷ text) h))
]

pub cut : (text : List ℕ) → 0 < length text → lines_of text ≡ take (place text) text ∷ lines_of (drop (suc (place text)) text)
cut [] some = absurd (omega arith)
cut (byte ∷ text) some = cut_here byte text some

-- the line is the front of a text that is split there
pub cut_last : (text line after : List ℕ) (k : ℕ) → 0 < length text → k ≡ place text → line ≡ take k text → after ≡ drop k text → length after < 1 → lines_of text ≡ line ∷ lines_of after
cut_last text line after k some at front back few =
    let none = empty after few in
    cut text some
    ∙ ap (λ (j : ℕ). take j text ∷ lines_of (drop (suc j) text)) (sym at)
    ∙ ap (λ (l : List ℕ). l ∷ lines_of (drop (suc k) text)) (sym front)
    ∙ ap (λ (l : List ℕ). line ∷ lines_of l) (next k text (sym back ∙ none) ∙ sym none)
  where
    empty : (after : List ℕ) → length after < 1 → after ≡ []
    empty [] few = refl
    empty (b ∷ after) few = absurd (omega arith)

    next : (k : ℕ) (text : List ℕ) → drop k text ≡ [] → drop (suc k) text ≡ []
    next k text e = ap (λ (j : ℕ). drop j text) (one k) ∙ sym (drop-drop 1 k text) ∙ ap (drop 1) e
      where
        one : (k : ℕ) → suc k ≡ k + 1
        one k = omega arith

-- the same with what stands behind the split
pub cut_up : (text line after : List ℕ) (k : ℕ) → 0 < length text → k ≡ place text → line ≡ take k text → after ≡ drop k text → lines_of text ≡ line ∷ lines_of (take (length after - 1) (drop 1 after))
cut_up text line after k some at front back =
    cut text some
    ∙ ap (λ (j : ℕ). take j text ∷ lines_of (drop (suc j) text)) (sym at)
    ∙ ap (λ (l : List ℕ). l ∷ lines_of (drop (suc k) text)) (sym front)
    ∙ ap (λ (l : List ℕ). line ∷ lines_of l) (ap (λ (j : ℕ). drop j text) (one k) ∙ sym (drop-drop 1 k text) ∙ ap (drop 1) (sym back) ∙ sym (take_all (length after - 1) (drop 1 after) (all after)))
  where
    one : (k : ℕ) → suc k ≡ k + 1
    one k = omega arith

    all : (after : List ℕ) → length (drop 1 after) ≤ length after - 1
    all after = omega (arith, length-drop 1 after)

-- no more lines than bytes
in_front_few : (byte : ℕ) (lines : List (List ℕ)) → length (in_front byte lines) ≤ length lines + 1
in_front_few byte [] = omega arith
in_front_few byte (line ∷ lines) = omega arith

pub few_lines : (text : List ℕ) → length (lines_of text) ≤ length text
few_lines [] = omega (arith, ap length lines_none)
few_lines (byte ∷ text) = elim (cases_Bool (byte == 10)) [
  | inl h ↦ omega (arith, ap length (lines_end byte text h), few_lines text)
  | inr h ↦ omega (arith, ap length (lines_other byte text h), in_front_few byte (lines_of text), few_lines text)
]

pub lines_are_none : (text : List ℕ) → length text ≡ 0 → lines_of text ≡ []
lines_are_none [] h = lines_none
lines_are_none (byte ∷ text) h = absurd (omega arith)
