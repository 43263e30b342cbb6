-- Lines of a text, one after another.
use Rattle.std.proofs.Common.{◌≡◌, ◌∙◌, ℕ, zero, suc, ◌+◌, ◌*◌, ◌-◌, ◌/◌, ◌<◌, ◌≤◌, List, ◌∷◌, ◌++◌, length, arith, refl, ap, sym, append_assoc, length-append}
use Rattle.std.proofs.Math.Nat.{div-lt_iff_lt-mul}
use Rattle.std.proofs.lemmas.List.{append-nil}
use Rattle.std.specs.Fmt.{digits}
use Rattle.pitch_text.specs.declared.verb.Verb.{Verb}
use Rattle.pitch_text.specs.Printing.{entry_text, spaced, verb_words}
use Rattle.venue_plan.specs.Text.{made_line, made_lines}

-- a line of unit 1 has one byte before its words
pub of_unit_one : (verb : Verb) → entry_text 1 verb ≡ 49 ∷ spaced (verb_words verb)
unfolding entry_text digits
of_unit_one verb = refl

-- so many lines, and then more
pub lines_split : (number : ℕ) (units : List ℕ) (count m k more : ℕ)
    → made_lines number units count m (k + more) ≡ made_lines number units count m k ++ made_lines number units count (m + k) more
lines_split number units count m zero more =
    let e : zero + more ≡ more = omega arith in
    let f : m ≡ m + zero = omega arith in
    ap (λ (n : ℕ). made_lines number units count m n) e ∙ ap (λ (n : ℕ). made_lines number units count n more) f
lines_split number units count m (suc k) more =
    let e : suc k + more ≡ suc (k + more) = omega arith in
    let f : suc m + k ≡ m + suc k = omega arith in
    ap (λ (n : ℕ). made_lines number units count m n) e
    ∙ ap (λ (t : List ℕ). made_line number units count m ++ t) (lines_split number units count (suc m) k more)
    ∙ sym (append_assoc (made_line number units count m) (made_lines number units count (suc m) k) (made_lines number units count (suc m + k) more))
    ∙ ap (λ (n : ℕ). made_lines number units count m (suc k) ++ made_lines number units count n more) f

-- lines up to a place, and those from there on
pub lines_until : (number : ℕ) (units : List ℕ) (count m at end : ℕ) → m ≤ at → at ≤ end
    → made_lines number units count m (at - m) ++ made_lines number units count at (end - at) ≡ made_lines number units count m (end - m)
lines_until number units count m at end from to =
    let e : end - m ≡ (at - m) + (end - at) = omega arith in
    let f : m + (at - m) ≡ at = omega arith in
    sym (ap (λ (n : ℕ). made_lines number units count m n) e ∙ lines_split number units count m (at - m) (end - at)
    ∙ ap (λ (n : ℕ). made_lines number units count m (at - m) ++ made_lines number units count n (end - at)) f)

-- one line more
pub lines_more : (number : ℕ) (units : List ℕ) (count m at : ℕ) → m ≤ at
    → made_lines number units count m (at - m) ++ made_line number units count at ≡ made_lines number units count m (at + 1 - m)
lines_more number units count m at from =
    let e : at + 1 - at ≡ suc zero = omega arith in
    let one : made_lines number units count at (at + 1 - at) ≡ made_line number units count at = ap (λ (n : ℕ). made_lines number units count at n) e ∙ append-nil (made_line number units count at) in
    ap (λ (t : List ℕ). made_lines number units count m (at - m) ++ t) (sym one) ∙ lines_until number units count m at (at + 1) from (omega arith)

-- a line has its end at least
line_some : (number : ℕ) (units : List ℕ) (count m : ℕ) → 0 < length (made_line number units count m)
unfolding made_line
line_some number units count m = omega (arith, length-append {A = ℕ})

-- so many lines have a byte, and none has none
pub lines_some : (number : ℕ) (units : List ℕ) (count m more : ℕ) → 0 < more → 0 < length (made_lines number units count m more)
lines_some number units count m zero some = absurd (omega arith)
lines_some number units count m (suc more) some =
    let line = line_some number units count m in
    let e = length-append (made_line number units count m) (made_lines number units count (suc m) more) in
    omega (arith, e, line)

-- a line's command is one of so many
pub index_fits : (made count n : ℕ) → made < count * n → count ≤ 1000000000 → made / n < 1000000000
index_fits made count zero left most = absurd (omega arith)
index_fits made count (suc n) left most =
    let some : 0 < suc n = omega arith in
    let h : made / suc n < count = (div-lt_iff_lt-mul some).1 left in
    omega (arith, h)

-- a page with one line more
pub page_more : (number : ℕ) (units : List ℕ) (count number' : ℕ) (units' : List ℕ) (count' m at at' : ℕ) (start page page' : List ℕ)
    → number' ≡ number → units' ≡ units → count' ≡ count → m ≤ at → at' ≡ at + 1
    → page ≡ start ++ made_lines number units count m (at - m) → page' ≡ page ++ made_line number' units' count' at
    → page' ≡ start ++ made_lines number units count m (at' - m)
page_more number units count number' units' count' m at at' start page page' nu un co from next before line =
    line ∙ (λ i. before i ++ made_line (nu i) (un i) (co i) at)
    ∙ append_assoc start (made_lines number units count m (at - m)) (made_line number units count at)
    ∙ ap (λ (t : List ℕ). start ++ t) (lines_more number units count m at from)
    ∙ ap (λ (n : ℕ). start ++ made_lines number units count m (n - m)) (sym next)
