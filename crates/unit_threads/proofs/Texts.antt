-- The text of a drill grows by a line for each unit.
use Rattle.std.proofs.Common.{◌≡◌, ℕ, suc, ◌+◌, List, [], ◌++◌, Option, Some, Result, Ok, IfSome, IfOk, refl, sym, ap, ◌∙◌, subst, arith}
use Rattle.std.specs.List.{slice_get}
use Rattle.drill_client.specs.DrillText.{drill_line, drill_text}

pub text_begins : (number count : ℕ) → drill_text number 0 count ≡ []
unfolding drill_text
text_begins number count = refl

pub text_next : (number unit count : ℕ) → drill_text number (unit + 1) count ≡ drill_text number unit count ++ drill_line number (unit + 1) count
unfolding drill_text
text_next number unit count =
    let e : unit + 1 ≡ suc unit = omega arith in
    ap (λ (n : ℕ). drill_text number n count) e ∙ ap (λ (n : ℕ). drill_text number unit count ++ drill_line number n count) (sym e)

-- what holds of each that is Ok holds of this one
pub there : {A E : Type 0} (P : A → Type 0) (parts : List (Result A E)) (k : ℕ) (line : A) → slice_get parts k ≡ Some (Ok line) → IfSome (slice_get parts k) (λ r. IfOk r P) → P line
there {A} {E} P parts k line at all = subst (λ (o : Option (Result A E)). IfSome o (λ r. IfOk r P)) at all
