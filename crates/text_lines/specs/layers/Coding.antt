-- Fields as pairs, lists and numbers, which the prover asks for of each model.
use Rattle.std.specs.Prelude.{ℕ, List, refl}
use Rattle.std.specs.Coded.{Coded, code_by, coded×, coded_ℕ, coded_list}
use Rattle.text_lines.specs.Fields.{Field, Rest}

-- a field as a value that a type of the code can stand for
abbrev pub field_code : Coded Field
field_code = code_by (ℕ × List ℕ) (coded× coded_ℕ (coded_list coded_ℕ))
    (λ f. (f.column, f.bytes)) (λ p. record { column = p.0; bytes = p.1 }) (λ _. refl)

-- likewise for what is left of a line
abbrev pub rest_code : Coded Rest
rest_code = code_by (ℕ × List Field) (coded× coded_ℕ (coded_list field_code))
    (λ r. (r.past, r.fields)) (λ p. record { past = p.0; fields = p.1 }) (λ _. refl)
