use Rattle.std.proofs.Common.{◌≡◌, ◌<◌, ◌∙◌, sym, arith, length, ap, ℕ, take, Some, None, if◌then◌else◌, subst}
use Rattle.std.specs.List.{list_all}
use Rattle.std.specs.Char.{is_ascii_digit}
use Rattle.std.specs.Str.Parse.{digits_value}
use Rattle.std.proofs.lemmas.List.{get_or_default}
use Rattle.std.proofs.lemmas.Bool.{ltb-true}
use Rattle.std.proofs.lemmas.Bool.Decides.{nat_tests}
use Rattle.text_lines.proofs.KindLemmas.{twenty_digits, no_digits}
use Rattle.text_lines.proofs.kinds.digits.Goals as goal

pub returns-in_err-short_digits-clause-value : goal.returns-in_err-short_digits-clause-value
returns-in_err-short_digits-clause-value c =
    let empty = c.if-is_empty.ensures in
    c.from_residual.ensures ∙ no_digits c.args.most c.args.bytes.now c.min.result (grind (arith, nat_tests, empty)) (omega arith) c.in_err-short_digits.ensures.value

pub returns-in-Some-clause-value : goal.returns-in-Some-clause-value
returns-in-Some-clause-value c =
    let bytes = c.args.bytes.now in
    let look = c.in-Some.ensures.lookup in
    let has : 19 < length bytes = ltb-true 19 (length bytes) (sym look.0) in
    let all : c.min.result ≡ 19 = omega (arith, c.min.ensures, has) in
    let front : Some c.from-value.result ≡ (if list_all is_ascii_digit (take 19 bytes) then Some (digits_value 10 (take 19 bytes)) else None)
    = subst (λ (k : ℕ). Some c.from-value.result ≡ (if list_all is_ascii_digit (take k bytes) then Some (digits_value 10 (take k bytes)) else None)) all
    (ap (λ (n : ℕ). Some n) c.from-value.ensures ∙ c.in_ok-short_digits.ensures.value) in
    c.with_digit.ensures ∙ twenty_digits c.args.most bytes c.in-Some.last.now c.from-value.result has (look.1 ∙ get_or_default bytes 19 c.in-Some.last.now 0 has) c.requires (omega arith) front
