-- Numbers as the keys of a map: what their order tells.
use Rattle.std.proofs.Common.{◌≡◌, ℕ, ◌<◌, true, eqb, sym, ◌∙◌, arith}
use Rattle.std.specs.Ordering.{nat_cmp, is_eq, eq_by_cmp}
use Rattle.std.specs.declared.cmp.Ordering.TheVariants.{Greater}
use Rattle.std.proofs.lemmas.Bool.{eqb-true}
use Rattle.std.proofs.lemmas.Bool.Decides.{nat_tests}

-- its equality is that of numbers
pub same_test : (q k : ℕ) → is_eq (nat_cmp q k) ≡ eqb q k
same_test q k = grind (arith, nat_tests)

pub tied : (q k : ℕ) → eq_by_cmp nat_cmp q k ≡ true → q ≡ k
tied q k t = eqb-true q k (sym (same_test q k) ∙ t)

pub itself : (k : ℕ) → eq_by_cmp nat_cmp k k ≡ true
itself k = grind (arith, nat_tests)

-- a number above another
pub greater : (k x : ℕ) → x < k → nat_cmp k x ≡ Greater
greater k x above = grind (arith, nat_tests, above)
