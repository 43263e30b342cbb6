-- Groups of calls.
use Rattle.std.proofs.Common.{◌≡◌, ℕ, suc, ◌+◌, ◌<◌, Bool, true, false, ◌&&◌, ◌⊎◌, nat_lt, not, eqb, List, [], ◌∷◌, length, refl, ap, ◌∙◌, arith}
use Rattle.std.specs.List.{list_all}
use Rattle.std.proofs.lemmas.Bool.{lt-ltb, le-ltb}
use Rattle.std.proofs.lemmas.Bool.Decides.{nat_tests}
use Rattle.std.proofs.Math.Bool.{and-false}
use Rattle.pitch_io.specs.declared.net.NetTaken.{NetTaken}
use Rattle.pitch_io.specs.declared.net.NetTaken.TheVariants as taken
use Rattle.net_edge.specs.Acting.{is_group_open}
use Rattle.net_edge.specs.Scene.{is_got}

-- so many calls, each of which got something
pub record Gots (answers : List NetTaken) (count : ℕ) : Type 0 where
  pub many : length answers ≡ count
  pub all : list_all is_got answers ≡ true

pub open_by : (answers : List NetTaken) (count : ℕ) → Gots answers count → count < 100 → is_group_open answers ≡ true
open_by answers count gots few = ap (λ (b : Bool). b && list_all is_got answers) (lt-ltb (length answers) 100 (omega (arith, gots.many))) ∙ gots.all

pub gots_none : Gots [] 0
gots_none = record { many = refl; all = refl }

pub gots_more : (answer : NetTaken) (answers : List NetTaken) (count : ℕ) → is_got answer ≡ true → Gots answers count → Gots (answer ∷ answers) (count + 1)
gots_more answer answers count got gots = record {
  many = omega (arith, gots.many);
  all = ap (λ (b : Bool). b && list_all is_got answers) got ∙ gots.all;
}

-- a call that got nothing ends a group, and so does the hundredth
pub ends_group : (answer : NetTaken) (answers : List NetTaken) → is_got answer ≡ false → is_group_open (answer ∷ answers) ≡ false
ends_group answer answers nothing = ap (λ (b : Bool). nat_lt (length (answer ∷ answers)) 100 && (b && list_all is_got answers)) nothing ∙ and-false (nat_lt (length (answer ∷ answers)) 100)

pub full_group : (answers : List NetTaken) (count : ℕ) → count ≡ 100 → Gots answers count → is_group_open answers ≡ false
full_group answers count all gots = ap (λ (b : Bool). b && list_all is_got answers) (le-ltb (length answers) 100 (omega (arith, all, gots.many)))

-- what got nothing
pub nothing : (answer : NetTaken) → (answer ≡ taken.Quiet) ⊎ ((answer ≡ taken.End) ⊎ (answer ≡ taken.Failed)) → is_got answer ≡ false
nothing answer none = grind (arith, none)

-- the next call is the last one where it is the hundredth, or gets nothing
pub open_then : (answer : NetTaken) (answers : List NetTaken) (count : ℕ) → Gots answers count → count < 100 → is_group_open (answer ∷ answers) ≡ (is_got answer && not (eqb count 99))
open_then answer answers count gots few =
    ap (λ (n : ℕ). nat_lt (suc n) 100 && (is_got answer && list_all is_got answers)) gots.many
    ∙ ap (λ (b : Bool). nat_lt (suc count) 100 && (is_got answer && b)) gots.all
    ∙ ap (λ (b : Bool). b && (is_got answer && true)) (less count few)
    ∙ swap (not (eqb count 99)) (is_got answer)
  where
    less : (n : ℕ) → n < 100 → nat_lt (suc n) 100 ≡ not (eqb n 99)
    less n few = grind (arith, nat_tests, few)

    swap : (a b : Bool) → (a && (b && true)) ≡ (b && a)
    swap a b = grind arith
