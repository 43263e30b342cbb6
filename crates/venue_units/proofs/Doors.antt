-- What holds of the one of two, holds of the choice.
use Rattle.std.proofs.Common.{◌≡◌, Bool, true, false, cond, sym, subst}

pub of_first : {A : Type 0} (P : A → Type 0) (b : Bool) (x y : A) → b ≡ true → P x → P (cond b x y)
of_first P b x y is here = subst (λ (c : Bool). P (cond c x y)) (sym is) here

pub of_second : {A : Type 0} (P : A → Type 0) (b : Bool) (x y : A) → b ≡ false → P y → P (cond b x y)
of_second P b x y is here = subst (λ (c : Bool). P (cond c x y)) (sym is) here
