-- A clause on a result, and a weaker one of the same result.
use Rattle.std.proofs.Common.{◌≡◌, Result, Ok, Err, OnOk, OnErr, IfErr, sym, subst}
use Rattle.std.specs.Result.{IsErr, IsErrAnd}

pub on_err : {A E : Type 0} (P : Type 0) (r : Result A E) → P → OnErr r P
on_err P (Ok x) p = tt
on_err P (Err e) p = p

pub on_err_map : {A E : Type 0} (P Q : Type 0) (r : Result A E) → OnErr r P → (P → Q) → OnErr r Q
on_err_map P Q (Ok x) p f = tt
on_err_map P Q (Err e) p f = f p

pub on_ok_map : {A E : Type 0} (P Q : Type 0) (r : Result A E) → OnOk r P → (P → Q) → OnOk r Q
on_ok_map P Q (Ok x) p f = f p
on_ok_map P Q (Err e) p f = tt

-- what holds of the error that a `?` answers
pub at_exit : {A E : Type 0} (P : E → Type 0) (r : Result A E) (error : E) → IsErr r × IsErrAnd r (λ e. e ≡ error) → P error → IfErr r P
at_exit P (Ok x) error is p = tt
at_exit P (Err e) error is p = subst P (sym is.1) p
