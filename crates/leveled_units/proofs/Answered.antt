-- A clause on what a result has, and a weaker one of the same result.
use Rattle.std.proofs.Common.{Result, Ok, Err, IfOk}

pub ok_map : {A E : Type 0} (P Q : A → Type 0) (r : Result A E) → ((x : A) → P x → Q x) → IfOk r P → IfOk r Q
ok_map P Q (Ok x) f p = f x p
ok_map P Q (Err e) f p = tt
