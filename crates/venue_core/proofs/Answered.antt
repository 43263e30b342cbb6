-- What the answer to a command says of its refusal.
use Rattle.std.proofs.Common.{◌≡◌, Option, None, Some, Ok, Err, refl, ap}
use Rattle.venue_core.specs.Refusals.{IsAnswer}
use Rattle.venue_core.specs.declared.error.VenueError.{VenueError}

-- an error is one whatever was wanted
pub answer_err : {A B : Type 0} (refusal : Option VenueError) (x : A) (y : B) (e : VenueError) → IsAnswer refusal x (Err e) → IsAnswer refusal y (Err e)
answer_err (Some error) x y e is = let same : e ≡ error = cc is in ap (λ (v : VenueError). Err v) same
answer_err None x y e is = is

-- a value is the one that was wanted
pub answer_ok : {A : Type 0} (refusal : Option VenueError) (x y : A) → IsAnswer refusal x (Ok y) → (refusal ≡ None) × (y ≡ x)
answer_ok (Some error) x y is = absurd (cc is)
answer_ok None x y is = (refl, is)
