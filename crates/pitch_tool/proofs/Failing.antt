-- What ended by a failure, and what was read by then.
use Rattle.std.proofs.Common.{◌≡◌, ℕ, List, Option, Some, None, Result, Ok, Err, sym, subst, true≢false}
use Rattle.std.specs.Result.{IsErr, IsErrAnd}
use Rattle.stream_print.specs.Inputs.{AreAll, Has}
use Rattle.pitch_tool.specs.declared.failure.Failure.{Failure}

-- what was read whole is what a source has
pub has_all : (old new : Option (List ℕ)) (bytes : List ℕ) → AreAll old new bytes → Has old bytes
has_all None new bytes read = tt
has_all (Some all) new bytes read = read.0

-- what holds of a failure holds of the result that has it
pub failed_by : (P : Result (Unit {0}) Failure → Type 0) (r : Result (Unit {0}) Failure) (why : Failure) → IsErr r × IsErrAnd r (λ failure. failure ≡ why) → P (Err why) → P r
failed_by P (Ok done) why failed ends = absurd (true≢false (sym failed.0))
failed_by P (Err failure) why failed ends = subst (λ (f : Failure). P (Err f)) (sym failed.1) ends
