use Rattle.std.proofs.Common.{◌≡◌, ℕ, Some, slice_get, vec_len}
use Rattle.live_turns.specs.declared.retry.Link.TheVariants.{Down}
use Rattle.live_turns.specs.declared.retry.Retry.{Retry}
use Rattle.live_turns.proofs.turns.LiveTurns.make.Given as goal

abbrev pub invariant-loop : goal.invariant-loop
invariant-loop l = record {
  many : vec_len l.retries ≡ l.counter;
  each : (peer : ℕ) (r : Retry) → slice_get l.retries.items peer ≡ Some r → r ≡ record { link = Down 0; pause = 0 };
}
