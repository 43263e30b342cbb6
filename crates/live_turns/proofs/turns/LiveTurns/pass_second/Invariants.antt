use Rattle.std.proofs.Common.{◌≡◌, ◌<◌, ◌≤◌, ℕ, Bool, List, ◌∷◌, Some, length, slice_get}
use Rattle.live_net.specs.LiveCalls.{LiveCall, Wait}
use Rattle.live_net.specs.declared.live.WaitEnd.TheVariants as wait_end
use Rattle.live_turns.specs.Turning.{KnowEach, Knows}
use Rattle.live_turns.specs.declared.retry.Retry.{Retry}
use Rattle.live_turns.proofs.turns.LiveTurns.pass_second.Given as goal

abbrev pub invariant-loop-retry : goal.invariant-loop-retry
invariant-loop-retry l = record {
  many : length l.retry-items ≡ length l.fn.self.retries.items;
  done : (peer : ℕ) (r : Retry) → peer < l.retry-index → slice_get l.retry-items peer ≡ Some r → (run : List LiveCall) (more : Bool) → KnowEach run l.fn.self → Knows peer (Wait more wait_end.Second ∷ run) r;
  left : (peer : ℕ) (r : Retry) → l.retry-index ≤ peer → slice_get l.retry-items peer ≡ Some r → slice_get l.fn.self.retries.items peer ≡ Some r;
}
