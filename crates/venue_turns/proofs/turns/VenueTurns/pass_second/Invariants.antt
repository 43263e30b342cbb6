use Rattle.std.proofs.Common.{◌≡◌, ◌<◌, ◌≤◌, ℕ, Bool, List, ◌∷◌, Some, length, slice_get}
use Rattle.live_net.specs.declared.live.WaitEnd.TheVariants as wait_end
use Rattle.venue_net.specs.VenueCalls.{VenueCall, Wait}
use Rattle.venue_turns.specs.Turning.{KnowEach, Knows}
use Rattle.venue_turns.specs.declared.link.Link.{Link}
use Rattle.venue_turns.proofs.turns.VenueTurns.pass_second.Given as goal

abbrev pub invariant-loop-link : goal.invariant-loop-link
invariant-loop-link l = record {
  many : length l.link-items ≡ length l.fn.self.links.items;
  done : (place : ℕ) (kept : Link) → place < l.link-index → slice_get l.link-items place ≡ Some kept → (run : List VenueCall) (more : Bool) → KnowEach run l.fn.self → Knows place (Wait more wait_end.Second ∷ run) kept;
  left : (place : ℕ) (kept : Link) → l.link-index ≤ place → slice_get l.link-items place ≡ Some kept → slice_get l.fn.self.links.items place ≡ Some kept;
}
