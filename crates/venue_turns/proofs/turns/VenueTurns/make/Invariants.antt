use Rattle.std.proofs.Common.{◌≡◌, ℕ, Some, slice_get, vec_len}
use Rattle.venue_turns.specs.declared.link.Link.{Link}
use Rattle.venue_turns.specs.declared.link.Link.TheVariants.{Free}
use Rattle.venue_turns.proofs.turns.VenueTurns.make.Given as goal

abbrev pub invariant-loop : goal.invariant-loop
invariant-loop l = record {
  many : vec_len l.links ≡ l.counter;
  each : (place : ℕ) (kept : Link) → slice_get l.links.items place ≡ Some kept → kept ≡ Free;
}
