use Rattle.std.proofs.Common.{rules, ◌≡◌, ℕ, ◌++◌, Bool, List, ◌∷◌, drop, take, length, length-set, sym, ap, ◌∙◌, subst, arith, Some, slice_get}
use Rattle.std.proofs.Math.Seq.{take-append_seam}
use Rattle.std.proofs.lemmas.Option.{slice_get_within, slice_get-get_or}
use Rattle.live_net.specs.declared.live.WaitEnd.TheVariants as wait_end
use Rattle.venue_net.specs.VenueCalls.{VenueCall, Wait}
use Rattle.venue_turns.specs.Turning.{KnowEach, Knows}
use Rattle.venue_turns.specs.declared.link.Link.{Link}
use Rattle.venue_turns.proofs.Standing.{done_more, left_more}
use Rattle.venue_turns.proofs.turns.VenueTurns.pass_second.Goals as goal

pub loop-link-preserved : goal.loop-link-preserved
loop-link-preserved c =
    let items : List Link = c.loop-link.link-items in
    let index : ℕ = c.loop-link.link-index in
    record {
      many = length-set items index c.second.result ∙ c.loop-link.invariant.many;
      done = done_more items index c.second.result (λ (place : ℕ) (kept : Link). (run : List VenueCall) (more : Bool) → KnowEach run c.args.self.now → Knows place (Wait more wait_end.Second ∷ run) kept)
          (λ run more knows. c.second.ensures index run more (knows index _ (c.loop-link.invariant.left index _ (omega arith) (slice_get-get_or items index _ (omega arith))))) c.loop-link.invariant.done;
      left = left_more items index c.second.result c.args.self.now.links.items c.loop-link.invariant.left;
    }

pub returns-clause-each : goal.returns-clause-each
returns-clause-each c = λ run more knows place kept has.
    let items : List Link = c.loop-link.link-items in
    let old : List Link = c.args.self.now.links.items in
    let len : c.args.self.now.links.len ≡ length old = search rules in
    let all : take c.args.self.now.links.len (items ++ drop (length items) old) ≡ items = ap (λ (n : ℕ). take n (items ++ drop (length items) old)) (len ∙ sym c.loop-link.invariant.many) ∙ take-append_seam items (drop (length items) old) in
    let there : slice_get items place ≡ Some kept = subst (λ (xs : List Link). slice_get xs place ≡ Some kept) all has in
    let within = slice_get_within items place kept there in
    c.loop-link.invariant.done place kept (omega arith) there run more knows
