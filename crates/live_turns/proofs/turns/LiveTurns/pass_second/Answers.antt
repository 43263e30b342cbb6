use Rattle.std.proofs.Common.{rules, ◌≡◌, ℕ, ◌++◌, Bool, List, ◌∷◌, drop, take, length, length-set, sym, ap, ◌∙◌, subst, arith, Some, slice_get}
use Rattle.std.proofs.Math.Seq.{take-append_seam}
use Rattle.std.proofs.lemmas.Option.{slice_get_within, slice_get-get_or}
use Rattle.live_net.specs.LiveCalls.{LiveCall, Wait}
use Rattle.live_net.specs.declared.live.WaitEnd.TheVariants as wait_end
use Rattle.live_turns.specs.Turning.{KnowEach, Knows}
use Rattle.live_turns.specs.declared.retry.Retry.{Retry}
use Rattle.live_turns.proofs.Standing.{done_more, left_more}
use Rattle.live_turns.proofs.turns.LiveTurns.pass_second.Goals as goal

pub loop-retry-preserved : goal.loop-retry-preserved
loop-retry-preserved c =
    let items : List Retry = c.loop-retry.retry-items in
    let index : ℕ = c.loop-retry.retry-index in
    record {
      many = length-set items index c.second.result ∙ c.loop-retry.invariant.many;
      done = done_more items index c.second.result (λ (peer : ℕ) (r : Retry). (run : List LiveCall) (more : Bool) → KnowEach run c.args.self.now → Knows peer (Wait more wait_end.Second ∷ run) r)
          (λ run more knows. c.second.ensures index run more (knows index _ (c.loop-retry.invariant.left index _ (omega arith) (slice_get-get_or items index _ (omega arith))))) c.loop-retry.invariant.done;
      left = left_more items index c.second.result c.args.self.now.retries.items c.loop-retry.invariant.left;
    }

pub returns-clause-each : goal.returns-clause-each
returns-clause-each c = λ run more knows peer r has.
    let items : List Retry = c.loop-retry.retry-items in
    let old : List Retry = c.args.self.now.retries.items in
    let len : c.args.self.now.retries.len ≡ length old = search rules in
    let all : take c.args.self.now.retries.len (items ++ drop (length items) old) ≡ items = ap (λ (n : ℕ). take n (items ++ drop (length items) old)) (len ∙ sym c.loop-retry.invariant.many) ∙ take-append_seam items (drop (length items) old) in
    let there : slice_get items peer ≡ Some r = subst (λ (xs : List Retry). slice_get xs peer ≡ Some r) all has in
    let within = slice_get_within items peer r there in
    c.loop-retry.invariant.done peer r (omega arith) there run more knows
