use Rattle.std.proofs.Common.{◌≡◌, ◌-◌, ℕ, List, length, take, drop, refl, ap, ◌∙◌, arith}
use Rattle.std.proofs.lemmas.List.{take_rest, take_all, length-drop}
use Rattle.pitch_io.specs.Nets.{Put}
use Rattle.pitch_io.specs.declared.sink.Put.TheVariants as puts
use Rattle.net_edge.specs.Acting.{end_puts}
use Rattle.net_edge.proofs.Runs.{play_call, put_may, put_none, put_next}
use Rattle.net_edge.proofs.Breaking.{breaks_by}
use Rattle.net_edge.proofs.putting.put_whole.Goals as goal

pub puts-init : goal.puts-init
puts-init g c = record {
  within = omega arith;
  plays = λ s base now waits plays. rw put_none plays;
  still = refl;
}

pub puts-preserved : goal.puts-preserved
puts-preserved g c =
    let bytes : List ℕ = c.args.bytes.now in
    let count : ℕ = c.in-Wrote.count in
    let piece : List ℕ = take (length bytes - c.puts.done) (drop c.puts.done bytes) in
    let whole : piece ≡ drop c.puts.done bytes = take_rest bytes c.puts.done in
    record {
      within = omega (arith, c.in-Wrote.ensures.count.1, ap (λ (x : List ℕ). length x) whole, length-drop c.puts.done bytes, c.puts.invariant.within);
      plays = λ s base now waits plays.
          rw (put_next c.args.at bytes piece c.puts.done count now whole) at (play_call s base _ _ (end_puts c.args.at (take c.puts.done bytes) now) (Put c.args.at piece (puts.Wrote count)) c.in-Wrote.ensures.calls (λ f. f) (put_may c.args.at bytes piece c.puts.done now waits c.puts.invariant.within whole) (c.puts.invariant.plays s base now waits plays));
      still = c.in-Wrote.ensures.still (λ f. f) ∙ c.puts.invariant.still;
    }

pub returns-clause-put : goal.returns-clause-put
returns-clause-put g c = λ s base now waits plays. rw (take_all c.puts.done c.args.bytes.now (omega arith)) at (c.puts.invariant.plays s base now waits plays)

pub returns-in-Failed-clause-broke : goal.returns-in-Failed-clause-broke
returns-in-Failed-clause-broke g c =
    let bytes : List ℕ = c.args.bytes.now in
    let piece : List ℕ = take (length bytes - c.puts.done) (drop c.puts.done bytes) in
    let whole : piece ≡ drop c.puts.done bytes = take_rest bytes c.puts.done in
    λ s base now waits plays. breaks_by s base _ _ (end_puts c.args.at (take c.puts.done bytes) now) (Put c.args.at piece puts.Failed) c.in-Failed.ensures.calls tt (put_may c.args.at bytes piece c.puts.done now waits c.puts.invariant.within whole) (c.puts.invariant.plays s base now waits plays)
