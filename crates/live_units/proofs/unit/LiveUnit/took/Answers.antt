use Rattle.std.proofs.Common.{◌∷◌, ◌++◌, ℕ, List, refl, sym, subst}
use Rattle.client_end.specs.Came.{Came, end_history}
use Rattle.stream_print.specs.Page.{Prints}
use Rattle.stream_print.specs.Putting.{PutsSome}
use Rattle.live_units.specs.declared.unit.LiveUnit.{LiveUnit}
use Rattle.live_units.proofs.Passing.{comes_so, not_taken, takes_untold, taken_text}
use Rattle.live_units.proofs.unit.LiveUnit.took.Goals as goal

pub returns-in_err-print_moved-clause-takes : goal.returns-in_err-print_moved-clause-takes
returns-in_err-print_moved-clause-takes g c =
    let u : LiveUnit = c.args.self.now in
    let u' : LiveUnit = c.take-taken.new.self in
    let w = g.O.Sink.written c.args.out.now in
    let v = g.O.Sink.written c.print_moved.new.out in
    let t = c.args.page.now.text in
    let taken = c.take-taken.result in
    let came : Came = c.take-taken.ensures.takes.0 in
    let is_taken = c.take-taken.ensures.takes.1.0 in
    let passes = c.take-taken.ensures.takes.1.1 in
    let comes = comes_so u u' came (not_taken taken c.args.session c.args.piece.now came is_taken) passes (c.take-taken.ensures.unit, (c.take-taken.ensures.has_block, c.take-taken.ensures.first_end)) in
    takes_untold u u' c.args.session c.args.piece.now c.from_residual.result w v t c.print_moved.new.page.text taken came c.from_residual.ensures.0 is_taken passes (c.take-taken.ensures.unit, (c.take-taken.ensures.has_block, c.take-taken.ensures.first_end))
    (λ s before is k. subst (λ (x : List ℕ). PutsSome w v (t ++ x)) (sym (taken_text taken c.args.session c.args.piece.now came is_taken s k before))
    (c.in_err-print_moved.ensures.err s (came ∷ before) (comes s before is) (end_history s before) (c.reach-before.ensures s before is.end_is)))

pub returns-clause-takes : goal.returns-clause-takes
returns-clause-takes g c =
    let u : LiveUnit = c.args.self.now in
    let u' : LiveUnit = c.take-taken.new.self in
    let w = g.O.Sink.written c.args.out.now in
    let v = g.O.Sink.written c.print_moved.new.out in
    let t = c.args.page.now.text in
    let taken = c.take-taken.result in
    let came : Came = c.take-taken.ensures.takes.0 in
    let is_taken = c.take-taken.ensures.takes.1.0 in
    let passes = c.take-taken.ensures.takes.1.1 in
    let comes = comes_so u u' came (not_taken taken c.args.session c.args.piece.now came is_taken) passes (c.take-taken.ensures.unit, (c.take-taken.ensures.has_block, c.take-taken.ensures.first_end)) in
    record {
      taken = taken;
      came = came;
      is_taken = is_taken;
      answer = refl;
      passes = passes;
      same = (c.take-taken.ensures.unit, (c.take-taken.ensures.has_block, c.take-taken.ensures.first_end));
      prints = λ s before is k. subst (Prints w t v c.print_moved.new.page.text) (sym (taken_text taken c.args.session c.args.piece.now came is_taken s k before))
          (c.in_ok-print_moved.ensures.printed s (came ∷ before) (comes s before is) (end_history s before) (c.reach-before.ensures s before is.end_is));
      fails = tt;
    }
