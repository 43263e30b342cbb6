use Rattle.std.proofs.Common.{List, ℕ, [], sym, ap, subst}
use Rattle.stream_print.specs.Page.{Page, Prints}
use Rattle.stream_print.proofs.Printing.{prints_flushed}
use Rattle.stream_print.proofs.page.Page.make_place.Goals as goal

pub returns-in_ok-flush-clause-ok : goal.returns-in_ok-flush-clause-ok
returns-in_ok-flush-clause-ok g c =
    subst (λ (t : List ℕ). Prints (g.O.Sink.written c.args.out.now) c.args.self.now.text (g.O.Sink.written c.flush.new.out) t [])
    (sym (ap (λ (p : Page). p.text) c.in_ok-flush.ensures.empty))
    (prints_flushed (g.O.Sink.written c.args.out.now) (g.O.Sink.written c.flush.new.out) c.args.self.now.text c.in_ok-flush.ensures.ok)
