use Rattle.std.proofs.Common.{◌++◌, List, ℕ, [], sym, ap, subst}
use Rattle.pitch_model.proofs.Results.{on_err}
use Rattle.stream_print.specs.Page.{Page, Prints}
use Rattle.stream_print.specs.Putting.{PutsSome}
use Rattle.stream_print.proofs.Printing.{prints_added, prints_flushed, prints_written, prints_more, puts_longer, puts_then}
use Rattle.stream_print.proofs.page.Page.print_bytes.Goals as goal

pub returns-in_err-flush-clause-err : goal.returns-in_err-flush-clause-err
returns-in_err-flush-clause-err g c =
    let w = g.O.Sink.written c.args.out.now in
    let v = g.O.Sink.written c.flush.new.out in
    on_err (PutsSome w v (c.args.self.now.text ++ c.args.bytes.now)) _ (puts_longer w v c.args.self.now.text c.args.bytes.now c.in_err-flush.ensures.err)

pub returns-in_err-put_all-clause-err : goal.returns-in_err-put_all-clause-err
returns-in_err-put_all-clause-err g c =
    let w = g.O.Sink.written c.args.out.now in
    let v = g.O.Sink.written c.flush.new.out in
    let z = g.O.Sink.written c.put_all.new.out in
    let t = c.args.self.now.text in
    on_err (PutsSome w z (t ++ c.args.bytes.now)) _ (puts_then w v z t [] [] c.args.bytes.now (prints_flushed w v t c.in_ok-flush.ensures.ok) c.in_err-put_all.ensures.err)

pub returns-then-len-self-clause-printed : goal.returns-then-len-self-clause-printed
returns-then-len-self-clause-printed g c =
    let w = g.O.Sink.written c.args.out.now in
    let v = g.O.Sink.written c.flush.new.out in
    let z = g.O.Sink.written c.put_all.new.out in
    let t = c.args.self.now.text in
    subst (λ (u : List ℕ). Prints w t z u c.args.bytes.now) (sym (ap (λ (p : Page). p.text) c.in_ok-flush.ensures.empty))
    (prints_more w v z t [] [] [] c.args.bytes.now (prints_flushed w v t c.in_ok-flush.ensures.ok) (prints_written v z c.args.bytes.now c.in_ok-put_all.ensures.ok))

pub returns-clause-printed : goal.returns-clause-printed
returns-clause-printed g c = prints_added (g.O.Sink.written c.args.out.now) c.args.self.now.text c.add_bytes.new.self.text c.args.bytes.now (ap (λ (p : Page). p.text) c.add_bytes.ensures)
