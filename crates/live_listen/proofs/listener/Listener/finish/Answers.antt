use Rattle.std.proofs.Common.{refl}
use Rattle.std.specs.Prelude.{reverse}
use Rattle.stream_print.specs.declared.failure.PrintError.TheVariants.{Write}
use Rattle.live_listen.specs.Listening.{heard_of}
use Rattle.live_listen.specs.Standing.{devices}
use Rattle.live_listen.proofs.Ending.{known_now, ends_unbooked, ends_unwritten, ends_done, ends_same}
use Rattle.live_listen.proofs.listener.Listener.finish.Goals as goal

pub returns-in_err-print_end-clause-ends : goal.returns-in_err-print_end-clause-ends
returns-in_err-print_end-clause-ends g c = λ s start calls run st over.
    let u = devices calls (g.O.Sink.written c.args.out.now) in
    ends_same s c.from_residual.result _ start.calls calls start.written (g.O.Sink.written c.print_end.new.out) c.from_residual.ensures
    (ends_unbooked s start u c.args.self.now run st (devices calls (g.O.Sink.written c.print_end.new.out)) c.in_err-print_end.field-0.0 refl
    (c.in_err-print_end.ensures.err (reverse (heard_of s run)) (known_now s start u c.args.self.now run st)))

pub returns-in_err-flush-clause-ends : goal.returns-in_err-flush-clause-ends
returns-in_err-flush-clause-ends g c = λ s start calls run st over.
    let u = devices calls (g.O.Sink.written c.args.out.now) in
    ends_same s c.from_residual-in_err-flush.result _ start.calls calls start.written (g.O.Sink.written c.flush.new.out) c.from_residual-in_err-flush.ensures
    (ends_unwritten s start u c.args.self.now run st (g.O.Sink.written c.print_end.new.out) c.print_end.new.self.page.text
    (c.in_ok-print_end.ensures.printed (reverse (heard_of s run)) (known_now s start u c.args.self.now run st))
    (devices calls (g.O.Sink.written c.flush.new.out)) Write refl c.in_err-flush.ensures.err)

pub returns-clause-ends : goal.returns-clause-ends
returns-clause-ends g c = λ s start calls run st over.
    let u = devices calls (g.O.Sink.written c.args.out.now) in
    ends_done s start u c.args.self.now run st (g.O.Sink.written c.print_end.new.out) c.print_end.new.self.page.text
    (c.in_ok-print_end.ensures.printed (reverse (heard_of s run)) (known_now s start u c.args.self.now run st))
    (devices calls (g.O.Sink.written c.flush.new.out)) refl c.in_ok-flush.ensures.ok over
