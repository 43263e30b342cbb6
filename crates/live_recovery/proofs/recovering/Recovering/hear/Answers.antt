use Rattle.std.proofs.Common.{[], refl}
use Rattle.pitch_model.proofs.Results.{at_exit}
use Rattle.stream_print.proofs.Printing.{puts_so_far}
use Rattle.live_units.specs.Coming.{live_lines, with_datagram}
use Rattle.live_recovery.specs.declared.error.RecoverError.{RecoverError}
use Rattle.live_recovery.specs.declared.error.RecoverError.TheVariants as errors
use Rattle.live_recovery.specs.declared.recovering.Recovering.{Recovering}
use Rattle.live_units.proofs.Growing.{grown_none}
use Rattle.live_recovery.proofs.Ending.{FailsAt, fails_at, leaves_prefix, puts_printed, puts_still}
use Rattle.live_recovery.proofs.recovering.Recovering.hear.Goals as goal

pub returns-in_err-disagreement-clause-err : goal.returns-in_err-disagreement-clause-err
returns-in_err-disagreement-clause-err g c =
    let s = c.args.setup.now.listens in
    let r : Recovering = c.args.self.now in
    let w = g.O.Sink.written c.args.out.now in
    let bytes = c.args.datagram.now in
    at_exit (λ (e : RecoverError). FailsAt e r s w w bytes) _ errors.OutOfMemory c.from_residual.ensures
    (fails_at errors.OutOfMemory r s w w bytes tt (λ start came st. puts_still r.units w w bytes (puts_printed r.units w) s start came st))

pub returns-in_err-flush-clause-err : goal.returns-in_err-flush-clause-err
returns-in_err-flush-clause-err g c =
    let s = c.args.setup.now.listens in
    let r : Recovering = c.args.self.now in
    let w = g.O.Sink.written c.args.out.now in
    let z = g.O.Sink.written c.flush.new.out in
    let bytes = c.args.datagram.now in
    at_exit (λ (e : RecoverError). FailsAt e r s w z bytes) _ errors.Write c.from_residual-in_err-flush.ensures
    (fails_at errors.Write r s w z bytes tt (λ start came st. puts_still r.units w z bytes c.in_err-flush.ensures.err s start came st))

pub returns-in_err-passed-clause-err : goal.returns-in_err-passed-clause-err
returns-in_err-passed-clause-err g c =
    let s = c.args.setup.now.listens in
    let r : Recovering = c.args.self.now in
    let w = g.O.Sink.written c.args.out.now in
    let z = g.O.Sink.written c.hear_datagram.new.out in
    let bytes = c.args.datagram.now in
    at_exit (λ (e : RecoverError). FailsAt e r s w z bytes) _ _ c.from_residual-in_err-passed.ensures
    (fails_at _ r s w z bytes (leaves_prefix c.in_err-passed.field-0.0) (λ start came st. c.in_err-passed.ensures.err s start came st))

pub returns-in_err-self-clause-err : goal.returns-in_err-self-clause-err
returns-in_err-self-clause-err g c =
    let s = c.args.setup.now.listens in
    let r : Recovering = c.args.self.now in
    let w = g.O.Sink.written c.args.out.now in
    let z = g.O.Sink.written c.hear_datagram.new.out in
    let bytes = c.args.datagram.now in
    at_exit (λ (e : RecoverError). FailsAt e r s w z bytes) _ errors.OutOfMemory c.from_residual-in_err-self.ensures
    (fails_at errors.OutOfMemory r s w z bytes tt
    (λ start came st. puts_so_far start z [] c.hear_datagram.new.self.page.text (live_lines s (with_datagram s bytes came)) (c.in_ok-passed.ensures.hears s start came st).printed))

pub returns-clause-hears : goal.returns-clause-hears
returns-clause-hears g c = record {
  units = c.in_ok-passed.ensures.hears;
  waits = c.in_ok-passed.ensures.waits;
  counts = λ s start came st. c.in_ok-self.ensures s (c.in_ok-passed.ensures.counts s start came st);
  turns = refl;
}

pub returns-in_err-disagreement-clause-grows : goal.returns-in_err-disagreement-clause-grows
returns-in_err-disagreement-clause-grows g c = λ s start came st. grown_none (g.O.Sink.written c.args.out.now)
