use Rattle.std.proofs.Common.{◌≡◌, ◌++◌, List, ℕ, [], ap, ◌∙◌}
use Rattle.pitch_model.proofs.Results.{at_exit}
use Rattle.stream_print.specs.Printing.{FailsBlock}
use Rattle.stream_print.specs.declared.failure.TaskError.{TaskError}
use Rattle.stream_print.specs.declared.failure.TaskError.TheVariants.{Write}
use Rattle.stream_print.specs.declared.stream_form.StreamForm.TheVariants as form
use Rattle.stream_print.specs.declared.task.Task.TheVariants.{Relay}
use Rattle.stream_print.proofs.Streaming.{prints_text, puts_text}
use Rattle.stream_print.proofs.Unprinted.{relay_fails}
use Rattle.stream_print.proofs.task.print_relayed.Goals as goal

-- what is appended to nothing are the bytes of the block's datagrams
all_bytes : (made none more : List ℕ) → made ≡ none ++ more → none ≡ [] → made ≡ more
all_bytes made none more sends empty = sends ∙ ap (λ (bytes : List ℕ). bytes ++ more) empty

pub returns-in_err-hear-clause-err : goal.returns-in_err-hear-clause-err
returns-in_err-hear-clause-err g c =
    let w = g.O.Sink.written c.args.out.now in
    at_exit (λ (e : TaskError). FailsBlock e (Relay c.args.relays.now) c.args.number w c.args.page.now.text w c.args.block.now) c.from_residual.result _ c.from_residual.ensures
    (relay_fails c.args.relays.now c.args.number c.args.block.now _ w c.args.page.now.text c.in_err-hear.ensures.many)

pub returns-in_err-print_bytes-clause-err : goal.returns-in_err-print_bytes-clause-err
returns-in_err-print_bytes-clause-err g c =
    let w = g.O.Sink.written c.args.out.now in
    let z = g.O.Sink.written c.print_bytes.new.out in
    let block = c.args.block.now in
    at_exit (λ (e : TaskError). FailsBlock e (Relay c.args.relays.now) c.args.number w c.args.page.now.text z block) c.from_residual-in_err-print_bytes.result Write c.from_residual-in_err-print_bytes.ensures
    (λ before knows is. puts_text (form.Relay c.args.relays.now.limit) before block w z c.args.page.now.text c.deref.result.now c.in_err-print_bytes.ensures.err
    (λ V venue. c.deref.ensures.value ∙ all_bytes c.hear.new.out.items c.new-datagrams.result.items _ (c.in_ok-hear.ensures.sends before V knows venue) c.new-datagrams.ensures.items))

pub returns-clause-prints : goal.returns-clause-prints
returns-clause-prints g c =
    let w = g.O.Sink.written c.args.out.now in
    let z = g.O.Sink.written c.print_bytes.new.out in
    let block = c.args.block.now in
    record {
      form_is = ap form.Relay c.hear.ensures.limit;
      known = λ before knows. c.in_ok-hear.ensures.heard before knows;
      printed = λ before knows is.
          prints_text (form.Relay c.args.relays.now.limit) before block w z c.args.page.now.text c.print_bytes.new.self.text c.deref.result.now c.in_ok-print_bytes.ensures.printed
          (λ V venue. c.deref.ensures.value ∙ all_bytes c.hear.new.out.items c.new-datagrams.result.items _ (c.in_ok-hear.ensures.sends before V knows venue) c.new-datagrams.ensures.items);
    }
