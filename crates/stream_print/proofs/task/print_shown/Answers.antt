use Rattle.std.proofs.Common.{◌++◌, List, ℕ, length, ap, ap₂, subst, refl}
use Rattle.pitch_model.proofs.Results.{at_exit}
use Rattle.unit_packets.specs.declared.header.Header.{Header}
use Rattle.feed_lines.specs.Show.{shown_head, message_lines}
use Rattle.stream_print.specs.Page.{Page, Prints}
use Rattle.stream_print.specs.Printing.{FailsBlock}
use Rattle.stream_print.specs.Putting.{PutsSome}
use Rattle.stream_print.specs.declared.failure.TaskError.{TaskError}
use Rattle.stream_print.specs.declared.failure.TaskError.TheVariants.{Write}
use Rattle.stream_print.specs.declared.stream_form.StreamForm.TheVariants as form
use Rattle.stream_print.specs.declared.task.Task.TheVariants.{Show}
use Rattle.stream_print.proofs.Printing.{prints_line, prints_more, puts_then}
use Rattle.stream_print.proofs.Streaming.{prints_text, puts_text, puts_page}
use Rattle.stream_print.proofs.task.print_shown.Goals as goal

-- the head of a block by its header
abbrev head_of : ℕ → Header → List ℕ
head_of number h = shown_head number h.unit h.sequence h.count

pub returns-in_err-make_place-clause-err : goal.returns-in_err-make_place-clause-err
returns-in_err-make_place-clause-err g c =
    let w = g.O.Sink.written c.args.out.now in
    let v = g.O.Sink.written c.make_place.new.out in
    at_exit (λ (e : TaskError). FailsBlock e Show c.args.number w c.args.page.now.text v c.args.block.now) c.from_residual.result Write c.from_residual.ensures
    (λ before knows is. puts_page form.Show before c.args.block.now w v c.args.page.now.text c.in_err-make_place.ensures.err)

pub returns-in_err-print_messages-clause-err : goal.returns-in_err-print_messages-clause-err
returns-in_err-print_messages-clause-err g c =
    let w = g.O.Sink.written c.args.out.now in
    let v = g.O.Sink.written c.make_place.new.out in
    let z = g.O.Sink.written c.print_messages.new.out in
    let block = c.args.block.now in
    let head : List ℕ = head_of c.args.number c.header-header.result in
    let first = prints_line w v c.args.page.now.text c.make_place.new.self.text c.add_shown_head.new.self.text head c.in_ok-make_place.ensures.ok (ap (λ (p : Page). p.text) c.add_shown_head.ensures) in
    let lines : List ℕ = message_lines c.header-header.result.sequence c.raws.result in
    let puts = puts_then w v z c.args.page.now.text c.add_shown_head.new.self.text head lines first c.in_err-print_messages.ensures.err in
    let text : List ℕ = shown_head c.args.number block.unit block.sequence (length block.raws) ++ message_lines block.sequence block.raws in
    at_exit (λ (e : TaskError). FailsBlock e Show c.args.number w c.args.page.now.text z block) c.from_residual-in_err-print_messages.result Write c.from_residual-in_err-print_messages.ensures
    (λ before knows is. puts_text form.Show before block w z c.args.page.now.text text
    (subst (λ (t : List ℕ). PutsSome w z (c.args.page.now.text ++ t))
    (ap₂ ◌++◌ (ap (head_of c.args.number) c.header-header.ensures) (ap₂ message_lines (ap (λ (h : Header). h.sequence) c.header-header.ensures) c.raws.ensures.raws)) puts)
    (ap (λ (n : ℕ). shown_head n block.unit block.sequence (length block.raws) ++ message_lines block.sequence block.raws) is))

pub returns-clause-prints : goal.returns-clause-prints
returns-clause-prints g c =
    let w = g.O.Sink.written c.args.out.now in
    let v = g.O.Sink.written c.make_place.new.out in
    let z = g.O.Sink.written c.print_messages.new.out in
    let block = c.args.block.now in
    let head : List ℕ = head_of c.args.number c.header-header.result in
    let first = prints_line w v c.args.page.now.text c.make_place.new.self.text c.add_shown_head.new.self.text head c.in_ok-make_place.ensures.ok (ap (λ (p : Page). p.text) c.add_shown_head.ensures) in
    let lines : List ℕ = message_lines c.header-header.result.sequence c.raws.result in
    let text : List ℕ = shown_head c.args.number block.unit block.sequence (length block.raws) ++ message_lines block.sequence block.raws in
    record {
      form_is = refl;
      known = λ before knows. tt;
      printed = λ before knows is. prints_text form.Show before block w z c.args.page.now.text c.print_messages.new.page.text text
          (subst (Prints w c.args.page.now.text z c.print_messages.new.page.text)
          (ap₂ ◌++◌ (ap (head_of c.args.number) c.header-header.ensures) (ap₂ message_lines (ap (λ (h : Header). h.sequence) c.header-header.ensures) c.raws.ensures.raws))
          (prints_more w v z c.args.page.now.text c.add_shown_head.new.self.text c.print_messages.new.page.text head lines first c.in_ok-print_messages.ensures.printed))
          (ap (λ (n : ℕ). shown_head n block.unit block.sequence (length block.raws) ++ message_lines block.sequence block.raws) is);
    }
