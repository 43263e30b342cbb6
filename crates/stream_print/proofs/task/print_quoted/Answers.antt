use Rattle.std.proofs.Common.{◌≡◌, ◌++◌, ℕ, List, [], ap, ◌∙◌}
use Rattle.std.specs.List.{flat_map}
use Rattle.pitch_model.proofs.Results.{at_exit}
use Rattle.unit_packets.specs.Blocks.{Block}
use Rattle.unit_packets.specs.declared.header.Header.{Header}
use Rattle.pitch_model.specs.History.{Raw}
use Rattle.heard_items.specs.Units.{unit_history}
use Rattle.best_quotes.specs.Quoting.{quotes_of_block}
use Rattle.best_quotes.specs.QuotesText.{quote_line}
use Rattle.best_quotes.specs.declared.quote.QuoteLine.{QuoteLine}
use Rattle.stream_print.specs.Printing.{FailsBlock}
use Rattle.stream_print.specs.declared.failure.TaskError.{TaskError}
use Rattle.stream_print.specs.declared.failure.TaskError.TheVariants.{Write, OutOfMemory}
use Rattle.stream_print.specs.declared.stream_form.StreamForm.TheVariants as form
use Rattle.stream_print.specs.declared.task.Task.TheVariants.{Quotes}
use Rattle.stream_print.proofs.Streaming.{prints_text, puts_text, puts_page, puts_nothing}
use Rattle.stream_print.proofs.task.print_quoted.Goals as goal

-- the lines of what was told are those of the block
quotes_are : (H : ℕ) (unit : ℕ) (block : Block) (before : List Block) (V : List Raw) (told made none : List QuoteLine) → unit ≡ block.unit → told ≡ made → made ≡ none ++ quotes_of_block H V (unit_history block.unit before) block → none ≡ []
    → flat_map (quote_line unit) told ≡ flat_map (quote_line block.unit) (quotes_of_block H V (unit_history block.unit before) block)
quotes_are H unit block before V told made none named is heard empty =
    ap (λ (u : ℕ). flat_map (quote_line u) told) named
    ∙ ap (flat_map (quote_line block.unit)) (is ∙ heard ∙ ap (λ (l : List QuoteLine). l ++ quotes_of_block H V (unit_history block.unit before) block) empty)

pub returns-in_err-hear-clause-err : goal.returns-in_err-hear-clause-err
returns-in_err-hear-clause-err g c =
    let w = g.O.Sink.written c.args.out.now in
    at_exit (λ (e : TaskError). FailsBlock e (Quotes c.args.units.now) c.args.number w c.args.page.now.text w c.args.block.now) c.from_residual.result OutOfMemory c.from_residual.ensures
    (λ before knows is. puts_page (form.Quotes c.args.units.now.limit) before c.args.block.now w w c.args.page.now.text (puts_nothing w c.args.page.now.text))

pub returns-in_err-print_quotes-clause-err : goal.returns-in_err-print_quotes-clause-err
returns-in_err-print_quotes-clause-err g c =
    let w = g.O.Sink.written c.args.out.now in
    let z = g.O.Sink.written c.print_quotes.new.out in
    let block = c.args.block.now in
    at_exit (λ (e : TaskError). FailsBlock e (Quotes c.args.units.now) c.args.number w c.args.page.now.text z block) c.from_residual-in_err-print_quotes.result Write c.from_residual-in_err-print_quotes.ensures
    (λ before knows is. puts_text (form.Quotes c.args.units.now.limit) before block w z c.args.page.now.text (flat_map (quote_line c.header-unit.result.unit) c.as_slice.result.now) c.in_err-print_quotes.ensures.err
    (λ Image V honest. quotes_are c.args.units.now.limit c.header-unit.result.unit block before V c.as_slice.result.now c.hear.new.lines.items c.make-lines.result.items
    (ap (λ (h : Header). h.unit) c.header-unit.ensures) c.as_slice.ensures (c.in_ok-hear.ensures.quotes before Image V knows honest) c.make-lines.ensures))

pub returns-clause-prints : goal.returns-clause-prints
returns-clause-prints g c =
    let w = g.O.Sink.written c.args.out.now in
    let z = g.O.Sink.written c.print_quotes.new.out in
    let block = c.args.block.now in
    record {
      form_is = ap form.Quotes c.hear.ensures.limit;
      known = λ before knows. c.in_ok-hear.ensures.heard before knows;
      printed = λ before knows is.
          prints_text (form.Quotes c.args.units.now.limit) before block w z c.args.page.now.text c.print_quotes.new.page.text (flat_map (quote_line c.header-unit.result.unit) c.as_slice.result.now) c.in_ok-print_quotes.ensures.printed
          (λ Image V honest. quotes_are c.args.units.now.limit c.header-unit.result.unit block before V c.as_slice.result.now c.hear.new.lines.items c.make-lines.result.items
          (ap (λ (h : Header). h.unit) c.header-unit.ensures) c.as_slice.ensures (c.in_ok-hear.ensures.quotes before Image V knows honest) c.make-lines.ensures);
    }
