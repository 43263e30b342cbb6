use Rattle.std.proofs.Common.{rules, ◌≤◌, ◌+◌, ◌-◌, ◌++◌, min, ℕ, length, take, sym, ap, ◌∙◌, arith, length-append, length-take}
use Rattle.stream_print.specs.Page.{Page}
use Rattle.stream_print.specs.declared.failure.StreamFailure.TheVariants.{Write}
use Rattle.stream_print.specs.Knowing.{task_form}
use Rattle.stream_print.specs.Inputs.{stream_limit}
use Rattle.stream_print.proofs.Keeping.{feeds_unprinted, fed_kept, kept_fails, kept_unflushed, kept_faulty, kept_long, kept_all}
use Rattle.stream_print.proofs.stream.feed.Goals as goal

pub returns-in_err-print_piece-clause-feeds : goal.returns-in_err-print_piece-clause-feeds
returns-in_err-print_piece-clause-feeds g c = λ carrier first now start bytes size fed read.
    feeds_unprinted carrier (task_form c.args.printer.now.task) stream_limit c.from_residual.result first now start (g.O.Sink.written c.print_piece.new.out) c.print_piece.new.printer c.print_piece.new.self _ _ c.from_residual.ensures
    (kept_fails c.min-kept.result carrier c.args.printer.now _ stream_limit first now start (g.O.Sink.written c.args.out.now) (g.O.Sink.written c.print_piece.new.out) c.args.reader.now bytes c.args.piece.now
    (omega (arith, c.min-kept.ensures, c.requires.within, size)) fed read c.in_err-print_piece.ensures.err)

pub returns-in_err-flush-clause-feeds : goal.returns-in_err-flush-clause-feeds
returns-in_err-flush-clause-feeds g c = λ carrier first now start bytes size fed read.
    feeds_unprinted carrier (task_form c.args.printer.now.task) stream_limit c.from_residual-in_err-flush.result first now start (g.O.Sink.written c.flush.new.out) _ c.print_piece.new.self _ Write c.from_residual-in_err-flush.ensures
    (kept_unflushed c.min-kept.result carrier c.args.printer.now c.print_piece.new.printer first now start (g.O.Sink.written c.args.out.now) (g.O.Sink.written c.print_piece.new.out) (g.O.Sink.written c.flush.new.out)
    c.args.reader.now c.print_piece.new.self bytes c.args.piece.now fed c.in_ok-print_piece.ensures.prints read c.in_err-flush.ensures.err)

pub returns-in-Some-clause-feeds : goal.returns-in-Some-clause-feeds
returns-in-Some-clause-feeds g c = λ carrier first now start bytes size fed read.
    let small : c.min-kept.result + length bytes ≤ 1073741824 = omega (arith, c.min-kept.ensures, c.requires.within, size) in
    let kept = fed_kept c.min-kept.result carrier c.args.printer.now c.print_piece.new.printer _ start (g.O.Sink.written c.args.out.now) (g.O.Sink.written c.print_piece.new.out) (g.O.Sink.written c.flush.new.out)
    c.args.reader.now c.print_piece.new.self bytes c.args.piece.now fed c.in_ok-print_piece.ensures.prints c.in_ok-flush.ensures.ok
    (ap (λ (page : Page). record c.print_piece.new.printer { page = page }) c.in_ok-flush.ensures.empty) in
    let part = take c.min-kept.result c.args.piece.now in
    kept_faulty c.min-kept.result carrier (task_form c.args.printer.now.task) _ first now start (g.O.Sink.written c.flush.new.out)
    c.print_piece.new.self bytes c.args.piece.now c.in-Some.trouble small kept read
    (sym (c.lasting_trouble.ensures carrier (bytes ++ part) (omega (arith, small, length-append bytes part, length-take c.min-kept.result c.args.piece.now)) kept.read) ∙ c.in-Some.is)

pub returns-then-kept-piece-clause-feeds : goal.returns-then-kept-piece-clause-feeds
returns-then-kept-piece-clause-feeds g c = λ carrier first now start bytes size fed read.
    let small : c.min-kept.result + length bytes ≤ 1073741824 = omega (arith, c.min-kept.ensures, c.requires.within, size) in
    let kept = fed_kept c.min-kept.result carrier c.args.printer.now c.print_piece.new.printer _ start (g.O.Sink.written c.args.out.now) (g.O.Sink.written c.print_piece.new.out) (g.O.Sink.written c.flush.new.out)
    c.args.reader.now c.print_piece.new.self bytes c.args.piece.now fed c.in_ok-print_piece.ensures.prints c.in_ok-flush.ensures.ok
    (ap (λ (page : Page). record c.print_piece.new.printer { page = page }) c.in_ok-flush.ensures.empty) in
    let part = take c.min-kept.result c.args.piece.now in
    kept_long carrier (task_form c.args.printer.now.task) _ first now start (g.O.Sink.written c.flush.new.out)
    c.print_piece.new.self bytes c.args.piece.now c.min-kept.result (omega (arith, size, c.requires.within))
    (c.min-kept.ensures ∙ ap (λ (n : ℕ). min (length c.args.piece.now) (1073741824 - n)) (sym size)) (search rules) kept read
    (sym (c.lasting_trouble.ensures carrier (bytes ++ part) (omega (arith, small, length-append bytes part, length-take c.min-kept.result c.args.piece.now)) kept.read) ∙ c.in-None.is)

pub returns-clause-feeds : goal.returns-clause-feeds
returns-clause-feeds g c = λ carrier first now start bytes size fed read.
    let small : c.min-kept.result + length bytes ≤ 1073741824 = omega (arith, c.min-kept.ensures, c.requires.within, size) in
    let kept = fed_kept c.min-kept.result carrier c.args.printer.now c.print_piece.new.printer _ start (g.O.Sink.written c.args.out.now) (g.O.Sink.written c.print_piece.new.out) (g.O.Sink.written c.flush.new.out)
    c.args.reader.now c.print_piece.new.self bytes c.args.piece.now fed c.in_ok-print_piece.ensures.prints c.in_ok-flush.ensures.ok
    (ap (λ (page : Page). record c.print_piece.new.printer { page = page }) c.in_ok-flush.ensures.empty) in
    let part = take c.min-kept.result c.args.piece.now in
    let all : length c.args.piece.now ≤ c.min-kept.result = search rules in
    let whole = kept_all c.min-kept.result carrier (task_form c.args.printer.now.task) _ start (g.O.Sink.written c.flush.new.out) c.print_piece.new.self bytes c.args.piece.now all kept
    (sym (c.lasting_trouble.ensures carrier (bytes ++ part) (omega (arith, small, length-append bytes part, length-take c.min-kept.result c.args.piece.now)) kept.read) ∙ c.in-None.is) in
    (whole.0, whole.1, omega (arith, all, small, length-append bytes c.args.piece.now))
