use Rattle.live_units.proofs.Books.{no_unit_printed, unit_begun, unit_printed}
use Rattle.live_units.proofs.place.print_at.Goals as goal

pub returns-in-None-clause-printed : goal.returns-in-None-clause-printed
returns-in-None-clause-printed g c = no_unit_printed c.args.place.now (g.O.Sink.written c.args.out.now) (g.O.Sink.written c.args.out.now) c.args.page.now.text c.args.page.now.text c.in-None.is

pub returns-in-Some-clause-printed : goal.returns-in-Some-clause-printed
returns-in-Some-clause-printed g c =
    unit_printed c.args.place.now (g.O.Sink.written c.args.out.now) (g.O.Sink.written c.print_end.new.out) c.args.page.now.text c.print_end.new.page.text _ c.in-Some.is c.print_end.result c.print_end.ensures.printed

pub returns-in-Some-clause-err : goal.returns-in-Some-clause-err
returns-in-Some-clause-err g c =
    unit_begun c.args.place.now (g.O.Sink.written c.args.out.now) (g.O.Sink.written c.print_end.new.out) c.args.page.now.text c.print_end.new.page.text _ c.in-Some.is c.print_end.result c.print_end.ensures.err
