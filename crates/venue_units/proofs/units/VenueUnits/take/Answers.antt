use Rattle.std.proofs.Common.{◌≡◌, ◌++◌, false}
use Rattle.std.specs.List.{AllByRecursion}
use Rattle.std.specs.Result.{IsOk}
use Rattle.unit_packets.specs.Packing.{bytes_in}
use Rattle.heard_items.specs.Datagrams.{IsPiece}
use Rattle.venue_end.specs.Came.{on_gap_line, venue_after}
use Rattle.venue_units.specs.Places.{cut_at, has_in, took_at, unit_of}
use Rattle.venue_units.proofs.Routing.{err_comes, ok_comes, ok_of}
use Rattle.venue_units.proofs.Standing.{comes_nowhere, not_none, of_none, seen_there}
use Rattle.venue_units.proofs.units.VenueUnits.take.Goals as goal

pub returns-in-None-clause-stands : goal.returns-in-None-clause-stands
returns-in-None-clause-stands c = comes_nowhere c.args.self.now c.unit_of.result (unit_of c.args.place) c.unit_of.ensures c.in-None.ensures.item.3 (took_at c.args.place c.args.piece.now)

pub returns-in-None-clause-lines : goal.returns-in-None-clause-lines
returns-in-None-clause-lines c = of_none c.args.self.now c.unit_of.result (unit_of c.args.place) c.unit_of.ensures c.in-None.ensures.item.3
    (λ s before. bytes_in c.args.gap_line.now.items ≡ bytes_in c.args.gap_line.now.items ++ on_gap_line s (took_at c.args.place c.args.piece.now) (venue_after s before))

pub returns-in-None-clause-pieces : goal.returns-in-None-clause-pieces
returns-in-None-clause-pieces c = of_none c.args.self.now c.unit_of.result (unit_of c.args.place) c.unit_of.ensures c.in-None.ensures.item.3
    (λ s before. AllByRecursion (IsPiece (venue_after s before).messages s.unit) (on_gap_line s (took_at c.args.place c.args.piece.now) (venue_after s before)))

pub returns-in-Some-clause-stands : goal.returns-in-Some-clause-stands
returns-in-Some-clause-stands c = ok_comes c.args.self.now c.unit_of.result (unit_of c.args.place) c.unit_of.ensures c.in-Some.end.now c.in-Some.ensures.item.3.0 c.in-Some.ensures.value c.take_at.result c.take_at.new.end (took_at c.args.place c.args.piece.now) c.take_at.ensures.stands

pub returns-in-Some-clause-lines : goal.returns-in-Some-clause-lines
returns-in-Some-clause-lines c = ok_of c.args.self.now c.unit_of.result (unit_of c.args.place) c.unit_of.ensures c.in-Some.end.now c.in-Some.ensures.item.3.0 c.in-Some.ensures.value c.take_at.result
    (λ s before. bytes_in c.take_at.new.gap_line.items ≡ bytes_in c.args.gap_line.now.items ++ on_gap_line s (took_at c.args.place c.args.piece.now) (venue_after s before)) c.take_at.ensures.lines

pub returns-in-Some-clause-pieces : goal.returns-in-Some-clause-pieces
returns-in-Some-clause-pieces c = ok_of c.args.self.now c.unit_of.result (unit_of c.args.place) c.unit_of.ensures c.in-Some.end.now c.in-Some.ensures.item.3.0 c.in-Some.ensures.value c.take_at.result
    (λ s before. AllByRecursion (IsPiece (venue_after s before).messages s.unit) (on_gap_line s (took_at c.args.place c.args.piece.now) (venue_after s before))) c.take_at.ensures.pieces

pub returns-in-Some-clause-err : goal.returns-in-Some-clause-err
returns-in-Some-clause-err c = err_comes c.args.self.now c.unit_of.result (unit_of c.args.place) c.unit_of.ensures c.in-Some.end.now c.in-Some.ensures.item.3.0 c.in-Some.ensures.value c.take_at.result c.take_at.new.end (cut_at c.args.place) c.take_at.ensures.err

pub returns-in-Some-clause-none : goal.returns-in-Some-clause-none
returns-in-Some-clause-none c = seen_there c.args.self.now c.unit_of.result (unit_of c.args.place) c.unit_of.ensures c.in-Some.end.now c.in-Some.ensures.item.3.0 c.in-Some.ensures.value false (λ s now. has_in c.args.place now) (λ b. b ≡ false → IsOk c.take_at.result) c.take_at.ensures.none

pub returns-in-Some-clause-no_unit : goal.returns-in-Some-clause-no_unit
returns-in-Some-clause-no_unit c = not_none c.args.self.now c.unit_of.result (unit_of c.args.place) c.unit_of.ensures c.in-Some.end.now c.in-Some.ensures.item.3.0 c.in-Some.ensures.value (c.take_at.new.gap_line.items ≡ c.args.gap_line.now.items)
