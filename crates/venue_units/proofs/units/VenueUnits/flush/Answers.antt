use Rattle.std.proofs.Common.{◌≡◌, ◌++◌, refl, Ok}
use Rattle.std.specs.List.{AllByRecursion}
use Rattle.unit_packets.specs.Packing.{bytes_in}
use Rattle.heard_items.specs.Datagrams.{IsPiece}
use Rattle.venue_end.specs.Came.{Flushed, on_lines, venue_after}
use Rattle.venue_units.proofs.Routing.{err_still, ok_comes, ok_of}
use Rattle.venue_units.proofs.Standing.{comes_nowhere, not_none, of_none}
use Rattle.venue_units.proofs.units.VenueUnits.flush.Goals as goal

pub returns-in-None-clause-stands : goal.returns-in-None-clause-stands
returns-in-None-clause-stands c = comes_nowhere c.args.self.now c.args.at c.args.at refl c.in-None.ensures.item.3 Flushed

pub returns-in-None-clause-lines : goal.returns-in-None-clause-lines
returns-in-None-clause-lines c = of_none c.args.self.now c.args.at c.args.at refl c.in-None.ensures.item.3 (λ s before. bytes_in c.args.lines.now.items ≡ bytes_in c.args.lines.now.items ++ on_lines s Flushed (venue_after s before))

pub returns-in-None-clause-pieces : goal.returns-in-None-clause-pieces
returns-in-None-clause-pieces c = of_none c.args.self.now c.args.at c.args.at refl c.in-None.ensures.item.3 (λ s before. AllByRecursion (IsPiece (venue_after s before).messages s.unit) (on_lines s Flushed (venue_after s before)))

pub returns-in-Some-clause-stands : goal.returns-in-Some-clause-stands
returns-in-Some-clause-stands c = ok_comes c.args.self.now c.args.at c.args.at refl c.in-Some.end.now c.in-Some.ensures.item.3.0 c.in-Some.ensures.value c.flush.result c.flush.new.self Flushed c.flush.ensures.stands

pub returns-in-Some-clause-lines : goal.returns-in-Some-clause-lines
returns-in-Some-clause-lines c = ok_of c.args.self.now c.args.at c.args.at refl c.in-Some.end.now c.in-Some.ensures.item.3.0 c.in-Some.ensures.value c.flush.result
    (λ s before. bytes_in c.flush.new.lines.items ≡ bytes_in c.args.lines.now.items ++ on_lines s Flushed (venue_after s before)) c.flush.ensures.lines

pub returns-in-Some-clause-pieces : goal.returns-in-Some-clause-pieces
returns-in-Some-clause-pieces c = ok_of c.args.self.now c.args.at c.args.at refl c.in-Some.end.now c.in-Some.ensures.item.3.0 c.in-Some.ensures.value c.flush.result
    (λ s before. AllByRecursion (IsPiece (venue_after s before).messages s.unit) (on_lines s Flushed (venue_after s before))) c.flush.ensures.pieces

pub returns-in-Some-clause-err : goal.returns-in-Some-clause-err
returns-in-Some-clause-err c = err_still c.args.self.now c.args.at c.args.at refl c.in-Some.end.now c.in-Some.ensures.item.3.0 c.in-Some.ensures.value c.flush.result c.flush.new.self c.flush.ensures.err

pub returns-in-Some-clause-no_unit : goal.returns-in-Some-clause-no_unit
returns-in-Some-clause-no_unit c = not_none c.args.self.now c.args.at c.args.at refl c.in-Some.end.now c.in-Some.ensures.item.3.0 c.in-Some.ensures.value ((c.flush.result ≡ Ok 0) × (c.flush.new.lines.items ≡ c.args.lines.now.items))
