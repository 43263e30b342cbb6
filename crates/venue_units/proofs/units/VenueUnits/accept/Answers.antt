use Rattle.std.proofs.Common.{◌≡◌, ◌+◌, length, refl, Ok}
use Rattle.venue_core.specs.Refusals.{refusal, IsAnswer}
use Rattle.venue_end.specs.Came.{Commanded, venue_after}
use Rattle.venue_units.proofs.Routing.{err_still, ok_comes}
use Rattle.venue_units.proofs.Standing.{comes_nowhere, not_none, of_unit}
use Rattle.venue_units.proofs.units.VenueUnits.accept.Goals as goal

pub returns-in-None-clause-stands : goal.returns-in-None-clause-stands
returns-in-None-clause-stands c = comes_nowhere c.args.self.now c.args.at c.args.at refl c.in-None.ensures.item.3 (Commanded c.args.command.now)

pub returns-in-Some-clause-answer : goal.returns-in-Some-clause-answer
returns-in-Some-clause-answer c = of_unit c.args.self.now c.args.at c.args.at refl c.in-Some.end.now c.in-Some.ensures.item.3.0 c.in-Some.ensures.value
    (λ s before. IsAnswer (refusal (venue_after s before).messages c.args.command.now) (length (venue_after s before).messages + 1) c.accept.result) c.accept.ensures.answer

pub returns-in-Some-clause-stands : goal.returns-in-Some-clause-stands
returns-in-Some-clause-stands c = ok_comes c.args.self.now c.args.at c.args.at refl c.in-Some.end.now c.in-Some.ensures.item.3.0 c.in-Some.ensures.value c.accept.result c.accept.new.self (Commanded c.args.command.now) c.accept.ensures.stands

pub returns-in-Some-clause-err : goal.returns-in-Some-clause-err
returns-in-Some-clause-err c = err_still c.args.self.now c.args.at c.args.at refl c.in-Some.end.now c.in-Some.ensures.item.3.0 c.in-Some.ensures.value c.accept.result c.accept.new.self c.accept.ensures.err

pub returns-in-Some-clause-no_unit : goal.returns-in-Some-clause-no_unit
returns-in-Some-clause-no_unit c = not_none c.args.self.now c.args.at c.args.at refl c.in-Some.end.now c.in-Some.ensures.item.3.0 c.in-Some.ensures.value (c.accept.result ≡ Ok 0)
