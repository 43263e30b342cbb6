use Rattle.pitch_model.proofs.Results.{on_err_map}
use Rattle.venue_end.specs.Came.{journal_in, venue_after}
use Rattle.venue_end.proofs.Ends.{accepts}
use Rattle.venue_end.proofs.venue.VenueEnd.accept.Goals as goal

pub returns-clause-answer : goal.returns-clause-answer
returns-clause-answer c = λ s before is. c.accept.ensures.answer (journal_in s (venue_after s before)) is.market

pub returns-clause-stands : goal.returns-clause-stands
returns-clause-stands c = accepts c.args.self.now c.accept.new.self c.args.command.now c.accept.result c.accept.ensures.answer c.accept.ensures.ok

pub returns-clause-err : goal.returns-clause-err
returns-clause-err c = on_err_map _ _ c.accept.result c.accept.ensures.err (λ kept s before is. record { market = kept (journal_in s (venue_after s before)) is.market; servers = is.servers })
