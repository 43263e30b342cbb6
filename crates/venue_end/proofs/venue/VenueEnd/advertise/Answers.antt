use Rattle.std.proofs.Common.{inr}
use Rattle.pitch_model.proofs.Results.{on_err}
use Rattle.venue_end.specs.Came.{journal_in, venue_after}
use Rattle.venue_end.proofs.venue.VenueEnd.advertise.Goals as goal

pub returns-clause-sequence : goal.returns-clause-sequence
returns-clause-sequence c = λ s before is. c.in_ok-sequence.ensures.sequence (journal_in s (venue_after s before)) is.market

pub returns-clause-stands : goal.returns-clause-stands
returns-clause-stands c = λ s before is. record {
  market = c.in_ok-sequence.ensures.ok (journal_in s (venue_after s before)) is.market;
  servers = c.in_ok-tell.ensures.stands s (venue_after s before) is.servers (c.in_ok-sequence.ensures.sequence (journal_in s (venue_after s before)) is.market);
}

pub returns-in_err-tell-clause-err : goal.returns-in_err-tell-clause-err
returns-in_err-tell-clause-err c = on_err _ c.from_residual-in_err-tell.result (inr (λ s before is. record {
  market = c.in_ok-sequence.ensures.ok (journal_in s (venue_after s before)) is.market;
  servers = c.in_err-tell.ensures.err s (venue_after s before) is.servers;
}))
