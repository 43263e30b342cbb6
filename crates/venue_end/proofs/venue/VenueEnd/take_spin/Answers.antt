use Rattle.pitch_model.proofs.Results.{on_err_map, on_ok_map}
use Rattle.venue_end.specs.Came.{journal_in, venue_after}
use Rattle.venue_end.proofs.venue.VenueEnd.take_spin.Goals as goal

pub returns-clause-stands : goal.returns-clause-stands
returns-clause-stands c = on_ok_map _ _ c.take_spin.result c.take_spin.ensures.stands (λ took s before is.
    record { market = c.take_spin.ensures.side (journal_in s (venue_after s before)) is.market; servers = took s (venue_after s before) is.servers is.market })

pub returns-clause-err : goal.returns-clause-err
returns-clause-err c = on_err_map _ _ c.take_spin.result c.take_spin.ensures.err (λ cut s before is.
    record { market = c.take_spin.ensures.side (journal_in s (venue_after s before)) is.market; servers = cut s (venue_after s before) is.servers })
