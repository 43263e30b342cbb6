use Rattle.std.proofs.Common.{length}
use Rattle.pitch_model.proofs.Results.{on_err_map, on_ok_map}
use Rattle.venue_end.specs.Came.{journal_in, venue_after}
use Rattle.venue_end.proofs.Ends.{servers_still}
use Rattle.venue_end.proofs.venue.VenueEnd.flush.Goals as goal

pub returns-clause-stands : goal.returns-clause-stands
returns-clause-stands c = on_ok_map _ _ c.flush.result c.flush.ensures.ok (λ sent s before is.
    let now = venue_after s before in
    record { market = sent (journal_in s now) is.market; servers = servers_still s c.args.self.now.servers now now.messages (length now.messages) is.servers })

pub returns-clause-lines : goal.returns-clause-lines
returns-clause-lines c = on_ok_map _ _ c.flush.result c.flush.ensures.datagrams (λ lined s before is. lined (journal_in s (venue_after s before)) is.market)

pub returns-clause-pieces : goal.returns-clause-pieces
returns-clause-pieces c = on_ok_map _ _ c.flush.result c.flush.ensures.pieces (λ are s before is. are (journal_in s (venue_after s before)) is.market)

pub returns-clause-err : goal.returns-clause-err
returns-clause-err c = on_err_map _ _ c.flush.result c.flush.ensures.kept (λ kept s before is. record { market = kept (journal_in s (venue_after s before)) is.market; servers = is.servers })
