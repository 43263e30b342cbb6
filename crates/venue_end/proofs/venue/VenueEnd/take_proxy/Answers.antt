use Rattle.std.proofs.Common.{ℕ, ◌<◌, subst, arith}
use Rattle.std.specs.List.{AllByRecursion}
use Rattle.heard_items.specs.Datagrams.{IsPiece}
use Rattle.pitch_model.proofs.Results.{on_err_map, on_ok_map}
use Rattle.venue_end.specs.Came.{ProxyTook, journal_in, on_gap_line, venue_after}
use Rattle.venue_end.specs.Stands.{OfVenue}
use Rattle.venue_end.proofs.Pieces.{gap_pieces}
use Rattle.venue_end.proofs.venue.VenueEnd.take_proxy.Goals as goal

pub returns-clause-stands : goal.returns-clause-stands
returns-clause-stands c = on_ok_map _ _ c.take_proxy.result c.take_proxy.ensures.stands (λ took s before is.
    record { market = c.take_proxy.ensures.side (journal_in s (venue_after s before)) is.market; servers = took s (venue_after s before) is.servers is.market })

pub returns-clause-pieces : goal.returns-clause-pieces
returns-clause-pieces c =
    let unit : c.unit-unit.result < 256 = omega arith in
    on_ok_map _ (OfVenue c.args.self.now (λ s before. AllByRecursion (IsPiece (venue_after s before).messages s.unit) (on_gap_line s (ProxyTook c.args.id c.args.piece.now) (venue_after s before)))) c.take_proxy.result c.take_proxy.ensures.stands
    (λ took s before is. gap_pieces s (venue_after s before) c.args.self.now.market (subst (λ (u : ℕ). u < 256) (c.unit-unit.ensures s before is) unit) is.market c.args.piece.now c.args.id)

pub returns-clause-err : goal.returns-clause-err
returns-clause-err c = on_err_map _ _ c.take_proxy.result c.take_proxy.ensures.err (λ cut s before is.
    record { market = c.take_proxy.ensures.side (journal_in s (venue_after s before)) is.market; servers = cut s (venue_after s before) is.servers })
