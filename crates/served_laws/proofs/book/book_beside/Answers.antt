use Rattle.std.proofs.Common.{◌≡◌, ◌<◌, List, arith}
use Rattle.pitch_model.specs.History.{Raw}
use Rattle.client_core.proofs.Venues.{own_venue}
use Rattle.client_end.specs.Came.{end_history}
use Rattle.venue_end.specs.Came.{venue_after}
use Rattle.served_laws.proofs.book.book_beside.Goals as goal

pub returns : goal.returns
returns c = λ s before e came stands is same beside.
    let V : List Raw = (venue_after s before).messages in
    let unit : c.unit-unit.result ≡ s.unit = c.unit-unit.ensures s before stands in
    let small : s.unit < 256 = omega (arith, unit, c.unit-unit.type_inv) in
    c.book.ensures e came is V (own_venue V (end_history e came) stands.market.venue.bytes
    (c.a_client_beside_a_venue_hears_the_truth.ensures.honest s c.args.venue.now before e came small stands same beside))
