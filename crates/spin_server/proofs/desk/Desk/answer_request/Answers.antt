use Rattle.session_ends.proofs.Showing.{shown_same}
use Rattle.spin_server.specs.layers.Looking.{ServedLater}
use Rattle.spin_server.proofs.Serves.{later_order}
use Rattle.spin_server.proofs.desk.Desk.answer_request.Goals as goal

pub returns-in_err-image-clause-left : goal.returns-in_err-image-clause-left
returns-in_err-image-clause-left g c = λ view shows. shown_same ServedLater later_order _ view (c.in_err-image.ensures.shown view shows)
