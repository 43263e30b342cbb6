use Rattle.std.proofs.Common.{◌≡◌, true, rules}
use Rattle.grp_session.proofs.Serves.{hears_request}
use Rattle.grp_session.proofs.desk.Desk.answer_message.Goals as goal

pub returns-in_ok-answer_request-in-GapRequest-clause-hears : goal.returns-in_ok-answer_request-in-GapRequest-clause-hears
returns-in_ok-answer_request-in-GapRequest-clause-hears g c = λ spent view counted shows.
    let on : c.args.end.now.logged ≡ true = search rules in
    hears_request c.args.end.now.setup c.args.self.now.there _ c.args.end.now.logged spent view c.in-GapRequest.unit c.in-GapRequest.sequence c.in-GapRequest.count c.args.message.now _ _ _ _ _ _
    c.in-GapRequest.is on (c.in_ok-answer_request-in-GapRequest.ensures.hears spent view counted shows)
