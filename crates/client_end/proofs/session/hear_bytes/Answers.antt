use Rattle.std.proofs.Common.{◌∙◌}
use Rattle.client_end.specs.Sessions.{heard_in_part}
use Rattle.client_end.proofs.Places.{there_is}
use Rattle.client_end.proofs.session.hear_bytes.Goals as goal

pub returns-in-Err-clause-err : goal.returns-in-Err-clause-err
returns-in-Err-clause-err g c =
    let first = c.in-Err.ensures.err in (
      first.0,
      λ H setup session is. c.hear_cut.ensures.has H (heard_in_part setup c.args.piece.now first.0 session.heard session.link) session.link
          (c.in-Err.ensures.there ∙ there_is setup c.args.place.now session.link is.link_is) (first.1 H setup session is),
    )
