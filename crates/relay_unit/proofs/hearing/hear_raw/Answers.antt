use Rattle.std.proofs.Common.{List, Some, sym, subst}
use Rattle.client_core.specs.Venues.{IsVenue}
use Rattle.relay_unit.specs.layers.Sending.{IsItemOfRaw, SaysAs}
use Rattle.relay_unit.proofs.hearing.hear_raw.Goals as goal

pub returns-clause-keeps : goal.returns-clause-keeps
returns-clause-keeps c = λ V H E T venue K.
    let says : SaysAs c.args.raw.now c.in-Some.item = subst (IsItemOfRaw c.args.raw.now) c.in-Some.is c.in_ok-item.ensures in
    c.in_ok-change.ensures.keeps V H E T (subst (IsVenue V) (sym (says.heard_is E)) venue) K
