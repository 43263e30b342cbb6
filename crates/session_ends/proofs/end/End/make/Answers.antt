use Rattle.std.proofs.Common.{refl}
use Rattle.session_ends.proofs.Inboxes.{nothing_taken}
use Rattle.session_ends.proofs.end.End.make.Goals as goal

pub returns-clause-stands : goal.returns-clause-stands
returns-clause-stands c = record {
  closed_is = refl;
  still = λ on. record { inbox_is = nothing_taken c.make.result c.make.ensures; logged_is = refl; heard_is = refl; silent_is = refl; sent_is = c.begins_with_login.ensures };
}
