use Rattle.std.proofs.Common.{ap, sym, ◌∙◌, subst, arith}
use Rattle.heard_items.specs.Units.{unit_history}
use Rattle.client_core.specs.Tracks.{Tracks}
use Rattle.client_core.specs.declared.client.UnitClient.{UnitClient}
use Rattle.pitch_c.specs.Reports.{status_shown}
use Rattle.pitch_c.proofs.Answering.{client_is}
use Rattle.pitch_c.proofs.Telling.{tracks_there}
use Rattle.pitch_c.proofs.asking.tell_status.Goals as goal

pub returns-in-Some : goal.returns-in-Some
returns-in-Some c = record {
  status = λ zero before h. c.status_out.ensures ∙ ap status_shown
      (c.status.ensures c.args.units.now.limit (unit_history c.args.unit before)
      (subst (λ (client : UnitClient). Tracks client c.args.units.now.limit (unit_history c.args.unit before)) (sym c.client.ensures)
      (tracks_there c.args.units.now c.args.unit c.in-Some.client.now c.in-Some.ensures.there before h)));
  kept = λ low. absurd (omega (arith, low));
  answer = sym (client_is c.args.units.now c.args.unit c.in-Some.client.now c.in-Some.ensures.there);
}
