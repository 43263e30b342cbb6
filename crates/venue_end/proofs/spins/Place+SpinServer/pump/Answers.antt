use Rattle.std.proofs.Common.{◌++◌, refl, ap, ◌∙◌}
use Rattle.session_ends.specs.Closing.{Setup}
use Rattle.session_ends.specs.Events.{Pumped}
use Rattle.spin_server.specs.Serving.{Serving, spin_sends}
use Rattle.venue_end.specs.Servers.{spin_says}
use Rattle.venue_end.specs.Stands.{IsSpinServer}
use Rattle.venue_end.specs.declared.table.Place.{Place}
use Rattle.venue_end.proofs.Places.{happens_so, on_ok_both}
use Rattle.venue_end.proofs.spins.Place+SpinServer.pump.Goals as goal

pub returns-clause-pumps : goal.returns-clause-pumps
returns-clause-pumps c =
    let old : Place Serving = c.args.self.now in
    let new : Place Serving = record { id = old.id; server = c.pump.new.self; said = c.pump.new.reply; put = old.put } in
    on_ok_both c.pump.result (λ stands says s session is.
    happens_so IsSpinServer s (spin_says s) Pumped old new session is refl refl
    (record { made = c.pump.ensures.setup ∙ is.server.made; stands = stands session.happened is.server.stands })
    (says session.happened is.server.stands ∙ ap (λ (m : Setup). old.said.items ++ spin_sends m Pumped session.happened) is.server.made))
    c.pump.ensures.stands c.pump.ensures.says
