use Rattle.std.proofs.Common.{List, Option, sym, ap, ◌∙◌, subst}
use Rattle.std.specs.List.{AllZip}
use Rattle.session_ends.specs.Events.{Pumped}
use Rattle.spin_server.specs.Served.{Served}
use Rattle.pitch_model.proofs.Results.{on_err_map, on_ok_map}
use Rattle.venue_end.specs.Feeding.{runs_on}
use Rattle.venue_end.specs.Servers.{spin_says}
use Rattle.venue_end.specs.Sessions.{Session, happens_at}
use Rattle.venue_end.specs.Stands.{IsSpinServer, PlaceIs}
use Rattle.venue_end.proofs.Ends.{with_spins}
use Rattle.venue_end.proofs.Tables.{fewer_at, if_ok_map, missing_at, not_missing, becomes_at, seen_at, stays_at}
use Rattle.venue_end.proofs.servers.Servers.pump_spin.Goals as goal

pub returns-in_default-clause-stands : goal.returns-in_default-clause-stands
returns-in_default-clause-stands c = λ s now is.
    with_spins s c.args.self.now now _ _ is (subst (λ (ks : List (Session (List Served))). AllZip (PlaceIs IsSpinServer s) c.args.self.now.spins.places.items ks)
    (sym ((missing_at IsSpinServer s c.args.id c.args.self.now.spins.places.items now.spins (sym c.find.ensures ∙ c.in_default.is) is.spins).becomes (happens_at (spin_says s) Pumped))) is.spins)

pub returns-in_default-clause-more : goal.returns-in_default-clause-more
returns-in_default-clause-more c = λ s now is.
    ap (λ (o : Option (Session (List Served))). runs_on s o) (sym (missing_at IsSpinServer s c.args.id c.args.self.now.spins.places.items now.spins (sym c.find.ensures ∙ c.in_default.is) is.spins).none)

pub returns-clause-stands : goal.returns-clause-stands
returns-clause-stands c = on_ok_map _ _ c.pump.result c.pump.ensures.pumps (λ pumps s now is.
    with_spins s c.args.self.now now _ _ is (becomes_at IsSpinServer s c.args.id c.in-Some.at c.args.self.now.spins.places.items now.spins c.index_mut.result.now c.pump.new.self (happens_at (spin_says s) Pumped) (sym c.find.ensures ∙ c.in-Some.is) c.index_mut.ensures.value is.spins (pumps s)))

pub returns-clause-more : goal.returns-clause-more
returns-clause-more c = if_ok_map _ _ c.pump.result c.pump.ensures.more (λ more is_more s now is.
    seen_at IsSpinServer s c.args.id c.in-Some.at c.args.self.now.spins.places.items now.spins c.index_mut.result.now (λ o. runs_on s o) more (sym c.find.ensures ∙ c.in-Some.is) c.index_mut.ensures.value is.spins (is_more s))

pub returns-clause-fewer : goal.returns-clause-fewer
returns-clause-fewer c = if_ok_map _ _ c.pump.result c.pump.ensures.fewer (λ more fewer on.
    fewer_at c.args.id c.in-Some.at c.args.self.now.spins.places.items c.index_mut.result.now c.pump.new.self (sym c.find.ensures ∙ c.in-Some.is) c.index_mut.ensures.value c.pump.ensures.same_id (fewer on))

pub returns-clause-err : goal.returns-clause-err
returns-clause-err c = on_err_map _ _ c.pump.result c.pump.ensures.err (λ still s now is.
    with_spins s c.args.self.now now _ _ is (stays_at IsSpinServer s c.args.id c.in-Some.at c.args.self.now.spins.places.items now.spins c.index_mut.result.now c.pump.new.self (sym c.find.ensures ∙ c.in-Some.is) c.index_mut.ensures.value is.spins (still s)))

pub returns-clause-none : goal.returns-clause-none
returns-clause-none c = λ s now is none. absurd (not_missing IsSpinServer s c.args.id c.in-Some.at c.args.self.now.spins.places.items now.spins (sym c.find.ensures ∙ c.in-Some.is) is.spins none)
