use Rattle.std.proofs.Common.{[], List, Option, ℕ, refl, ap, sym, subst}
use Rattle.stream_print.specs.Page.{Page}
use Rattle.unit_clients.specs.Tables.{UnitTable}
use Rattle.live_units.specs.Coming.{LiveSetup}
use Rattle.live_units.specs.Units.{LiveStands, NoneWaitAtAll}
use Rattle.live_units.specs.declared.unit.LiveUnit.{LiveUnit}
use Rattle.live_units.proofs.Listening.{stand_new, wait_new}
use Rattle.live_units.proofs.units.LiveUnits.make.Goals as goal

pub returns-clause-stand : goal.returns-clause-stand
returns-clause-stand c =
    let s : LiveSetup = record { units = c.args.units.now; account = c.args.account.now; hold = c.args.limit } in
    let page : Page = c.in_ok-make.field-0 in
    subst (λ (t : UnitTable LiveUnit). (start : Option (List ℕ)) → LiveStands s start start (record { units = t; number = 0; page = page }) []) (sym c.table.view_is)
    (stand_new s (record { units = c.listen_to.new.table; number = 0; page = page }) c.in_ok-listen_to.ensures refl (ap (λ (p : Page). p.text) c.in_ok-make.ensures))

pub returns-clause-waits : goal.returns-clause-waits
returns-clause-waits c =
    let s : LiveSetup = record { units = c.args.units.now; account = c.args.account.now; hold = c.args.limit } in
    let page : Page = c.in_ok-make.field-0 in
    subst (λ (t : UnitTable LiveUnit). NoneWaitAtAll (record { units = t; number = 0; page = page })) (sym c.table.view_is)
    (wait_new s (record { units = c.listen_to.new.table; number = 0; page = page }) c.in_ok-listen_to.ensures)
