use Rattle.std.proofs.Common.{◌≤◌, Option, sym, subst}
use Rattle.std.specs.Option.{IsSome, IsSomeAnd}
use Rattle.client_core.specs.Client.{spare_of}
use Rattle.client_core.specs.declared.client.UnitClient.{UnitClient}
use Rattle.unit_clients.proofs.Hearing.{all_still, client_at, client_put}
use Rattle.leveled_units.proofs.Spared.{spare_kept}
use Rattle.leveled_units.proofs.units.LeveledUnits.reserve.Goals as goal

pub returns-in_err-reserve_at-clause-still : goal.returns-in_err-reserve_at-clause-still
returns-in_err-reserve_at-clause-still c = rw (← c.self.view_is)
    (all_still c.self.inside.units c.args.unit c.place_at.result.now c.reserve_at.new.slot c.place_at.ensures.there c.in_err-reserve_at.ensures.same)

pub returns-clause-still : goal.returns-clause-still
returns-clause-still c = rw (← c.self.view_is)
    (all_still c.self.inside.units c.args.unit c.place_at.result.now c.reserve_at.new.slot c.place_at.ensures.there c.in_ok-reserve_at.ensures.same)

pub returns-clause-room : goal.returns-clause-room
returns-clause-room c = rw (← c.self.view_is) (λ some.
    let table = c.self.inside.units in
    let there = c.place_at.ensures.there in
    subst (λ (o : Option UnitClient). IsSomeAnd o (λ client. c.args.messages ≤ spare_of client))
    (sym (client_put table c.args.unit c.place_at.result.now c.reserve_at.new.slot there))
    (c.in_ok-reserve_at.ensures.room (subst IsSome (client_at table c.args.unit c.place_at.result.now there) some)))

pub returns-in_err-reserve_at-clause-kept : goal.returns-in_err-reserve_at-clause-kept
returns-in_err-reserve_at-clause-kept c = rw (← c.self.view_is)
    (spare_kept c.self.inside.units c.args.unit c.place_at.result.now c.reserve_at.new.slot c.place_at.ensures.there c.in_err-reserve_at.ensures.same)

pub returns-clause-kept : goal.returns-clause-kept
returns-clause-kept c = rw (← c.self.view_is)
    (spare_kept c.self.inside.units c.args.unit c.place_at.result.now c.reserve_at.new.slot c.place_at.ensures.there c.in_ok-reserve_at.ensures.same)
