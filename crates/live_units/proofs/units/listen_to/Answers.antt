use Rattle.std.proofs.Common.{rules}
use Rattle.live_units.proofs.Listening.{made_none, made_more, made_all}
use Rattle.live_units.proofs.units.listen_to.Goals as goal

pub units-init : goal.units-init
units-init c = made_none (record { units = c.args.units.now; account = c.args.account.now; hold = c.args.limit }) c.args.table.now.places c.requires.none

pub units-preserved : goal.units-preserved
units-preserved c =
    made_more (record { units = c.args.units.now; account = c.args.account.now; hold = c.args.limit }) c.units.number c.units.table.places c.place_at.result.now c.listen_at.new.place c.place_at.ensures.there c.units.invariant
    c.in_ok-listen_at.ensures

pub returns : goal.returns
returns c = made_all (record { units = c.args.units.now; account = c.args.account.now; hold = c.args.limit }) c.units.number c.units.table.places (search rules) c.units.invariant
