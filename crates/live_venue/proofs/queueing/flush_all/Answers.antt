use Rattle.std.proofs.Common.{rules, ◌≡◌, ◌<◌, ◌≤◌, ℕ, ◌+◌, suc, List, length, arith, ap, subst}
use Rattle.venue_end.specs.declared.setup.VenueSetup.{VenueSetup}
use Rattle.live_venue.specs.Running.{flushed}
use Rattle.live_venue.specs.Standing.{Serve}
use Rattle.live_venue.proofs.queueing.flush_all.Goals as goal

pub units-preserved : goal.units-preserved
units-preserved c = λ now serve.
    let s : List VenueSetup = c.args.setup.now in
    let one : suc c.units.at ≡ c.units.at + 1 = omega arith in
    let within : c.units.at < length c.units-at-end.result.now = search rules in
    let there : c.units.at < length s = subst (λ (l : List VenueSetup). c.units.at < length l) c.units-at-end.ensures.units within in
    subst (λ (n : ℕ). Serve s c.flush_unit.new.units c.flush_unit.new.outbox (flushed s n now)) one
    (c.in_ok-flush_unit.ensures s (flushed s c.units.at now) there (c.units.invariant now serve))

pub returns : goal.returns
returns c = λ now serve.
    let s : List VenueSetup = c.args.setup.now in
    let past : length c.units-at-end.result.now ≤ c.units.at = search rules in
    let most : c.units.at ≤ length c.units-at-end.result.now = search rules in
    let size = ap (λ (l : List VenueSetup). length l) c.units-at-end.ensures.units in
    let all : c.units.at ≡ length s = omega (arith, past, most, size) in
    subst (λ (n : ℕ). Serve s c.units.units c.units.outbox (flushed s n now)) all (c.units.invariant now serve)
