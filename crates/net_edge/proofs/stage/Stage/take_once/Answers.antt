use Rattle.std.proofs.Common.{◌≡◌, length, refl}
use Rattle.pitch_io.specs.Nets.{NetTakeFailed}
use Rattle.pitch_io.specs.declared.net.NetTaken.{NetTaken}
use Rattle.pitch_io.specs.declared.net.NetTaken.TheVariants.{Failed}
use Rattle.pitch_io.specs.layers.Coming.{came}
use Rattle.pitch_model.proofs.Results.{at_exit}
use Rattle.unit_packets.specs.Packing.{bytes_in}
use Rattle.net_edge.proofs.Calls.{gap_breaks, put_breaks, take_fails, take_once, take_stops}
use Rattle.net_edge.proofs.stage.Stage.take_once.Goals as goal

well : (answer : NetTaken) → (answer ≡ Failed → ⊥) → NetTakeFailed answer → ⊥
well Failed apart failed = apart refl
well answer apart failed = failed

pub returns-clause-asked : goal.returns-clause-asked
returns-clause-asked g c = λ s base now at may.
    take_once g.V.Venue.is c.args.at s base _ _ (length c.args.into.now) (came c.take-taken.result c.take-taken.new.into) c.take-taken.result c.args.self.now now c.take-taken.ensures.calls c.requires c.args.more may at
    (well c.take-taken.result c.in_default.not-Failed) _ c.goes_on.ensures c.take.new.self c.in_ok-gap_line.ensures.holds _ c.in_ok-put_waiting.ensures.plays (bytes_in c.as_slice.result.now) (λ w h. rw c.as_slice.ensures (c.in_ok-gap_line.ensures.replays w h)) _ c.put_waiting.new.self c.in_ok-put_waiting.ensures.becomes c.in_ok-gap_line.ensures.ended c.in_ok-send_all.ensures.sent

pub returns-in-Failed-clause-broke : goal.returns-in-Failed-clause-broke
returns-in-Failed-clause-broke g c = λ s base now at may.
    take_fails g.V.Venue.is c.args.at s base _ _ (length c.args.into.now) _ Failed c.args.self.now now c.in-Failed.ensures.calls c.requires c.args.more may at tt

pub returns-in_err-gap_line-clause-broke : goal.returns-in_err-gap_line-clause-broke
returns-in_err-gap_line-clause-broke g c = at_exit _ c.from_residual.result _ c.from_residual.ensures
    (λ s base now at may.
    take_stops g.V.Venue.is c.args.at s base _ _ (length c.args.into.now) (came c.take-taken.result c.take-taken.new.into) c.take-taken.result c.args.self.now now c.take-taken.ensures.calls c.requires c.args.more may at (well c.take-taken.result c.in_default.not-Failed))

pub returns-in_err-put_waiting-clause-broke : goal.returns-in_err-put_waiting-clause-broke
returns-in_err-put_waiting-clause-broke g c = at_exit _ c.from_residual-in_err-put_waiting.result _ c.from_residual-in_err-put_waiting.ensures
    (λ s base now at may.
    put_breaks g.V.Venue.is c.args.at s base _ _ (length c.args.into.now) (came c.take-taken.result c.take-taken.new.into) c.take-taken.result c.args.self.now now c.take-taken.ensures.calls c.requires c.args.more may at
    (well c.take-taken.result c.in_default.not-Failed) _ c.goes_on.ensures c.take.new.self c.in_ok-gap_line.ensures.holds _ _ c.in_err-put_waiting.ensures.broke)

pub returns-in_err-send_all-clause-broke : goal.returns-in_err-send_all-clause-broke
returns-in_err-send_all-clause-broke g c = at_exit _ c.from_residual-in_err-send_all.result _ c.from_residual-in_err-send_all.ensures
    (λ s base now at may.
    gap_breaks g.V.Venue.is c.args.at s base _ _ (length c.args.into.now) (came c.take-taken.result c.take-taken.new.into) c.take-taken.result c.args.self.now now c.take-taken.ensures.calls c.requires c.args.more may at
    (well c.take-taken.result c.in_default.not-Failed) _ c.goes_on.ensures c.take.new.self c.in_ok-gap_line.ensures.holds _ c.in_ok-put_waiting.ensures.plays (bytes_in c.as_slice.result.now) (λ w h. rw c.as_slice.ensures (c.in_ok-gap_line.ensures.replays w h)) _ _ c.in_err-send_all.ensures.broke)
