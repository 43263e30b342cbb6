use Rattle.std.proofs.Common.{◌<◌, List, length, refl, arith}
use Rattle.std.proofs.lemmas.Option.{slice_get_read}
use Rattle.pitch_messages.specs.declared.trading_state.TradingState.{TradingState}
use Rattle.pitch_c.specs.Reports.{state_shown}
use Rattle.pitch_c.proofs.Filling.{fills_more}
use Rattle.pitch_c.proofs.lists.fill_states.Goals as goal

pub states-preserved : goal.states-preserved
states-preserved c =
    let all : List TradingState = c.args.states.now in
    let test = c.states-test.true in
    let fits = c.fitting-count.ensures.within in
    let within : c.states.at < length all = omega (arith, test, fits.0) in
    let room : c.states.at < length c.args.told.now = omega (arith, test, fits.1) in
    fills_more state_shown all c.args.told.now c.states.told c.states.at c.index-states-at.result c.state_out.result c.states.invariant
    (slice_get_read all (length all) c.states.at c.index-states-at.result refl within c.index-states-at.is) c.state_out.ensures room
