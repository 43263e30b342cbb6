use Rattle.std.proofs.Common.{sym, ap, length}
use Rattle.live_recovery.specs.Standing.{now_of}
use Rattle.live_recovery.proofs.Seeing.{seen_none, seen_absent, seen_peer}
use Rattle.live_recovery.proofs.recovering.Recovering.seen.Goals as goal

pub returns-in_default : goal.returns-in_default
returns-in_default c = λ start written came st.
    seen_none c.args.setup.now (now_of came c.args.self.now.units) c.args.self.now.turns.place _ _ (sym c.in_default.ensures)

pub returns-in_default-peer : goal.returns-in_default-peer
returns-in_default-peer c = λ start written came st.
    seen_absent c.args.setup.now (now_of came c.args.self.now.units) c.args.self.now.turns.place c.in-Some.at (sym c.in-Some.ensures) (sym c.in_default-peer.ensures)

pub returns : goal.returns
returns c = λ start written came st.
    seen_peer c.args.setup.now (now_of came c.args.self.now.units) c.args.self.now.turns.place c.in-Some.at (sym c.in-Some.ensures) c.in-Some-peer.peer c.has-has.result _ (sym c.in-Some-peer.ensures)
    (c.has-has.ensures written c.args.setup.now.listens start came st) (ap length c.waiting_bytes-waiting.ensures)
