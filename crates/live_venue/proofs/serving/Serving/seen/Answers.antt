use Rattle.std.proofs.Common.{sym, ap, length}
use Rattle.live_venue.proofs.Seeing.{seen_none, seen_there}
use Rattle.live_venue.proofs.serving.Serving.seen.Goals as goal

pub returns-in-Some : goal.returns-in-Some
returns-in-Some c = λ s came st.
    seen_there s came c.args.self.now.turns.place c.in-Some.place c.is_shut.result _ (sym c.in-Some.ensures) (c.is_shut.ensures s came st) (ap length (c.waiting-waiting.ensures s came st))

pub returns-in-None : goal.returns-in-None
returns-in-None c = λ s came st. seen_none s came c.args.self.now.turns.place _ _ (sym c.in-None.ensures)
