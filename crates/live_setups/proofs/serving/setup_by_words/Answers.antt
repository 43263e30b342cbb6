use Rattle.std.proofs.Common.{subst, sym}
use Rattle.live_venue.specs.Standing.{CanServe}
use Rattle.live_setups.proofs.Keeping.{can_serve}
use Rattle.live_setups.proofs.serving.setup_by_words.Goals as goal

pub returns-clause-some : goal.returns-clause-some
returns-clause-some c can = c.make-setup.ensures.some (subst CanServe (sym c.in_ok-setups.ensures) (can_serve c.args.asked.now can))
