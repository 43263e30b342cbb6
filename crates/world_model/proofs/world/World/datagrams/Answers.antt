use Rattle.std.proofs.Common.{ℕ, List, ◌<◌, sym, subst, arith}
use Rattle.std.specs.List.{AllByRecursion}
use Rattle.unit_packets.specs.Packing.{bytes_in}
use Rattle.heard_items.specs.Datagrams.{IsPiece}
use Rattle.world_model.specs.State.{State}
use Rattle.world_model.specs.Verbs.{state_of}
use Rattle.world_model.proofs.Acting.{has_all, pieces}
use Rattle.world_model.proofs.world.World.datagrams.Goals as goal

pub returns-clause-datagrams : goal.returns-clause-datagrams
returns-clause-datagrams c = λ unit limits done stands. c.datagrams_on.ensures (state_of unit limits done) stands.is.sent stands.is.replayed

pub returns-clause-pieces : goal.returns-clause-pieces
returns-clause-pieces c = λ unit limits done stands.
    let w = c.args.self.now in
    let s : State = state_of unit limits done in
    let small : w.unit < 256 = omega arith in
    let are = c.datagrams_on.ensures s stands.is.sent stands.is.replayed in
    subst (λ (u : ℕ). AllByRecursion (IsPiece s.venue.messages u) (bytes_in c.datagrams_on.result.now)) stands.unit_is
    (subst (λ (ds : List (List ℕ)). AllByRecursion (IsPiece s.venue.messages w.unit) ds) (sym are) (pieces w s (has_all w unit limits done stands) small c.args.line))
