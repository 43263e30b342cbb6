use Rattle.std.proofs.Common.{ℕ, ◌≡◌, ◌<◌, ◌+◌, ap, ◌∙◌, sym, subst, arith}
use Rattle.unit_packets.specs.BlockBytes.{block_bytes, heartbeat_block}
use Rattle.heard_items.specs.Datagrams.{IsPiece}
use Rattle.venue_core.specs.Standing.{VenueState}
use Rattle.venue_core.proofs.venue.Venue.beat.Goals as goal

pub returns-clause-piece : goal.returns-clause-piece
returns-clause-piece c accepted sent stands =
    let unit : c.args.self.now.unit < 256 = subst (λ (v : VenueState). v.unit < 256) c.self.view_is (omega arith) in
    let first : c.first.result ≡ sent + 1 = c.first.ensures ∙ ap (λ (v : VenueState). v.pending.first) c.self.view_is ∙ stands.pending.first_is in
    let within = stands.within in
    let few = stands.few in
    subst (IsPiece accepted c.args.self.now.unit)
    (sym (c.heartbeat.ensures.bytes ∙ ap (λ (v : VenueState). block_bytes (heartbeat_block v.unit c.first.result)) c.self.view_is ∙ ap (λ (n : ℕ). block_bytes (heartbeat_block c.args.self.now.unit n)) first))
    (c.packed_messages_are_pieces.ensures.heartbeat accepted c.args.self.now.unit (sent + 1) unit (omega arith) (omega arith) (omega arith))
