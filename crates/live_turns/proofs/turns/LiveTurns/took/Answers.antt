use Rattle.std.proofs.Common.{◌≡◌, ◌==◌, ◌||◌, ℕ, ◌+◌, Bool, refl, sym, ap, ◌∙◌, arith}
use Rattle.live_net.specs.LiveCalls.{LiveCall, Take}
use Rattle.live_net.specs.declared.live.PeerTaken.TheVariants as taken
use Rattle.live_turns.specs.Due.{pieces_from}
use Rattle.live_turns.specs.declared.place.Place.TheVariants as at
use Rattle.live_turns.proofs.Placing.{has_peer, takes_at, piece_more, none_behind_gave, peer_is_full}
use Rattle.live_turns.proofs.Standing.{goes_on}
use Rattle.live_turns.proofs.turns.LiveTurns.took.Goals as goal

pub returns : goal.returns
returns c = λ room n bytes w e e' run st here.
    let peer = c.args.peer in
    let call : LiveCall = Take peer room bytes (taken.Got n) in
    let has = has_peer w run c.args.self.now.place call peer refl st.place_is here in
    let takes = takes_at w run c.args.self.now.place peer room bytes (taken.Got n) st.place_is here in
    let so = c.taken.ensures in
    let sum = c.saturating_add-so_far.ensures in
    let so_far = takes.taken_is in
    let few = takes.few in
    let is : c.saturating_add-so_far.result ≡ pieces_from peer run + 1 = omega arith in
    goes_on w e e' c.args.self.now run call st (λ k r x. record { link_is = x.link_is; pause_is = x.pause_is }) (at.Peer peer c.saturating_add-so_far.result) (c.args.self.now.more || (c.saturating_add-so_far.result == 16))
    (has.within, is ∙ sym (piece_more peer room n bytes run), none_behind_gave peer room n bytes run) refl
    (ap (λ (b : Bool). b || (c.saturating_add-so_far.result == 16)) st.more_is ∙ peer_is_full peer room n bytes run (c.saturating_add-so_far.result == 16) (ap (λ (k : ℕ). k == 16) is))
