-- Bytes of a peer are taken only while its link stands, and a connection is begun only where none
-- does.
use Rattle.std.proofs.Common.{◌≡◌, ℕ, zero, suc, ◌+◌, ◌-◌, Bool, true, false, cond, not, ◌&&◌, nat_lt, nat_le, List, [], ◌∷◌, refl, subst, Some}
use Rattle.std.proofs.lemmas.Option.{none-some, same_Some}
use Rattle.live_net.specs.LiveCalls.{LiveCall, Wait, Receive, Open, Take, Put, Close}
use Rattle.live_net.specs.declared.net.Received.TheVariants as received
use Rattle.live_net.specs.declared.live.WaitEnd.TheVariants as wait_end
use Rattle.live_net.specs.declared.live.PeerOpened.TheVariants as opened
use Rattle.live_net.specs.declared.live.PeerTaken.TheVariants as taken
use Rattle.live_net.specs.declared.live.PeerPut.TheVariants as put
use Rattle.live_turns.specs.Due.{Ends, Ways, after_datagram, datagrams_from, due, from_line, from_peer, in_turn, most_datagrams, most_pieces, pieces_from, put_first, put_or, turns_from}
use Rattle.live_turns.specs.Retry.{ends_in_row, may_begin, pause_after, seconds_since, stands}
use Rattle.live_turns.specs.declared.due.Due.{Due}
use Rattle.live_turns.specs.declared.due.Due.TheVariants as to

-- what holds where such a call is due
abbrev pub May : Ends → List LiveCall → Due → Type 0
May e run (to.Take peer) = e.has peer ≡ true
May e run (to.Open peer) = stands peer run ≡ false
May e run what = Unit {0}

module _ (e : Ends) (run : List LiveCall) where
  put_may : (waits : List ℕ) (peer : ℕ) (next : Due) → May e run next → May e run (put_or waits peer next)
  put_may [] peer next may = may
  put_may (byte ∷ bytes) peer next may = tt

  begin_may : (peer : ℕ) → may_begin peer run ≡ true → stands peer run ≡ false
  begin_may peer is = by (stands peer run) is
    where
      by : (b : Bool) → (not b && nat_le (pause_after (ends_in_row peer run)) (seconds_since peer run)) ≡ true → b ≡ false
      by true is = cc
      by false is = refl

  turn_may : (peer : ℕ) (next : Due) → May e run next → May e run (in_turn e run peer next)
  turn_may peer next may = by (stands peer run)
    where
      begin : (b : Bool) → may_begin peer run ≡ b → May e run (cond b (to.Open peer) next)
      begin true is = begin_may peer is
      begin false is = may

      few : (b : Bool) → e.has peer ≡ true → May e run (cond b (to.Take peer) (put_or (e.waits peer) peer next))
      few true has = has
      few false has = put_may (e.waits peer) peer next may

      has_link : (b : Bool) → e.has peer ≡ b → May e run (cond (not b) (to.Close peer) (cond (nat_lt (pieces_from peer run) most_pieces) (to.Take peer) (put_or (e.waits peer) peer next)))
      has_link true is = few (nat_lt (pieces_from peer run) most_pieces) is
      has_link false is = tt

      by : (b : Bool) → May e run (cond b (cond (not (e.has peer)) (to.Close peer) (cond (nat_lt (pieces_from peer run) most_pieces) (to.Take peer) (put_or (e.waits peer) peer next))) (cond (may_begin peer run) (to.Open peer) next))
      by true = has_link (e.has peer) refl
      by false = begin (may_begin peer run) refl

  turns_may : (left peer : ℕ) → May e run (turns_from e run left peer)
  turns_may zero peer = tt
  turns_may (suc left) peer = turn_may peer (turns_from e run left (peer + 1)) (turns_may left (peer + 1))

  module _ (w : Ways) where
    peer_may : (peer : ℕ) → May e run (from_peer w e run peer)
    peer_may peer = turns_may (w.peers - peer) peer

    line_may : (line : ℕ) → May e run (from_line w e run line)
    line_may line = by (nat_lt line w.lines)
      where
        by : (b : Bool) → May e run (cond b (to.Receive line) (from_peer w e run 0))
        by true = tt
        by false = peer_may 0

    first_may : (peer : ℕ) → May e run (put_first w e run peer)
    first_may peer = put_may (e.waits peer) peer (from_peer w e run (peer + 1)) (peer_may (peer + 1))

    datagram_may : (line : ℕ) → May e run (after_datagram w e run line)
    datagram_may line = by (nat_lt (datagrams_from line run) most_datagrams)
      where
        by : (b : Bool) → May e run (cond b (to.Receive line) (from_line w e run (line + 1)))
        by true = tt
        by false = line_may (line + 1)

  by_some : (a what : Due) → May e run a → Some a ≡ Some what → May e run what
  by_some a what may is = subst (May e run) (same_Some a what is) may

pub due_may : (w : Ways) (e : Ends) (run : List LiveCall) (what : Due) → due w e run ≡ Some what → May e run what
due_may w e [] what is = by_some e [] (to.Wait false) what tt is
due_may w e (Wait more wait_end.Ready ∷ before) what is = by_some e (Wait more wait_end.Ready ∷ before) _ what (line_may e (Wait more wait_end.Ready ∷ before) w 0) is
due_may w e (Wait more wait_end.Second ∷ before) what is = by_some e (Wait more wait_end.Second ∷ before) _ what (line_may e (Wait more wait_end.Second ∷ before) w 0) is
due_may w e (Wait more wait_end.Over ∷ before) what is = absurd (none-some what is)
due_may w e (Wait more wait_end.Failed ∷ before) what is = absurd (none-some what is)
due_may w e (Receive line room bytes (received.Got n) ∷ before) what is = by_some e (Receive line room bytes (received.Got n) ∷ before) _ what (datagram_may e (Receive line room bytes (received.Got n) ∷ before) w line) is
due_may w e (Receive line room bytes received.Quiet ∷ before) what is = by_some e (Receive line room bytes received.Quiet ∷ before) _ what (line_may e (Receive line room bytes received.Quiet ∷ before) w (line + 1)) is
due_may w e (Receive line room bytes received.Failed ∷ before) what is = absurd (none-some what is)
due_may w e (Open peer opened.Begun ∷ before) what is = by_some e (Open peer opened.Begun ∷ before) _ what (first_may e (Open peer opened.Begun ∷ before) w peer) is
due_may w e (Open peer opened.Refused ∷ before) what is = by_some e (Open peer opened.Refused ∷ before) _ what (peer_may e (Open peer opened.Refused ∷ before) w (peer + 1)) is
due_may w e (Take peer room bytes (taken.Got n) ∷ before) what is = by_some e (Take peer room bytes (taken.Got n) ∷ before) _ what (peer_may e (Take peer room bytes (taken.Got n) ∷ before) w peer) is
due_may w e (Take peer room bytes taken.Quiet ∷ before) what is = by_some e (Take peer room bytes taken.Quiet ∷ before) _ what (first_may e (Take peer room bytes taken.Quiet ∷ before) w peer) is
due_may w e (Take peer room bytes taken.Ended ∷ before) what is = by_some e (Take peer room bytes taken.Ended ∷ before) _ what (peer_may e (Take peer room bytes taken.Ended ∷ before) w (peer + 1)) is
due_may w e (Put peer piece (put.Wrote n) ∷ before) what is = by_some e (Put peer piece (put.Wrote n) ∷ before) _ what (first_may e (Put peer piece (put.Wrote n) ∷ before) w peer) is
due_may w e (Put peer piece put.Full ∷ before) what is = by_some e (Put peer piece put.Full ∷ before) _ what (peer_may e (Put peer piece put.Full ∷ before) w (peer + 1)) is
due_may w e (Put peer piece put.Ended ∷ before) what is = by_some e (Put peer piece put.Ended ∷ before) _ what (peer_may e (Put peer piece put.Ended ∷ before) w (peer + 1)) is
due_may w e (Close peer ∷ before) what is = by_some e (Close peer ∷ before) _ what (peer_may e (Close peer ∷ before) w (peer + 1)) is
