-- A call that brings no datagram leaves what is told of copies.
use Rattle.std.proofs.Common.{◌≡◌, inl, inr, ℕ, zero, suc, List}
use Rattle.client_end.specs.Came.{Came, GrpCut, SpinCut, Second}
use Rattle.sending_end.specs.Waiting.{made, took, lost, ended}
use Rattle.sending_end.specs.declared.session.Session.{Session}
use Rattle.sending_end.specs.declared.session.Session.TheVariants.{Proxy, SpinServer}
use Rattle.live_net.specs.LiveCalls.{LiveCall, Wait, Receive, Open, Take, Put, Close}
use Rattle.live_net.specs.declared.net.Received.TheVariants as received
use Rattle.live_net.specs.declared.live.WaitEnd.TheVariants as wait_end
use Rattle.live_net.specs.declared.live.PeerOpened.TheVariants as opened
use Rattle.live_net.specs.declared.live.PeerTaken.TheVariants as taken
use Rattle.live_net.specs.declared.live.PeerPut.TheVariants as put
use Rattle.live_units.specs.Coming.{UnitCame, to_unit, with_came}
use Rattle.live_recovery.specs.Running.{Brings, Comes, IsSame, Loses, Now, PassSeconds, PassesSecond, Setup}
use Rattle.live_recovery.proofs.Disagreeing.{IsSilent, SameCopies, copies_on, same_copies, silent_came}

abbrev pub IsPlain : LiveCall → Type 0
IsPlain (Receive line room bytes (received.Got n)) = ⊥
IsPlain call = Unit {0}

-- ---- What comes by a session is no block
made_silent : (session : Session) → IsSilent (made session)
made_silent Proxy = tt
made_silent SpinServer = tt

took_silent : (session : Session) (bytes : List ℕ) → IsSilent (took session bytes)
took_silent Proxy bytes = tt
took_silent SpinServer bytes = tt

lost_silent : (session : Session) (bytes : List ℕ) (count : ℕ) → IsSilent (lost session bytes count)
lost_silent Proxy bytes count = tt
lost_silent SpinServer bytes count = tt

ended_silent : (session : Session) → IsSilent (ended session)
ended_silent Proxy = tt
ended_silent SpinServer = tt

module _ (s : Setup) where
  of_same : (now now' : Now) → IsSame now now' → SameCopies now.came now'.came
  of_same now now' same = same_copies now.came now'.came same.came_is

  of_came : (unit : ℕ) (came : Came) (before after : List UnitCame) → IsSilent came → after ≡ with_came s.listens (to_unit unit came) before → SameCopies before after
  of_came unit came before after quiet is =
      let then : List UnitCame = with_came s.listens (to_unit unit came) before in
      copies_on before then after (silent_came s.listens unit came before quiet) (same_copies then after is)

  of_comes : (unit : ℕ) (came : Came) (now now' : Now) → IsSilent came → Comes s unit came now now' → SameCopies now.came now'.came
  of_comes unit came now now' quiet comes = of_came unit came now.came now'.came quiet comes.came_is

  of_loss : (unit : ℕ) (before : List UnitCame) (now now' : Now) → Loses s unit before now now' → SameCopies before now'.came
  of_loss unit before now now' loses =
      let cut : List UnitCame = with_came s.listens (to_unit unit GrpCut) before in
      copies_on before cut now'.came (silent_came s.listens unit GrpCut before tt) (of_came unit SpinCut cut now'.came tt loses.came_is)

  of_second : (unit : ℕ) (now now' : Now) → PassesSecond s unit now now' → SameCopies now.came now'.came
  of_second unit now now' (inl comes) = of_comes unit Second now now' tt comes
  of_second unit now now' (inr (inl loses)) = of_loss unit now.came now now' loses
  of_second unit now now' (inr (inr loses)) =
      let mid : List UnitCame = with_came s.listens (to_unit unit Second) now.came in
      copies_on now.came mid now'.came (silent_came s.listens unit Second now.came tt) (of_loss unit mid now now' loses)

  of_seconds : (count : ℕ) (now now' : Now) → PassSeconds s count now now' → SameCopies now.came now'.came
  of_seconds zero now now' same = of_same now now' same
  of_seconds (suc unit) now now' (mid, (so, passes)) = copies_on now.came mid.came now'.came (of_seconds unit now mid so) (of_second unit mid now' passes)

  -- ---- By the call
  pub brings_same : (call : LiveCall) (now now' : Now) → IsPlain call → Brings s call now now' → SameCopies now.came now'.came
  brings_same (Wait more wait_end.Ready) now now' plain b = of_same now now' b
  brings_same (Wait more wait_end.Second) now now' plain b = of_seconds 256 now now' b
  brings_same (Wait more wait_end.Over) now now' plain b = of_same now now' b
  brings_same (Wait more wait_end.Failed) now now' plain b = of_same now now' b
  brings_same (Receive line room bytes (received.Got n)) now now' plain b = absurd plain
  brings_same (Receive line room bytes received.Quiet) now now' plain b = of_same now now' b
  brings_same (Receive line room bytes received.Failed) now now' plain b = of_same now now' b
  brings_same (Open at opened.Begun) now now' plain (peer, (is, inl comes)) = of_comes peer.unit (made peer.session) now now' (made_silent peer.session) comes
  brings_same (Open at opened.Begun) now now' plain (peer, (is, inr same)) = of_same now now' same
  brings_same (Open at opened.Refused) now now' plain b = of_same now now' b
  brings_same (Take at room bytes (taken.Got n)) now now' plain (peer, (is, inl comes)) = of_comes peer.unit (took peer.session bytes) now now' (took_silent peer.session bytes) comes
  brings_same (Take at room bytes (taken.Got n)) now now' plain (peer, (is, inr (count, comes))) = of_comes peer.unit (lost peer.session bytes count) now now' (lost_silent peer.session bytes count) comes
  brings_same (Take at room bytes taken.Quiet) now now' plain b = of_same now now' b
  brings_same (Take at room bytes taken.Ended) now now' plain (peer, (is, comes)) = of_comes peer.unit (ended peer.session) now now' (ended_silent peer.session) comes
  brings_same (Put at piece (put.Wrote n)) now now' plain (peer, (is, sent)) = same_copies now.came now'.came sent.came_is
  brings_same (Put at piece put.Full) now now' plain b = of_same now now' b
  brings_same (Put at piece put.Ended) now now' plain (peer, (is, comes)) = of_comes peer.unit (ended peer.session) now now' (ended_silent peer.session) comes
  brings_same (Close at) now now' plain (peer, (is, comes)) = of_comes peer.unit (ended peer.session) now now' (ended_silent peer.session) comes
