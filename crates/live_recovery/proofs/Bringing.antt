-- What calls bring to the units.
use Rattle.std.proofs.Common.{◌≡◌, ◌⊎◌, ℕ, suc, cond, List, [], eqb, inl, inr, refl, sym, ap, ◌∙◌, subst, Option, Some, slice_get, Result, Ok, Err, take, length, min}
use Rattle.std.specs.Prelude.{OnOk, OnErr}
use Rattle.std.specs.Option.{option_map_or}
use Rattle.std.proofs.Math.Nat.{min_comm}
use Rattle.std.proofs.lemmas.List.{take_min}
use Rattle.std.proofs.lemmas.Bool.{cond-true, cond-false, eq-eqb, ne_eqb}
use Rattle.pitch_fields.specs.declared.memory.OutOfMemory.{OutOfMemory}
use Rattle.client_end.specs.Came.{Came, Second}
use Rattle.sending_end.specs.Waiting.{made, took, lost, ended}
use Rattle.sending_end.specs.declared.session.Session.{Session}
use Rattle.live_net.specs.LiveCalls.{LiveCall, Open, Take}
use Rattle.live_net.specs.declared.live.PeerOpened.TheVariants as opened
use Rattle.live_net.specs.declared.live.PeerTaken.TheVariants as taken
use Rattle.live_units.specs.Coming.{UnitCame, to_unit, with_came, with_loss}
use Rattle.live_units.specs.Standing.{IsTaken}
use Rattle.live_units.specs.Units.{AllWait, CameAt, LiveStands, LosesAt, PassesAt, SendsAt, StayAll, TakesBytes, waits_then, waiting_at}
use Rattle.live_units.specs.declared.unit.Taken.{Taken}
use Rattle.live_units.specs.declared.unit.Taken.TheVariants.{Whole, Lost}
use Rattle.live_units.specs.declared.units.LiveUnits.{LiveUnits}
use Rattle.live_recovery.specs.Running.{Brings, ByPeer, Comes, IsSame, Now, Sent, Setup, ends_now}
use Rattle.live_recovery.specs.Standing.{SecondsPass, now_of}
use Rattle.live_recovery.specs.declared.peer.Peer.{Peer}

-- ---- Nothing
pub same_now : (came : List UnitCame) (l l' : LiveUnits) → AllWait l l' → IsSame (now_of came l) (now_of came l')
same_now came l l' all = record { came_is = refl; waits = λ unit session. all unit session }

pub same_still : (at : Now) → IsSame at at
same_still at = record { came_is = refl; waits = λ unit session. refl }

-- ---- What comes to a unit
pub came_comes : (s : Setup) (start now : Option (List ℕ)) (l l' : LiveUnits) (unit : ℕ) (came : Came) (before : List UnitCame) → CameAt s.listens start now l l' unit came before
    → Comes s unit came (now_of before l) (now_of (with_came s.listens (to_unit unit came) before) l')
came_comes s start now l l' unit came before c = record { came_is = refl; here = λ session. c.waits session; others = λ other session apart. c.others other session apart }

-- what then came, and what waits then
abbrev pub comes_now : Setup → ℕ → Came → Now → Now
comes_now s unit came now = record {
  came = with_came s.listens (to_unit unit came) now.came;
  waits = λ other session. cond (eqb other unit) (waits_then s.listens unit came now.came session (now.waits unit session)) (now.waits other session);
}

pub comes_so : (s : Setup) (unit : ℕ) (came : Came) (now : Now) → Comes s unit came now (comes_now s unit came now)
comes_so s unit came now = record {
  came_is = refl;
  here = λ session. cond-true (eqb unit unit) (waits_then s.listens unit came now.came session (now.waits unit session)) (now.waits unit session) (eq-eqb unit unit refl);
  others = λ other session apart. cond-false (eqb other unit) (waits_then s.listens unit came now.came session (now.waits unit session)) (now.waits other session) (ne_eqb other unit apart);
}

-- what came by a call, and that the units stand for it
pub record Brought (s : Setup) (call : LiveCall) (l l' : LiveUnits) (came : List UnitCame) (start now : Option (List ℕ)) : Type 0 where
  pub after : List UnitCame
  pub stand : LiveStands s.listens start now l' after
  pub brings : Brings s call (now_of came l) (now_of after l')

-- ---- A peer
module _ (s : Setup) (at : ℕ) (peer : Peer) (is : slice_get s.peers at ≡ Some peer) where
  pub by_peer : (P : ℕ → Session → Type 0) → P peer.unit peer.session → ByPeer s at P
  by_peer P p = (peer, (is, p))

  -- what waits for it
  pub peer_waits : (now : Now) → (ends_now s now).waits at ≡ now.waits peer.unit peer.session
  peer_waits now = ap (λ (o : Option Peer). option_map_or (λ (p : Peer). now.waits p.unit p.session) o []) is

  -- the first of it is what is put
  pub is_first : (l : LiveUnits) (came : List UnitCame) (bytes : List ℕ) (n : ℕ) → bytes ≡ waiting_at l peer.unit peer.session → n ≡ min (length bytes) 65536 → take n bytes ≡ take 65536 ((ends_now s (now_of came l)).waits at)
  is_first l came bytes n are least =
      ap (λ (m : ℕ). take m bytes) (least ∙ min_comm (length bytes) 65536) ∙ take_min 65536 bytes ∙ ap (take 65536) (are ∙ sym (peer_waits (now_of came l)))

  -- its connection ended
  pub ends_comes : (l l' : LiveUnits) (start now : Option (List ℕ)) (came : List UnitCame) → LiveStands s.listens start now l came → ((w : Option (List ℕ)) → PassesAt l l' w w peer.unit (ended peer.session))
      → LiveStands s.listens start now l' (with_came s.listens (to_unit peer.unit (ended peer.session)) came)
      × ByPeer s at (λ unit session. Comes s unit (ended session) (now_of came l) (now_of (with_came s.listens (to_unit peer.unit (ended peer.session)) came) l'))
  ends_comes l l' start now came st passes =
      let c = passes now s.listens start came st in
      (c.stands, (peer, (is, came_comes s start now l l' peer.unit (ended peer.session) came c)))

  -- so many bytes were sent
  pub sends_so : (l l' : LiveUnits) (count : ℕ) (came : List UnitCame) → SendsAt l l' peer.unit peer.session count → ByPeer s at (λ unit session. Sent unit session count (now_of came l) (now_of came l'))
  sends_so l l' count came sends = (peer, (is, record { came_is = refl; here = sends.here; others = λ other that apart. sends.others other that apart }))

  -- it was made, or there is no memory for its login
  pub opens : (l l' : LiveUnits) (result : Result (Unit {0}) OutOfMemory) → OnOk result ((w : Option (List ℕ)) → PassesAt l l' w w peer.unit (made peer.session)) → OnErr result (StayAll l l')
      → (start now : Option (List ℕ)) (came : List UnitCame) → LiveStands s.listens start now l came → Brought s (Open at opened.Begun) l l' came start now
  opens l l' (Ok done) passes stay start now came st =
      let c = passes now s.listens start came st in
      record {
        after = with_came s.listens (to_unit peer.unit (made peer.session)) came;
        stand = c.stands;
        brings = (peer, (is, inl (came_comes s start now l l' peer.unit (made peer.session) came c)));
      }
  opens l l' (Err error) passes stay start now came st = record {
    after = came;
    stand = stay.stand now s.listens start came st;
    brings = (peer, (is, inr (same_now came l l' stay.waits)));
  }

  -- bytes of it were taken
  abbrev Takes : List ℕ → Now → Now → Type 0
  Takes bytes now now' = Comes s peer.unit (took peer.session bytes) now now' ⊎ ((count : ℕ) × Comes s peer.unit (lost peer.session bytes count) now now')

  taken_so : (how : Taken) (bytes : List ℕ) (came : Came) (now now' : Now) → IsTaken how peer.session bytes came → Comes s peer.unit came now now' → Takes bytes now now'
  taken_so Whole bytes came now now' how comes = inl (subst (λ (c : Came). Comes s peer.unit c now now') how comes)
  taken_so Lost bytes came now now' how comes = inr (how.0, subst (λ (c : Came). Comes s peer.unit c now now') how.1 comes)

  pub takes : (l l' : LiveUnits) (room n : ℕ) (bytes : List ℕ) (how : Taken) (w w' : Option (List ℕ)) → TakesBytes peer.unit peer.session bytes l l' w w' (Ok how)
      → (start : Option (List ℕ)) (came : List UnitCame) → LiveStands s.listens start w l came → Brought s (Take at room bytes (taken.Got n)) l l' came start w'
  takes l l' room n bytes how w w' (one, (is_taken, passes)) start came st =
      let c = passes s.listens start came st in
      let after : List UnitCame = with_came s.listens (to_unit peer.unit one) came in
      record {
        after = after;
        stand = c.stands;
        brings = (peer, (is, taken_so how bytes one (now_of came l) (now_of after l') is_taken (came_comes s start w' l l' peer.unit one came c)));
      }

  -- and the sink failed as that was told
  pub untold : (l : LiveUnits) (came : List UnitCame) (room n : ℕ) (bytes : List ℕ) (how : Taken) (one : Came) → IsTaken how peer.session bytes one
      → Brings s (Take at room bytes (taken.Got n)) (now_of came l) (comes_now s peer.unit one (now_of came l))
  untold l came room n bytes how one is_taken = (peer, (is, taken_so how bytes one (now_of came l) (comes_now s peer.unit one (now_of came l)) is_taken (comes_so s peer.unit one (now_of came l))))

-- ---- A second
pub passed_or_lost : (l l' : LiveUnits) (unit : ℕ) (result : Result (Unit {0}) OutOfMemory) → OnOk result ((w : Option (List ℕ)) → PassesAt l l' w w unit Second) → OnErr result (LosesAt l l' unit)
    → ((w : Option (List ℕ)) → PassesAt l l' w w unit Second) ⊎ LosesAt l l' unit
passed_or_lost l l' unit (Ok done) passes loses = inl passes
passed_or_lost l l' unit (Err error) passes loses = inr loses

pub seconds_none : (s : Setup) (start written : Option (List ℕ)) (first : Now) (l : LiveUnits) (came : List UnitCame) → LiveStands s.listens start written l came → IsSame first (now_of came l) → SecondsPass s start written first 0 l
seconds_none s start written first l came st same = record { came = came; stands = st; passes = same }

pub seconds_more : (s : Setup) (start written : Option (List ℕ)) (first : Now) (unit : ℕ) (l l' : LiveUnits) → SecondsPass s start written first unit l → ((w : Option (List ℕ)) → PassesAt l l' w w unit Second) ⊎ LosesAt l l' unit
    → SecondsPass s start written first (suc unit) l'
seconds_more s start written first unit l l' so_far (inl passes) =
    let c = passes written s.listens start so_far.came so_far.stands in
    record {
      came = with_came s.listens (to_unit unit Second) so_far.came;
      stands = c.stands;
      passes = (now_of so_far.came l, (so_far.passes, inl (came_comes s start written l l' unit Second so_far.came c)));
    }
seconds_more s start written first unit l l' so_far (inr loses) = by (loses.stands written s.listens start so_far.came so_far.stands)
  where
    by : LiveStands s.listens start written l' (with_loss s.listens unit so_far.came) ⊎ LiveStands s.listens start written l' (with_loss s.listens unit (with_came s.listens (to_unit unit Second) so_far.came))
        → SecondsPass s start written first (suc unit) l'
    by (inl st) = record {
      came = with_loss s.listens unit so_far.came;
      stands = st;
      passes = (now_of so_far.came l, (so_far.passes, inr (inl (record { came_is = refl; here = λ session. loses.waits session; others = λ other session apart. loses.others other session apart }))));
    }
    by (inr st) = record {
      came = with_loss s.listens unit (with_came s.listens (to_unit unit Second) so_far.came);
      stands = st;
      passes = (now_of so_far.came l, (so_far.passes, inr (inr (record { came_is = refl; here = λ session. loses.waits session; others = λ other session apart. loses.others other session apart }))));
    }
