-- A live client to which nothing came yet.
use Rattle.std.proofs.Common.{◌≡◌, ℕ, List, [], length, refl, subst, Option}
use Rattle.session_ends.specs.declared.account.Account.{Account}
use Rattle.stream_print.proofs.Flow.{grows_none}
use Rattle.live_turns.specs.Due.{Ends, Ways}
use Rattle.live_turns.specs.Turning.{TurnsStand}
use Rattle.live_turns.specs.declared.turns.LiveTurns.{LiveTurns}
use Rattle.live_units.specs.Coming.{LiveSetup}
use Rattle.live_units.specs.Units.{LiveStands, NoneWaitAtAll}
use Rattle.live_units.specs.declared.units.LiveUnits.{LiveUnits}
use Rattle.line_copies.specs.Standing.{HaveKept}
use Rattle.line_copies.specs.declared.lines.LineCopies.{LineCopies}
use Rattle.live_recovery.specs.Counting.{none_counted}
use Rattle.live_recovery.specs.Running.{Setup, ends_now, ways}
use Rattle.live_recovery.specs.Standing.{Devices, GoesOn, now_of}
use Rattle.live_recovery.proofs.Going.{adds_none}

module _ (s : Setup) (start : Devices) (t : LiveTurns) (l : LiveUnits) (k : LineCopies) (lines peers : ℕ) (units : List ℕ) (account : Account) (hold : ℕ) where
  -- what was made of the parts of a setup is made of the setup
  of_ways : (P : Ways → Type 0) → lines ≡ s.lines → peers ≡ length s.peers → P (record { lines = lines; peers = peers }) → P (ways s)
  of_ways P a b p = subst (λ (n : ℕ). P (record { lines = n; peers = length s.peers })) a (subst (λ (n : ℕ). P (record { lines = lines; peers = n })) b p)

  of_listens : (P : LiveSetup → Type 0) → units ≡ s.listens.units → account ≡ s.listens.account → hold ≡ s.listens.hold → P (record { units = units; account = account; hold = hold }) → P s.listens
  of_listens P a b c p =
      subst (λ (us : List ℕ). P (record { units = us; account = s.listens.account; hold = s.listens.hold })) a
      (subst (λ (who : Account). P (record { units = units; account = who; hold = s.listens.hold })) b
      (subst (λ (n : ℕ). P (record { units = units; account = account; hold = n })) c p))

  pub starts : lines ≡ s.lines → peers ≡ length s.peers → units ≡ s.listens.units → account ≡ s.listens.account → hold ≡ s.listens.hold → ((e : Ends) → TurnsStand (record { lines = lines; peers = peers }) e t [])
      → ((w : Option (List ℕ)) → LiveStands (record { units = units; account = account; hold = hold }) w w l []) → NoneWaitAtAll l → HaveKept k [] → GoesOn s start start (record { turns = t; units = l; copies = k; counts = none_counted })
  starts a b c d e turns stand none kept = record {
    run = [];
    came = [];
    stands = record {
      adds = adds_none start.calls;
      runs = record { came_is = refl; waits = λ unit session. none unit session };
      units = of_listens (λ (listens : LiveSetup). LiveStands listens start.written start.written l []) c d e (stand start.written);
      agree = record { kept = kept; none = refl };
      counts = refl;
      shown = ([], grows_none start.written);
    };
    turns = of_ways (λ (w : Ways). TurnsStand w (ends_now s (now_of [] l)) t []) a b (turns (ends_now s (now_of [] l)));
  }
