use Rattle.std.proofs.Common.{ℕ, List, Option}
use Rattle.live_units.specs.Coming.{UnitCame}
use Rattle.live_units.specs.Units.{LiveStands}
use Rattle.live_recovery.specs.Running.{IsSame, Now, Setup}
use Rattle.live_recovery.specs.Standing.{SecondsPass, now_of}
use Rattle.live_recovery.proofs.seconds.pass_second.Given as goal

abbrev pub invariant-units : goal.invariant-units
invariant-units l = (s : Setup) (start written : Option (List ℕ)) (first : Now) (came : List UnitCame) → LiveStands s.listens start written l.fn.units came → IsSame first (now_of came l.fn.units) → SecondsPass s start written first l.unit l.units
