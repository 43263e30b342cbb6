-- What a caller sees of a net over sockets.
use Rattle.std.specs.Prelude.{◌≡◌, ℕ, Bool, true}
use Rattle.pitch_io.specs.Causes.{HasCause}

-- whether its sockets are open, and how often it has failed
pub record Opened : Type 0 where
  pub is_open : Bool
  pub faults : ℕ

-- a call that uses the sockets: it opens and closes none, it fails where none is open, and only a
-- failure is counted
pub record UsesOpen (old new : Opened) (failed : Type 0) : Type 0 where
  pub same : new.is_open ≡ old.is_open
  pub opened : (failed → ⊥) → old.is_open ≡ true
  pub cause : HasCause old.faults new.faults failed
  pub still : (failed → ⊥) → new.faults ≡ old.faults
