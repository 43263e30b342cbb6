-- Errors that are faults.
use Rattle.std.specs.Prelude.{◌≢◌}
use Rattle.std.specs.IoError.{error_kind}
use Rattle.std.specs.declared.io.Error.{Error}
use Rattle.std.specs.declared.io.ErrorKind.TheVariants.{Interrupted, WouldBlock}

-- an error that says neither that a signal broke the call off, nor that the stream was not ready
pub record IsFault (error : Error) : Type 0 where
  pub whole : error_kind error ≢ Interrupted
  pub ready : error_kind error ≢ WouldBlock
