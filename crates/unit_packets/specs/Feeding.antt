-- A stream that is fed in pieces.
use Rattle.std.specs.Prelude.{◌≡◌, ℕ, ◌⊎◌, false, List, [], ◌++◌, Option}
use Rattle.std.specs.Option.{IsSome}
use Rattle.unit_packets.specs.Causes.{counted}
use Rattle.unit_packets.specs.Cutting.{rest_of, place_of, fault_in}
use Rattle.unit_packets.specs.Reading.{Reading}
use Rattle.unit_packets.specs.declared.header.BlockFault.{BlockFault}

-- the fault of the bytes that were fed so far, which more bytes do not mend; its place is counted
abbrev pub fed_fault : List ℕ → Option BlockFault
fed_fault fed = fault_in false (counted (place_of fed)) (rest_of fed)

-- the fault that a reader keeps
abbrev pub kept_fault : Reading → Option BlockFault
kept_fault reading = fault_in false reading.place reading.rest

-- the reader has passed the whole blocks of the bytes that were fed, and keeps what follows them;
-- only after a fault that it keeps may it have dropped bytes
pub record StandsFor (reading : Reading) (fed : List ℕ) : Type 0 where
  pub place_is : reading.place ≡ counted (place_of fed)
  pub dropped : List ℕ
  pub rest_is : rest_of fed ≡ reading.rest ++ dropped
  pub keeps : (dropped ≡ []) ⊎ IsSome (kept_fault reading)
