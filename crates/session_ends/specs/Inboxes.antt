-- What an inbox knows.
use Rattle.std.specs.Prelude.{◌≡◌, ℕ, List, length}
use Rattle.unit_packets.specs.Causes.{counted}
use Rattle.unit_packets.specs.Feeding.{StandsFor}
use Rattle.unit_packets.specs.Reading.{Reading}

-- what it read, and how many bytes it was fed
pub record Inboxed : Type 0 where
  pub reading : Reading
  pub fed : ℕ

-- it was fed these bytes
pub record HasTaken (inbox : Inboxed) (bytes : List ℕ) : Type 0 where
  pub reads : StandsFor inbox.reading bytes
  pub count : inbox.fed ≡ counted (length bytes)
