-- What is appended where a relay sends.
use Rattle.std.specs.Prelude.{◌≡◌, ◌++◌, ℕ, List}
use Rattle.std.specs.List.{concat}
use Rattle.pitch_messages.specs.Room.{Roomy}
use Rattle.unit_packets.specs.Packing.{bytes_in}

-- datagrams are appended to those of a list
abbrev pub ListsMore : (out out' : List (Roomy ℕ)) → List (List ℕ) → Type 0
ListsMore out out' datagrams = bytes_in out' ≡ bytes_in out ++ datagrams

-- or to bytes, one behind another
abbrev pub JoinsMore : (out out' : List ℕ) → List (List ℕ) → Type 0
JoinsMore out out' datagrams = out' ≡ out ++ concat datagrams

-- some datagrams are
abbrev pub Appends : (List (List ℕ) → Type 0) → Type 0
Appends Lays = (datagrams : List (List ℕ)) × Lays datagrams
