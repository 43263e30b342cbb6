-- The numbers by which a wait tells of peers.
use Rattle.std.specs.Prelude.{ℕ, ◌+◌}

-- behind those of the input and of the lines
abbrev pub peer_number : ℕ → ℕ
peer_number peer = 2 + peer
