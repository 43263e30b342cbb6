-- Into how many pieces of work a schedule's units are parted.
use Rattle.std.specs.Prelude.{ℕ}

-- the most pieces of work into which a schedule's units are parted
abbrev pub most_workers : ℕ
most_workers = 64
