-- What a live client counts of the datagrams that came. The calls of a run stand newest first.
use Rattle.std.specs.Prelude.{ℕ, ◌+◌, not, List, [], ◌∷◌, if◌then◌else◌}
use Rattle.std.specs.List.{count_by}
use Rattle.unit_packets.specs.Cutting.{blocks_of}
use Rattle.stream_print.specs.Carriers.{is_faulty}
use Rattle.live_net.specs.LiveCalls.{LiveCall, Receive}
use Rattle.live_net.specs.declared.net.Received.TheVariants as received
use Rattle.live_units.specs.Coming.{LiveSetup, has_unit}
use Rattle.live_recovery.specs.declared.counts.Counts.{Counts}

abbrev pub none_counted : Counts
none_counted = record { datagrams = 0; faulty = 0; blocks = 0; stray = 0 }

-- a datagram more: it is faulty where it is empty or has a rest behind its whole blocks; these were
-- heard, or are stray where their units are not listened to
abbrev pub with_counted : LiveSetup → List ℕ → Counts → Counts
with_counted s bytes before = record {
  datagrams = before.datagrams + 1;
  faulty = before.faulty + (if is_faulty bytes then 1 else 0);
  blocks = before.blocks + count_by (λ block. has_unit s block.unit) (blocks_of bytes);
  stray = before.stray + count_by (λ block. not (has_unit s block.unit)) (blocks_of bytes);
}

-- by a call more
abbrev pub counts_after : LiveSetup → LiveCall → Counts → Counts
counts_after s (Receive line room bytes (received.Got n)) before = with_counted s bytes before
counts_after s call before = before

-- by all calls of a run
abbrev pub counts_of : LiveSetup → List LiveCall → Counts
counts_of s [] = none_counted
counts_of s (call ∷ before) = counts_after s call (counts_of s before)
