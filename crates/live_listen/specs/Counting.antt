-- What a listener counts of the datagrams that came.
use Rattle.std.specs.Prelude.{ℕ, Bool, not, List, length}
use Rattle.std.specs.List.{flat_map, count_by}
use Rattle.unit_packets.specs.Blocks.{Block}
use Rattle.unit_packets.specs.Cutting.{blocks_of}
use Rattle.stream_print.specs.Carriers.{is_faulty}
use Rattle.live_listen.specs.Heard.{is_wanted, blocks_heard}
use Rattle.live_listen.specs.declared.counts.Counts.{Counts}

-- its unit is not listened to
abbrev pub is_stray : List ℕ → Block → Bool
is_stray units block = not (is_wanted units block)

-- the datagrams, those of them that are empty or have a rest behind their whole blocks, the blocks
-- that were heard, and the stray ones
abbrev pub counts_of : List ℕ → List (List ℕ) → Counts
counts_of units datagrams = record {
  datagrams = length datagrams;
  faulty = count_by is_faulty datagrams;
  blocks = length (blocks_heard units datagrams);
  stray = count_by (is_stray units) (flat_map blocks_of datagrams);
}
