-- What a reader of a stream stands for.
use Rattle.std.specs.Prelude.{◌≡◌, ℕ, List, [], ◌++◌, length, None}
use Rattle.unit_packets.specs.Blocks.{Block}
use Rattle.unit_packets.specs.Causes.{counted}
use Rattle.unit_packets.specs.Cutting.{blocks_of, rest_of, place_of}
use Rattle.unit_packets.specs.Reading.{Reading}
use Rattle.pcap_feed.specs.Capture.{packets_of, packets_from}
use Rattle.pcap_feed.specs.Feeding.{GoesOn}
use Rattle.stream_print.specs.Carriers.{blocks_in, counts_line}
use Rattle.stream_print.specs.Counting.{IsCount}
use Rattle.stream_print.specs.declared.carrier.Carrier.{Carrier}
use Rattle.stream_print.specs.declared.carrier.Carrier.TheVariants.{Bare, Capture}
use Rattle.stream_print.specs.declared.packets.PacketReader.{PacketReader}
use Rattle.stream_print.specs.declared.reader.StreamReader.{StreamReader}
use Rattle.stream_print.specs.declared.reader.StreamReader.TheVariants.{Blocks, Packets}

-- it is behind the whole blocks of the bytes that were fed, and keeps what follows them
pub record IsBehindBlocks (r : Reading) (bytes : List ℕ) : Type 0 where
  pub rest : r.rest ≡ rest_of bytes
  pub place : r.place ≡ counted (place_of bytes)

-- it is behind the whole packets of the bytes that were fed, which it has counted, and has met no
-- fault yet
pub record IsBehindPackets (r : PacketReader) (bytes : List ℕ) : Type 0 where
  pub goes_on : GoesOn r.reader bytes
  pub sound : r.reader.fault ≡ None
  pub counts : IsCount r.port (packets_of bytes) r.counts

-- a reader of the carrier's kind has come to the end of these bytes
abbrev pub HasRead : Carrier → StreamReader → List ℕ → Type 0
HasRead Bare (Blocks r) bytes = IsBehindBlocks r bytes
HasRead Bare (Packets r) bytes = ⊥
HasRead (Capture port) (Blocks r) bytes = ⊥
HasRead (Capture port) (Packets r) bytes = (r.port ≡ port) × IsBehindPackets r bytes

-- how many bytes are loaded and not behind
abbrev pub rest_size : StreamReader → ℕ
rest_size (Blocks r) = length r.rest
rest_size (Packets r) = length r.reader.rest

-- the blocks that a piece more completes
abbrev pub blocks_with : StreamReader → List ℕ → List Block
blocks_with (Blocks r) piece = blocks_of (r.rest ++ piece)
blocks_with (Packets r) piece =
    blocks_in r.port (packets_from r.reader.told (r.reader.rest ++ piece))

-- the line of the packets that were counted
abbrev pub packets_text : StreamReader → List ℕ
packets_text (Blocks r) = []
packets_text (Packets r) = counts_line r.counts
