-- A block that is lent from the bytes in which it stands.
use Rattle.std.specs.Prelude.{◌+◌, length}
use Rattle.std.specs.List.{concat}
use Rattle.unit_packets.specs.Blocks.{Block}
use Rattle.unit_packets.specs.declared.header.Header.{Header}

-- the header of a block
abbrev pub header_for : Block → Header
header_for block = record {
  length = 8 + length (concat block.raws);
  count = length block.raws;
  unit = block.unit;
  sequence = block.sequence;
}
