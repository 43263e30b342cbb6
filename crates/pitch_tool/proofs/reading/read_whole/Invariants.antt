use Rattle.std.proofs.Common.{◌≡◌, ◌≤◌, length}
use Rattle.std.specs.Io.KnownBytes.{Consumes}
use Rattle.pitch_tool.proofs.reading.read_whole.Given as goal

abbrev pub invariant-takes : goal.invariant-takes
invariant-takes g l = record {
  read : Consumes (g.I.Source.left l.fn.input) (g.I.Source.left l.input) l.bytes.items;
  turns : l.turn ≤ length l.bytes.items;
  short : length l.bytes.items ≤ l.most;
  place : length l.piece.items ≡ 65536;
  later : g.I.Source.faults l.fn.input ≤ g.I.Source.faults l.input;
}
