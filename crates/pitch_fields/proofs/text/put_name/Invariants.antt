use Rattle.std.proofs.Common.{◌≡◌, ◌≤◌, ◌+◌, ◌*◌, ◌++◌, take, drop, length}
use Rattle.std.specs.List.{flat_map}
use Rattle.pitch_fields.specs.Name.{shown_byte}
use Rattle.pitch_fields.proofs.text.put_name.Given as goal

abbrev pub invariant-loop-byte : goal.invariant-loop-byte
invariant-loop-byte l = record {
  within : l.end ≤ l.at + 4 * l.byte-index;
  kept : length l.out ≡ length l.initial.out;
  text : take l.end l.out ≡ take l.at l.initial.out ++ flat_map shown_byte (take l.byte-index l.shown);
  rest : drop l.end l.out ≡ drop l.end l.initial.out;
}
