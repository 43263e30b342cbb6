use Rattle.std.proofs.Common.{◌≡◌, ◌+◌, ◌≤◌, ◌++◌, length, map}
use Rattle.std.specs.Prelude.{vec_len, vec_capacity}
use Rattle.pitch_model.specs.Statuses.{symbol_state}
use Rattle.order_book.proofs.statuses.all_states.Given as goal

abbrev pub invariant-loop-entry : goal.invariant-loop-entry
invariant-loop-entry l = record {
  items : l.states.items ++ map symbol_state l.entry-iterator ≡ map symbol_state l.statuses.entries;
  room : vec_len l.states + length l.entry-iterator ≤ vec_capacity l.states;
}
