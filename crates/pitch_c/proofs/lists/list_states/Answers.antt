use Rattle.std.proofs.Common.{length, sym, ap, ◌∙◌}
use Rattle.pitch_model.specs.Statuses.{statuses_of}
use Rattle.pitch_c.specs.Reports.{state_shown}
use Rattle.pitch_c.proofs.Filling.{fills_list}
use Rattle.pitch_c.proofs.lists.list_states.Goals as goal

pub returns-in-Ok-clause-states : goal.returns-in-Ok-clause-states
returns-in-Ok-clause-states c ok =
    fills_list state_shown (statuses_of c.args.book.now.book) c.as_slice.result.now c.args.told.now c.fill_states.new.told c.len.result
    (c.as_slice.ensures ∙ c.in-Ok.ensures) c.fill_states.ensures (c.len.ensures ∙ ap length (sym c.as_slice.ensures))
