use Rattle.std.proofs.Common.{Err, Ok, ◌+◌, length, sym, true≢false}
use Rattle.venue_core.specs.Refusals.{IsAnswer, refusal}
use Rattle.world_model.proofs.Acting.{acts_accepted, acts_refused, seen_venue}
use Rattle.world_model.proofs.world.World.command.Goals as goal

pub returns-in-Ok : goal.returns-in-Ok
returns-in-Ok c = λ s has.
    acts_accepted c.args.self.now s has c.accept.new.self c.calm.result c.args.command.now c.in-Ok.sequence
    (seen_venue c.args.self.now s has (λ v now. IsAnswer (refusal now.messages c.args.command.now) (length now.messages + 1) (Ok c.in-Ok.sequence)) c.in-Ok.ensures.answer) c.in-Ok.ensures.stands c.calm.ensures

pub returns-else-is_memory : goal.returns-else-is_memory
returns-else-is_memory c = λ s has.
    acts_refused c.args.self.now s has c.accept.new.self c.calm-in-Err.result c.args.command.now c.in-Err.error
    (seen_venue c.args.self.now s has (λ v now. IsAnswer (refusal now.messages c.args.command.now) (length now.messages + 1) (Err c.in-Err.error)) c.in-Err.ensures.answer)
    (λ e. true≢false (sym (c.if-is_memory.ensures.1 e))) c.in-Err.ensures.err c.calm-in-Err.ensures
