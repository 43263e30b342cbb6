use Rattle.std.proofs.Common.{◌≡◌, ℕ, length, ap, ◌∙◌}
use Rattle.pitch_text.specs.declared.verb.Verb.TheVariants as verbs
use Rattle.venue_end.specs.Came.{Advertised}
use Rattle.world_model.specs.Verbs.{venue_has}
use Rattle.world_model.specs.declared.outcome.Outcome.TheVariants as outcome
use Rattle.world_model.proofs.Acting.{acts_passed, calm_of, passes_venue, seen_venue, venue_then}
use Rattle.world_model.proofs.Sounding.{does_sound}
use Rattle.world_model.proofs.world.World.advertise.Goals as goal

pub returns : goal.returns
returns c = λ s has.
    let w = c.args.self.now in
    let sequence = seen_venue w s has (λ v now. c.in_ok-sequence.sequence ≡ length now.messages) c.in_ok-sequence.ensures.sequence in
    acts_passed w _ c.calm.result (outcome.Advertised (length s.venue.messages)) s (venue_has w.unit w.limits Advertised s)
    (passes_venue w s has c.advertise.new.self Advertised (venue_then w s has c.advertise.new.self Advertised c.in_ok-sequence.ensures.stands) (does_sound w.unit w.limits verbs.Advertise s has.sound))
    (c.calm.ensures ∙ ap (λ (n : ℕ). calm_of (outcome.Advertised n)) sequence)
