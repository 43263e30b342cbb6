use Rattle.std.proofs.Common.{◌≡◌, ℕ, List, [], ◌∷◌, ◌++◌, ap, ◌∙◌, refl}
use Rattle.pitch_messages.specs.Room.{Roomy}
use Rattle.pitch_text.specs.declared.verb.Verb.TheVariants as verbs
use Rattle.unit_packets.specs.Packing.{bytes_in}
use Rattle.venue_end.specs.Came.{Beaten, on_lines}
use Rattle.world_model.proofs.Acting.{acts_sends, bytes_more, seen_venue}
use Rattle.world_model.proofs.Sounding.{does_sound}
use Rattle.world_model.proofs.world.World.beat.Goals as goal

pub returns : goal.returns
returns c = λ s has.
    let w = c.args.self.now in
    let sent : List (List ℕ) = bytes_in w.sent.items in
    acts_sends w s has w.venue Beaten has.is.venue c.push.new.self c.calm.result 1
    (ap (λ (ls : List (Roomy ℕ)). bytes_in ls) c.in_ok-push.ensures.ok ∙ bytes_more w.sent.items c.in_ok-of_bytes.field-0 ∙ ap (λ (bytes : List ℕ). sent ++ bytes ∷ []) c.in_ok-of_bytes.ensures
    ∙ ap (λ (ds : List (List ℕ)). sent ++ ds) (seen_venue w s has (λ v now. c.beat-beat.result ∷ [] ≡ on_lines v Beaten now) c.beat-beat.ensures.bytes))
    refl (does_sound w.unit w.limits verbs.Beat s has.sound) c.calm.ensures
