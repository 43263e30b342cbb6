use Rattle.std.proofs.Common.{◌≡◌, ℕ, ◌≤◌, true, false, length, sym, ap, ◌∙◌, subst}
use Rattle.pitch_fields.specs.Limits.{last_sequence}
use Rattle.pitch_model.specs.Honest.{Honest}
use Rattle.pitch_model.specs.Image.{image}
use Rattle.pitch_model.specs.Status.{status_of}
use Rattle.client_core.specs.Tracks.{Tracks}
use Rattle.drill_client.specs.layers.Told.{is_behind, told_all}
use Rattle.drill_client.proofs.Ends.{told_honest, told_ask, told_below}
use Rattle.drill_client.proofs.Closing.{at_current, at_asking}
use Rattle.drill_client.proofs.ending.asks_when_told_of_all.Goals as goal

pub returns-then-not-is_behind : goal.returns-then-not-is_behind
returns-then-not-is_behind c H V many (E, f) =
    let h : Honest image V (told_all (length V) E) = told_honest H V E f.honest in
    let tracks : Tracks c.hear_of_all.new.client H (told_all (length V) E) = subst (λ (n : ℕ). Tracks c.hear_of_all.new.client H (told_all n E)) (sym many) (c.hear_of_all.ensures.tracks H E f.tracks) in
    let keeps = c.hear_of_all.ensures.keeps image V (c.images_of_bytes_are_images.ensures V f.bytes) H E f.tracks (subst (λ (n : ℕ). Honest image V (told_all n E)) many h) f.keeps in
    let status : is_behind (status_of H (told_all (length V) E)) ≡ false = ap is_behind (sym (c.status.ensures H _ tracks)) ∙ sym c.is_behind.ensures ∙ c.if-not-is_behind.true in
    at_current c.hear_of_all.new.client H V E f.honest tracks keeps status

pub returns : goal.returns
returns c H V many (E, f) =
    let few : length V ≤ last_sequence = subst (λ (n : ℕ). n ≤ last_sequence) (sym many) c.requires in
    let h : Honest image V (told_all (length V) E) = told_honest H V E f.honest in
    let tracks : Tracks c.hear_of_all.new.client H (told_all (length V) E) = subst (λ (n : ℕ). Tracks c.hear_of_all.new.client H (told_all n E)) (sym many) (c.hear_of_all.ensures.tracks H E f.tracks) in
    let keeps = c.hear_of_all.ensures.keeps image V (c.images_of_bytes_are_images.ensures V f.bytes) H E f.tracks (subst (λ (n : ℕ). Honest image V (told_all n E)) many h) f.keeps in
    let status : is_behind (status_of H (told_all (length V) E)) ≡ true = ap is_behind (sym (c.status.ensures H _ tracks)) ∙ sym c.is_behind.ensures ∙ c.if-not-is_behind.false in
    at_asking c.tick.new.self H V E c.tick.result c.args.client.now f few (c.tick.ensures.asks H _ tracks ∙ told_ask H V E f.honest (told_below H V E f.honest status)) (c.tick.ensures.tracks H _ tracks) (c.tick.ensures.keeps V keeps) status
