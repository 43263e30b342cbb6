use Rattle.std.proofs.Common.{List, [], ◌∷◌, refl, ap, ◌∙◌, subst, cond, false, ℕ}
use Rattle.pitch_model.specs.Book.{book_after}
use Rattle.pitch_model.specs.History.{Entry, spin_of}
use Rattle.pitch_model.specs.Honest.{AreImages}
use Rattle.client_core.specs.layers.Bookkeeping.{EndsSpin, FitsHeld}
use Rattle.client_core.specs.Tracks.{Tracks}
use Rattle.client_core.specs.Client.{held_number}
use Rattle.client_core.specs.declared.spinning.Finish.{Finish}
use Rattle.client_core.specs.declared.spinning.Finish.TheVariants.{Image}
use Rattle.client_core.proofs.Tracking.{tracks_image}
use Rattle.client_core.proofs.client.UnitClient.end_spin.Goals as goal

pub take_image-taken-requires-clause-image : goal.take_image-taken-requires-clause-image
take_image-taken-requires-clause-image c = (subst (λ (f : Finish). FitsHeld (held_number c.args.self.now) f) c.in-Image.is (c.finish.ensures.ready (held_number c.args.self.now) c.requires)).0

ended : (c : goal.After-image_end_of) (H : ℕ) (E : List Entry) → Tracks c.args.self.now H E → EndsSpin (Image c.in-Image.through c.in-Image.book) (spin_of E) c.args.sequence
ended c H E T = subst (λ f. EndsSpin f (spin_of E) c.args.sequence) c.in-Image.is (c.finish.ensures.ends (spin_of E) T.spin_is)

pub returns-in-Image-clause-tracks : goal.returns-in-Image-clause-tracks
returns-in-Image-clause-tracks c = λ H E T.
    let end = ended c H E T in
    tracks_image c.args.self.now _ H E c.args.sequence c.in-Image.through end.0 T end.1 c.take_image-taken.ensures.settles c.take_image-taken.ensures.limit c.raised_by-self.ensures
    (c.troubled_by-self.ensures ∙ ap (λ b. cond b false c.args.self.now.troubled) c.take_image-taken.ensures.taken)
    (c.finish.ensures.spin (spin_of E) T.spin_is) refl

pub returns-in-Image-clause-keeps : goal.returns-in-Image-clause-keeps
returns-in-Image-clause-keeps c = λ Image V law H E T honest K.
    let end = ended c H E T in
    let is : AreImages Image V ((c.in-Image.through, end.0) ∷ []) = subst (AreImages Image V) end.1 honest in
    c.take_image-taken.ensures.keeps V (end.2 ∙ ap book_after is.1 ∙ law c.in-Image.through) K
