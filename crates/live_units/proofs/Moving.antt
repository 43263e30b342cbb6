-- The line that tells that a unit's reach has moved.
use Rattle.std.proofs.Common.{◌≡◌, ℕ, List, [], eqb, sym, ap, ◌∙◌}
use Rattle.std.proofs.lemmas.Bool.{cond-true, cond-false, eq-eqb, ne_eqb}
use Rattle.pitch_model.specs.History.{Entry}
use Rattle.pitch_model.specs.Reach.{reach}
use Rattle.pitch_model.specs.Status.{status_of}
use Rattle.pitch_model.specs.declared.status.Status.{Status}
use Rattle.client_end.specs.Came.{EndSetup}
use Rattle.live_units.specs.LiveText.{image_line, moved_text}

module _ (s : EndSetup) (E E' : List Entry) (before after : ℕ) (was : before ≡ reach s.hold E) (is : after ≡ reach s.hold E') where
  told : List ℕ
  told = image_line s.unit (reach s.hold E') (status_of s.hold E')

  pub not_moved : after ≡ before → moved_text s E E' ≡ []
  unfolding told
  not_moved same = cond-true (eqb (reach s.hold E) (reach s.hold E')) [] told (eq-eqb (reach s.hold E) (reach s.hold E') (sym was ∙ sym same ∙ is))

  pub has_moved : (after ≡ before → ⊥) → (unit : ℕ) (status : Status) → unit ≡ s.unit → status ≡ status_of s.hold E' → image_line unit after status ≡ moved_text s E E'
  unfolding told
  has_moved other unit status u t =
      ap (λ (k : ℕ). image_line k after status) u ∙ ap (λ (n : ℕ). image_line s.unit n status) is ∙ ap (image_line s.unit (reach s.hold E')) t
      ∙ sym (cond-false (eqb (reach s.hold E) (reach s.hold E')) [] told (ne_eqb (reach s.hold E) (reach s.hold E') (λ same. other (is ∙ sym same ∙ sym was))))
