-- What an honest history says of the venue.
use Rattle.std.proofs.Common.{◌≡◌, ℕ, zero, suc, ◌+◌, List, [], ◌∷◌, Option, Some, None, ◌∙◌, ap, subst, arith, ◌-◌, ◌≤◌, length, unwrap_or}
use Rattle.std.specs.List.{slice_get}
use Rattle.std.proofs.lemmas.Option.{slice_get_within}
use Rattle.pitch_model.specs.History.{Entry, Raw, Message, Next, GrpUp, GrpDown, GapReply, SpinUp, SpinDown, Advertised, SpinReply, ImageMessages, SpinFinished, Ticked, spin_of, image_finished}
use Rattle.pitch_model.specs.Reach.{sequences}
use Rattle.pitch_model.specs.Status.{raised, top_of}
use Rattle.pitch_model.specs.Honest.{message_at, AreVenues, AreImages, Honest}

module _ (Image : List Raw → ℕ → List Raw) (V : List Raw) where
  -- ---- An honest history tells of no message that the venue has not
  told_one : (k : ℕ) (top : Option ℕ) → k ≤ length V → unwrap_or top 0 ≤ length V → unwrap_or (raised (k ∷ []) top) 0 ≤ length V
  told_one k None fits before = fits
  told_one k (Some t) fits before = omega arith

  told_image : (images : List (ℕ × List Raw)) (top : Option ℕ) → AreImages Image V images → unwrap_or top 0 ≤ length V → unwrap_or (raised (sequences images) top) 0 ≤ length V
  told_image [] top are before = before
  told_image (image ∷ images) None are before = are.0
  told_image (image ∷ images) (Some t) are before = let fits = are.0 in omega arith

  stands : (k : ℕ) (raw : Raw) → message_at V k ≡ Some raw → k ≤ length V
  stands zero raw at = omega arith
  stands (suc k) raw at = let l = slice_get_within V k raw at in omega arith

  pub honest_top : (E : List Entry) → Honest Image V E → unwrap_or (top_of E) 0 ≤ length V
  honest_top [] h = omega arith
  honest_top (Message k raw ∷ E) h = told_one k (top_of E) (stands k raw h.0) (honest_top E h.1)
  honest_top (Next next ∷ E) h = told_one (next - 1) (top_of E) (let fits = h.0 in omega arith) (honest_top E h.1)
  honest_top (Advertised s ∷ E) h = told_one s (top_of E) h.0 (honest_top E h.1)
  honest_top (SpinFinished s ∷ E) h = told_image (image_finished (spin_of E) s) (top_of E) h.0 (honest_top E h.1)
  honest_top (GrpUp ∷ E) h = honest_top E h.1
  honest_top (GrpDown ∷ E) h = honest_top E h.1
  honest_top (GapReply accepted ∷ E) h = honest_top E h.1
  honest_top (SpinUp ∷ E) h = honest_top E h.1
  honest_top (SpinDown ∷ E) h = honest_top E h.1
  honest_top (SpinReply s orders accepted ∷ E) h = honest_top E h.1
  honest_top (ImageMessages raws ∷ E) h = honest_top E h.1
  honest_top (Ticked ask ∷ E) h = honest_top E h.1

-- ---- Messages one after another
module _ (V : List Raw) (sequence : ℕ) (rest rest' : List Raw) (raw : Raw) (split : rest ≡ raw ∷ rest') (are : AreVenues V sequence rest) where
  pub venues_first : message_at V sequence ≡ Some raw
  venues_first = subst (λ n. message_at V n ≡ Some raw) (omega arith) (are 0 raw (ap (λ rs. slice_get rs 0) split))

  pub venues_rest : AreVenues V (sequence + 1) rest'
  venues_rest i r at =
      let e : sequence + suc i ≡ (sequence + 1) + i = omega arith in
      subst (λ n. message_at V n ≡ Some r) e (are (suc i) r (ap (λ rs. slice_get rs (suc i)) split ∙ at))
