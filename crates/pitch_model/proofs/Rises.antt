-- The reach never falls.
use Rattle.std.proofs.Common.{◌≡◌, ℕ, ◌≤◌, inl, inr, true, List, [], ◌∷◌, ◌++◌, eqb, ◌∙◌, arith}
use Rattle.std.specs.Set.{is_member}
use Rattle.std.specs.List.{list_any}
use Rattle.std.proofs.lemmas.Bool.{or_cases, or_left, or_right, cond_both}
use Rattle.std.proofs.lemmas.List.Folds.{list_any-append}
use Rattle.pitch_model.specs.History.{Entry, images_at, messages_at, spin_of}
use Rattle.pitch_model.specs.Reach.{SinceOverflow, Joined, grown, overflows, reach_of, reach, since_overflow, grown_at, sequences}
use Rattle.pitch_model.proofs.Reaching.{reach_is, joined_reach, base_joined}

member_more : (js ks : List ℕ) (k : ℕ) → is_member eqb ks k ≡ true → is_member eqb (js ++ ks) k ≡ true
member_more js ks k h = list_any-append (eqb k) js ks ∙ or_right (list_any (eqb k) js) (is_member eqb ks k) h

pub joined_more : (P : SinceOverflow) (images messages : List ℕ) (k : ℕ) → Joined P k → Joined (grown P images messages) k
joined_more P images messages k J = record {
  anchor = J.anchor;
  is_anchored = elim (or_cases (eqb J.anchor P.base) (is_member eqb P.images J.anchor) J.is_anchored) [
    | inl base ↦ or_left (eqb J.anchor P.base) (is_member eqb (images ++ P.images) J.anchor) base
    | inr image ↦ or_right (eqb J.anchor P.base) (is_member eqb (images ++ P.images) J.anchor) (member_more images P.images J.anchor image)
  ];
  below = J.below;
  run = λ j a b. member_more messages P.seen j (J.run j a b);
}

pub grown_rises : (P : SinceOverflow) (images messages : List ℕ) → reach_of P ≤ reach_of (grown P images messages)
grown_rises P images messages = (reach_is (grown P images messages)).greatest (reach_of P) (joined_more P images messages (reach_of P) (joined_reach P))

pub reach_rises : (H : ℕ) (E : List Entry) (entry : Entry) → reach H E ≤ reach H (entry ∷ E)
reach_rises H E entry =
    let P = grown_at (since_overflow H E) E entry in
    let up = grown_rises (since_overflow H E) (sequences (images_at entry (spin_of E))) (sequences (messages_at entry)) in
    let Q : SinceOverflow = record { base = reach_of P; images = []; seen = sequences (messages_at entry) } in
    let from = (reach_is Q).greatest (reach_of P) (base_joined Q) in
    cond_both (overflows H P (sequences (messages_at entry))) Q P (λ R. reach_of (since_overflow H E) ≤ reach_of R) (λ o. omega arith) (λ o. up)
