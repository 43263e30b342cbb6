-- The reach is at most the top.
use Rattle.std.proofs.Common.{ℕ, ◌≤◌, List, [], ◌∷◌, ◌++◌, arith, Option, Some, None, unwrap_or, eqb, ◌&&◌}
use Rattle.std.proofs.lemmas.Bool.{cond_both}
use Rattle.pitch_model.specs.History.{Entry, Message, Next, GrpUp, GrpDown, GapReply, SpinUp, SpinDown, Advertised, SpinReply, ImageMessages, SpinFinished, Ticked, images_at, messages_at, spin_of, Spinning, NoSpin, Asked, Running, image_finished, adds}
use Rattle.pitch_model.specs.Reach.{SinceOverflow, overflows, reach_of, since_overflow, reach, sequences, largest, top_since, grown_at}
use Rattle.pitch_model.specs.Status.{raised, top_of, told_at}
use Rattle.pitch_model.proofs.Reaching.{joined_reach, joined_le_top}

-- the top as a number
abbrev pub top_number : Option ℕ → ℕ
top_number top = unwrap_or top 0

reach_le_part : (P : SinceOverflow) → reach_of P ≤ top_since P
reach_le_part P = joined_le_top P (reach_of P) (joined_reach P)

largest_append : (ks js : List ℕ) (t : ℕ) → largest ks ≤ t → largest js ≤ t → largest (ks ++ js) ≤ t
largest_append [] js t a b = b
largest_append (k ∷ ks) js t a b = let r = largest_append ks js t (omega arith) b in omega arith

-- what is raised is at least what it was, and at least each of one number or none
raised_up : (ks : List ℕ) (top : Option ℕ) → top_number top ≤ top_number (raised ks top)
raised_up [] top = omega arith
raised_up (k ∷ ks) None = omega arith
raised_up (k ∷ ks) (Some t) = omega arith

raised_over : (k : ℕ) (ks : List ℕ) (top : Option ℕ) → k ≤ top_number (raised (k ∷ ks) top)
raised_over k ks None = omega arith
raised_over k ks (Some t) = omega arith

image_le : (S : Spinning) (s : ℕ) (top : Option ℕ) → largest (sequences (image_finished S s)) ≤ top_number (raised (sequences (image_finished S s)) top)
image_le (Running r orders raws) s top = cond_both (eqb r s && eqb (adds raws) orders) ((r, raws) ∷ []) [] (λ is. largest (sequences is) ≤ top_number (raised (sequences is) top)) (λ t. let o = raised_over r [] top in omega arith) (λ f. omega arith)
image_le NoSpin s top = omega arith
image_le (Asked a) s top = omega arith

-- the sequences of an entry's message and image are told of
module _ (E : List Entry) where
  told_messages : (entry : Entry) → largest (sequences (messages_at entry)) ≤ top_number (top_of (entry ∷ E))
  told_messages (Message k raw) = let r = raised_over k [] (top_of E) in omega arith
  told_messages (Next next) = omega arith
  told_messages GrpUp = omega arith
  told_messages GrpDown = omega arith
  told_messages (GapReply accepted) = omega arith
  told_messages SpinUp = omega arith
  told_messages SpinDown = omega arith
  told_messages (Advertised s) = omega arith
  told_messages (SpinReply s orders accepted) = omega arith
  told_messages (ImageMessages raws) = omega arith
  told_messages (SpinFinished s) = omega arith
  told_messages (Ticked ask) = omega arith

  told_images : (entry : Entry) → largest (sequences (images_at entry (spin_of E))) ≤ top_number (top_of (entry ∷ E))
  told_images (SpinFinished s) = image_le (spin_of E) s (top_of E)
  told_images (Message k raw) = omega arith
  told_images (Next next) = omega arith
  told_images GrpUp = omega arith
  told_images GrpDown = omega arith
  told_images (GapReply accepted) = omega arith
  told_images SpinUp = omega arith
  told_images SpinDown = omega arith
  told_images (Advertised s) = omega arith
  told_images (SpinReply s orders accepted) = omega arith
  told_images (ImageMessages raws) = omega arith
  told_images (Ticked ask) = omega arith

-- no number of the part is above the top
pub part_le_top : (H : ℕ) (E : List Entry) → top_since (since_overflow H E) ≤ top_number (top_of E)
part_le_top H [] = omega arith
part_le_top H (entry ∷ E) =
    let P = grown_at (since_overflow H E) E entry in
    let t = top_number (top_of (entry ∷ E)) in
    let IH = part_le_top H E in
    let up = raised_up (told_at E entry) (top_of E) in
    let m = told_messages E entry in
    let i = told_images E entry in
    let seen = largest_append (sequences (messages_at entry)) (since_overflow H E).seen t m (omega arith) in
    let images = largest_append (sequences (images_at entry (spin_of E))) (since_overflow H E).images t i (omega arith) in
    let whole : top_since P ≤ t = omega arith in
    let r = reach_le_part P in
    cond_both (overflows H P (sequences (messages_at entry))) (record { base = reach_of P; images = []; seen = sequences (messages_at entry) }) P (λ Q. top_since Q ≤ t) (λ o. omega arith) (λ o. whole)

pub reach_le_top : (H : ℕ) (E : List Entry) → reach H E ≤ unwrap_or (top_of E) 0
reach_le_top H E = let a = reach_le_part (since_overflow H E) in let b = part_le_top H E in omega arith
