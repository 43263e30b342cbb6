-- What the writer's calls rest on.
use Rattle.std.proofs.Common.{◌≡◌, ℕ, ◌+◌, ◌<◌, ◌≤◌, Bool, true, false, List, [], ◌∷◌, ◌++◌, length, refl, sym, ap, ◌∙◌, subst, arith, length-append, Option, None, Some, Ok, Err, IfSome, nat_eq}
use Rattle.std.proofs.lemmas.List.{append-nil, take_all}
use Rattle.std.specs.Set.{is_member}
use mathlib.Core.List.{IsPrefix}
use Rattle.pitch_model.specs.Advertising.{Operation, Accept, Advertise, accepted_by, advertised_by, newest_of}
use Rattle.pitch_model.specs.Book.{Book, book_after}
use Rattle.pitch_model.specs.History.{adds}
use Rattle.pitch_model.specs.Image.{image, image_of}
use Rattle.pitch_model.proofs.Advertising.{accepted_more, newest_is_advertised, newest_repeats}
use Rattle.pitch_model.proofs.Images.{image_is}
use Rattle.venue_core.specs.declared.error.VenueError.{VenueError}
use Rattle.venue_core.specs.declared.error.VenueError.TheVariants.{OutOfMemory}
use Rattle.venue_core.specs.Refusals.{IsAnswer}
use Rattle.shared_unit.specs.declared.published.Picture.{Picture}
use Rattle.shared_unit.specs.layers.Histories.{IsLegal, then_done}
use Rattle.shared_unit.specs.layers.Stored.{IsPicture, HasSequences, raws_in}

-- ---- Answers
pub answer_memory : {A : Type 0} (refusal : Option VenueError) (x : A) → refusal ≡ None → IsAnswer refusal x (Err OutOfMemory)
answer_memory refusal x none = subst (λ (o : Option VenueError). IsAnswer o x (Err OutOfMemory)) (sym none) refl

pub answer_sequence : (refusal : Option VenueError) (x n : ℕ) → refusal ≡ None → n ≡ x → IsAnswer refusal x (Ok n)
answer_sequence refusal x n none is = subst (λ (o : Option VenueError). IsAnswer o x (Ok n)) (sym none) is

-- ---- Accepting
pub accepted_next : (h : List Operation) (raw : List ℕ) → accepted_by h ++ raw ∷ [] ≡ accepted_by (then_done h (Accept raw))
accepted_next h raw = sym (accepted_more h (Accept raw))

pub sequences_left : (h : List Operation) (raw : List ℕ) → length (accepted_by h) < 4294967294 → HasSequences (then_done h (Accept raw))
sequences_left h raw left = omega (arith, left, ap (λ (l : List (List ℕ)). length l) (accepted_more h (Accept raw)), length-append (accepted_by h) (raw ∷ []))

-- ---- Publishing
pub done_length : (h : List Operation) (operation : Operation) → length (then_done h operation) ≡ length h + 1
done_length h operation = length-append h (operation ∷ [])

-- ---- Advertising
pub accepted_same : (h : List Operation) → accepted_by (then_done h Advertise) ≡ accepted_by h
accepted_same h = accepted_more h Advertise ∙ append-nil (accepted_by h)

pub legal_still : (fixed : Bool) (plan : List (List ℕ)) (h : List Operation) (operation : Operation) → operation ≡ Advertise → IsLegal fixed plan h → IsLegal fixed plan (then_done h operation)
legal_still fixed plan h operation is legal =
    subst (λ (o : Operation). IsLegal fixed plan (then_done h o)) (sym is) (λ is_fixed. subst (λ (l : List (List ℕ)). IsPrefix l plan) (sym (accepted_same h)) (legal is_fixed))

pub sequences_still : (h : List Operation) (operation : Operation) → operation ≡ Advertise → length (accepted_by h) ≤ 4294967294 → HasSequences (then_done h operation)
sequences_still h operation is few =
    subst (λ (o : Operation). HasSequences (then_done h o)) (sym is) (omega (arith, few, ap (λ (l : List (List ℕ)). length l) (accepted_same h)))

pub newest_there : (h : List Operation) (n : ℕ) → newest_of (advertised_by h) ≡ Some n → n ≡ length (accepted_by h) → is_member nat_eq (advertised_by h) (length (accepted_by h)) ≡ true
newest_there h n newest is = ap (is_member nat_eq (advertised_by h)) (sym is) ∙ newest_is_advertised (advertised_by h) n newest

pub newest_not : (h : List Operation) (n : ℕ) → (newest_of (advertised_by h) ≡ Some n → ⊥) → n ≡ length (accepted_by h) → is_member nat_eq (advertised_by h) n ≡ false
newest_not h n other is = ap (is_member nat_eq (advertised_by h)) is ∙ by (is_member nat_eq (advertised_by h) (length (accepted_by h))) refl
  where
    by : (b : Bool) → is_member nat_eq (advertised_by h) (length (accepted_by h)) ≡ b → b ≡ false
    by true there = absurd (other (newest_repeats h there ∙ ap (λ (m : ℕ). Some m) (sym is)))
    by false there = refl

pub picture_whole : (V : List (List ℕ)) (p : Picture) (book : Book) → book ≡ book_after V → p.sequence ≡ length V → p.orders ≡ adds (image_of book) → raws_in p ≡ Some (image_of book) → IsPicture V p
picture_whole V p book is newest orders has =
    let same : image V p.sequence ≡ image_of book = image_is V p.sequence ∙ ap (λ (l : List (List ℕ)). image_of (book_after l)) (take_all p.sequence V (omega (arith, newest))) ∙ ap image_of (sym is) in
    record {
      within = omega (arith, newest);
      orders = orders ∙ ap adds (sym same);
      raws = subst (λ (o : Option (List (List ℕ))). IfSome o (λ raws. raws ≡ image V p.sequence)) (sym has) (sym same);
    }
