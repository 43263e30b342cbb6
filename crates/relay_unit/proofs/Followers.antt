-- Whoever follows a relay has its orders.
use Rattle.std.proofs.Common.{◌≡◌, ℕ, inl, inr, List, [], ◌∷◌, fold, Option, Some, None, refl, sym, ap, ◌∙◌, subst}
use Rattle.std.specs.Option.{option_or}
use Rattle.std.specs.FinMap as finite
use Rattle.std.proofs.lemmas.List.Sums.{fold-append}
use Rattle.pitch_model.specs.History.{Raw}
use Rattle.pitch_model.specs.Book.{Book, empty_book, cleared, after, book_after}
use Rattle.pitch_model.specs.Image.{image_of}
use Rattle.relay_unit.specs.Following.{AreImage, IsStep, AreSteps, sent_in, Sends, Shows, KnowsAllOf, LeaveNothingOut, HasSent}
use Rattle.relay_unit.specs.Stands.{followed_book}
use Rattle.relay_unit.specs.declared.relay.Relay.{Relay}
use Rattle.relay_unit.proofs.Laying.{LaidOver, fold_laid, orders_laid, laid_whole}
use Rattle.relay_unit.proofs.Sending.{clears}

-- what is laid over what it has itself
shows_laid : (book other : Book) → Shows book other → LaidOver book other book
shows_laid book other s = record {
  orders_are = s.orders_are;
  second_is = by other.second refl;
  statuses_are = λ q. at q (finite.get other.statuses q) refl;
}
  where
    by : (known : Option ℕ) → other.second ≡ known → book.second ≡ option_or known book.second
    by None e = refl
    by (Some second) e = s.clock second e

    at : (q : List ℕ) (known : Option (ℕ × ℕ)) → finite.get other.statuses q ≡ known → finite.get book.statuses q ≡ option_or known (finite.get book.statuses q)
    at q None e = refl
    at q (Some status) e = s.statuses q status e

laid_shows : (below other book : Book) → LaidOver below other book → Shows book other
laid_shows below other book l = record {
  orders_are = l.orders_are;
  clock = λ second e. l.second_is ∙ ap (λ (o : Option ℕ). option_or o below.second) e;
  statuses = λ q status e. l.statuses_are q ∙ ap (λ (o : Option (ℕ × ℕ)). option_or o (finite.get below.statuses q)) e;
}

pub shows_same : (book other : Book) → book ≡ other → Shows book other
shows_same book other e = record {
  orders_are = ap (λ (b : Book). b.orders) e;
  clock = λ second f. ap (λ (b : Book). b.second) e ∙ f;
  statuses = λ q status f. ap (λ (b : Book). finite.get b.statuses q) e ∙ f;
}

-- an image is laid over what was there, all orders of which go
image_laid : (follower book' : Book) (raws : List Raw) → AreImage raws book' → LaidOver follower book' (fold after follower raws)
image_laid follower book' raws imaged =
    let anew = fold_laid follower empty_book (cleared follower) (image_of book') (orders_laid follower empty_book) in
    let all : fold after follower raws ≡ fold after (cleared follower) (image_of book') =
    ap (fold after follower) imaged.raws_are ∙ ap (λ (b : Book). fold after b (image_of book')) (clears follower) in
    subst (LaidOver follower book') (sym all)
    (subst (λ (b : Book). LaidOver follower b (fold after (cleared follower) (image_of book'))) imaged.leaves anew)

-- a follower applies the messages of a step
step_shows : (follower book book' : Book) (raws : List Raw) → Shows follower book → IsStep book raws book' → Shows (fold after follower raws) book'
step_shows follower book book' raws s (inl applied) =
    laid_shows follower book' (fold after follower raws)
    (subst (λ (b : Book). LaidOver follower b (fold after follower raws)) (sym applied)
    (fold_laid follower book follower raws (shows_laid follower book s)))
step_shows follower book book' raws s (inr imaged) =
    laid_shows follower book' (fold after follower raws) (image_laid follower book' raws imaged)

steps_show : (follower book book' : Book) (steps : List (List Raw × Book)) → Shows follower book → AreSteps book steps book' → Shows (fold after follower (sent_in steps)) book'
steps_show follower book book' [] s same = subst (Shows follower) (sym same) s
steps_show follower book book' (step ∷ steps) s are =
    subst (λ (b : Book). Shows b book') (sym (fold-append after follower step.0 (sent_in steps)))
    (steps_show (fold after follower step.0) step.1 book' steps (step_shows follower book step.1 step.0 s are.0) are.1)

pub followers_show : (follower book book' : Book) (raws : List Raw) → Shows follower book → Sends book raws book' → Shows (fold after follower raws) book'
followers_show follower book book' raws s sends =
    subst (λ (rs : List Raw). Shows (fold after follower rs) book') (sym sends.joined)
    (steps_show follower book book' sends.steps s sends.are)

pub relays_show : (relay : Relay) (raws : List Raw) → HasSent relay raws → Shows (book_after raws) (followed_book relay)
relays_show relay raws S =
    followers_show empty_book empty_book (followed_book relay) raws (shows_same empty_book empty_book refl) S.sends

-- ---- Where no image leaves anything out
step_exact : (book book' : Book) (raws : List Raw) → IsStep book raws book' → (AreImage raws book' → KnowsAllOf book' book) → fold after book raws ≡ book'
step_exact book book' raws (inl applied) knows = sym applied
step_exact book book' raws (inr imaged) knows = laid_whole book book' (fold after book raws) (image_laid book book' raws imaged) (knows imaged)

steps_exact : (book book' : Book) (steps : List (List Raw × Book)) → AreSteps book steps book' → LeaveNothingOut book steps → fold after book (sent_in steps) ≡ book'
steps_exact book book' [] same whole = sym same
steps_exact book book' (step ∷ steps) are whole =
    fold-append after book step.0 (sent_in steps)
    ∙ ap (λ (b : Book). fold after b (sent_in steps)) (step_exact book step.1 step.0 are.0 whole.0)
    ∙ steps_exact step.1 book' steps are.1 whole.1

pub followers_exact : (book book' : Book) (raws : List Raw) (s : Sends book raws book') → LeaveNothingOut book s.steps → fold after book raws ≡ book'
followers_exact book book' raws s whole = ap (fold after book) s.joined ∙ steps_exact book book' s.steps s.are whole
