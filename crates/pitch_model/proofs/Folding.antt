-- The book, one message after another.
use Rattle.std.proofs.Common.{◌≡◌, ℕ, zero, suc, ◌+◌, List, [], ◌∷◌, ◌++◌, take, get_or, fold, ap, ◌∙◌, arith, Some}
use Rattle.std.proofs.Math.Seq.{take-suc}
use Rattle.std.proofs.lemmas.Option.{slice_get_within, get_or_from_slice_get}
use Rattle.std.proofs.lemmas.List.Sums.{fold-append}
use Rattle.pitch_model.specs.History.{Raw}
use Rattle.pitch_model.specs.Book.{empty_book, after, book_after}
use Rattle.pitch_model.specs.Honest.{message_at}

pub book_after-append : (xs ys : List Raw) → book_after (xs ++ ys) ≡ fold after (book_after xs) ys
book_after-append xs ys = fold-append after empty_book xs ys

-- the venue's next message is applied
pub book_after-next : (V : List Raw) (n k : ℕ) (raw : Raw) → k ≡ n + 1 → message_at V k ≡ Some raw → book_after (take k V) ≡ after (book_after (take n V)) raw
book_after-next V n zero raw e m = absurd (omega arith)
book_after-next V n (suc k) raw e m =
    let same : k ≡ n = omega arith in
    ap book_after (take-suc V k raw (slice_get_within V k raw m))
    ∙ book_after-append (take k V) (get_or V k raw ∷ [])
    ∙ ap (after (book_after (take k V))) (get_or_from_slice_get V k raw raw m)
    ∙ ap (λ j. after (book_after (take j V)) raw) same
