-- What a relay sends leaves the book that it follows.
use Rattle.std.proofs.Common.{◌≡◌, ℕ, ◌≤◌, Bool, true, false, List, [], ◌∷◌, ◌++◌, take, drop, fold, refl, ap, ◌∙◌, sym, arith}
use Rattle.std.proofs.lemmas.List.{take-append-drop, take-take}
use Rattle.std.specs.List.{AllByRecursion}
use Rattle.pitch_messages.specs.declared.message.Message.TheVariants.{UnitClear}
use Rattle.pitch_messages.specs.Writing.{written}
use Rattle.pitch_messages.proofs.RoundTrip.{message_back}
use Rattle.pitch_model.specs.History.{Entry, Raw}
use Rattle.pitch_model.specs.Book.{Book, cleared, after_read, after, book_after}
use Rattle.pitch_model.specs.Image.{image}
use Rattle.pitch_fields.specs.Fields.{AreBytes}
use Rattle.pitch_model.specs.Reach.{reach, reach_of}
use Rattle.pitch_model.proofs.Folding.{book_after-append}
use Rattle.pitch_model.proofs.Rises.{reach_rises}
use Rattle.pitch_model.proofs.Images.{image_book}
use Rattle.relay_unit.specs.Relayed.{takes_image, sent_for, relayed}
use Rattle.relay_unit.proofs.Laying.{anew_after_clear}

-- the messages up to r, and those behind them up to t
take_then : (r t : ℕ) (V : List Raw) → r ≤ t → take t V ≡ take r V ++ drop r (take t V)
take_then r t V le = sym (take-append-drop r (take t V)) ∙ ap (λ xs. xs ++ drop r (take t V)) (take-take r t V le)

-- Unit Clear takes all orders out
pub clears : (book : Book) → after book (written (UnitClear 0)) ≡ cleared book
unfolding after
clears book = ap (after_read book) (message_back (UnitClear 0) (omega arith, tt))

-- after Unit Clear, the image through t leaves the book of the messages up to t
image_follows : (V : List Raw) (r t : ℕ) → AllByRecursion AreBytes V → r ≤ t → fold after (book_after (take r V)) (written (UnitClear 0) ∷ image V t) ≡ book_after (take t V)
image_follows V r t bytes le =
    let b = book_after (take r V) in
    let more : book_after (take t V) ≡ fold after b (drop r (take t V)) = ap book_after (take_then r t V le) ∙ book_after-append (take r V) (drop r (take t V)) in
    ap (λ (x : Book). fold after x (image V t)) (clears b)
    ∙ anew_after_clear b (image V t) (drop r (take t V)) (image_book V t bytes ∙ more)
    ∙ sym more

messages_follow : (V : List Raw) (r t : ℕ) → r ≤ t → fold after (book_after (take r V)) (drop r (take t V)) ≡ book_after (take t V)
messages_follow V r t le = sym (book_after-append (take r V) (drop r (take t V))) ∙ ap book_after (sym (take_then r t V le))

pub sent_follows : (taken : Bool) (V : List Raw) (r t : ℕ) → AllByRecursion AreBytes V → r ≤ t → fold after (book_after (take r V)) (sent_for taken V r t) ≡ book_after (take t V)
sent_follows true V r t bytes le = image_follows V r t bytes le
sent_follows false V r t bytes le = messages_follow V r t le

nothing_sent : (H : ℕ) (V : List Raw) → book_after (relayed H V []) ≡ book_after (take (reach H []) V)
unfolding reach_of
nothing_sent H V = refl

pub relayed_book : (H : ℕ) (V : List Raw) (E : List Entry) → AllByRecursion AreBytes V → book_after (relayed H V E) ≡ book_after (take (reach H E) V)
relayed_book H V [] bytes = nothing_sent H V
relayed_book H V (entry ∷ E) bytes =
    let sent = sent_for (takes_image H E entry) V (reach H E) (reach H (entry ∷ E)) in
    book_after-append (relayed H V E) sent
    ∙ ap (λ (b : Book). fold after b sent) (relayed_book H V E bytes)
    ∙ sent_follows (takes_image H E entry) V (reach H E) (reach H (entry ∷ E)) bytes (reach_rises H E entry)
