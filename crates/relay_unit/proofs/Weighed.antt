-- What is sent where an image is taken, counted.
use Rattle.std.proofs.Common.{◌≡◌, ℕ, ◌+◌, ◌≤◌, List, [], ◌∷◌, ◌++◌, map, length, length-append, Option, Some, None, ap, ◌∙◌, sym, arith}
use Rattle.std.specs.FinMap as finite
use Rattle.std.proofs.lemmas.List.{length-map}
use Rattle.pitch_messages.specs.Forms.{add_message, status_message}
use Rattle.pitch_messages.specs.Writing.{written}
use Rattle.pitch_messages.specs.declared.message.Message.{Message}
use Rattle.pitch_model.specs.Book.{Book}
use Rattle.pitch_model.specs.Image.{clock_of, image_messages, image_of}
use Rattle.pitch_model.specs.Levels.{orders_of}
use Rattle.pitch_model.specs.Statuses.{statuses_of, symbol_state}
use Rattle.client_core.specs.Keeping.{book_size}

clock_count : (second : Option ℕ) → length (clock_of second) ≤ 1
clock_count None = omega arith
clock_count (Some second) = omega arith

orders_count : (book : Book) → length (orders_of book) ≡ finite.len book.orders
orders_count book = length-map (finite.entries book.orders) (λ e. e.1) ∙ sym (finite.len-entries book.orders)

statuses_count : (book : Book) → length (statuses_of book) ≡ finite.len book.statuses
statuses_count book = length-map (finite.entries book.statuses) symbol_state ∙ sym (finite.len-entries book.statuses)

-- an image has a Time message at most, and one message for each order and trading status
image_count : (book : Book) → length (image_of book) ≤ 1 + book_size book
unfolding image_of
image_count book =
    let adds : List Message = map (λ order. add_message order 0) (orders_of book) in
    let states : List Message = map (λ state. status_message state 0) (statuses_of book) in
    let all = length-map (image_messages book) written in
    let clock = clock_count book.second in
    let first = length-append (clock_of book.second) (adds ++ states) in
    let then = length-append adds states in
    let orders = length-map (orders_of book) (λ order. add_message order 0) ∙ orders_count book in
    let statuses = length-map (statuses_of book) (λ state. status_message state 0) ∙ statuses_count book in
    omega arith

-- Unit Clear and the image of a book are sent
pub taken_weighs : (book : Book) (clear : List ℕ) (sent sent1 sent2 sent3 : List (List ℕ)) → sent1 ≡ sent → sent2 ≡ sent1 ++ clear ∷ [] → sent3 ≡ sent2 ++ image_of book
    → (book' : Book) (after before : ℕ) → book ≡ book' → (2 + book_size book') + after ≤ before → length sent3 + after ≤ length sent + before
taken_weighs book clear sent sent1 sent2 sent3 one two three book' after before same le =
    let first = ap (λ (xs : List (List ℕ)). length xs) one in
    let second = ap (λ (xs : List (List ℕ)). length xs) two ∙ length-append sent1 (clear ∷ []) in
    let third = ap (λ (xs : List (List ℕ)). length xs) three ∙ length-append sent2 (image_of book) in
    let image = image_count book in
    let size = ap book_size same in
    omega arith
