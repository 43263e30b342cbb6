-- The messages of an image, appended one after another.
use Rattle.std.proofs.Common.{◌≡◌, ℕ, ◌+◌, List, [], ◌∷◌, ◌++◌, drop, map, sym, ap, ◌∙◌, append_assoc}
use Rattle.std.proofs.lemmas.List.{append-nil, map-append}
use Rattle.pitch_messages.specs.declared.order.Order.{Order}
use Rattle.pitch_messages.specs.declared.trading_state.TradingState.{TradingState}
use Rattle.pitch_messages.specs.declared.message.Message.{Message}
use Rattle.pitch_messages.specs.Forms.{add_message, status_message}
use Rattle.pitch_messages.specs.Writing.{written}
use Rattle.pitch_model.specs.Book.{Book}
use Rattle.order_book.specs.layers.Images.{adds_of, raws_of}
use Rattle.pitch_model.specs.Image.{clock_of, image_of}
use Rattle.pitch_model.specs.Levels.{orders_of}
use Rattle.pitch_model.specs.Statuses.{statuses_of}

pub adds_more : (i : ℕ) (orders : List Order) (order : Order) (before so_far so_far' : List (List ℕ)) → so_far ++ adds_of (drop i orders) ≡ before ++ adds_of orders → drop i orders ≡ order ∷ drop (i + 1) orders
    → so_far' ≡ so_far ++ written (add_message order 0) ∷ [] → so_far' ++ adds_of (drop (i + 1) orders) ≡ before ++ adds_of orders
adds_more i orders order before so_far so_far' is next more =
    ap (λ (l : List (List ℕ)). l ++ adds_of (drop (i + 1) orders)) more
    ∙ append_assoc so_far (written (add_message order 0) ∷ []) (adds_of (drop (i + 1) orders))
    ∙ ap (λ (os : List Order). so_far ++ adds_of os) (sym next) ∙ is

pub adds_end : (i : ℕ) (orders : List Order) (before so_far : List (List ℕ)) → so_far ++ adds_of (drop i orders) ≡ before ++ adds_of orders → drop i orders ≡ [] → so_far ≡ before ++ adds_of orders
adds_end i orders before so_far is none = sym (append-nil so_far) ∙ ap (λ (os : List Order). so_far ++ adds_of os) (sym none) ∙ is

pub image_whole : (book : Book) (orders none : List Order) (states no_states : List TradingState) (before reserved clock added after : List (List ℕ)) → orders ≡ none ++ orders_of book → none ≡ [] → states ≡ no_states ++ statuses_of book → no_states ≡ []
    → reserved ≡ before → clock ≡ reserved ++ map written (clock_of book.second) → added ≡ clock ++ adds_of orders → after ≡ added ++ raws_of states → after ≡ before ++ image_of book
unfolding image_of
image_whole book orders none states no_states before reserved clock added after all empty listed unlisted kept first second third =
    let are : orders ≡ orders_of book = all ∙ ap (λ (os : List Order). os ++ orders_of book) empty in
    let have : states ≡ statuses_of book = listed ∙ ap (λ (xs : List TradingState). xs ++ statuses_of book) unlisted in
    let time : List (List ℕ) = map written (clock_of book.second) in
    let adds : List (List ℕ) = adds_of orders in
    let os : List Message = map (λ (order : Order). add_message order 0) (orders_of book) in
    let ss : List Message = map (λ (state : TradingState). status_message state 0) (statuses_of book) in
    third
    ∙ ap (λ (l : List (List ℕ)). l ++ raws_of states) (second ∙ ap (λ (l : List (List ℕ)). l ++ adds) (first ∙ ap (λ (l : List (List ℕ)). l ++ time) kept))
    ∙ append_assoc (before ++ time) adds (raws_of states)
    ∙ append_assoc before time (adds ++ raws_of states)
    ∙ ap (λ (xs : List Order). before ++ (time ++ (adds_of xs ++ raws_of states))) are
    ∙ ap (λ (xs : List TradingState). before ++ (time ++ (adds_of (orders_of book) ++ raws_of xs))) have
    ∙ ap (λ (l : List (List ℕ)). before ++ (time ++ l)) (sym (map-append written os ss))
    ∙ ap (λ (l : List (List ℕ)). before ++ l) (sym (map-append written (clock_of book.second) (os ++ ss)))
