-- The books of all units, one after another.
use Rattle.std.proofs.Common.{◌≡◌, ℕ, zero, suc, ◌+◌, ◌≤◌, ◌<◌, inl, inr, Bool, true, false, cond, List, [], ◌∷◌, ◌++◌, length, take, reverse, refl, sym, ap, ◌∙◌, subst, arith, Option, Some, None, slice_get, append_assoc}
use Rattle.std.specs.List.{flat_map}
use Rattle.std.specs.Option.{option_flatten}
use Rattle.std.proofs.lemmas.Bool.{cases_lt}
use Rattle.std.proofs.lemmas.List.{append-nil}
use Rattle.std.proofs.lemmas.Option.{slice_get_cases}
use Rattle.unit_packets.specs.Blocks.{Block}
use Rattle.pitch_model.specs.Book.{Book, empty_book, book_after}
use Rattle.pitch_model.specs.History.{Entry, Raw}
use Rattle.pitch_model.specs.Reach.{reach, reach_of}
use Rattle.heard_items.specs.Units.{unit_history, units_of, AllHonest}
use Rattle.feed_lines.specs.BookText.{book_text}
use Rattle.feed_lines.specs.Follow.{unit_text, books_of, follow_text, lines_after}
use Rattle.client_core.specs.Client.{current_book}
use Rattle.client_core.specs.declared.client.UnitClient.{UnitClient}
use Rattle.unit_clients.specs.Clients.{Units, is_named, AreUnits, IsClient, Clients, KeepsTo, HaveHeard}
use Rattle.unit_clients.proofs.Hearing.{unnamed_history}
use Rattle.stream_print.specs.Followed.{IsBookOf, text_at_reach, IsBooksText, IsFollowed}
use Rattle.stream_print.specs.Page.{Prints, PrintsSuch}
use Rattle.stream_print.specs.Putting.{PutsSome}
use Rattle.stream_print.specs.Rising.{named_below}
use Rattle.stream_print.specs.Sinks.{PutsSuch}
use Rattle.stream_print.specs.TextLaws.{IsEnd}
use Rattle.stream_print.specs.declared.stream_form.StreamForm.TheVariants.{Follow}
use Rattle.stream_print.specs.layers.Books.{client_text, texts_below}
use Rattle.stream_print.proofs.Naming.{below_none, below_more, units_below}
use Rattle.stream_print.proofs.Printing.{prints_none, prints_more, puts_then, puts_longer}

-- ---- Clients, one after another
-- the client at a place
abbrev pub client_at : List (Option UnitClient) → ℕ → Option UnitClient
client_at clients unit = option_flatten (slice_get clients unit)

no_texts : (clients : List (Option UnitClient)) → texts_below clients 0 ≡ []
unfolding texts_below
no_texts clients = refl

text_more : (clients : List (Option UnitClient)) (n : ℕ) → texts_below clients (suc n) ≡ texts_below clients n ++ client_text n (client_at clients n)
unfolding texts_below
text_more clients n = refl

one_more : (n : ℕ) → n + 1 ≡ suc n
one_more n = omega arith

-- one place more
texts_more : (clients : List (Option UnitClient)) (n : ℕ) (slot : Option UnitClient) → slice_get clients n ≡ Some slot → texts_below clients (n + 1) ≡ texts_below clients n ++ client_text n slot
texts_more clients n slot at =
    ap (texts_below clients) (one_more n) ∙ text_more clients n ∙ ap (λ (o : Option (Option UnitClient)). texts_below clients n ++ client_text n (option_flatten o)) at

-- those below i come first
texts_split : (clients : List (Option UnitClient)) (i n : ℕ) → i ≤ n → (rest : List ℕ) × (texts_below clients n ≡ texts_below clients i ++ rest)
texts_split clients i zero le = ([], ap (texts_below clients) (zero_is i le) ∙ sym (append-nil (texts_below clients i)))
  where
    zero_is : (i : ℕ) → i ≤ 0 → 0 ≡ i
    zero_is i le = omega arith
texts_split clients i (suc n) le = elim (cases_lt n i) [
  | inl lt ↦ ([], ap (texts_below clients) (same i n le lt) ∙ sym (append-nil (texts_below clients i)))
  | inr more ↦
      let before = texts_split clients i n more in
      let last : List ℕ = client_text n (client_at clients n) in
      (before.0 ++ last, text_more clients n ∙ ap (λ (l : List ℕ). l ++ last) before.1 ∙ append_assoc (texts_below clients i) before.0 last)
]
  where
    same : (i n : ℕ) → i ≤ suc n → n < i → suc n ≡ i
    same i n le lt = omega arith

pub books_start : (clients : List (Option UnitClient)) (w : Option (List ℕ)) (t : List ℕ) → Prints w t w t (texts_below clients 0)
books_start clients w t = subst (Prints w t w t) (sym (no_texts clients)) (prints_none w t)

module _ (clients : List (Option UnitClient)) (n : ℕ) (slot : Option UnitClient) (at : slice_get clients n ≡ Some slot) (a b c : Option (List ℕ)) (t u : List ℕ) (so_far : Prints a t b u (texts_below clients n)) where
  pub books_more : (v : List ℕ) → Prints b u c v (client_text n slot) → Prints a t c v (texts_below clients (n + 1))
  books_more v more = subst (Prints a t c v) (sym (texts_more clients n slot at)) (prints_more a b c t u v (texts_below clients n) (client_text n slot) so_far more)

  pub books_fail : n < 256 → PutsSome b c (u ++ client_text n slot) → PutsSome a c (t ++ texts_below clients 256)
  books_fail lt fails =
      let split = texts_split clients (n + 1) 256 (omega arith) in
      let here : texts_below clients n ++ client_text n slot ≡ texts_below clients (n + 1) = sym (texts_more clients n slot at) in
      let puts : PutsSome a c (t ++ texts_below clients (n + 1)) = subst (λ (l : List ℕ). PutsSome a c (t ++ l)) here (puts_then a b c t u (texts_below clients n) (client_text n slot) so_far fails) in
      subst (PutsSome a c) (append_assoc t (texts_below clients (n + 1)) split.0 ∙ ap (λ (l : List ℕ). t ++ l) (sym split.1)) (puts_longer a c (t ++ texts_below clients (n + 1)) split.0 puts)

-- ---- All units
flat_append : (f : ℕ → List ℕ) (xs ys : List ℕ) → flat_map f (xs ++ ys) ≡ flat_map f xs ++ flat_map f ys
flat_append f [] ys = refl
flat_append f (x ∷ xs) ys = ap (λ (t : List ℕ). f x ++ t) (flat_append f xs ys) ∙ sym (append_assoc (f x) (flat_map f xs) (flat_map f ys))

-- the text of one unit more, where it is named
one_named : (f : ℕ → List ℕ) (p : ℕ → Bool) (n : ℕ) → flat_map f (named_below p (suc n)) ≡ flat_map f (named_below p n) ++ cond (p n) (f n) []
one_named f p n =
    ap (λ (k : ℕ). flat_map f (named_below p k)) (sym (one_more n))
    ∙ ap (flat_map f) (below_more p n)
    ∙ flat_append f (named_below p n) (cond (p n) (n ∷ []) [])
    ∙ ap (λ (t : List ℕ). flat_map f (named_below p n) ++ t) (last (p n))
  where
    last : (b : Bool) → flat_map f (cond b (n ∷ []) []) ≡ cond b (f n) []
    last true = append-nil (f n)
    last false = refl

-- the book of a client, and none without one
abbrev slot_book : Option UnitClient → Book
slot_book None = empty_book
slot_book (Some client) = current_book client

abbrev books_in : List (Option UnitClient) → ℕ → Book
books_in clients unit = slot_book (client_at clients unit)

module _ (H : ℕ) (clients : List (Option UnitClient)) (before : List Block) (stands : Clients H clients before) where
  abbrev text_of : ℕ → List ℕ
  text_of unit = text_at_reach H before (books_in clients) unit

  client_text_is : (n : ℕ) (slot : Option UnitClient) → client_at clients n ≡ slot → IsClient H before n slot → client_text n slot ≡ cond (is_named before n) (text_of n) []
  client_text_is n None at none = ap (λ (b : Bool). cond b (text_of n) []) (sym none)
  client_text_is n (Some client) at (named, tracks) =
      ap (λ (k : ℕ). book_text n k (current_book client)) tracks.floor_is
      ∙ ap (λ (o : Option UnitClient). book_text n (reach H (unit_history n before)) (slot_book o)) (sym at)
      ∙ ap (λ (b : Bool). cond b (text_of n) []) (sym named)

  texts_are : (n : ℕ) → n ≤ 256 → texts_below clients n ≡ flat_map text_of (named_below (is_named before) n)
  texts_are zero le = no_texts clients ∙ ap (flat_map text_of) (sym (below_none (is_named before)))
  texts_are (suc n) le = elim (slice_get_cases clients n).1 [
    | inl (slot, _, at, _) ↦
        let there : client_at clients n ≡ slot = ap option_flatten at in
        text_more clients n ∙ ap (λ (l : List ℕ). l ++ client_text n (client_at clients n)) (texts_are n (omega arith))
        ∙ ap (λ (o : Option UnitClient). flat_map text_of (named_below (is_named before) n) ++ client_text n o) there
        ∙ ap (λ (l : List ℕ). flat_map text_of (named_below (is_named before) n) ++ l) (client_text_is n slot there (stands.each n slot at))
        ∙ sym (one_named text_of (is_named before) n)
    | inr (past, _) ↦ let many = stands.many in absurd (omega (arith, past, many, le))
  ]

  -- all of them are those of the units that the blocks name
  all_texts : AreUnits before → texts_below clients 256 ≡ flat_map text_of (units_of before)
  all_texts low = texts_are 256 (omega arith) ∙ ap (flat_map text_of) (sym (units_below 256 before low))

-- the client of a unit has the book of any venue of which the unit's blocks speak honestly
no_book : (H : ℕ) (before : List Block) (unit : ℕ) (book : Book) (V : List Raw) → is_named before unit ≡ false → book ≡ empty_book → book ≡ book_after (take (reach H (unit_history unit before)) V)
unfolding reach_of
no_book H before unit book V none is = is ∙ ap (λ (E : List Entry). book_after (take (reach H E) V)) (sym (unnamed_history before unit none))

books_right : (units : Units) (before : List Block) → HaveHeard units before → (unit : ℕ) → IsBookOf units.limit (unit_history unit before) (books_in units.places unit)
books_right units before heard unit Image V honest = elim (slice_get_cases units.places unit).1 [
  | inl (slot, _, at, _) ↦ by slot (ap option_flatten at) (heard.clients.each unit slot at) (heard.keep.each unit slot at Image V honest)
  | inr (past, at) ↦ no_book units.limit before unit (books_in units.places unit) V (unnamed (is_named before unit) refl past) (ap (λ (o : Option (Option UnitClient)). slot_book (option_flatten o)) at)
]
  where
    unnamed : (b : Bool) → is_named before unit ≡ b → length units.places ≤ unit → is_named before unit ≡ false
    unnamed true named past = let many = heard.clients.many in absurd (omega (arith, past, many, heard.named unit named))
    unnamed false named past = named

    by : (slot : Option UnitClient) → client_at units.places unit ≡ slot → IsClient units.limit before unit slot → KeepsTo V slot → books_in units.places unit ≡ book_after (take (reach units.limit (unit_history unit before)) V)
    by None there none keeps = no_book units.limit before unit (books_in units.places unit) V none (ap slot_book there)
    by (Some client) there (named, tracks) keeps = ap slot_book there ∙ keeps.book_is ∙ ap (λ (k : ℕ). book_after (take k V)) tracks.floor_is

-- ---- The end of a stream that was followed
are_books : (units : Units) (before : List Block) → HaveHeard units before → IsBooksText units.limit before (texts_below units.places 256)
are_books units before heard = record {
  books = books_in units.places;
  right = books_right units before heard;
  text_is = all_texts units.limit units.places before heard.clients heard.named;
}

module _ (units : Units) (before : List Block) (w : Option (List ℕ)) (t : List ℕ) (v : Option (List ℕ)) (heard : HaveHeard units before) where
  pub end_of_books : (u : List ℕ) → Prints w t v u (texts_below units.places 256) → PrintsSuch (IsEnd (Follow units.limit) before) w t v u
  end_of_books u p = record { text = texts_below units.places 256; printed = p; such = are_books units before heard }

  pub prefix_of_books : PutsSome w v (t ++ texts_below units.places 256) → PutsSuch (IsEnd (Follow units.limit) before) w t v
  prefix_of_books p = record { text = texts_below units.places 256; puts = p; such = are_books units before heard }

-- ---- Where the blocks of all units speak honestly
all_alike : (f g : ℕ → List ℕ) → ((n : ℕ) → f n ≡ g n) → (ns : List ℕ) → flat_map f ns ≡ flat_map g ns
all_alike f g alike [] = refl
all_alike f g alike (n ∷ ns) = ap (λ (l : List ℕ). l ++ flat_map f ns) (alike n) ∙ ap (λ (l : List ℕ). g n ++ l) (all_alike f g alike ns)

-- the books are those of all venues
pub books_of_all : (H : ℕ) (before : List Block) (text : List ℕ) → IsBooksText H before text → (Image : List Raw → ℕ → List Raw) (Vs : ℕ → List Raw) → AllHonest Image Vs before → text ≡ books_of H Vs before
books_of_all H before text is Image Vs honest =
    is.text_is ∙ all_alike (text_at_reach H before is.books) (unit_text H Vs before)
    (λ unit. ap (book_text unit (reach H (unit_history unit before))) (is.right unit Image (Vs unit) (honest unit))) (units_of before)

-- and the whole is the text that `follow_text` defines for their messages
pub follow_text_of_all : (H : ℕ) (blocks : List Block) (text : List ℕ) → IsFollowed H blocks text → (Image : List Raw → ℕ → List Raw) (Vs : ℕ → List Raw) → AllHonest Image Vs (reverse blocks) → text ≡ follow_text H Vs blocks
follow_text_of_all H blocks text is Image Vs honest = is.text_is ∙ ap (λ (l : List ℕ). lines_after H [] blocks ++ l) (books_of_all H (reverse blocks) is.books is.are_books Image Vs honest)
