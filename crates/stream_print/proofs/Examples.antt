-- Worked examples: what is counted of a capture's packets, and the books of two units.
use Rattle.std.proofs.Common.{◌≡◌, ℕ, true, false, List, [], ◌∷◌, ◌++◌, reverse, refl, sym, ap, ◌∙◌, codes}
use Rattle.std.specs.Fmt.{digits}
use Rattle.pitch_messages.specs.Raw.{raws_of}
use Rattle.unit_packets.specs.Blocks.{Block}
use Rattle.unit_packets.specs.Cutting.{rest_by, rest_of}
use Rattle.unit_packets.specs.Judging.{judge, messages_end}
use Rattle.pitch_model.specs.Book.{Book, book_after}
use Rattle.pitch_model.specs.History.{Raw}
use Rattle.pitch_model.specs.Honest.{Honest}
use Rattle.pitch_model.specs.Image.{image}
use Rattle.pitch_model.specs.Reach.{reach_of, held_count}
use Rattle.pitch_model.proofs.Examples.{clock, order, deletion}
use Rattle.heard_items.specs.Units.{unit_history}
use Rattle.feed_lines.specs.BookText.{book_text}
use Rattle.stream_print.specs.Carriers.{counts_line, is_faulty}
use Rattle.stream_print.specs.Followed.{IsBooksText}

-- a datagram without bytes is faulty; one with a heartbeat is not, but for a byte behind it
one_without_bytes : is_faulty [] ≡ true
one_without_bytes = refl

one_with_a_block : is_faulty (8 ∷ 0 ∷ 0 ∷ 1 ∷ 1 ∷ 0 ∷ 0 ∷ 0 ∷ []) ≡ false
unfolding rest_of rest_by judge messages_end raws_of
one_with_a_block = refl

one_with_a_byte_more : is_faulty (8 ∷ 0 ∷ 0 ∷ 1 ∷ 1 ∷ 0 ∷ 0 ∷ 0 ∷ 0 ∷ []) ≡ true
unfolding rest_of rest_by judge messages_end raws_of
one_with_a_byte_more = refl

three_packets : counts_line (record { packets = 3; used = 2; faulty = 1 }) ≡ codes "packets 3 used 2 faulty 1\n"
unfolding counts_line digits
three_packets = refl

-- ---- A unit that contradicts itself
-- unit 2 has two different messages of sequence 1, and unit 1 a clock and an order
abbrev block : ℕ → ℕ → List ℕ → Block
block unit sequence raw = record { unit = unit; sequence = sequence; raws = raw ∷ [] }

abbrev before : List Block
before = reverse (block 1 1 clock ∷ block 2 1 clock ∷ block 2 1 deletion ∷ block 1 2 order ∷ [])

no_venue_is_of_both : (Image : List Raw → ℕ → List Raw) (V : List Raw) → Honest Image V (unit_history 2 before) → ⊥
no_venue_is_of_both Image V honest = let both = sym honest.0 ∙ honest.1.0 in cc

-- the book of unit 1 is that of its two messages all the same
the_other_units_book_stands : (text : List ℕ) → IsBooksText 4096 before text → (book : Book) × (text ≡ book_text 1 2 (book_after (clock ∷ order ∷ [])) ++ (book_text 2 1 book ++ []))
unfolding reach_of held_count
the_other_units_book_stands text is =
    let one : is.books 1 ≡ book_after (clock ∷ order ∷ []) = is.right 1 image (clock ∷ order ∷ []) (refl, (refl, tt)) in
    (is.books 2, is.text_is ∙ ap (λ (b : Book). book_text 1 2 b ++ (book_text 2 1 (is.books 2) ++ [])) one)
