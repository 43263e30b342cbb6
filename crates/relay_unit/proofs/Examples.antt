-- Worked examples, computed by the definitions.
use Rattle.std.proofs.Common.{◌≡◌, ℕ, ◌++◌, ◌+◌, inr, Some, true, List, [], ◌∷◌, map, length, drop, refl, sym, ap, ◌∙◌, codes}
use Rattle.std.specs.List.{concat}
use Rattle.std.specs.Ordering.{nat_cmp}
use Rattle.std.specs.FinMap as finite
use Rattle.std.proofs.lemmas.Cmp.{nat_cmp_total}
use Rattle.std.proofs.lemmas.List.{nil_from_length}
use Rattle.pitch_fields.specs.declared.side.Side.TheVariants.{Buy}
use Rattle.pitch_messages.specs.declared.order.Order.{Order}
use Rattle.unit_packets.specs.Blocks.{Block}
use Rattle.unit_packets.specs.Packing.{packed, packed_on, fits_datagram}
use Rattle.unit_packets.specs.BlockBytes.{block_bytes}
use Rattle.pitch_messages.specs.Reading.{reads}
use Rattle.pitch_messages.specs.Session.{session_reads}
use Rattle.pitch_messages.specs.Writing.{written}
use Rattle.pitch_messages.specs.Forms.{add_message, status_message}
use Rattle.pitch_messages.specs.declared.trading_state.TradingState.{TradingState}
use Rattle.pitch_model.specs.History.{Raw, Next, Advertised, ImageMessages, Ticked}
use Rattle.pitch_model.specs.Book.{Book, empty_book, after, book_after}
use Rattle.pitch_model.specs.Image.{image, image_of}
use Rattle.pitch_model.specs.Reach.{reach, reach_of, held_count}
use Rattle.pitch_model.specs.Statuses.{symbol_state}
use Rattle.pitch_model.proofs.Examples.{no_statuses}
use Rattle.feed_lines.specs.Texts.{texts_after}
use Rattle.heard_items.specs.declared.change.ImageEnd.TheVariants as end
use Rattle.relay_unit.specs.layers.Changing.{end_or}
use Rattle.relay_unit.specs.Following.{Sends}
use Rattle.pitch_model.specs.declared.ask.Ask.TheVariants.{Spin}
use Rattle.relay_unit.specs.Hearing.{first_heard, heard_session, relay_heard, relay_history}
use Rattle.relay_unit.proofs.Following.{one_step}
use Rattle.relay_unit.specs.RelayText.{relay_text}

-- ---- A book from an image, and then a line block: what the venue sent is an add, a message of
-- another type and a deletion
abbrev order : Raw
order = 0x1a ∷ 0x22 ∷ 0x00 ∷ 0x00 ∷ 0x00 ∷ 0x00 ∷ 0x05 ∷ 0x00 ∷ 0x00 ∷ 0x00 ∷ 0x00 ∷ 0x00 ∷ 0x00 ∷ 0x00 ∷ 0x42 ∷ 0x64 ∷ 0x00 ∷ 0x49 ∷ 0x42 ∷ 0x4d ∷ 0x20 ∷ 0x20 ∷ 0x20 ∷ 0xe8 ∷ 0x03 ∷ 0x01 ∷ []

abbrev other : Raw
other = 0x02 ∷ 0xff ∷ []

abbrev deletion : Raw
deletion = 0x0e ∷ 0x29 ∷ 0x00 ∷ 0x00 ∷ 0x00 ∷ 0x00 ∷ 0x05 ∷ 0x00 ∷ 0x00 ∷ 0x00 ∷ 0x00 ∷ 0x00 ∷ 0x00 ∷ 0x00 ∷ []

abbrev venue : ℕ → List Raw
venue unit = order ∷ other ∷ deletion ∷ []

abbrev block : ℕ → List Raw → Block
block sequence raws = record { unit = 1; sequence = sequence; raws = raws }

abbrev available : Raw
available = 0x06 ∷ 0x80 ∷ 0x02 ∷ 0x00 ∷ 0x00 ∷ 0x00 ∷ []

abbrev reply : Raw
reply = 0x0b ∷ 0x82 ∷ 0x02 ∷ 0x00 ∷ 0x00 ∷ 0x00 ∷ 0x01 ∷ 0x00 ∷ 0x00 ∷ 0x00 ∷ 0x41 ∷ []

abbrev finished : Raw
finished = 0x06 ∷ 0x83 ∷ 0x02 ∷ 0x00 ∷ 0x00 ∷ 0x00 ∷ []

abbrev merged : List Block
merged = block 3 [] ∷ block 0 (available ∷ []) ∷ block 0 (reply ∷ []) ∷ block 0 (order ∷ []) ∷ block 0 (finished ∷ []) ∷ []

abbrev unit_clear : Raw
unit_clear = 0x06 ∷ 0x97 ∷ 0 ∷ 0 ∷ 0 ∷ 0 ∷ []

reach_of_the_image : reach 4096 (relay_history 4096 1 (block 0 (finished ∷ []) ∷ block 0 (order ∷ []) ∷ block 0 (reply ∷ []) ∷ block 0 (available ∷ []) ∷ block 3 [] ∷ [])) ≡ 2
unfolding reach_of held_count session_reads
reach_of_the_image = refl

-- the image through 2 is the add
abbrev sold : Order
sold = record { id = 5; side = Buy; quantity = 100; symbol = codes "IBM     "; price = 100000; display = true; participant = codes "    " }

abbrev no_orders : finite.FinMap nat_cmp Order
no_orders = finite.empty

no_entries : finite.entries no_orders ≡ []
no_entries = nil_from_length (finite.entries no_orders) (sym (finite.len-entries no_orders) ∙ finite.len-empty nat_cmp Order)

one_entry : finite.entries (finite.insert no_orders 5 sold) ≡ (5, sold) ∷ []
one_entry = finite.entries-insert nat_cmp_total no_orders 5 sold ∙ ap (finite.put nat_cmp 5 sold) no_entries

image_of_two : image (venue 1) 2 ≡ order ∷ []
unfolding image image_of after reads written add_message
image_of_two =
    λ i. map written (map (λ (o : Order). add_message o 0) (map (λ (e : ℕ × Order). e.1) (one_entry i)) ++ map (λ (state : TradingState). status_message state 0) (map symbol_state (no_statuses i)))

-- what is sent where this is the image
abbrev sent_with : List Raw → List Raw
sent_with raws = (unit_clear ∷ raws) ++ []

the_image_is_sent : relay_text 4096 venue merged ≡ 0x28 ∷ 0x00 ∷ 0x02 ∷ 0x01 ∷ 0x01 ∷ 0x00 ∷ 0x00 ∷ 0x00 ∷ 0x06 ∷ 0x97 ∷ 0x00 ∷ 0x00 ∷ 0x00 ∷ 0x00 ∷ 0x1a ∷ 0x22 ∷ 0x00 ∷ 0x00 ∷ 0x00 ∷ 0x00 ∷ 0x05 ∷ 0x00 ∷ 0x00 ∷ 0x00 ∷ 0x00 ∷ 0x00 ∷ 0x00 ∷ 0x00 ∷ 0x42 ∷ 0x64 ∷ 0x00 ∷ 0x49 ∷ 0x42 ∷ 0x4d ∷ 0x20 ∷ 0x20 ∷ 0x20 ∷ 0xe8 ∷ 0x03 ∷ 0x01 ∷ []
unfolding texts_after reach_of held_count session_reads written packed_on fits_datagram block_bytes
the_image_is_sent = ap (λ (raws : List Raw). concat (packed 1 1 (sent_with raws)) ++ []) image_of_two

a_line_block_goes_on : relay_text 4096 venue (merged ++ block 3 (deletion ∷ []) ∷ [])
    ≡ 0x28 ∷ 0x00 ∷ 0x02 ∷ 0x01 ∷ 0x01 ∷ 0x00 ∷ 0x00 ∷ 0x00 ∷ 0x06 ∷ 0x97 ∷ 0x00 ∷ 0x00 ∷ 0x00 ∷ 0x00 ∷ 0x1a ∷ 0x22 ∷ 0x00 ∷ 0x00 ∷ 0x00 ∷ 0x00 ∷ 0x05 ∷ 0x00 ∷ 0x00 ∷ 0x00 ∷ 0x00 ∷ 0x00 ∷ 0x00 ∷ 0x00 ∷ 0x42 ∷ 0x64 ∷ 0x00 ∷ 0x49 ∷ 0x42 ∷ 0x4d ∷ 0x20 ∷ 0x20 ∷ 0x20 ∷ 0xe8 ∷ 0x03 ∷ 0x01 ∷ 0x16 ∷ 0x00 ∷ 0x01 ∷ 0x01 ∷ 0x03 ∷ 0x00 ∷ 0x00 ∷ 0x00 ∷ 0x0e ∷ 0x29 ∷ 0x00 ∷ 0x00 ∷ 0x00 ∷ 0x00 ∷ 0x05 ∷ 0x00 ∷ 0x00 ∷ 0x00 ∷ 0x00 ∷ 0x00 ∷ 0x00 ∷ 0x00 ∷ []
unfolding texts_after reach_of held_count session_reads written packed_on fits_datagram block_bytes
a_line_block_goes_on =
    ap (λ (raws : List Raw). concat (packed 1 1 (sent_with raws)) ++ (concat (packed 1 (length (sent_with raws) + 1) (drop (length (sent_with raws)) ((sent_with raws ++ deletion ∷ []) ++ []))) ++ [])) image_of_two

-- ---- A message that comes twice is sent once
abbrev clock : Raw
clock = 0x06 ∷ 0x20 ∷ 0x98 ∷ 0x85 ∷ 0x00 ∷ 0x00 ∷ []

a_repeat_adds_nothing : relay_text 4096 (λ unit. clock ∷ []) (block 1 (clock ∷ []) ∷ block 1 (clock ∷ []) ∷ []) ≡ 0x0e ∷ 0x00 ∷ 0x01 ∷ 0x01 ∷ 0x01 ∷ 0x00 ∷ 0x00 ∷ 0x00 ∷ 0x06 ∷ 0x20 ∷ 0x98 ∷ 0x85 ∷ 0x00 ∷ 0x00 ∷ []
unfolding texts_after reach_of held_count packed_on fits_datagram block_bytes
a_repeat_adds_nothing = refl

-- ---- An image that no venue sends leaves the clock out
abbrev knows_the_time : Book
knows_the_time = record empty_book { second = Some 34200 }

nothing_in_it : image_of empty_book ≡ []
unfolding image_of
nothing_in_it =
    λ i. map written (map (λ (o : Order). add_message o 0) (map (λ (e : ℕ × Order). e.1) (no_entries i)) ++ map (λ (state : TradingState). status_message state 0) (map symbol_state (no_statuses i)))

-- Unit Clear is sent for it
it_is_sent : Sends knows_the_time (unit_clear ∷ []) empty_book
unfolding written
it_is_sent = one_step knows_the_time empty_book (unit_clear ∷ []) (inr (record {
  raws_are = ap (λ (raws : List Raw). unit_clear ∷ raws) (sym nothing_in_it);
  leaves = ap book_after nothing_in_it;
}))

-- which takes no clock back: a follower still has it, and not just the book of the relay
a_follower_has_the_time : (book_after (clock ∷ unit_clear ∷ [])).second ≡ Some 34200
unfolding after reads
a_follower_has_the_time = refl

-- ---- What else a Spin Server and its client say
-- a login, its reply and a request are none of an image, nor is an end that is cut short
others_tell_nothing : heard_session ((22 ∷ 0x01 ∷ codes "0001FEED  PITCH     ") ∷ (3 ∷ 0x02 ∷ 0x41 ∷ []) ∷ (6 ∷ 0x81 ∷ 2 ∷ 0 ∷ 0 ∷ 0 ∷ []) ∷ (5 ∷ 0x83 ∷ 2 ∷ 0 ∷ 0 ∷ []) ∷ []) [] ≡ []
unfolding session_reads
others_tell_nothing = refl

-- a message of any other type is one of an image
another_is_of_an_image : heard_session ((3 ∷ 0x84 ∷ 0 ∷ []) ∷ (3 ∷ 0x03 ∷ 0 ∷ []) ∷ []) [] ≡ ImageMessages ((3 ∷ 0x03 ∷ 0 ∷ []) ∷ []) ∷ ImageMessages ((3 ∷ 0x84 ∷ 0 ∷ []) ∷ []) ∷ []
another_is_of_an_image = refl

-- a tick comes after a block of a line too: there the image is asked for
a_line_block_ticks : relay_heard 4096 (block 3 []) (Advertised 2 ∷ first_heard) ≡ Ticked (Some (Spin 2)) ∷ Next 3 ∷ Advertised 2 ∷ first_heard
unfolding reach_of held_count
a_line_block_ticks = refl

-- of two ends of images in a block the last is told
the_last_end_is_told : end_or end.Taken end.Stale ≡ end.Stale
the_last_end_is_told = refl

what_ends_no_image_is_not : end_or end.Taken end.NoImage ≡ end.Taken
what_ends_no_image_is_not = refl
