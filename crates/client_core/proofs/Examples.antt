-- What `hear` promises of a book, at an image of this feed that is taken.
use Rattle.std.proofs.Common.{◌≡◌, ℕ, List, [], ◌∷◌, ◌++◌, Some, map, take, refl, sym, ap, ◌∙◌, arith, true}
use Rattle.std.specs.List.{AllByRecursion}
use Rattle.std.specs.Ordering.{nat_cmp}
use Rattle.std.specs.FinMap as finite
use Rattle.std.proofs.lemmas.List.{nil_from_length}
use Rattle.pitch_messages.specs.declared.order.Order.{Order}
use Rattle.pitch_messages.specs.declared.message.Message.TheVariants.{Time}
use Rattle.pitch_messages.specs.Forms.{add_message, status_message}
use Rattle.pitch_messages.specs.Writing.{written}
use Rattle.pitch_messages.specs.Reading.{reads}
use Rattle.pitch_model.specs.Book.{after}
use Rattle.pitch_model.specs.History.{Entry, Raw, SpinUp, Advertised, Ticked, SpinReply, ImageMessages, SpinFinished}
use Rattle.pitch_model.specs.Honest.{Honest}
use Rattle.pitch_model.specs.Image.{image, image_of}
use Rattle.pitch_model.specs.Reach.{reach_of}
use Rattle.pitch_fields.specs.Fields.{AreBytes}
use Rattle.pitch_model.specs.declared.ask.Ask.TheVariants.{Spin}
use Rattle.pitch_model.specs.Statuses.{symbol_state}
use Rattle.pitch_model.proofs.Examples.{no_statuses}
use Rattle.pitch_model.proofs.Images.{image_book}
use Rattle.heard_items.specs.Heard.{heard}
use Rattle.heard_items.specs.Changes.{image_end}
use Rattle.heard_items.specs.declared.change.ImageEnd.TheVariants.{Taken, Bad}
use Rattle.heard_items.specs.declared.item.Item.TheVariants as item
use Rattle.client_core.specs.Tracks.{Tracks, Keeps}
use Rattle.client_core.specs.Venues.{IsImage, IsVenue}
use Rattle.client_core.specs.declared.client.UnitClient.{UnitClient}

-- a venue that has accepted one Time message, of 9:30
abbrev opening : List (List ℕ)
opening = (0x06 ∷ 0x20 ∷ 0x98 ∷ 0x85 ∷ 0 ∷ 0 ∷ []) ∷ []

-- its image was advertised, asked for, promised with no orders, and received
abbrev image_heard : List Entry
image_heard = ImageMessages opening ∷ SpinReply 1 0 true ∷ Ticked (Some (Spin 1)) ∷ Advertised 1 ∷ SpinUp ∷ []

bytes : AllByRecursion AreBytes opening
bytes = ((omega arith, (omega arith, (omega arith, (omega arith, (omega arith, (omega arith, tt)))))), tt)

abbrev nothing_open : finite.FinMap nat_cmp Order
nothing_open = finite.empty

no_orders : finite.values nothing_open ≡ []
no_orders = ap (map (λ (e : ℕ × Order). e.1)) (nil_from_length (finite.entries nothing_open) (sym (finite.len-entries nothing_open) ∙ finite.len-empty nat_cmp Order))

image_is : opening ≡ image opening 1
unfolding after reads image image_of written add_message
image_is = λ i. map written (Time 34200 ∷ (map (λ order. add_message order 0) (sym no_orders i) ++ map (λ state. status_message state 0) (map symbol_state (sym no_statuses i))))

-- its end is honest, and the image is taken
honest : Honest image opening (SpinFinished 1 ∷ image_heard)
honest = ((omega arith, image_is), (tt, (tt, (tt, (omega arith, (tt, tt))))))

taken : image_end 4 image_heard (item.SpinFinished 1) ≡ Taken
unfolding reach_of
taken = refl

-- so the book that a client has after it is the venue's
kept : (c c' : UnitClient) → Tracks c 4 image_heard → Keeps c opening
    → ((Image : List Raw → ℕ → List Raw) (V : List Raw) → IsImage Image V → (H : ℕ) (E : List Entry) → Tracks c H E → Honest Image V (heard (item.SpinFinished 1) E) → Keeps c V → Keeps c' V)
    → Keeps c' opening
kept c c' T K hears = hears image opening (λ s. image_book opening s bytes) 4 image_heard T honest K

-- ---- An image in another form: this one has the long add where this feed's has the short one
abbrev order : Raw
order = 34 ∷ 0x21 ∷ 0 ∷ 0 ∷ 0 ∷ 0 ∷ 1 ∷ 0 ∷ 0 ∷ 0 ∷ 0 ∷ 0 ∷ 0 ∷ 0 ∷ 0x42 ∷ 100 ∷ 0 ∷ 0 ∷ 0 ∷ 0x5a ∷ 0x56 ∷ 0x5a ∷ 0x5a ∷ 0x54 ∷ 0x20 ∷ 0x10 ∷ 0x27 ∷ 0 ∷ 0 ∷ 0 ∷ 0 ∷ 0 ∷ 0 ∷ 1 ∷ []

abbrev long_opening : List Raw
long_opening = opening ++ order ∷ []

abbrev long_image : List Entry
long_image = SpinFinished 2 ∷ ImageMessages long_opening ∷ SpinReply 2 1 true ∷ Ticked (Some (Spin 2)) ∷ Advertised 2 ∷ SpinUp ∷ []

-- it is the venue's too, whose images have the messages themselves
of_long_images : IsVenue long_opening long_image
of_long_images = record {
  Image = λ V s. take s V;
  are_images = λ s. refl;
  honest = ((omega arith, refl), (tt, (tt, (tt, (omega arith, (tt, tt))))));
}

-- an image is bad where two orders were promised and none came
bad : image_end 4 (ImageMessages opening ∷ SpinReply 2 2 true ∷ Ticked (Some (Spin 2)) ∷ Advertised 2 ∷ SpinUp ∷ []) (item.SpinFinished 2) ≡ Bad 2 0
unfolding reach_of
bad = refl
