-- What a venue's first messages say stays so where it accepts more.
use Rattle.std.proofs.Common.{◌≡◌, ℕ, zero, suc, ◌+◌, ◌≤◌, List, [], ◌∷◌, ◌++◌, length, take, sym, ap, ◌∙◌, arith, Some, length-append}
use Rattle.std.specs.List.{slice_get}
use Rattle.std.proofs.lemmas.List.{take-append-le}
use Rattle.std.proofs.lemmas.Option.{slice_get_past, none-some}
use Rattle.pitch_model.specs.Book.{book_after}
use Rattle.pitch_model.specs.History.{Entry, Raw, Message, Next, GrpUp, GrpDown, GapReply, SpinUp, SpinDown, Advertised, SpinReply, ImageMessages, SpinFinished, Ticked, spin_of, image_finished}
use Rattle.pitch_model.specs.Honest.{message_at, AreVenues, AreImages, Honest}
use Rattle.pitch_model.specs.Image.{image_of, image}

-- ---- Messages by their sequence
pub slice_more : (xs ys : List Raw) (k : ℕ) (x : Raw) → slice_get xs k ≡ Some x → slice_get (xs ++ ys) k ≡ Some x
slice_more [] ys k x e = absurd (none-some _ (sym (slice_get_past [] k (omega arith)) ∙ e))
slice_more (y ∷ xs) ys zero x e = e
slice_more (y ∷ xs) ys (suc k) x e = slice_more xs ys k x e

pub message_more : (V more : List Raw) (k : ℕ) (raw : Raw) → message_at V k ≡ Some raw → message_at (V ++ more) k ≡ Some raw
message_more V more zero raw e = absurd (none-some raw e)
message_more V more (suc k) raw e = slice_more V more k raw e

pub venues_more : (V more : List Raw) (first : ℕ) (raws : List Raw) → AreVenues V first raws → AreVenues (V ++ more) first raws
venues_more V more first raws are i raw at = message_more V more (first + i) raw (are i raw at)

-- ---- Books and images
pub book_more : (V more : List Raw) (n : ℕ) → n ≤ length V → book_after (take n (V ++ more)) ≡ book_after (take n V)
book_more V more n within = ap book_after (take-append-le n V more within)

pub image_more : (V more : List Raw) (s : ℕ) → s ≤ length V → image (V ++ more) s ≡ image V s
unfolding image
image_more V more s within = ap image_of (book_more V more s within)

-- ---- Histories
images_more : (V more : List Raw) (images : List (ℕ × List Raw)) → AreImages image V images → AreImages image (V ++ more) images
images_more V more [] are = tt
images_more V more (im ∷ images) are = (omega (arith, are.0, length-append V more), are.1 ∙ sym (image_more V more im.0 are.0))

-- an honest history stays honest
pub honest_more : (V more : List Raw) (E : List Entry) → Honest image V E → Honest image (V ++ more) E
honest_more V more [] h = tt
honest_more V more (Message k raw ∷ E) h = (message_more V more k raw h.0, honest_more V more E h.1)
honest_more V more (Next next ∷ E) h = (omega (arith, h.0, length-append V more), honest_more V more E h.1)
honest_more V more (Advertised s ∷ E) h = (omega (arith, h.0, length-append V more), honest_more V more E h.1)
honest_more V more (SpinFinished s ∷ E) h = (images_more V more (image_finished (spin_of E) s) h.0, honest_more V more E h.1)
honest_more V more (GrpUp ∷ E) h = (tt, honest_more V more E h.1)
honest_more V more (GrpDown ∷ E) h = (tt, honest_more V more E h.1)
honest_more V more (GapReply accepted ∷ E) h = (tt, honest_more V more E h.1)
honest_more V more (SpinUp ∷ E) h = (tt, honest_more V more E h.1)
honest_more V more (SpinDown ∷ E) h = (tt, honest_more V more E h.1)
honest_more V more (SpinReply s orders accepted ∷ E) h = (tt, honest_more V more E h.1)
honest_more V more (ImageMessages raws ∷ E) h = (tt, honest_more V more E h.1)
honest_more V more (Ticked ask ∷ E) h = (tt, honest_more V more E h.1)
