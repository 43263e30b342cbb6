-- What a client hears that goes on following.
use Rattle.std.proofs.Common.{◌≡◌, ℕ, zero, suc, ◌+◌, ◌==◌, ◌&&◌, ◌≤◌, true, false, List, [], ◌∷◌, ◌++◌, length, take, Option, Some, None, refl, sym, ap, ◌∙◌, subst, arith}
use Rattle.std.proofs.lemmas.List.{take_more}
use Rattle.std.proofs.lemmas.Option.{get_or_from_slice_get, slice_get_within}
use Rattle.std.proofs.lemmas.Bool.{cond-true, cond_both}
use Rattle.std.proofs.lemmas.Bool.Decides.{nat_tests}
use Rattle.std.specs.List.{slice_get, AllByRecursion}
use Rattle.pitch_messages.specs.Room.{Roomy}
use Rattle.unit_packets.specs.Packing.{bytes_in}
use Rattle.std.specs.Prelude.{cond}
use Rattle.unit_packets.specs.Blocks.{Block}
use Rattle.pitch_model.specs.declared.ask.Ask.{Ask}
use Rattle.pitch_model.specs.declared.ask.Ask.TheVariants.{Gap, Spin}
use Rattle.unit_packets.specs.Cutting.{blocks_of}
use Rattle.client_core.specs.declared.client.UnitClient.{UnitClient}
use Rattle.pitch_model.specs.History.{Entry, Raw, Spinning, NoSpin, Asked, Running, Ticked, Message, SpinReply, spin_of, spin_asked, spin_more, spin_replied, spin_finished, image_finished, can_promise, adds}
use Rattle.pitch_model.specs.Honest.{Honest, AreVenues, AreImages, message_at}
use Rattle.pitch_model.specs.Image.{image}
use Rattle.heard_items.specs.Datagrams.{IsVenueBlock, IsPiece, heard_blocks}
use Rattle.heard_items.specs.Heard.{heard_block, heard_messages, heard_sequenced}
use Rattle.drill_client.specs.layers.Following.{NoImageRuns, Follows, heard_datagrams, ImageParts}
use Rattle.drill_client.specs.layers.Following.{IsImageOf, imaged_whole}

-- ---- Blocks
module _ (V : List Raw) where
  messages_honest : (first : ℕ) (raws : List Raw) (E : List Entry) → AreVenues V first raws → Honest image V E → Honest image V (heard_messages first raws E)
  messages_honest first [] E are h = h
  messages_honest first (raw ∷ raws) E are h =
      let e : first + 0 ≡ first = omega arith in
      messages_honest (first + 1) raws (Message first raw ∷ E)
      (λ i next at. let f : first + suc i ≡ (first + 1) + i = omega arith in subst (λ (k : ℕ). message_at V k ≡ Some next) f (are (suc i) next at))
      (subst (λ (k : ℕ). message_at V k ≡ Some raw) e (are zero raw refl), h)

  pub block_honest : (unit : ℕ) (block : Block) (E : List Entry) → IsVenueBlock V unit block → Honest image V E → Honest image V (heard_block block E)
  block_honest unit block E is h =
      cond_both (block.sequence == 0) E (heard_sequenced block.sequence block.raws E) (Honest image V) (λ t. h) (λ f. sequenced block.raws is.messages is.within)
    where
      sequenced : (raws : List Raw) → AreVenues V block.sequence raws → block.sequence + length raws ≤ length V + 1 → Honest image V (heard_sequenced block.sequence raws E)
      sequenced [] are within = (omega (arith, within), h)
      sequenced (raw ∷ raws) are within = messages_honest block.sequence (raw ∷ raws) E are h

-- a block moves no spin
messages_between : (first : ℕ) (raws : List Raw) (E : List Entry) → NoImageRuns (spin_of E) → NoImageRuns (spin_of (heard_messages first raws E))
messages_between first [] E between = between
messages_between first (raw ∷ raws) E between = messages_between (first + 1) raws (Message first raw ∷ E) between

pub block_between : (block : Block) (E : List Entry) → NoImageRuns (spin_of E) → NoImageRuns (spin_of (heard_block block E))
block_between block E between =
    cond_both (block.sequence == 0) E (heard_sequenced block.sequence block.raws E) (λ (F : List Entry). NoImageRuns (spin_of F)) (λ t. between) (λ f. sequenced block.raws)
  where
    sequenced : (raws : List Raw) → NoImageRuns (spin_of (heard_sequenced block.sequence raws E))
    sequenced [] = between
    sequenced (raw ∷ raws) = messages_between block.sequence (raw ∷ raws) E between

-- ---- Ticks
asked_between : (ask : Option Ask) (spin : Spinning) → NoImageRuns spin → NoImageRuns (spin_asked ask spin)
asked_between None spin between = between
asked_between (Some (Gap first count)) spin between = between
asked_between (Some (Spin sequence)) spin between = tt

pub ticked_between : (ask : Option Ask) (E : List Entry) → NoImageRuns (spin_of E) → NoImageRuns (spin_of (Ticked ask ∷ E))
ticked_between ask E between = asked_between ask (spin_of E) between

-- ---- Images
itself : (n : ℕ) → (n == n) ≡ true
itself n = grind (arith, nat_tests)

abbrev after_image : Spinning → ℕ → ℕ → List Raw → Spinning
after_image spin sequence orders raws = spin_more (spin_replied spin sequence orders true) raws

-- an image is finished only where it was asked for, and it is this one
finished_image : (V : List Raw) (parts : ImageParts) (spin : Spinning) → IsImageOf V parts → NoImageRuns spin
    → AreImages image V (image_finished (after_image spin parts.sequence parts.orders parts.raws) parts.sequence)
finished_image V parts NoSpin is between = tt
finished_image V parts (Asked asked) is between =
    cond_both (asked == parts.sequence) (cond (can_promise parts.sequence parts.orders) (Running parts.sequence parts.orders []) NoSpin) (Asked asked)
    (λ (s : Spinning). AreImages image V (image_finished (spin_more s parts.raws) parts.sequence))
    (λ t. cond_both (can_promise parts.sequence parts.orders) (Running parts.sequence parts.orders []) NoSpin
    (λ (s : Spinning). AreImages image V (image_finished (spin_more s parts.raws) parts.sequence))
    (λ p. cond_both (parts.sequence == parts.sequence && adds parts.raws == parts.orders) ((parts.sequence, parts.raws) ∷ []) [] (AreImages image V) (λ q. (is.within, is.raws_are)) (λ q. tt))
    (λ p. tt))
    (λ f. tt)
finished_image V parts (Running sequence orders raws) is between = absurd between

pub image_honest : (V : List Raw) (parts : ImageParts) (E : List Entry) → IsImageOf V parts → NoImageRuns (spin_of E) → Honest image V E
    → Honest image V (imaged_whole parts.sequence parts.orders parts.raws E)
image_honest V parts E is between h = (finished_image V parts (spin_of E) is between, (tt, (tt, h)))

between_images : (spin : Spinning) (sequence orders : ℕ) (raws : List Raw) → NoImageRuns spin → NoImageRuns (spin_finished (after_image spin sequence orders raws) sequence)
between_images NoSpin sequence orders raws between = tt
between_images (Asked asked) sequence orders raws between =
    cond_both (asked == sequence) (cond (can_promise sequence orders) (Running sequence orders []) NoSpin) (Asked asked) (λ (s : Spinning). NoImageRuns (spin_finished (spin_more s raws) sequence))
    (λ t. cond_both (can_promise sequence orders) (Running sequence orders []) NoSpin (λ (s : Spinning). NoImageRuns (spin_finished (spin_more s raws) sequence))
    (λ p. subst NoImageRuns (sym (cond-true (sequence == sequence) NoSpin (Running sequence orders raws) (itself sequence))) tt)
    (λ p. tt))
    (λ f. tt)
between_images (Running running promised more) sequence orders raws between = absurd between

pub image_between : (sequence orders : ℕ) (raws : List Raw) (E : List Entry) → NoImageRuns (spin_of E) → NoImageRuns (spin_of (imaged_whole sequence orders raws E))
image_between sequence orders raws E between = between_images (spin_of E) sequence orders raws between

-- a refusal of what was asked for ends it
refused_spin : (spin : Spinning) (sequence orders : ℕ) → NoImageRuns spin → NoImageRuns (spin_replied spin sequence orders false)
refused_spin NoSpin sequence orders between = tt
refused_spin (Asked asked) sequence orders between = cond_both (asked == sequence) NoSpin (Asked asked) NoImageRuns (λ t. tt) (λ f. tt)
refused_spin (Running running promised more) sequence orders between = absurd between

pub refused_between : (sequence orders : ℕ) (E : List Entry) → NoImageRuns (spin_of E) → NoImageRuns (spin_of (SpinReply sequence orders false ∷ E))
refused_between sequence orders E between = refused_spin (spin_of E) sequence orders between

-- ---- Datagrams in a list
pub heard_one_more : (lists : List (Roomy ℕ)) (i : ℕ) (list : Roomy ℕ) → slice_get lists i ≡ Some list → (E : List Entry)
    → heard_datagrams (bytes_in (take (i + 1) lists)) E ≡ heard_blocks (blocks_of list.items) (heard_datagrams (bytes_in (take i lists)) E)
heard_one_more lists i list at E =
    ap (λ (ls : List (Roomy ℕ)). heard_datagrams (bytes_in ls) E) (take_more lists i list (slice_get_within lists i list at))
    ∙ ap (λ (l : Roomy ℕ). heard_datagrams (bytes_in (take i lists ++ l ∷ [])) E) (get_or_from_slice_get lists i list list at)
    ∙ at_end (take i lists) E
  where
    at_end : (ls : List (Roomy ℕ)) (E : List Entry) → heard_datagrams (bytes_in (ls ++ list ∷ [])) E ≡ heard_blocks (blocks_of list.items) (heard_datagrams (bytes_in ls) E)
    at_end [] E = refl
    at_end (l ∷ ls) E = at_end ls (heard_blocks (blocks_of l.items) E)

-- ---- The blocks of a datagram
-- the blocks before `left` were heard: these still are to be heard of all
pub record HeardTo (old new : UnitClient) (datagram : List ℕ) (left : List Block) : Type 0 where
  pub pieces : (V : List Raw) (unit : ℕ) → IsPiece V unit datagram → AllByRecursion (IsVenueBlock V unit) left
  pub follows : (V : List Raw) (unit : ℕ) → IsPiece V unit datagram → (H : ℕ) (E : List Entry) → Follows old H V E
      → (F : List Entry) × (heard_blocks left F ≡ heard_blocks (blocks_of datagram) E) × Follows new H V F

pub heard_to_more : (one two three : UnitClient) (datagram : List ℕ) (left more : List Block) (block : Block) → HeardTo one two datagram left → left ≡ block ∷ more
    → ((V : List Raw) (unit : ℕ) → IsVenueBlock V unit block → (H : ℕ) (E : List Entry) → Follows two H V E → Follows three H V (heard_block block E)) → HeardTo one three datagram more
heard_to_more one two three datagram left more block h is hears = record {
  pieces = λ V unit piece. (subst (AllByRecursion (IsVenueBlock V unit)) is (h.pieces V unit piece)).1;
  follows = λ V unit piece H E f.
      let before = h.follows V unit piece H E f in
      let here = (subst (AllByRecursion (IsVenueBlock V unit)) is (h.pieces V unit piece)).0 in
      (heard_block block before.0, sym (ap (λ (bs : List Block). heard_blocks bs before.0) is) ∙ before.1, hears V unit here H before.0 before.2);
}

pub heard_to_end : (one two : UnitClient) (datagram : List ℕ) (left : List Block) → HeardTo one two datagram left → left ≡ [] → (V : List Raw) (unit : ℕ) → IsPiece V unit datagram → (H : ℕ) (E : List Entry) → Follows one H V E
    → Follows two H V (heard_blocks (blocks_of datagram) E)
heard_to_end one two datagram left h none V unit piece H E f =
    let before = h.follows V unit piece H E f in
    subst (Follows two H V) (sym (ap (λ (bs : List Block). heard_blocks bs before.0) none) ∙ before.1) before.2
