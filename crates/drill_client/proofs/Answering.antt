-- What the client of a side is answered.
use Rattle.std.proofs.Common.{◌≡◌, ℕ, ◌+◌, ◌-◌, ◌≤◌, ◌==◌, Bool, true, false, ◌||◌, List, [], ◌∷◌, ◌++◌, length, drop, nat_eq, refl, sym, ap, ◌∙◌, subst, arith}
use Rattle.std.proofs.lemmas.Bool.{cond-true, cond-false}
use Rattle.std.proofs.lemmas.Bool.Decides.{nat_tests}
use Rattle.std.proofs.lemmas.List.{length-append, length-take, length-drop}
use Rattle.std.specs.List.{AllByRecursion, list_any}
use Rattle.std.specs.Set.{is_member}
use Rattle.gap_store.proofs.Ranges.{kept_within}
use Rattle.spin_server.proofs.Shelving.{one_served, shelf_seen}
use Rattle.pitch_model.proofs.Advertising.{advertised_within}
use Rattle.pitch_fields.proofs.Lists.{all_drop, all_found}
use Rattle.unit_packets.specs.Packing.{IsPacking, packed}
use Rattle.pitch_model.specs.Advertising.{Operation, accepted_by, advertised_by, last_ten}
use Rattle.pitch_model.specs.History.{Raw, adds}
use Rattle.pitch_model.specs.Honest.{AreVenues}
use Rattle.pitch_model.specs.Image.{image}
use Rattle.pitch_model.proofs.Growing.{image_more}
use Rattle.heard_items.specs.Datagrams.{IsPiece}
use Rattle.heard_items.proofs.Datagrams.{packing_pieces, venues_slice}
use Rattle.gap_store.specs.Look.{View, look, slice_of}
use Rattle.gap_store.specs.layers.Looking.{given, PacksRange}
use Rattle.gap_store.specs.declared.found.Found.{Found}
use Rattle.gap_store.specs.declared.found.Found.TheVariants.{Kept}
use Rattle.spin_server.specs.Served.{Served, is_served}
use Rattle.spin_server.specs.layers.Looking.{LooksUpImage, imaged, image_given}
use Rattle.spin_server.specs.Shelves.{Shelf}
use Rattle.spin_server.specs.Stands.{ShelfStands}
use Rattle.spin_server.specs.layers.ShelfViews.{ShelfShows, seen_of}
use Rattle.spin_server.specs.declared.lookup.Imaged.{Imaged}
use Rattle.spin_server.specs.declared.lookup.Imaged.TheVariants as answers
use Rattle.drill_client.specs.layers.Following.{IsImageOf}

-- ---- Gaps
-- the datagrams of a range that is kept are pieces of the feed
pub range_pieces : (v : View) (unit first count : ℕ) (before after : List (List ℕ)) → 1 ≤ first → 1 ≤ count → Kept ≡ look v first count → PacksRange unit first (given (look v first count) v first count) before after
    → before ≡ [] → AllByRecursion (IsPiece v.messages unit) after
range_pieces v unit first count before after low some kept packs none =
    let M : List Raw = v.messages in
    let range : given (look v first count) v first count ≡ slice_of v first count = ap (λ (f : Found). given f v first count) (sym kept) in
    let packing : IsPacking unit first (slice_of v first count) (packed unit first (slice_of v first count)) = subst (λ (raws : List Raw). IsPacking unit first raws (packed unit first raws)) range packs.packing in
    let whole : after ≡ packed unit first (slice_of v first count) = packs.appended ∙ ap (λ (ds : List (List ℕ)). ds ++ packed unit first (given (look v first count) v first count)) none ∙ ap (λ (raws : List Raw). packed unit first raws) range in
    let within : first + count - 1 ≤ length M = kept_within v first count kept in
    let next : first - 1 + 1 ≡ first = omega (arith, low) in
    let are : AreVenues M first (slice_of v first count) = subst (λ (n : ℕ). AreVenues M n (slice_of v first count)) next (venues_slice M (first - 1) count) in
    let size : first + length (slice_of v first count) ≤ length M + 1 =
    omega (arith, length-take count (drop (first - 1) M), length-drop (first - 1) M, within, low, some) in
    subst (AllByRecursion (IsPiece M unit)) (sym whole) (packing_pieces M unit first (slice_of v first count) (packed unit first (slice_of v first count)) low size are packing)

-- ---- Images
-- over a shelf that stays as it was, one is looked up in what its operations show
pub seen_answer : (shelf shelf' : Shelf) (operations : List Operation) (sequence : ℕ) (answer : Imaged) (before after : List Raw) → ShelfStands shelf operations → shelf' ≡ shelf
    → LooksUpImage (ShelfShows shelf') (seen_of operations) sequence answer before after
    → (answer ≡ imaged (seen_of operations) sequence) × (after ≡ before ++ image_given (seen_of operations) sequence)
seen_answer shelf shelf' operations sequence answer before after stands same looks =
    let seen : looks.now ≡ seen_of operations =
    one_served shelf (seen_of operations) looks.now (shelf_seen shelf operations stands) (subst (λ (s : Shelf). ShelfShows s looks.now) same looks.shows) looks.later in
    (looks.answer_is ∙ ap (λ (v : Served). imaged v sequence) seen, looks.given ∙ ap (λ (v : Served). before ++ image_given v sequence) seen)

pub seen_within : (operations : List Operation) → AllByRecursion (λ n. n ≤ length (accepted_by operations)) (seen_of operations).advertised
seen_within operations = all_drop (λ n. n ≤ length (accepted_by operations)) (length (advertised_by operations) - 10) (advertised_by operations) (advertised_within operations)

-- what a view answers
module _ (v : Served) (sequence : ℕ) (answer : Imaged) (answer_is : answer ≡ imaged v sequence) where
  abbrev served : Bool
  served = is_served v sequence

  -- an image is handed out just where it is served
  pub image_there : (orders : ℕ) → answer ≡ answers.Image orders → served ≡ true
  image_there orders e = by served refl
    where
      by : (b : Bool) → served ≡ b → served ≡ true
      by true t = t
      by false f = absurd (apart (sym e ∙ answer_is ∙ cond-false served (answers.Image (adds (image v.messages sequence))) answers.NotAdvertised f))
        where
          apart : answers.Image orders ≡ answers.NotAdvertised → ⊥
          apart e = cc

  pub served_is_there : served ≡ true → answer ≡ answers.NotAdvertised → ⊥
  served_is_there t e = apart (sym (cond-true served (answers.Image (adds (image v.messages sequence))) answers.NotAdvertised t) ∙ sym answer_is ∙ e)
    where
      apart : {n : ℕ} → answers.Image n ≡ answers.NotAdvertised → ⊥
      apart e = cc

  pub image_not_there : answer ≡ answers.NotAdvertised → served ≡ false
  image_not_there e = by served refl
    where
      by : (b : Bool) → served ≡ b → served ≡ false
      by false f = f
      by true t = absurd (served_is_there t e)

  -- and it is that of the messages
  pub image_is : (orders : ℕ) (before after : List Raw) → after ≡ before ++ image_given v sequence → AllByRecursion (λ n. n ≤ length v.messages) v.advertised → before ≡ [] → answer ≡ answers.Image orders
      → IsImageOf v.messages (record { sequence = sequence; orders = orders; raws = after })
  image_is orders before after given within none e =
      let t : served ≡ true = image_there orders e in
      let raws : after ≡ image v.messages sequence = given ∙ ap (λ (rs : List Raw). rs ++ image_given v sequence) none ∙ cond-true served (image v.messages sequence) [] t in
      let promised : orders ≡ adds (image v.messages sequence) = promise (sym e ∙ answer_is ∙ cond-true served (answers.Image (adds (image v.messages sequence))) answers.NotAdvertised t) in
      record {
        within = all_found (λ n. n ≤ length v.messages) (last_ten v.advertised) sequence (all_drop (λ n. n ≤ length v.messages) (length v.advertised - 10) v.advertised within) t;
        raws_are = raws;
        orders_are = promised ∙ ap adds (sym raws);
      }
    where
      promise : {m n : ℕ} → answers.Image m ≡ answers.Image n → m ≡ n
      promise e = cc

-- an image stays the venue's where the venue accepts more
pub image_of_more : (V more : List Raw) (sequence orders : ℕ) (raws : List Raw) → IsImageOf V (record { sequence = sequence; orders = orders; raws = raws }) → IsImageOf (V ++ more) (record { sequence = sequence; orders = orders; raws = raws })
image_of_more V more sequence orders raws is = record {
  within = omega (arith, is.within, length-append V more);
  raws_are = is.raws_are ∙ sym (image_more V more sequence is.within);
  orders_are = is.orders_are;
}

-- the newest sequence that was advertised is served
pub newest_there : (ns : List ℕ) (k : ℕ) → is_member nat_eq ns k ≡ true → list_any (λ n. n == k) ns ≡ true
newest_there [] k e = e
newest_there (n ∷ ns) k e = by (newest_there ns k) (n == k) refl
  where
    by : (is_member nat_eq ns k ≡ true → list_any (λ n. n == k) ns ≡ true) → (b : Bool) → (n == k) ≡ b → list_any (λ n. n == k) (n ∷ ns) ≡ true
    by later true t = ap (λ (b : Bool). b || list_any (λ n. n == k) ns) t
    by later false f =
        let g : nat_eq k n ≡ false = grind (arith, nat_tests, f) in
        ap (λ (b : Bool). b || list_any (λ n. n == k) ns) f ∙ later (sym (ap (λ (b : Bool). b || is_member nat_eq ns k) g) ∙ e)
