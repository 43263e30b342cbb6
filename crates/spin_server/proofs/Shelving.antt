-- What an image shelf keeps, step by step.
use Rattle.std.proofs.Common.{◌≡◌, ℕ, zero, suc, ◌+◌, ◌-◌, ◌<◌, ◌≤◌, Bool, true, false, ◌||◌, List, [], ◌∷◌, ◌++◌, length, take, drop, fold, refl, sym, ap, ◌∙◌, subst, arith, length-append, cond, Option, Some, None, slice_get, nat_eq, get_or, remove, inl, inr}
use Rattle.std.specs.List.{list_any}
use Rattle.std.specs.FinMap as map
use Rattle.std.specs.Ordering.{nat_cmp}
use Rattle.std.specs.Set.{is_member}
use Rattle.pitch_messages.specs.declared.order.Order.{Order}
use Rattle.pitch_model.specs.Advertising.{Operation, Accept, Advertise, accepted_by, advertised_by, with_sequence, last_ten, newest_of}
use Rattle.pitch_model.specs.History.{adds}
use Rattle.pitch_model.specs.Image.{image, image_of}
use Rattle.pitch_model.proofs.Advertising.{accepted_more, advertised_accept, advertised_advertise, newest_is_advertised, newest_repeats, ten_at_most}
use Rattle.pitch_model.proofs.Images.{image_is}
use Rattle.spin_server.specs.declared.lookup.Imaged.TheVariants.{Image, NotAdvertised}
use Rattle.std.proofs.lemmas.List.{append-nil, length-drop, take_all, drop-append-le, drop-drop, take-append-le, nil_from_length}
use Rattle.std.proofs.lemmas.List.Sums.{fold-append}
use Rattle.std.proofs.lemmas.Bool.{eqb-true, eq-eqb, cases_eq, cond-true, cond-false, false≢true}
use Rattle.pitch_model.specs.Book.{Book, after, book_after, empty_book}
use Rattle.spin_server.specs.Served.{Served, is_served}
use Rattle.spin_server.specs.layers.Looking.{ServedLater, LooksUpImage, SeesNewest, SeesServed}
use Rattle.spin_server.specs.Shelves.{Shelf, ShelfKeeps, base_at}
use Rattle.spin_server.specs.layers.ShelfCode.{IsShelf, Climbs, is_number}
use Rattle.spin_server.specs.Stands.{ShelfStands}
use Rattle.spin_server.specs.layers.ShelfViews.{ShelfShows, OneServed, seen_of}

abbrev pub made : Book → List (List ℕ) → ℕ → List ℕ → Shelf
made base later pushed served = record { base = base; after = later; pushed = pushed; served = served }

none_left : {A : Type 0} (n : ℕ) (xs : List A) → length xs ≤ n → drop n xs ≡ []
none_left zero [] le = refl
none_left zero (x ∷ xs) le = absurd (omega arith)
none_left (suc n) [] le = refl
none_left (suc n) (x ∷ xs) le = none_left n xs (omega arith)

-- ---- Numbers that climb
climbs_up : (low : ℕ) (ns : List ℕ) (top top' : ℕ) → Climbs low ns top → top ≤ top' → Climbs low ns top'
climbs_up low [] top top' c le = omega (arith, c)
climbs_up low (n ∷ ns) top top' c le = (c.0, climbs_up n ns top top' c.1 le)

climbs_on : (low : ℕ) (ns : List ℕ) (top : ℕ) → Climbs low ns top → Climbs low (ns ++ top ∷ []) top
climbs_on low [] top c = (c, omega arith)
climbs_on low (n ∷ ns) top c = (c.0, climbs_on n ns top c.1)

climbs_low : (low low' : ℕ) (ns : List ℕ) (top : ℕ) → Climbs low ns top → low' ≤ low → Climbs low' ns top
climbs_low low low' [] top c le = omega (arith, c)
climbs_low low low' (n ∷ ns) top c le = (omega (arith, c.0), c.1)

pub climbs_within : (low : ℕ) (ns : List ℕ) (top : ℕ) → Climbs low ns top → low ≤ top
climbs_within low [] top c = c
climbs_within low (n ∷ ns) top c = let l = climbs_within n ns top c.1 in omega (arith, c.0, l)

or_else_true : (a b : Bool) → (a || b) ≡ true → (a ≡ false → b ≡ true) × (a ≡ false → b ≡ true)
or_else_true true b e = (λ f. cc, λ f. cc)
or_else_true false b e = (λ f. e, λ f. e)

between : (low : ℕ) (ns : List ℕ) (top n : ℕ) → Climbs low ns top → list_any (λ k. nat_eq k n) ns ≡ true → (low ≤ n) × (n ≤ top)
between low [] top n c e = cc
between low (k ∷ ns) top n c e = by (nat_eq k n) refl e (between k ns top n c.1)
  where
    by : (b : Bool) → nat_eq k n ≡ b → (b || list_any (λ j. nat_eq j n) ns) ≡ true → (list_any (λ j. nat_eq j n) ns ≡ true → (k ≤ n) × (n ≤ top)) → (low ≤ n) × (n ≤ top)
    by true t f rec = let same = eqb-true k n t in let l = climbs_within k ns top c.1 in (omega (arith, c.0), omega (arith, l))
    by false t f rec = let r = rec f in (omega (arith, c.0, r.0), r.1)

-- a sequence that is served is not before the base
pub served_between : (base : Book) (later : List (List ℕ)) (pushed : ℕ) (served : List ℕ) (n : ℕ) → IsShelf (made base later pushed served) → list_any (λ k. nat_eq k n) served ≡ true → (base_at (made base later pushed served) ≤ n) × (n ≤ pushed)
served_between base later pushed [] n k e = cc
served_between base later pushed (s ∷ ss) n k e = by (nat_eq s n) refl e
  where
    by : (b : Bool) → nat_eq s n ≡ b → (b || list_any (λ j. nat_eq j n) ss) ≡ true → (s ≤ n) × (n ≤ pushed)
    by true t f = let same = eqb-true s n t in let l = climbs_within s ss pushed k.climbs.1 in (omega arith, omega (arith, l))
    by false t f = between s ss pushed n k.climbs.1 f

pub base_within : (base : Book) (later : List (List ℕ)) (pushed : ℕ) (served : List ℕ) → IsShelf (made base later pushed served) → base_at (made base later pushed served) ≤ pushed
base_within base later pushed served k = let s = k.size in omega arith

-- ---- Pushing
pub kept_first : (base base' : Book) (later : List (List ℕ)) (pushed : ℕ) (served : List ℕ) → IsShelf (made base later pushed served) → length served ≡ 0 → pushed < 4294967294 → map.len base'.orders ≤ map.len base.orders + 1 → IsShelf (made base' later (pushed + 1) served)
kept_first base base' later pushed [] k none lt few =
    let size = k.size in
    let was = k.few in
    record { climbs = omega arith; size = omega arith; few = omega arith; ten = k.ten; top = omega arith }
kept_first base base' later pushed (s ∷ ss) k none lt few = absurd (omega arith)

pub kept_more : (base : Book) (later later' : List (List ℕ)) (raw : List ℕ) (pushed : ℕ) (served : List ℕ) → IsShelf (made base later pushed served) → 0 < length served → pushed < 4294967294 → later' ≡ later ++ raw ∷ [] → IsShelf (made base later' (pushed + 1) served)
kept_more base later later' raw pushed [] k some lt more = absurd (omega arith)
kept_more base later later' raw pushed (s ∷ ss) k some lt more =
    let size = k.size in
    record { climbs = (k.climbs.0, climbs_up s ss pushed (pushed + 1) k.climbs.1 (omega arith)); size = omega (arith, ap length more, length-append later (raw ∷ [])); few = k.few; ten = k.ten; top = omega arith }

book_more : (messages : List (List ℕ)) (raw : List ℕ) → book_after (messages ++ raw ∷ []) ≡ after (book_after messages) raw
book_more messages raw = fold-append after empty_book messages (raw ∷ [])

pub keeps_first : (base base' : Book) (later : List (List ℕ)) (raw : List ℕ) (pushed : ℕ) (served : List ℕ) (messages : List (List ℕ)) → ShelfKeeps (made base later pushed served) messages → length served ≡ 0 → base' ≡ after base raw
    → ShelfKeeps (made base' later (pushed + 1) served) (messages ++ raw ∷ [])
keeps_first base base' later raw pushed [] messages k none is =
    let all : take pushed messages ≡ messages = take_all pushed messages (omega (arith, k.pushed_is)) in
    let size : length (messages ++ raw ∷ []) ≡ pushed + 1 = omega (arith, length-append messages (raw ∷ []), k.pushed_is) in
    record {
      pushed_is = sym size;
      base_is = is ∙ ap (λ (b : Book). after b raw) (k.base_is ∙ ap book_after all) ∙ sym (book_more messages raw) ∙ ap book_after (sym (take_all (pushed + 1) (messages ++ raw ∷ []) (omega arith)));
      after_is = k.after_is ∙ none_left pushed messages (omega (arith, k.pushed_is)) ∙ sym (none_left (pushed + 1) (messages ++ raw ∷ []) (omega arith));
    }
keeps_first base base' later raw pushed (s ∷ ss) messages k none is = absurd (omega arith)

pub keeps_more : (base : Book) (later later' : List (List ℕ)) (raw : List ℕ) (pushed : ℕ) (served : List ℕ) (messages : List (List ℕ)) → IsShelf (made base later pushed served) → ShelfKeeps (made base later pushed served) messages → 0 < length served → later' ≡ later ++ raw ∷ []
    → ShelfKeeps (made base later' (pushed + 1) served) (messages ++ raw ∷ [])
keeps_more base later later' raw pushed [] messages i k some more = absurd (omega arith)
keeps_more base later later' raw pushed (s ∷ ss) messages i k some more =
    let within : s ≤ length messages = (let l = climbs_within s ss pushed i.climbs.1 in omega (arith, k.pushed_is)) in
    record {
      pushed_is = omega (arith, length-append messages (raw ∷ []), k.pushed_is);
      base_is = k.base_is ∙ ap book_after (sym (take-append-le s messages (raw ∷ []) within));
      after_is = more ∙ ap (λ (l : List (List ℕ)). l ++ raw ∷ []) k.after_is ∙ sym (drop-append-le s messages (raw ∷ []) within);
    }

-- ---- Advertising
-- one more sequence is served
pub kept_serving : (base : Book) (later : List (List ℕ)) (pushed : ℕ) (served served' : List ℕ) → IsShelf (made base later pushed served) → length served < 10 → served' ≡ served ++ pushed ∷ [] → IsShelf (made base later pushed served')
kept_serving base later pushed served served' k room is = subst (λ (ss : List ℕ). IsShelf (made base later pushed ss)) (sym is) (by served k room)
  where
    by : (ss : List ℕ) → IsShelf (made base later pushed ss) → length ss < 10 → IsShelf (made base later pushed (ss ++ pushed ∷ []))
    by [] i lt = record { climbs = (omega arith, omega arith); size = i.size; few = i.few; ten = omega arith; top = i.top }
    by (s ∷ ss) i lt = record { climbs = (i.climbs.0, climbs_on s ss pushed i.climbs.1); size = i.size; few = i.few; ten = omega (arith, length-append (s ∷ ss) (pushed ∷ [])); top = i.top }

pub keeps_serving : (base : Book) (later : List (List ℕ)) (pushed : ℕ) (served served' : List ℕ) (messages : List (List ℕ)) → ShelfKeeps (made base later pushed served) messages → served' ≡ served ++ pushed ∷ [] → ShelfKeeps (made base later pushed served') messages
keeps_serving base later pushed served served' messages k is = subst (λ (ss : List ℕ). ShelfKeeps (made base later pushed ss) messages) (sym is) (by served k)
  where
    by : (ss : List ℕ) → ShelfKeeps (made base later pushed ss) messages → ShelfKeeps (made base later pushed (ss ++ pushed ∷ [])) messages
    by [] i = record { pushed_is = i.pushed_is; base_is = i.base_is; after_is = i.after_is }
    by (s ∷ ss) i = record { pushed_is = i.pushed_is; base_is = i.base_is; after_is = i.after_is }

nothing_taken : (n : ℕ) → ◌≡◌ {A = List (List ℕ)} (take n []) []
nothing_taken zero = refl
nothing_taken (suc n) = refl

joined_takes : (a b : ℕ) (xs : List (List ℕ)) → a ≤ b → take a xs ++ take (b - a) (drop a xs) ≡ take b xs
joined_takes zero b xs le = let e : b - zero ≡ b = omega arith in ap (λ (n : ℕ). take n xs) e
joined_takes (suc a) zero xs le = absurd (omega arith)
joined_takes (suc a) (suc b) [] le = nothing_taken (suc b - suc a)
joined_takes (suc a) (suc b) (x ∷ xs) le =
    let e : suc b - suc a ≡ b - a = omega arith in
    ap (λ (n : ℕ). x ∷ (take a xs ++ take n (drop a xs))) e ∙ ap (λ (ys : List (List ℕ)). x ∷ ys) (joined_takes a b xs (omega arith))

fold_to : (messages : List (List ℕ)) (a b : ℕ) → a ≤ b → fold after (book_after (take a messages)) (take (b - a) (drop a messages)) ≡ book_after (take b messages)
fold_to messages a b le = sym (fold-append after empty_book (take a messages) (take (b - a) (drop a messages))) ∙ ap book_after (joined_takes a b messages le)

-- the book at a later sequence
pub book_to : (base : Book) (later : List (List ℕ)) (pushed : ℕ) (served : List ℕ) (messages : List (List ℕ)) (n : ℕ) → ShelfKeeps (made base later pushed served) messages → base_at (made base later pushed served) ≤ n
    → fold after base (take (n - base_at (made base later pushed served)) later) ≡ book_after (take n messages)
book_to base later pushed served messages n k le =
    let a : ℕ = base_at (made base later pushed served) in
    ap (λ (b : Book). fold after b (take (n - a) later)) k.base_is ∙ ap (λ (l : List (List ℕ)). fold after (book_after (take a messages)) (take (n - a) l)) k.after_is ∙ fold_to messages a n le

-- the base moves on to the second that is served
pub record Moves (base base' : Book) (later later' : List (List ℕ)) (served served' : List ℕ) (count : ℕ) : Type 0 where
  pub first : ℕ
  pub second : ℕ
  pub rest : List ℕ
  pub were : served ≡ first ∷ second ∷ rest
  pub are : served' ≡ second ∷ rest
  pub count_is : count ≡ second - first
  pub book : base' ≡ fold after base (take count later)
  pub few : map.len base'.orders ≤ map.len base.orders + count
  pub left : later' ≡ drop count later

pub kept_moved : (base base' : Book) (later later' : List (List ℕ)) (pushed : ℕ) (served served' : List ℕ) (count : ℕ) → Moves base base' later later' served served' count → IsShelf (made base later pushed served) → IsShelf (made base' later' pushed served')
kept_moved base base' later later' pushed served served' count m kept =
    let k : IsShelf (made base later pushed (m.first ∷ m.second ∷ m.rest)) = subst (λ (ss : List ℕ). IsShelf (made base later pushed ss)) m.were kept in
    let up = k.climbs.1.0 in
    let top = climbs_within m.second m.rest pushed k.climbs.1.1 in
    let size = k.size in
    let few = k.few in
    let ten = k.ten in
    let count_is = m.count_is in
    let more = m.few in
    subst (λ (ss : List ℕ). IsShelf (made base' later' pushed ss)) (sym m.are) (record {
      climbs = (omega arith, k.climbs.1.1);
      size = omega (arith, ap length m.left, length-drop count later);
      few = omega arith;
      ten = omega arith;
      top = k.top;
    })

pub keeps_moved : (base base' : Book) (later later' : List (List ℕ)) (pushed : ℕ) (served served' : List ℕ) (count : ℕ) (messages : List (List ℕ)) → Moves base base' later later' served served' count → IsShelf (made base later pushed served)
    → ShelfKeeps (made base later pushed served) messages → ShelfKeeps (made base' later' pushed served') messages
keeps_moved base base' later later' pushed served served' count messages m kept keeps =
    let i : IsShelf (made base later pushed (m.first ∷ m.second ∷ m.rest)) = subst (λ (ss : List ℕ). IsShelf (made base later pushed ss)) m.were kept in
    let k : ShelfKeeps (made base later pushed (m.first ∷ m.second ∷ m.rest)) messages = subst (λ (ss : List ℕ). ShelfKeeps (made base later pushed ss) messages) m.were keeps in
    let up = i.climbs.1.0 in
    let count_is = m.count_is in
    let sum : m.first + count ≡ m.second = omega arith in
    subst (λ (ss : List ℕ). ShelfKeeps (made base' later' pushed ss) messages) (sym m.are) (record {
      pushed_is = k.pushed_is;
      base_is = m.book ∙ ap (λ (n : ℕ). fold after base (take n later)) count_is ∙ book_to base later pushed (m.first ∷ m.second ∷ m.rest) messages m.second k up;
      after_is = m.left ∙ ap (drop count) k.after_is ∙ drop-drop count m.first messages ∙ ap (λ (n : ℕ). drop n messages) sum;
    })

-- ---- The sequences that are served
get_drop : (n i : ℕ) (xs : List ℕ) → slice_get (drop n xs) i ≡ slice_get xs (n + i)
get_drop zero i xs = ap (slice_get xs) (omega arith)
get_drop (suc n) i [] = refl
get_drop (suc n) i (x ∷ xs) = let e : suc n + i ≡ suc (n + i) = omega arith in get_drop n i xs ∙ ap (slice_get (x ∷ xs)) (sym e)

pub newest_served : (sequences : List ℕ) → newest_of (last_ten sequences) ≡ newest_of sequences
newest_served [] = refl
newest_served (x ∷ xs) =
    let n : ℕ = length (x ∷ xs) in
    let e : (n - 10) + (length (drop (n - 10) (x ∷ xs)) - 1) ≡ n - 1 = omega (arith, length-drop (n - 10) (x ∷ xs)) in
    get_drop (n - 10) (length (drop (n - 10) (x ∷ xs)) - 1) (x ∷ xs) ∙ ap (slice_get (x ∷ xs)) e

ten_of : (sequences : List ℕ) → length (last_ten sequences) + (length sequences - 10) ≡ length sequences
ten_of sequences = omega (arith, length-drop (length sequences - 10) sequences)

ten_more : (sequences served : List ℕ) (n : ℕ) → served ≡ last_ten sequences → length served < 10 → served ++ n ∷ [] ≡ last_ten (sequences ++ n ∷ [])
ten_more sequences served n is room =
    let small : length sequences - 10 ≡ 0 = omega (arith, ap length is, ten_of sequences) in
    let next : length (sequences ++ n ∷ []) - 10 ≡ 0 = omega (arith, ap length is, ten_of sequences, length-append sequences (n ∷ [])) in
    ap (λ (l : List ℕ). l ++ n ∷ []) (is ∙ ap (λ (k : ℕ). drop k sequences) small) ∙ ap (λ (k : ℕ). drop k (sequences ++ n ∷ [])) (sym next)

ten_moved : (sequences served : List ℕ) (n : ℕ) → served ≡ last_ten sequences → length served ≡ 10 → drop 1 served ++ n ∷ [] ≡ last_ten (sequences ++ n ∷ [])
ten_moved sequences served n is full =
    let size : 10 ≤ length sequences = omega (arith, ap length is, ten_of sequences) in
    let k : ℕ = length (sequences ++ n ∷ []) - 10 in
    let next : (length sequences - 10) + 1 ≡ k = omega (arith, length-append sequences (n ∷ [])) in
    let fits : k ≤ length sequences = omega (arith, length-append sequences (n ∷ [])) in
    ap (λ (l : List ℕ). drop 1 l ++ n ∷ []) is ∙ ap (λ (l : List ℕ). l ++ n ∷ []) (drop-drop 1 (length sequences - 10) sequences ∙ ap (λ (j : ℕ). drop j sequences) next)
    ∙ sym (drop-append-le k sequences (n ∷ []) fits)

is_that : (newest : Option ℕ) (n : ℕ) → is_number newest n ≡ true → newest ≡ Some n
is_that None n is = cc
is_that (Some m) n is = ap Some (eqb-true m n is)

-- whether the newest that is served is that of all messages
abbrev serves_all : List Operation → Bool
serves_all operations = is_number (newest_of (last_ten (advertised_by operations))) (length (accepted_by operations))

-- it is advertised again
advertised_again : (operations : List Operation) → serves_all operations ≡ true → with_sequence (advertised_by operations) (length (accepted_by operations)) ≡ advertised_by operations
advertised_again operations is =
    let there = newest_is_advertised (advertised_by operations) (length (accepted_by operations))
    (sym (newest_served (advertised_by operations)) ∙ is_that (newest_of (last_ten (advertised_by operations))) (length (accepted_by operations)) is) in
    cond-true (is_member nat_eq (advertised_by operations) (length (accepted_by operations))) _ _ there

advertised_new : (operations : List Operation) → serves_all operations ≡ false → with_sequence (advertised_by operations) (length (accepted_by operations)) ≡ advertised_by operations ++ length (accepted_by operations) ∷ []
advertised_new operations is = by (is_member nat_eq (advertised_by operations) (length (accepted_by operations))) refl
  where
    by : (b : Bool) → is_member nat_eq (advertised_by operations) (length (accepted_by operations)) ≡ b → cond b (advertised_by operations) (advertised_by operations ++ length (accepted_by operations) ∷ []) ≡ advertised_by operations ++ length (accepted_by operations) ∷ []
    by true there =
        let newest : newest_of (last_ten (advertised_by operations)) ≡ Some (length (accepted_by operations)) = newest_served (advertised_by operations) ∙ newest_repeats operations there in
        absurd (false≢true (sym is ∙ ap (λ (o : Option ℕ). is_number o (length (accepted_by operations))) newest ∙ eq-eqb (length (accepted_by operations)) (length (accepted_by operations)) refl))
    by false other = refl

-- ---- Applying the first of some messages
pub fold_first : (book : Book) (raws tail : List (List ℕ)) (raw : List ℕ) (count i : ℕ) → raws ≡ raw ∷ tail → i < count → fold after book (take (count - i) raws) ≡ fold after (after book raw) (take (count - (i + 1)) tail)
fold_first book raws tail raw count i is lt =
    let e : count - i ≡ suc (count - (i + 1)) = omega arith in
    ap (λ (n : ℕ). fold after book (take n raws)) e ∙ ap (λ (l : List (List ℕ)). fold after book (take (suc (count - (i + 1))) l)) is

pub some_left : (raws : List (List ℕ)) → 0 < length raws → raws ≡ [] → ⊥
some_left raws lt none = omega (arith, ap length none)

-- ---- A new shelf
pub kept_none : (base : Book) (later : List (List ℕ)) (served : List ℕ) → base ≡ empty_book → later ≡ [] → served ≡ [] → IsShelf (made base later 0 served)
kept_none base later [] book none is =
    let few : map.len base.orders ≡ 0 = ap (λ (b : Book). map.len b.orders) book ∙ map.len-empty nat_cmp Order in
    record { climbs = omega arith; size = omega (arith, ap length none); few = omega arith; ten = omega arith; top = omega arith }
kept_none base later (s ∷ ss) book none is = cc

-- ---- Views
pub later_same : (v : Served) → ServedLater v v
later_same v = record { more = []; messages_are = sym (append-nil v.messages); others = []; advertised_are = sym (append-nil v.advertised) }

-- the sequences that are served, as a view of the shelf has them
serves_view : (shelf : Shelf) (v : Served) → length shelf.served ≤ 10 → ShelfShows shelf v → shelf.served ≡ last_ten v.advertised
serves_view shelf v ten shows =
    let none : ◌≡◌ {A = ℕ} (length shelf.served - 10) 0 = omega arith in
    ap (λ (n : ℕ). drop n shelf.served) (sym none) ∙ ap last_ten (sym shows.advertised_is)

pub sees_served : (shown : Served → Type 0) (v : Served) (shelf : Shelf) (n : ℕ) (served : Bool) → shown v → length shelf.served ≤ 10 → ShelfShows shelf v → served ≡ list_any (λ k. nat_eq k n) shelf.served → SeesServed shown v n served
sees_served shown v shelf n served shows ten seen is = record {
  now = v;
  later = later_same v;
  shows = shows;
  answer = is ∙ ap (λ (l : List ℕ). list_any (λ k. nat_eq k n) l) (serves_view shelf v ten seen);
}

pub looks_not : (shown : Served → Type 0) (v : Served) (shelf : Shelf) (n : ℕ) (before : List (List ℕ)) → shown v → IsShelf shelf → ShelfShows shelf v → list_any (λ k. nat_eq k n) shelf.served ≡ false → LooksUpImage shown v n NotAdvertised before before
looks_not shown v shelf n before shows kept seen none =
    let not_served : is_served v n ≡ false = ap (λ (l : List ℕ). list_any (λ k. nat_eq k n) l) (sym (serves_view shelf v kept.ten seen)) ∙ none in
    record {
      now = v;
      later = later_same v;
      shows = shows;
      answer_is = sym (cond-false (is_served v n) _ _ not_served);
      given = sym (append-nil before) ∙ ap (λ (l : List (List ℕ)). before ++ l) (sym (cond-false (is_served v n) (image v.messages n) [] not_served));
    }

pub looks_image : (shown : Served → Type 0) (v : Served) (shelf : Shelf) (n orders : ℕ) (book : Book) (before after : List (List ℕ)) → shown v → IsShelf shelf → ShelfShows shelf v → list_any (λ k. nat_eq k n) shelf.served ≡ true
    → book ≡ book_after (take n v.messages) → orders ≡ adds (image_of book) → after ≡ before ++ image_of book → LooksUpImage shown v n (Image orders) before after
looks_image shown v shelf n orders book before after shows kept seen there same count given =
    let served : is_served v n ≡ true = ap (λ (l : List ℕ). list_any (λ k. nat_eq k n) l) (sym (serves_view shelf v kept.ten seen)) ∙ there in
    let is : image_of book ≡ image v.messages n = ap image_of same ∙ sym (image_is v.messages n) in
    record {
      now = v;
      later = later_same v;
      shows = shows;
      answer_is = ap Image (count ∙ ap adds is) ∙ sym (cond-true (is_served v n) _ _ served);
      given = given ∙ ap (λ (l : List (List ℕ)). before ++ l) (is ∙ sym (cond-true (is_served v n) (image v.messages n) [] served));
    }

pub sees_newest : (shown : Served → Type 0) (v : Served) (shelf : Shelf) (newest : Option ℕ) → shown v → ShelfShows shelf v → newest ≡ newest_of shelf.served → SeesNewest shown v newest
sees_newest shown v shelf newest shows seen is = record { now = v; later = later_same v; shows = shows; answer = is ∙ ap newest_of (sym seen.advertised_is) }

-- ---- One operation more
pub stands_pushed : (old new : Shelf) (operations : List Operation) (raw : List ℕ) → ShelfStands old operations → ShelfKeeps new (accepted_by operations ++ raw ∷ []) → new.served ≡ old.served → ShelfStands new (operations ++ Accept raw ∷ [])
stands_pushed old new operations raw s keeps same = record {
  keeps = subst (λ (messages : List (List ℕ)). ShelfKeeps new messages) (sym (accepted_more operations (Accept raw))) keeps;
  served_is = same ∙ s.served_is ∙ ap last_ten (sym (advertised_accept operations raw));
}

stands_advertised : (shelf : Shelf) (operations : List Operation) → ShelfKeeps shelf (accepted_by operations) → shelf.served ≡ last_ten (with_sequence (advertised_by operations) (length (accepted_by operations))) → ShelfStands shelf (operations ++ Advertise ∷ [])
stands_advertised shelf operations keeps served = record {
  keeps = subst (λ (messages : List (List ℕ)). ShelfKeeps shelf messages) (sym (accepted_more operations Advertise ∙ append-nil (accepted_by operations))) keeps;
  served_is = served ∙ ap last_ten (sym (advertised_advertise operations));
}

-- whether a shelf serves the newest, as its operations say
serves_is : (shelf : Shelf) (operations : List Operation) (b : Bool) → ShelfStands shelf operations → is_number (newest_of shelf.served) shelf.pushed ≡ b → serves_all operations ≡ b
serves_is shelf operations b s is =
    ap (λ (l : List ℕ). is_number (newest_of l) (length (accepted_by operations))) (sym s.served_is) ∙ ap (is_number (newest_of shelf.served)) (sym s.keeps.pushed_is) ∙ is

pub stands_again : (shelf : Shelf) (operations : List Operation) → ShelfStands shelf operations → is_number (newest_of shelf.served) shelf.pushed ≡ true → ShelfStands shelf (operations ++ Advertise ∷ [])
stands_again shelf operations s is = stands_advertised shelf operations s.keeps (s.served_is ∙ ap last_ten (sym (advertised_again operations (serves_is shelf operations true s is))))

pub stands_on : (old new : Shelf) (operations : List Operation) → ShelfStands old operations → is_number (newest_of old.served) old.pushed ≡ false → length old.served < 10 → ShelfKeeps new (accepted_by operations) → new.served ≡ old.served ++ old.pushed ∷ []
    → ShelfStands new (operations ++ Advertise ∷ [])
stands_on old new operations s is room keeps served = stands_advertised new operations keeps
    (served ∙ ap (λ (n : ℕ). old.served ++ n ∷ []) s.keeps.pushed_is ∙ ten_more (advertised_by operations) old.served (length (accepted_by operations)) s.served_is room
    ∙ ap last_ten (sym (advertised_new operations (serves_is old operations false s is))))

pub stands_moved : (old new : Shelf) (operations : List Operation) → ShelfStands old operations → is_number (newest_of old.served) old.pushed ≡ false → length old.served ≡ 10 → ShelfKeeps new (accepted_by operations) → new.served ≡ drop 1 old.served ++ old.pushed ∷ []
    → ShelfStands new (operations ++ Advertise ∷ [])
stands_moved old new operations s is full keeps served = stands_advertised new operations keeps
    (served ∙ ap (λ (n : ℕ). drop 1 old.served ++ n ∷ []) s.keeps.pushed_is ∙ ten_moved (advertised_by operations) old.served (length (accepted_by operations)) s.served_is full
    ∙ ap last_ten (sym (advertised_new operations (serves_is old operations false s is))))

-- ---- The base moves
pub moves : (base base' copied : Book) (later later' : List (List ℕ)) (served served' : List ℕ) (a b count : ℕ) → length served ≡ 10 → a ≡ get_or served 0 0 → b ≡ get_or served 1 0 → served' ≡ drop 1 served → count ≡ b - a
    → base' ≡ fold after base (take count later) → map.len base'.orders ≤ map.len base.orders + count → later' ≡ drop count later → Moves base base' later later' served served' count
moves base base' copied later later' [] served' a b count full x y are is book few left = absurd (omega arith)
moves base base' copied later later' (s ∷ []) served' a b count full x y are is book few left = absurd (omega arith)
moves base base' copied later later' (s ∷ t ∷ ss) served' a b count full x y are is book few left =
    record { first = s; second = t; rest = ss; were = refl; are = are; count_is = is ∙ ap (λ (n : ℕ). n - a) y ∙ ap (λ (n : ℕ). t - n) x; book = book; few = few; left = left }

-- the first two that are served
pub first_two : (base : Book) (later : List (List ℕ)) (pushed : ℕ) (served : List ℕ) → IsShelf (made base later pushed served) → length served ≡ 10 → (get_or served 0 0 ≤ get_or served 1 0) × (get_or served 1 0 ≤ pushed) × (base_at (made base later pushed served) ≡ get_or served 0 0)
first_two base later pushed [] k full = absurd (omega arith)
first_two base later pushed (s ∷ []) k full = absurd (omega arith)
first_two base later pushed (s ∷ t ∷ ss) k full = (k.climbs.1.0, climbs_within t ss pushed k.climbs.1.1, refl)

pub not_none : (n : ℕ) → nat_eq n 0 ≡ false → 0 < n
not_none zero is = cc
not_none (suc n) is = omega arith

pub below_ten : (n : ℕ) → nat_eq n 10 ≡ false → n ≤ 10 → n < 10
below_ten n is le = elim (cases_eq n 10) [
  | inl same ↦ let t : nat_eq n 10 ≡ true = eq-eqb n 10 same in cc
  | inr other ↦ omega arith
]

pub remove_first : (served : List ℕ) → remove served 0 ≡ drop 1 served
remove_first [] = refl
remove_first (n ∷ ns) = refl

-- ---- What can be seen
pub shelf_seen : (shelf : Shelf) (operations : List Operation) → ShelfStands shelf operations → ShelfShows shelf (seen_of operations)
shelf_seen shelf operations s = record { keeps = s.keeps; advertised_is = sym s.served_is }

pub seen_served : (operations : List Operation) (n : ℕ) → is_served (seen_of operations) n ≡ list_any (λ k. nat_eq k n) (last_ten (advertised_by operations))
seen_served operations n =
    let none : ◌≡◌ {A = ℕ} (length (last_ten (advertised_by operations)) - 10) 0 = omega (arith, ten_at_most (advertised_by operations)) in
    ap (λ (m : ℕ). list_any (λ k. nat_eq k n) (drop m (last_ten (advertised_by operations)))) none

pub seen_newest : (operations : List Operation) → newest_of (seen_of operations).advertised ≡ newest_of (advertised_by operations)
seen_newest operations = newest_served (advertised_by operations)

pub one_served : OneServed
one_served shelf view now shows later_shows later =
    let none : later.more ≡ [] = nil_from_length later.more (let a = shows.keeps.pushed_is in let b = later_shows.keeps.pushed_is in omega (arith, a, b, ap length later.messages_are, length-append view.messages later.more)) in
    let messages : now.messages ≡ view.messages = later.messages_are ∙ ap (λ (l : List (List ℕ)). view.messages ++ l) none ∙ append-nil view.messages in
    let sequences : now.advertised ≡ view.advertised = later_shows.advertised_is ∙ sym shows.advertised_is in
    ap (λ (l : List (List ℕ)). record { messages = l; advertised = now.advertised }) messages ∙ ap (λ (l : List ℕ). record { messages = view.messages; advertised = l }) sequences

-- views that are later than each other are one
pub later_both : (a b : Served) → ServedLater a b → ServedLater b a → b ≡ a
later_both a b p q =
    let more : p.more ≡ [] = nil_from_length p.more (omega (arith, ap length p.messages_are, length-append a.messages p.more, ap length q.messages_are, length-append b.messages q.more)) in
    let others : p.others ≡ [] = nil_from_length p.others (omega (arith, ap length p.advertised_are, length-append a.advertised p.others, ap length q.advertised_are, length-append b.advertised q.others)) in
    let messages : b.messages ≡ a.messages = p.messages_are ∙ ap (λ (l : List (List ℕ)). a.messages ++ l) more ∙ append-nil a.messages in
    let sequences : b.advertised ≡ a.advertised = p.advertised_are ∙ ap (λ (l : List ℕ). a.advertised ++ l) others ∙ append-nil a.advertised in
    ap (λ (l : List (List ℕ)). record { messages = l; advertised = b.advertised }) messages ∙ ap (λ (l : List ℕ). record { messages = a.messages; advertised = l }) sequences

-- there is a newest one where there is one at all
pub none_advertised : (advertised : List ℕ) → newest_of advertised ≡ None → advertised ≡ []
none_advertised [] none = refl
none_advertised (n ∷ ns) none =
    let e : length (n ∷ ns) - 1 ≡ length ns = omega arith in
    absurd (at n ns (ap (slice_get (n ∷ ns)) (sym e) ∙ none))
  where
    at : (m : ℕ) (ms : List ℕ) → slice_get (m ∷ ms) (length ms) ≡ None → ⊥
    at m [] e = cc
    at m (k ∷ ms) e = at k ms e
