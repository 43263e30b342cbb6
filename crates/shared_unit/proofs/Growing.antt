-- What a copy keeps after an operation more.
use Rattle.std.proofs.Common.{◌≡◌, ℕ, ◌+◌, ◌-◌, ◌==◌, ◌≤◌, ◌⊎◌, List, [], ◌∷◌, ◌++◌, length, drop, map, ap, sym, ◌∙◌, subst, ⊎_elim, arith, length-append, true, false, nat_eq, Option, Some, None, IfSome}
use Rattle.std.proofs.lemmas.List.{append-nil, map-append, length-map, drop-append-le, drop-drop, length-drop, take-append-le, drop-map}
use Rattle.std.proofs.lemmas.Bool.{cond-true, cond-false, ne_eqb}
use Rattle.std.specs.List.{AllByRecursion}
use Rattle.std.specs.Set.{is_member}
use Rattle.pitch_fields.proofs.Lists.{all_follows, all_append, all_drop}
use mathlib.Core.List.{IsPrefix}
use Rattle.circular_buffer.specs.Buffer.{Buffer, keep_last}
use Rattle.gap_store.specs.Look.{Store, store_of}
use Rattle.pitch_model.specs.Advertising.{Operation, Accept, Advertise, accepted_by, advertised_by, with_sequence, last_ten}
use Rattle.pitch_model.specs.History.{adds}
use Rattle.pitch_model.specs.Book.{book_after}
use Rattle.pitch_model.specs.Image.{image, image_of}
use Rattle.pitch_model.proofs.Advertising.{accepted_more, advertised_accept, advertised_advertise}
use Rattle.pitch_model.proofs.Images.{image_is}
use Rattle.shared_unit.specs.declared.published.Picture.{Picture}
use Rattle.shared_unit.specs.declared.published.Shelves.{Shelves}
use Rattle.shared_unit.specs.declared.published.What.{What}
use Rattle.shared_unit.specs.declared.published.What.TheVariants as what
use Rattle.shared_unit.specs.layers.Histories.{kept_at, then_done}
use Rattle.shared_unit.specs.layers.Stored.{IsPicture, SamePicture, EndsWith, ComesAfter}
use Rattle.shared_unit.specs.layers.Stored.{EndsOrIsNothing, HasRoomFor, StandFor, IsTakenIn}
use Rattle.shared_unit.specs.layers.Stored.{grown_by, operation_of, sequence_of, served_with}
use Rattle.shared_unit.specs.layers.Stored.{raws_in}
use Rattle.shared_unit.proofs.Fronts.{prefix_shorter, prefix_whole, prefix_length}

-- ---- The last of a list
pub kept_again : {A : Type 0} (n : ℕ) (h : List A) (x : A) → keep_last n (keep_last n h ++ x ∷ []) ≡ keep_last n (h ++ x ∷ [])
kept_again n h x =
    let b = length h - n in
    let e : keep_last n h ++ x ∷ [] ≡ drop b (h ++ x ∷ []) = sym (drop-append-le b h (x ∷ []) (omega arith)) in
    let k : ℕ = length (drop b (h ++ x ∷ [])) - n in
    let same : b + k ≡ length (h ++ x ∷ []) - n = omega (arith, length-drop b (h ++ x ∷ []), length-append h (x ∷ [])) in
    ap (keep_last n) e ∙ drop-drop k b (h ++ x ∷ []) ∙ ap (λ (m : ℕ). drop m (h ++ x ∷ [])) same

map_kept : (n : ℕ) (ps : List Picture) (q : Picture) → map sequence_of (keep_last n (ps ++ q ∷ [])) ≡ keep_last n (map sequence_of ps ++ sequence_of q ∷ [])
map_kept n ps q =
    let k = length (ps ++ q ∷ []) - n in
    let m = length (map sequence_of ps ++ sequence_of q ∷ []) - n in
    let same : k ≡ m = omega (arith, length-append ps (q ∷ []), length-append (map sequence_of ps) (sequence_of q ∷ []), length-map ps sequence_of) in
    sym (drop-map sequence_of k (ps ++ q ∷ [])) ∙ ap (drop k) (map-append sequence_of ps (q ∷ [])) ∙ ap (λ (j : ℕ). drop j (map sequence_of ps ++ sequence_of q ∷ [])) same

-- ---- Images stay as messages come
image_more : (V more : List (List ℕ)) (s : ℕ) → s ≤ length V → image (V ++ more) s ≡ image V s
image_more V more s le = image_is (V ++ more) s ∙ ap (λ (x : List (List ℕ)). image_of (book_after x)) (take-append-le s V more le) ∙ sym (image_is V s)

picture_more : (V more : List (List ℕ)) (p : Picture) → IsPicture V p → IsPicture (V ++ more) p
picture_more V more p is =
    let same = image_more V more p.sequence is.within in
    record {
      within = omega (arith, is.within, length-append V more);
      orders = is.orders ∙ ap adds (sym same);
      raws = subst (λ (i : List (List ℕ)). IfSome (raws_in p) (λ raws. raws ≡ i)) (sym same) is.raws;
    }

share_raws : (p q : Option (List (List ℕ))) (i : List (List ℕ)) → IfSome p (λ raws. raws ≡ i) → IfSome q (λ raws. p ≡ Some raws) → IfSome q (λ raws. raws ≡ i)
share_raws p None i is same = same
share_raws p (Some raws) i is same = subst (λ (x : Option (List (List ℕ))). IfSome x (λ r. r ≡ i)) same is

-- a share of an image is the image
share_is : (V : List (List ℕ)) (p q : Picture) → IsPicture V p → SamePicture p q → IsPicture V q
share_is V p q is same = record {
  within = omega (arith, is.within, same.sequence);
  orders = same.orders ∙ is.orders ∙ ap (λ (k : ℕ). adds (image V k)) (sym same.sequence);
  raws = subst (λ (k : ℕ). IfSome (raws_in q) (λ raws. raws ≡ image V k)) (sym same.sequence) (share_raws (raws_in p) (raws_in q) (image V p.sequence) is.raws same.raws);
}

-- ---- The sequences that are advertised
advertised_new : (h : List Operation) (s : ℕ) → s ≡ length (accepted_by h) → is_member nat_eq (advertised_by h) s ≡ false → advertised_by (then_done h Advertise) ≡ advertised_by h ++ s ∷ []
advertised_new h s newest new = advertised_advertise h ∙ ap (with_sequence (advertised_by h)) (sym newest) ∙ cond-false (is_member nat_eq (advertised_by h) s) _ _ new

advertised_again : (h : List Operation) → is_member nat_eq (advertised_by h) (length (accepted_by h)) ≡ true → advertised_by (then_done h Advertise) ≡ advertised_by h
advertised_again h there = advertised_advertise h ∙ cond-true (is_member nat_eq (advertised_by h) (length (accepted_by h))) _ _ there

pub served_grows : (published : What) (h : List Operation) (served : List ℕ) → served ≡ last_ten (advertised_by h) → ComesAfter published h → served_with served published ≡ last_ten (advertised_by (then_done h (operation_of published)))
served_grows (what.Message raw) h served is follows = is ∙ ap last_ten (sym (advertised_accept h raw))
served_grows (what.Image picture) h served is follows =
    ap (λ (x : List ℕ). last_ten (x ++ picture.sequence ∷ [])) is ∙ kept_again 10 (advertised_by h) picture.sequence ∙ ap last_ten (sym (advertised_new h picture.sequence follows.1 follows.2))
served_grows what.Again h served is follows = is ∙ ap last_ten (sym (advertised_again h follows))

-- ---- A copy with one operation more
module _ (kept : ℕ) (old new : Shelves) (h : List Operation) where
  stored_message : (raw : List ℕ) → StandFor kept old h → IsTakenIn (what.Message raw) old new → StandFor kept new (then_done h (Accept raw))
  stored_message raw store takes =
      let messages : accepted_by (then_done h (Accept raw)) ≡ accepted_by h ++ raw ∷ [] = accepted_more h (Accept raw) in
      record {
        ten = ap (λ (b : Buffer Picture). b.capacity) takes.1 ∙ store.ten;
        gaps_are = takes.0 (kept_at kept h) store.gaps_are ∙ ap (λ (V : List (List ℕ)). store_of (record { messages = V; kept = kept })) (sym messages);
        pictures_are = ap (λ (b : Buffer Picture). map sequence_of b.items) takes.1 ∙ store.pictures_are ∙ ap last_ten (sym (advertised_accept h raw));
        right = subst (λ (b : Buffer Picture). AllByRecursion (IsPicture (accepted_by (then_done h (Accept raw)))) b.items) (sym takes.1)
            (subst (λ (V : List (List ℕ)). AllByRecursion (IsPicture V) old.pictures.items) (sym messages)
            (all_follows (IsPicture (accepted_by h)) (IsPicture (accepted_by h ++ raw ∷ [])) (picture_more (accepted_by h) (raw ∷ [])) old.pictures.items store.right));
      }

  stored_image : (picture : Picture) → StandFor kept old h → ComesAfter (what.Image picture) h → IsTakenIn (what.Image picture) old new → StandFor kept new (then_done h Advertise)
  stored_image picture store follows takes =
      let messages : accepted_by (then_done h Advertise) ≡ accepted_by h = accepted_more h Advertise ∙ append-nil (accepted_by h) in
      let q : Picture = takes.1.0 in
      let room : ℕ = old.pictures.capacity in
      let ps : List Picture = old.pictures.items in
      record {
        ten = ap (λ (b : Buffer Picture). b.capacity) takes.1.2 ∙ store.ten;
        gaps_are = takes.0 ∙ store.gaps_are ∙ ap (λ (V : List (List ℕ)). store_of (record { messages = V; kept = kept })) (sym messages);
        pictures_are = ap (λ (b : Buffer Picture). map sequence_of b.items) takes.1.2 ∙ map_kept room ps q ∙ ap (λ (k : ℕ). keep_last k (map sequence_of ps ++ sequence_of q ∷ [])) store.ten
            ∙ ap (λ (x : List ℕ). keep_last 10 (x ++ sequence_of q ∷ [])) store.pictures_are ∙ kept_again 10 (advertised_by h) (sequence_of q)
            ∙ ap (λ (k : ℕ). last_ten (advertised_by h ++ k ∷ [])) takes.1.1.sequence ∙ ap last_ten (sym (advertised_new h picture.sequence follows.1 follows.2));
        right = subst (λ (b : Buffer Picture). AllByRecursion (IsPicture (accepted_by (then_done h Advertise))) b.items) (sym takes.1.2)
            (subst (λ (V : List (List ℕ)). AllByRecursion (IsPicture V) (keep_last room (ps ++ q ∷ []))) (sym messages)
            (all_drop (IsPicture (accepted_by h)) (length (ps ++ q ∷ []) - room) (ps ++ q ∷ [])
            (all_append (IsPicture (accepted_by h)) ps (q ∷ []) store.right (share_is (accepted_by h) picture q follows.0 takes.1.1, tt))));
      }

  stored_again : StandFor kept old h → ComesAfter what.Again h → IsTakenIn what.Again old new → StandFor kept new (then_done h Advertise)
  stored_again store follows takes =
      let messages : accepted_by (then_done h Advertise) ≡ accepted_by h = accepted_more h Advertise ∙ append-nil (accepted_by h) in
      subst (λ (s : Shelves). StandFor kept s (then_done h Advertise)) (sym takes)
      (record {
        ten = store.ten;
        gaps_are = store.gaps_are ∙ ap (λ (V : List (List ℕ)). store_of (record { messages = V; kept = kept })) (sym messages);
        pictures_are = store.pictures_are ∙ ap last_ten (sym (advertised_again h follows));
        right = subst (λ (V : List (List ℕ)). AllByRecursion (IsPicture V) old.pictures.items) (sym messages) store.right;
      })

  stored : (published : What) → StandFor kept old h → ComesAfter published h → IsTakenIn published old new → StandFor kept new (then_done h (operation_of published))
  stored (what.Message raw) store follows takes = stored_message raw store takes
  stored (what.Image picture) store follows takes = stored_image picture store follows takes
  stored what.Again store follows takes = stored_again store follows takes

-- the history before an operation is the one that is one shorter
before_is : (h o before : List Operation) (op : Operation) → then_done before op ≡ o → IsPrefix h o → length o ≡ length h + 1 → before ≡ h
before_is h o before op is p len =
    let q : IsPrefix before o = (op ∷ [], is) in
    let size : length o ≡ length before + 1 = sym (ap (λ (x : List Operation). length x) is) ∙ length-append before (op ∷ []) in
    prefix_whole before h (prefix_shorter before h o q p (omega (arith, size, len))) (omega (arith, size, len))

-- what is published after a copy's history follows it
pub follows_it : (published : What) (h o : List Operation) (ends : EndsWith published o) → length o ≡ length h + 1 → IsPrefix h o → (then_done h (operation_of published) ≡ o) × ComesAfter published h
follows_it published h o ends len p =
    let before : ends.before ≡ h = before_is h o ends.before (operation_of published) ends.is p len in
    (ap (λ (x : List Operation). then_done x (operation_of published)) (sym before) ∙ ends.is, subst (λ (x : List Operation). ComesAfter published x) before ends.follows)

pub copy_grows : (published : What) (kept : ℕ) (old new : Shelves) (h o : List Operation) → StandFor kept old h → EndsWith published o → length o ≡ length h + 1 → IsPrefix h o → IsTakenIn published old new → StandFor kept new o
copy_grows published kept old new h o store ends len p takes =
    let f = follows_it published h o ends len p in
    subst (StandFor kept new) f.0 (stored kept old new h published store f.1 takes)

-- there is a sequence for it
pub has_room : (published : What) (kept : ℕ) (shelves : Shelves) (h o : List Operation) → StandFor kept shelves h → EndsWith published o → length o ≡ length h + 1 → IsPrefix h o → HasRoomFor published shelves
has_room (what.Message raw) kept shelves h o store ends len p =
    let f = follows_it (what.Message raw) h o ends len p in
    let pushed : shelves.gaps.pushed ≡ length (accepted_by h) = ap (λ (s : Store). s.pushed) store.gaps_are in
    let more : length (accepted_by o) ≡ length (accepted_by h) + 1 = ap (λ (x : List Operation). length (accepted_by x)) (sym f.0) ∙ ap (λ (V : List (List ℕ)). length V) (accepted_more h (Accept raw)) ∙ length-append (accepted_by h) (raw ∷ []) in
    let few = ends.few in
    omega (arith, pushed, more, few)
has_room (what.Image picture) kept shelves h o store ends len p = tt
has_room what.Again kept shelves h o store ends len p = tt

-- where nothing is published the history stays
pub grown_none : (h o : List Operation) → o ≡ [] → grown_by h o ≡ h
grown_none h o none = subst (λ (l : List Operation). grown_by h l ≡ h) (sym none) (cond-false (0 == length h + 1) _ _ (ne_eqb 0 (length h + 1) (omega arith)))

pub grown_nothing : (published : Option What) (h o : List Operation) → EndsOrIsNothing published o → published ≡ None → grown_by h o ≡ h
grown_nothing published h o ends none = grown_none h o (subst (λ (p : Option What). EndsOrIsNothing p o) none ends)

-- of the two histories it is the longer one
pub grown_whole : (h o res : List Operation) → length o ≡ length h + 1 → (res ≡ h) ⊎ (res ≡ o) → IsPrefix o res → res ≡ o
grown_whole h o res len one that = ⊎_elim (λ (e : res ≡ h). absurd (omega (arith, prefix_length o res that, ap (λ (x : List Operation). length x) e, len))) (λ (e : res ≡ o). e) one
