-- What a client hears of its links, one item after another.
use Rattle.std.proofs.Common.{◌≡◌, ℕ, ◌+◌, Bool, true, false, List, [], ◌∷◌, ◌++◌, take, refl, sym, ap, ◌∙◌, subst, Some}
use Rattle.std.specs.List.{AllByRecursion, slice_get}
use Rattle.std.proofs.lemmas.List.{take_more}
use Rattle.std.proofs.lemmas.Option.{slice_get_within, get_or_from_slice_get}
use Rattle.pitch_model.specs.History.{Entry, Raw}
use Rattle.pitch_model.specs.Honest.{Honest}
use Rattle.heard_items.specs.Heard.{heard, heard_all}
use Rattle.heard_items.specs.declared.item.Item.{Item}
use Rattle.heard_items.specs.declared.item.Item.TheVariants as item
use Rattle.client_core.specs.Tracks.{Tracks, Keeps}
use Rattle.client_core.specs.Client.{IsAsBefore}
use Rattle.client_core.specs.Venues.{IsImage, IsVenue}
use Rattle.client_core.specs.declared.client.UnitClient.{UnitClient}
use Rattle.client_core.proofs.Venues.{venue_by}
use Rattle.client_end.specs.layers.Hearing.{IsTold, HearsItems}

abbrev pub AreTold : List Item → Type 0
AreTold items = AllByRecursion IsTold items

-- ---- One after another
pub heard_both : (xs ys : List Item) (E : List Entry) → heard_all (xs ++ ys) E ≡ heard_all ys (heard_all xs E)
heard_both [] ys E = refl
heard_both (x ∷ xs) ys E = heard_both xs ys (heard x E)

told_first : (xs ys : List Item) → AreTold (xs ++ ys) → AreTold xs
told_first [] ys all = tt
told_first (x ∷ xs) ys all = (all.0, told_first xs ys all.1)

told_second : (xs ys : List Item) → AreTold (xs ++ ys) → AreTold ys
told_second [] ys all = all
told_second (x ∷ xs) ys all = told_second xs ys all.1

-- an item adds one entry, or none
honest_before : (Image : List Raw → ℕ → List Raw) (V : List Raw) (x : Item) (E : List Entry) → IsTold x → Honest Image V (heard x E) → Honest Image V E
honest_before Image V (item.Messages first raws) E is h = absurd is
honest_before Image V (item.Next next) E is h = absurd is
honest_before Image V item.Nothing E is h = h
honest_before Image V item.GrpUp E is h = h.1
honest_before Image V item.GrpDown E is h = h.1
honest_before Image V (item.GapReply sequence count status) E is h = h.1
honest_before Image V item.SpinUp E is h = h.1
honest_before Image V item.SpinDown E is h = h.1
honest_before Image V (item.Advertised sequence) E is h = h.1
honest_before Image V (item.SpinReply sequence orders status) E is h = h.1
honest_before Image V (item.ImageMessages raws) E is h = h.1
honest_before Image V (item.SpinFinished sequence) E is h = h.1

honest_first : (Image : List Raw → ℕ → List Raw) (V : List Raw) (xs : List Item) (E : List Entry) → AreTold xs → Honest Image V (heard_all xs E) → Honest Image V E
honest_first Image V [] E all h = h
honest_first Image V (x ∷ xs) E all h = honest_before Image V x E all.0 (honest_first Image V xs (heard x E) all.1 h)

pub venue_first : (V : List Raw) (xs : List Item) (E : List Entry) → AreTold xs → IsVenue V (heard_all xs E) → IsVenue V E
venue_first V xs E all = venue_by V (heard_all xs E) E (λ Image. honest_first Image V xs E all)

pub hears_nothing : (c : UnitClient) → HearsItems c c []
hears_nothing c = record { tracks = λ all H E T. T; keeps = λ all V H E T v K. K }

pub hears_then : (a b c : UnitClient) (xs ys : List Item) → HearsItems a b xs → HearsItems b c ys → HearsItems a c (xs ++ ys)
hears_then a b c xs ys one two = record {
  tracks = λ all H E T. subst (Tracks c H) (sym (heard_both xs ys E)) (two.tracks (told_second xs ys all) H (heard_all xs E) (one.tracks (told_first xs ys all) H E T));
  keeps = λ all V H E T v K.
      let whole : IsVenue V (heard_all ys (heard_all xs E)) = subst (IsVenue V) (heard_both xs ys E) v in
      let middle = one.tracks (told_first xs ys all) H E T in
      two.keeps (told_second xs ys all) V H (heard_all xs E) middle whole
      (one.keeps (told_first xs ys all) V H E T (venue_first V ys (heard_all xs E) (told_second xs ys all) whole) K);
}

-- what a failed hearing leaves is as before
pub hears_still : (a b c : UnitClient) (xs : List Item) → HearsItems a b xs → IsAsBefore b c → HearsItems a c xs
hears_still a b c xs hears still = record {
  tracks = λ all H E T. still.tracks H (heard_all xs E) (hears.tracks all H E T);
  keeps = λ all V H E T v K. still.keeps V (hears.keeps all V H E T v K);
}

pub items_more : (items : List Item) (i : ℕ) (x : Item) → slice_get items i ≡ Some x → take (i + 1) items ≡ take i items ++ x ∷ []
items_more items i x at = take_more items i x (slice_get_within items i x at) ∙ ap (λ (y : Item). take i items ++ y ∷ []) (get_or_from_slice_get items i x x at)

-- ---- One item
pub hears_item : (a b : UnitClient) (x : Item)
    → ((H : ℕ) (E : List Entry) → Tracks a H E → Tracks b H (heard x E))
    → ((Image : List Raw → ℕ → List Raw) (V : List Raw) → IsImage Image V → (H : ℕ) (E : List Entry) → Tracks a H E → Honest Image V (heard x E) → Keeps a V → Keeps b V) → HearsItems a b (x ∷ [])
hears_item a b x tracks keeps = record { tracks = λ all. tracks; keeps = λ all V H E T v. keeps v.Image V v.are_images H E T v.honest }

-- no link tells of it
pub hears_none : (c : UnitClient) (x : Item) (b : Bool) → b ≡ false → (IsTold x → b ≡ true) → HearsItems c c (x ∷ [])
hears_none c x b is told = record { tracks = λ all. absurd (never (told all.0)); keeps = λ all. absurd (never (told all.0)) }
  where
    false_true : ◌≡◌ {A = Bool} false true → ⊥
    false_true e = cc

    never : b ≡ true → ⊥
    never e = false_true (sym is ∙ e)
