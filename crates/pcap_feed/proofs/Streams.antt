-- The longest list of items at the front of a stream, and what more bytes do to it. Nothing here
-- knows what an item is.
use Rattle.std.proofs.Common.{◌≡◌, ℕ, zero, suc, ◌+◌, ◌<◌, ◌≤◌, Bool, List, [], ◌∷◌, ◌++◌, length, drop, refl, sym, ap, ◌∙◌, arith, Ok, Err, inl, inr, append_assoc, take}
use Rattle.std.proofs.lemmas.List.{length-drop, append-nil, drop-append-le, drop-drop, take_at}
use Rattle.unit_packets.proofs.Cuts.{cases_Result}
use Rattle.pcap_feed.specs.Stream.{Front, items_found, left_over_found, items_within_by}
use Rattle.pcap_feed.specs.Stream.{left_over_by, items_within, left_over}
use Rattle.pcap_feed.specs.layers.Items.{IsFront}

by_ok : {I E : Type 0} (front : Front I E) (n : ℕ) (bytes : List ℕ) (found : I × ℕ) → front bytes ≡ Ok found → items_within_by front (suc n) bytes ≡ found.0 ∷ items_within_by front n (drop found.1 bytes)
unfolding items_within_by
by_ok front n bytes found is = ap (items_found (items_within_by front n) bytes) is

by_err : {I E : Type 0} (front : Front I E) (n : ℕ) (bytes : List ℕ) (e : E) → front bytes ≡ Err e → items_within_by front n bytes ≡ []
unfolding items_within_by
by_err front zero bytes e is = refl
by_err front (suc n) bytes e is = ap (items_found (items_within_by front n) bytes) is

rest_ok : {I E : Type 0} (front : Front I E) (n : ℕ) (bytes : List ℕ) (found : I × ℕ) → front bytes ≡ Ok found → left_over_by front (suc n) bytes ≡ left_over_by front n (drop found.1 bytes)
unfolding left_over_by
rest_ok front n bytes found is = ap (left_over_found (left_over_by front n) bytes) is

rest_err : {I E : Type 0} (front : Front I E) (n : ℕ) (bytes : List ℕ) (e : E) → front bytes ≡ Err e → left_over_by front n bytes ≡ bytes
unfolding left_over_by
rest_err front zero bytes e is = refl
rest_err front (suc n) bytes e is = ap (left_over_found (left_over_by front n) bytes) is

record Same {I E : Type 0} (front : Front I E) (n m : ℕ) (bytes : List ℕ) : Type 0 where
  items : items_within_by front n bytes ≡ items_within_by front m bytes
  rest : left_over_by front n bytes ≡ left_over_by front m bytes

same_none : {I E : Type 0} (front : Front I E) (n m : ℕ) (bytes : List ℕ) (e : E) → front bytes ≡ Err e → Same front n m bytes
same_none front n m bytes e is = record {
  items = by_err front n bytes e is ∙ sym (by_err front m bytes e is);
  rest = rest_err front n bytes e is ∙ sym (rest_err front m bytes e is);
}

shorter : {I E : Type 0} (is_cut_off : E → Bool) (front : Front I E) → IsFront is_cut_off front → (bytes : List ℕ) (found : I × ℕ) → front bytes ≡ Ok found → length (drop found.1 bytes) < length bytes
shorter is_cut_off front f bytes found is = let s = f.fits bytes found is in omega (arith, s.0, s.1, length-drop found.1 bytes)

-- it is no matter how many items more there might be than there are bytes
enough : {I E : Type 0} (is_cut_off : E → Bool) (front : Front I E) → IsFront is_cut_off front → (n m : ℕ) (bytes : List ℕ) → length bytes ≤ n → length bytes ≤ m → Same front n m bytes
enough is_cut_off front f zero m bytes few more = elim (cases_Result (front bytes)) [
  | inl found ↦ absurd (omega (arith, few, shorter is_cut_off front f bytes found.0 found.1))
  | inr none ↦ same_none front zero m bytes none.0 none.1
]
enough is_cut_off front f (suc n) zero bytes few more = elim (cases_Result (front bytes)) [
  | inl found ↦ absurd (omega (arith, more, shorter is_cut_off front f bytes found.0 found.1))
  | inr none ↦ same_none front (suc n) zero bytes none.0 none.1
]
enough {I = I} is_cut_off front f (suc n) (suc m) bytes few more = elim (cases_Result (front bytes)) [
  | inl found ↦
      let left = shorter is_cut_off front f bytes found.0 found.1 in
      let again = enough is_cut_off front f n m (drop found.0.1 bytes) (omega (arith, left, few)) (omega (arith, left, more)) in
      record {
        items = by_ok front n bytes found.0 found.1 ∙ ap (λ (is : List I). found.0.0 ∷ is) again.items ∙ sym (by_ok front m bytes found.0 found.1);
        rest = rest_ok front n bytes found.0 found.1 ∙ again.rest ∙ sym (rest_ok front m bytes found.0 found.1);
      }
  | inr none ↦ same_none front (suc n) (suc m) bytes none.0 none.1
]

-- an item at the front is the first, and the others follow it
pub record First {I E : Type 0} (front : Front I E) (bytes : List ℕ) (found : I × ℕ) : Type 0 where
  pub items : items_within front bytes ≡ found.0 ∷ items_within front (drop found.1 bytes)
  pub rest : left_over front bytes ≡ left_over front (drop found.1 bytes)

pub first_of : {I E : Type 0} (is_cut_off : E → Bool) (front : Front I E) → IsFront is_cut_off front → (bytes : List ℕ) (found : I × ℕ) → front bytes ≡ Ok found → First front bytes found
unfolding items_within left_over
first_of {I = I} is_cut_off front f bytes found is =
    let left = shorter is_cut_off front f bytes found is in
    let more = enough is_cut_off front f (length bytes) (suc (length bytes)) bytes (omega arith) (omega arith) in
    let less = enough is_cut_off front f (length bytes) (length (drop found.1 bytes)) (drop found.1 bytes) (omega (arith, left)) (omega arith) in
    record {
      items = more.items ∙ by_ok front (length bytes) bytes found is ∙ ap (λ (is : List I). found.0 ∷ is) less.items;
      rest = more.rest ∙ rest_ok front (length bytes) bytes found is ∙ less.rest;
    }

pub record NoneAt {I E : Type 0} (front : Front I E) (bytes : List ℕ) : Type 0 where
  pub items : items_within front bytes ≡ []
  pub rest : left_over front bytes ≡ bytes

pub none_of : {I E : Type 0} (front : Front I E) (bytes : List ℕ) (e : E) → front bytes ≡ Err e → NoneAt front bytes
unfolding items_within left_over
none_of front bytes e is = record { items = by_err front (length bytes) bytes e is; rest = rest_err front (length bytes) bytes e is }

-- bytes that are fed after others
pub record Appends {I E : Type 0} (front : Front I E) (fed more : List ℕ) : Type 0 where
  pub items : items_within front (fed ++ more) ≡ items_within front fed ++ items_within front (left_over front fed ++ more)
  pub rest : left_over front (fed ++ more) ≡ left_over front (left_over front fed ++ more)
  pub short : length (left_over front fed) ≤ length fed

appends_none : {I E : Type 0} (front : Front I E) (fed more : List ℕ) (e : E) → front fed ≡ Err e → Appends front fed more
appends_none {I = I} front fed more e is =
    let none = none_of front fed e is in
    record {
      items = ap (λ (r : List ℕ). items_within front (r ++ more)) (sym none.rest) ∙ ap (λ (is : List I). is ++ items_within front (left_over front fed ++ more)) (sym none.items);
      rest = ap (λ (r : List ℕ). left_over front (r ++ more)) (sym none.rest);
      short = omega (arith, ap length none.rest);
    }

appends_by : {I E : Type 0} (is_cut_off : E → Bool) (front : Front I E) → IsFront is_cut_off front → (n : ℕ) (fed more : List ℕ) → length fed ≤ n → Appends front fed more
appends_by is_cut_off front f zero fed more le = elim (cases_Result (front fed)) [
  | inl found ↦ absurd (omega (arith, le, shorter is_cut_off front f fed found.0 found.1))
  | inr none ↦ appends_none front fed more none.0 none.1
]
appends_by {I = I} is_cut_off front f (suc n) fed more le = elim (cases_Result (front fed)) [
  | inl found ↦
      let s = f.fits fed found.0 found.1 in
      let left = shorter is_cut_off front f fed found.0 found.1 in
      let first = first_of is_cut_off front f fed found.0 found.1 in
      let longer = first_of is_cut_off front f (fed ++ more) found.0 (f.found fed more found.0 found.1) in
      let again = appends_by is_cut_off front f n (drop found.0.1 fed) more (omega (arith, left, le)) in
      let cut : drop found.0.1 (fed ++ more) ≡ drop found.0.1 fed ++ more = drop-append-le found.0.1 fed more s.1 in
      record {
        items = longer.items
            ∙ ap (λ (r : List ℕ). found.0.0 ∷ items_within front r) cut
            ∙ ap (λ (is : List I). found.0.0 ∷ is) again.items
            ∙ ap (λ (r : List ℕ). (found.0.0 ∷ items_within front (drop found.0.1 fed)) ++ items_within front (r ++ more)) (sym first.rest)
            ∙ ap (λ (is : List I). is ++ items_within front (left_over front fed ++ more)) (sym first.items);
        rest = longer.rest ∙ ap (left_over front) cut ∙ again.rest ∙ ap (λ (r : List ℕ). left_over front (r ++ more)) (sym first.rest);
        short = omega (arith, again.short, left, ap length first.rest);
      }
  | inr none ↦ appends_none front fed more none.0 none.1
]

pub appends : {I E : Type 0} (is_cut_off : E → Bool) (front : Front I E) → IsFront is_cut_off front → (fed more : List ℕ) → Appends front fed more
appends is_cut_off front f fed more = appends_by is_cut_off front f (length fed) fed more (omega arith)

-- ---- Cutting a piece, an item each turn
pub record Cutting {I E : Type 0} (front : Front I E) (bytes : List ℕ) (start at : ℕ) (before so_far : List I) : Type 0 where
  pub within : at ≤ length bytes
  pub rest : left_over front (drop start bytes) ≡ left_over front (drop at bytes)
  pub added : List I
  pub are : so_far ≡ before ++ added
  pub items : added ++ items_within front (drop at bytes) ≡ items_within front (drop start bytes)

pub cutting_none : {I E : Type 0} (front : Front I E) (bytes : List ℕ) (start : ℕ) (before : List I) → start ≤ length bytes → Cutting front bytes start start before before
cutting_none front bytes start before le = record { within = le; rest = refl; added = []; are = sym (append-nil before); items = refl }

pub cutting_kept : {I E : Type 0} (front : Front I E) (bytes : List ℕ) (start at n : ℕ) (before so_far : List I) → Cutting front bytes start at before so_far → n ≡ length before → take n so_far ≡ before
cutting_kept front bytes start at n before so_far c is = ap (λ (k : ℕ). take k so_far) is ∙ ap (take (length before)) c.are ∙ take_at before c.added (length before) refl

pub cutting_more : {I E : Type 0} (is_cut_off : E → Bool) (front : Front I E) → IsFront is_cut_off front
    → (bytes rest : List ℕ) (start at n : ℕ) (before so_far longer : List I) (item : I) → Cutting front bytes start at before so_far → rest ≡ drop at bytes → front rest ≡ Ok (item, n)
    → longer ≡ so_far ++ item ∷ [] → Cutting front bytes start (at + n) before longer
cutting_more {I = I} is_cut_off front f bytes rest start at n before so_far longer item c is stands more =
    let here : front (drop at bytes) ≡ Ok (item, n) = ap front (sym is) ∙ stands in
    let first = first_of is_cut_off front f (drop at bytes) (item, n) here in
    let s = f.fits (drop at bytes) (item, n) here in
    let cut : drop n (drop at bytes) ≡ drop (at + n) bytes = drop-drop n at bytes in
    record {
      within = omega (arith, s.1, length-drop at bytes, c.within);
      rest = c.rest ∙ first.rest ∙ ap (left_over front) cut;
      added = c.added ++ item ∷ [];
      are = more ∙ ap (λ (is : List I). is ++ item ∷ []) c.are ∙ append_assoc before c.added (item ∷ []);
      items = append_assoc c.added (item ∷ []) (items_within front (drop (at + n) bytes))
          ∙ ap (λ (r : List ℕ). c.added ++ (item ∷ items_within front r)) (sym cut)
          ∙ ap (λ (is : List I). c.added ++ is) (sym first.items)
          ∙ c.items;
    }
