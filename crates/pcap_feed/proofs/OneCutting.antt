-- The computed cutting of a stream is the longest list of items, and there is no other. Nothing
-- here knows what an item is.
use Rattle.std.proofs.Common.{◌≡◌, ℕ, zero, suc, ◌≤◌, Bool, List, [], ◌∷◌, ◌++◌, length, drop, take, refl, sym, ap, ◌∙◌, arith, Ok, Err, Result, inl, inr, subst}
use Rattle.std.proofs.lemmas.List.{length-drop, take-append-drop, drop_at}
use Rattle.unit_packets.proofs.Cuts.{cases_Result}
use Rattle.pcap_feed.specs.Stream.{Front, items_within, left_over}
use Rattle.pcap_feed.specs.layers.Items.{IsFront, AreItems, BeginsNoItem, CutsItems, JudgesItems}
use Rattle.pcap_feed.proofs.Streams.{first_of, none_of}

ok_err : {A E : Type 0} (r : Result A E) (x : A) (e : E) → r ≡ Ok x → r ≡ Err e → ⊥
ok_err r x e a b = cc

cuts_none : {I E : Type 0} (IsItem : List ℕ → I → Type 0) (front : Front I E) → JudgesItems IsItem front → (bytes : List ℕ) (e : E) → front bytes ≡ Err e → CutsItems IsItem bytes (items_within front bytes) (left_over front bytes)
cuts_none {I = I} IsItem front j bytes e is =
    let n = none_of front bytes e is in
    let none : BeginsNoItem IsItem bytes = λ fore back item split stands. ok_err (front bytes) (item, length fore) e (ap front split ∙ j.reads fore back item stands) is in
    subst (λ (items : List I). CutsItems IsItem bytes items (left_over front bytes)) (sym n.items)
    (record { whole = sym n.rest; longest = subst (λ (r : List ℕ). BeginsNoItem IsItem r) (sym n.rest) none })

whole_by : {I E : Type 0} (is_cut_off : E → Bool) (IsItem : List ℕ → I → Type 0) (front : Front I E) → IsFront is_cut_off front → JudgesItems IsItem front
    → (n : ℕ) (bytes : List ℕ) → length bytes ≤ n → CutsItems IsItem bytes (items_within front bytes) (left_over front bytes)
whole_by is_cut_off IsItem front f j zero bytes le = elim (cases_Result (front bytes)) [
  | inl found ↦ let s = f.fits bytes found.0 found.1 in absurd (omega (arith, s.0, s.1, le))
  | inr none ↦ cuts_none IsItem front j bytes none.0 none.1
]
whole_by {I = I} is_cut_off IsItem front f j (suc n) bytes le = elim (cases_Result (front bytes)) [
  | inl found ↦
      let s = f.fits bytes found.0 found.1 in
      let first = first_of is_cut_off front f bytes found.0 found.1 in
      let more = whole_by is_cut_off IsItem front f j n (drop found.0.1 bytes) (omega (arith, s.0, s.1, le, length-drop found.0.1 bytes)) in
      subst (λ (items : List I). CutsItems IsItem bytes items (left_over front bytes)) (sym first.items)
      (subst (λ (r : List ℕ). CutsItems IsItem bytes (found.0.0 ∷ items_within front (drop found.0.1 bytes)) r) (sym first.rest)
      (record {
        whole = (take found.0.1 bytes, drop found.0.1 bytes, sym (take-append-drop found.0.1 bytes), j.stands bytes found.0 found.1, more.whole);
        longest = more.longest;
      }))
  | inr none ↦ cuts_none IsItem front j bytes none.0 none.1
]

pub cuts_computed : {I E : Type 0} (is_cut_off : E → Bool) (IsItem : List ℕ → I → Type 0) (front : Front I E) → IsFront is_cut_off front → JudgesItems IsItem front
    → (bytes : List ℕ) → CutsItems IsItem bytes (items_within front bytes) (left_over front bytes)
cuts_computed is_cut_off IsItem front f j bytes = whole_by is_cut_off IsItem front f j (length bytes) bytes (omega arith)

-- a cutting is the computed one
record Computed {I E : Type 0} (front : Front I E) (bytes : List ℕ) (items : List I) (rest : List ℕ) : Type 0 where
  items_are : items ≡ items_within front bytes
  rest_is : rest ≡ left_over front bytes

computed_by : {I E : Type 0} (is_cut_off : E → Bool) (IsItem : List ℕ → I → Type 0) (front : Front I E) → IsFront is_cut_off front → JudgesItems IsItem front
    → (bytes : List ℕ) (items : List I) (rest : List ℕ) → AreItems IsItem bytes items rest → BeginsNoItem IsItem rest → Computed front bytes items rest
computed_by is_cut_off IsItem front f j bytes [] rest same none = elim (cases_Result (front bytes)) [
  | inl found ↦ absurd (none (take found.0.1 bytes) (drop found.0.1 bytes) found.0.0 (sym same ∙ sym (take-append-drop found.0.1 bytes)) (j.stands bytes found.0 found.1))
  | inr fault ↦ let n = none_of front bytes fault.0 fault.1 in record { items_are = sym n.items; rest_is = sym same ∙ sym n.rest }
]
computed_by {I = I} is_cut_off IsItem front f j bytes (item ∷ items) rest (fore, back, split, is, more) none =
    let first = first_of is_cut_off front f (fore ++ back) (item, length fore) (j.reads fore back item is) in
    let left : drop (length fore) (fore ++ back) ≡ back = drop_at fore back (length fore) refl in
    let again = computed_by is_cut_off IsItem front f j back items rest more none in
    record {
      items_are = ap (λ (is : List I). item ∷ is) again.items_are ∙ ap (λ (r : List ℕ). item ∷ items_within front r) (sym left) ∙ sym first.items ∙ ap (items_within front) (sym split);
      rest_is = again.rest_is ∙ ap (left_over front) (sym left) ∙ sym first.rest ∙ ap (left_over front) (sym split);
    }

pub cuts_one : {I E : Type 0} (is_cut_off : E → Bool) (IsItem : List ℕ → I → Type 0) (front : Front I E) → IsFront is_cut_off front → JudgesItems IsItem front
    → (bytes : List ℕ) (items others : List I) (rest left : List ℕ) → CutsItems IsItem bytes items rest → CutsItems IsItem bytes others left → (items ≡ others) × (rest ≡ left)
cuts_one is_cut_off IsItem front f j bytes items others rest left one other =
    let a = computed_by is_cut_off IsItem front f j bytes items rest one.whole one.longest in
    let b = computed_by is_cut_off IsItem front f j bytes others left other.whole other.longest in
    (a.items_are ∙ sym b.items_are, a.rest_is ∙ sym b.rest_is)
