-- What a packer knows after a message, and after it has finished.
use Rattle.std.proofs.Common.{◌≡◌, ℕ, ◌+◌, ◌<◌, ◌≢◌, true, List, [], ◌∷◌, ◌++◌, length, refl, sym, ap, ◌∙◌, arith, nat_eq, nat_le, length-append, append_assoc, inl, inr, Some, zero, suc, subst, take}
use Rattle.std.specs.List.{concat, slice_get, AllByRecursion}
use Rattle.std.proofs.lemmas.Bool.{cases_Bool, cases_eq, cond-true, cond-false, le-leb, leb-true, ne_eqb, and_parts, and_from}
use Rattle.std.proofs.lemmas.List.{append-nil, map-append, take_more}
use Rattle.std.proofs.lemmas.Option.{slice_get_within, get_or_from_slice_get, slice_get_past, none-some, same_Some}
use Rattle.pitch_messages.specs.Raw.{IsRaw}
use Rattle.pitch_messages.specs.Room.{Roomy}
use Rattle.unit_packets.specs.BlockBytes.{block_bytes}
use Rattle.unit_packets.specs.Packing.{FitsDatagram, sequence_after, fits_datagram, begun_datagrams, packed_on, packed, bytes_in}
use Rattle.unit_packets.specs.Pushing.{Packing, next_sequence, HasPacked}
use Rattle.unit_packets.specs.layers.Packings.{unpacked, Pushes, Finishes}

-- ---- Sequences
pub after_zero : (first count : ℕ) → first ≡ 0 → sequence_after first count ≡ 0
after_zero first count none = ap (λ (f : ℕ). sequence_after f count) none

pub after_known : (first count : ℕ) → first ≢ 0 → sequence_after first count ≡ first + count
after_known first count some = cond-false (nat_eq first 0) _ _ (ne_eqb first 0 some)

pub after_none : (first : ℕ) → sequence_after first 0 ≡ first
after_none first = elim (cases_eq first 0) [
  | inl none ↦ after_zero first 0 none ∙ sym none
  | inr some ↦ after_known first 0 some ∙ omega arith
]

pub after_more : (a b n m k : ℕ) → sequence_after a n ≡ sequence_after b m → sequence_after a (n + k) ≡ sequence_after b (m + k)
after_more a b n m k same = elim (cases_eq a 0) [
  | inl none ↦ elim (cases_eq b 0) [
    | inl nought ↦ after_zero a (n + k) none ∙ sym (after_zero b (m + k) nought)
    | inr some ↦ let e : b + m ≡ 0 = sym (after_known b m some) ∙ sym same ∙ after_zero a n none in absurd (some (omega (arith, e)))
  ]
  | inr known ↦ elim (cases_eq b 0) [
    | inl nought ↦ let e : a + n ≡ 0 = sym (after_known a n known) ∙ same ∙ after_zero b m nought in absurd (known (omega (arith, e)))
    | inr some ↦
        let e : a + n ≡ b + m = sym (after_known a n known) ∙ same ∙ after_known b m some in
        let l : a + (n + k) ≡ b + (m + k) = omega (arith, e) in
        after_known a (n + k) known ∙ l ∙ sym (after_known b (m + k) some)
  ]
]

pub after_after : (a n k : ℕ) → sequence_after (sequence_after a n) k ≡ sequence_after a (n + k)
after_after a n k = elim (cases_eq a 0) [
  | inl none ↦ after_zero (sequence_after a n) k (after_zero a n none) ∙ sym (after_zero a (n + k) none)
  | inr some ↦
      let some_on : a + n ≢ 0 = λ e. some (omega (arith, e)) in
      let l : (a + n) + k ≡ a + (n + k) = omega arith in
      ap (λ (s : ℕ). sequence_after s k) (after_known a n some) ∙ after_known (a + n) k some_on ∙ l ∙ sym (after_known a (n + k) some)
]

-- ---- Lists of datagrams
-- the first of some and one more
pub bytes_more : (lists : List (Roomy ℕ)) (i : ℕ) (list : Roomy ℕ) → slice_get lists i ≡ Some list → bytes_in (take (i + 1) lists) ≡ bytes_in (take i lists) ++ list.items ∷ []
bytes_more lists i list at =
    ap (λ (ls : List (Roomy ℕ)). bytes_in ls) (take_more lists i list (slice_get_within lists i list at))
    ∙ ap (λ (l : Roomy ℕ). bytes_in (take i lists ++ l ∷ [])) (get_or_from_slice_get lists i list list at)
    ∙ map-append (λ (l : Roomy ℕ). l.items) (take i lists) (list ∷ [])

-- what holds of each holds of the one at a place
pub bytes_at : (P : List ℕ → Type 0) (lists : List (Roomy ℕ)) (i : ℕ) (list : Roomy ℕ) → slice_get lists i ≡ Some list → AllByRecursion P (bytes_in lists) → P list.items
bytes_at P [] i list at all = absurd (none-some list (sym (slice_get_past [] i (omega arith)) ∙ at))
bytes_at P (l ∷ lists) zero list at all = subst (λ (x : Roomy ℕ). P x.items) (same_Some l list at) all.0
bytes_at P (l ∷ lists) (suc i) list at all = bytes_at P lists i list at all.1

pub bytes_append : (before added : List (Roomy ℕ)) → bytes_in (before ++ added) ≡ bytes_in before ++ bytes_in added
bytes_append before added = map-append (λ (list : Roomy ℕ). list.items) before added

-- ---- Whether messages go into one datagram
pub fits_true : (raws : List (List ℕ)) → FitsDatagram raws → fits_datagram raws ≡ true
unfolding fits_datagram
fits_true raws fits = and_from _ _ (le-leb (8 + length (concat raws)) 1400 fits.size) (le-leb (length raws) 255 fits.count)

pub fits_of : (raws : List (List ℕ)) → fits_datagram raws ≡ true → FitsDatagram raws
unfolding fits_datagram
fits_of raws is =
    let both = and_parts (nat_le (8 + length (concat raws)) 1400) (nat_le (length raws) 255) is in
    record { size = leb-true (8 + length (concat raws)) 1400 both.0; count = leb-true (length raws) 255 both.1 }

pub one_fits : (raw : List ℕ) → IsRaw raw → fits_datagram (raw ∷ []) ≡ true
one_fits raw is = let most = is.most in fits_true (raw ∷ []) (record { size = omega (arith, most, length-append raw []); count = omega arith })

-- ---- One message more
pub packed_takes : (unit sequence : ℕ) (begun more : List (List ℕ)) (raw : List ℕ) → fits_datagram (begun ++ raw ∷ []) ≡ true
    → packed_on unit sequence begun (raw ∷ more) ≡ packed_on unit sequence (begun ++ raw ∷ []) more
unfolding packed_on
packed_takes unit sequence begun more raw fits = cond-true (fits_datagram (begun ++ raw ∷ [])) _ _ fits

pub packed_begins : (unit sequence : ℕ) (begun more : List (List ℕ)) (raw : List ℕ) → IsRaw raw → ((0 < length begun) × (fits_datagram (begun ++ raw ∷ []) ≡ true) → ⊥)
    → packed_on unit sequence begun (raw ∷ more) ≡ begun_datagrams unit sequence begun ++ packed_on unit (sequence_after sequence (length begun)) (raw ∷ []) more
unfolding packed_on
packed_begins unit sequence [] more raw is full =
    packed_takes unit sequence [] more raw (one_fits raw is) ∙ ap (λ (s : ℕ). packed_on unit s (raw ∷ []) more) (sym (after_none sequence))
packed_begins unit sequence (b ∷ begun) more raw is full = elim (cases_Bool (fits_datagram ((b ∷ begun) ++ raw ∷ []))) [
  | inl fits ↦ absurd (full (omega arith, fits))
  | inr not ↦ cond-false (fits_datagram ((b ∷ begun) ++ raw ∷ [])) _ _ not
]

-- a new packer has packed nothing
pub packed_none : (unit first : ℕ) → HasPacked (unpacked unit first) unit first [] []
packed_none unit first = record { unit_is = refl; next_is = refl; goes_on = λ more. refl }

-- the message goes into the block that was begun
pub takes_more : (old new : Packing) (raw : List ℕ) (before after : List (Roomy ℕ)) → fits_datagram (old.begun ++ raw ∷ []) ≡ true
    → new.unit ≡ old.unit → new.sequence ≡ old.sequence → new.begun ≡ old.begun ++ raw ∷ [] → after ≡ before → Pushes old raw new before after
takes_more old new raw before after fits unit sequence begun same = record {
  added = [];
  given = same ∙ sym (append-nil before);
  stands = λ u f raws datagrams has. record {
    unit_is = unit ∙ has.unit_is;
    next_is = ap (λ (s : ℕ). sequence_after s (length new.begun)) sequence ∙ ap (λ (b : List (List ℕ)). sequence_after old.sequence (length b)) begun
        ∙ ap (sequence_after old.sequence) (length-append old.begun (raw ∷ []))
        ∙ after_more old.sequence f (length old.begun) (length raws) 1 has.next_is
        ∙ ap (sequence_after f) (sym (length-append raws (raw ∷ [])));
    goes_on = λ more. ap (packed u f) (append_assoc raws (raw ∷ []) more) ∙ has.goes_on (raw ∷ more)
        ∙ ap (λ (ds : List (List ℕ)). datagrams ++ ds) (packed_takes old.unit old.sequence old.begun more raw fits
        ∙ ap (λ (b : List (List ℕ)). packed_on old.unit old.sequence b more) (sym begun)
        ∙ ap (λ (s : ℕ). packed_on old.unit s new.begun more) (sym sequence)
        ∙ ap (λ (v : ℕ). packed_on v new.sequence new.begun more) (sym unit))
        ∙ ap (λ (ds : List (List ℕ)). ds ++ packed_on new.unit new.sequence new.begun more) (sym (append-nil datagrams));
  };
}

-- the message begins a block, and the one before is given out
pub begins_block : (old new : Packing) (raw : List ℕ) (before after added : List (Roomy ℕ)) → IsRaw raw → ((0 < length old.begun) × (fits_datagram (old.begun ++ raw ∷ []) ≡ true) → ⊥)
    → after ≡ before ++ added → bytes_in added ≡ begun_datagrams old.unit old.sequence old.begun
    → new.unit ≡ old.unit → new.sequence ≡ next_sequence old → new.begun ≡ raw ∷ [] → Pushes old raw new before after
begins_block old new raw before after added is full given gives unit sequence begun = record {
  added = added;
  given = given;
  stands = λ u f raws datagrams has. record {
    unit_is = unit ∙ has.unit_is;
    next_is = ap (λ (s : ℕ). sequence_after s (length new.begun)) sequence ∙ ap (λ (b : List (List ℕ)). sequence_after (next_sequence old) (length b)) begun
        ∙ after_after old.sequence (length old.begun) 1
        ∙ after_more old.sequence f (length old.begun) (length raws) 1 has.next_is
        ∙ ap (sequence_after f) (sym (length-append raws (raw ∷ [])));
    goes_on = λ more. ap (packed u f) (append_assoc raws (raw ∷ []) more) ∙ has.goes_on (raw ∷ more)
        ∙ ap (λ (ds : List (List ℕ)). datagrams ++ ds) (packed_begins old.unit old.sequence old.begun more raw is full
        ∙ ap (λ (ds : List (List ℕ)). ds ++ packed_on old.unit (next_sequence old) (raw ∷ []) more) (sym gives)
        ∙ ap (λ (b : List (List ℕ)). bytes_in added ++ packed_on old.unit (next_sequence old) b more) (sym begun)
        ∙ ap (λ (s : ℕ). bytes_in added ++ packed_on old.unit s new.begun more) (sym sequence)
        ∙ ap (λ (v : ℕ). bytes_in added ++ packed_on v new.sequence new.begun more) (sym unit))
        ∙ sym (append_assoc datagrams (bytes_in added) (packed_on new.unit new.sequence new.begun more));
  };
}

-- the block that was begun is given out
pub nothing_more : (unit sequence : ℕ) (begun : List (List ℕ)) → packed_on unit sequence begun [] ≡ begun_datagrams unit sequence begun
unfolding packed_on
nothing_more unit sequence begun = refl

pub finishes : (old new : Packing) (before after added : List (Roomy ℕ)) → after ≡ before ++ added → bytes_in added ≡ begun_datagrams old.unit old.sequence old.begun → new ≡ unpacked old.unit (next_sequence old)
    → Finishes old new before after
finishes old new before after added given gives empty = record {
  added = added;
  given = given;
  gives = gives;
  whole = λ u f raws datagrams has.
      ap (λ (ds : List (List ℕ)). datagrams ++ ds) (gives ∙ sym (nothing_more old.unit old.sequence old.begun)) ∙ sym (has.goes_on []) ∙ ap (packed u f) (append-nil raws);
  stands = λ u f raws datagrams has. record {
    unit_is = ap (λ (p : Packing). p.unit) empty ∙ has.unit_is;
    next_is = ap next_sequence empty ∙ after_none (next_sequence old) ∙ has.next_is ∙ sym (after_none (sequence_after f (length raws)));
    goes_on = λ more.
        ap (λ (v : ℕ). packed_on v (sequence_after f (length raws)) [] more) (sym has.unit_is)
        ∙ ap (λ (s : ℕ). packed_on old.unit s [] more) (sym has.next_is)
        ∙ ap (λ (p : Packing). packed_on p.unit p.sequence p.begun more) (sym empty);
  };
}

-- where nothing is begun, a packer is as new
pub nothing_begun : (packing : Packing) → packing.begun ≡ [] → packing ≡ unpacked packing.unit (next_sequence packing)
nothing_begun packing none =
    ap (λ (rs : List (List ℕ)). record { unit = packing.unit; sequence = packing.sequence; begun = rs }) none
    ∙ ap (λ (s : ℕ). record { unit = packing.unit; sequence = s; begun = [] }) (sym (ap (λ (rs : List (List ℕ)). sequence_after packing.sequence (length rs)) none ∙ after_none packing.sequence))

pub none_given : (packing : Packing) → packing.begun ≡ [] → bytes_in [] ≡ begun_datagrams packing.unit packing.sequence packing.begun
none_given packing none = ap (λ (rs : List (List ℕ)). begun_datagrams packing.unit packing.sequence rs) (sym none)

-- where something is, it is one datagram
pub one_given : (unit sequence : ℕ) (begun : List (List ℕ)) (list : Roomy ℕ) → 0 < length begun → list.items ≡ block_bytes (record { unit = unit; sequence = sequence; raws = begun }) → bytes_in (list ∷ []) ≡ begun_datagrams unit sequence begun
one_given unit sequence [] list some is = absurd (omega arith)
one_given unit sequence (raw ∷ begun) list some is = ap (λ (b : List ℕ). b ∷ []) is
