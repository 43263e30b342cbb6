-- Messages that go into one datagram are packed into one.
use Rattle.std.proofs.Common.{◌≡◌, ℕ, ◌<◌, ◌+◌, List, [], ◌∷◌, ◌++◌, length, length-append, sym, ap, ◌∙◌, subst, append_assoc, arith, take, Some, slice_get}
use Rattle.std.specs.List.{concat}
use Rattle.std.proofs.lemmas.List.{append-nil, take_more}
use Rattle.std.proofs.lemmas.Option.{get_or_from_slice_get, slice_get_within}
use Rattle.std.proofs.lemmas.List.Folds.{concat-append}
use Rattle.pitch_messages.specs.Room.{Roomy}
use Rattle.unit_packets.specs.BlockBytes.{block_bytes}
use Rattle.unit_packets.specs.Packing.{FitsDatagram, begun_datagrams, packed_on, packed, bytes_in}
use Rattle.unit_packets.proofs.Packs.{fits_true, packed_takes, nothing_more}

-- the first of them do too
first_fit : (raws more : List (List ℕ)) → FitsDatagram (raws ++ more) → FitsDatagram raws
first_fit raws more fits =
    let size = fits.size in
    let count = fits.count in
    let joined = ap (λ (bytes : List ℕ). length bytes) (concat-append raws more) ∙ length-append (concat raws) (concat more) in
    let all = length-append raws more in
    record { size = omega arith; count = omega arith }

on_fit : (unit sequence : ℕ) (begun more : List (List ℕ)) → FitsDatagram (begun ++ more)
    → packed_on unit sequence begun more ≡ begun_datagrams unit sequence (begun ++ more)
on_fit unit sequence begun [] fits =
    nothing_more unit sequence begun ∙ ap (begun_datagrams unit sequence) (sym (append-nil begun))
on_fit unit sequence begun (raw ∷ more) fits =
    let grouped = append_assoc begun (raw ∷ []) more in
    let all : FitsDatagram ((begun ++ raw ∷ []) ++ more) = subst FitsDatagram (sym grouped) fits in
    packed_takes unit sequence begun more raw (fits_true (begun ++ raw ∷ []) (first_fit (begun ++ raw ∷ []) more all))
    ∙ on_fit unit sequence (begun ++ raw ∷ []) more all
    ∙ ap (begun_datagrams unit sequence) grouped

one_joined : (unit sequence : ℕ) (raws : List (List ℕ)) → 0 < length raws
    → concat (begun_datagrams unit sequence raws) ≡ block_bytes (record { unit = unit; sequence = sequence; raws = raws })
one_joined unit sequence [] some = absurd (omega arith)
one_joined unit sequence (raw ∷ raws) some = append-nil (block_bytes (record { unit = unit; sequence = sequence; raws = raw ∷ raws }))

pub one_packed : (unit sequence : ℕ) (raws : List (List ℕ)) → 0 < length raws → FitsDatagram raws
    → block_bytes (record { unit = unit; sequence = sequence; raws = raws }) ≡ concat (packed unit sequence raws)
one_packed unit sequence raws some fits = sym (ap concat (on_fit unit sequence [] raws fits) ∙ one_joined unit sequence raws some)

pub none_packed : (unit sequence : ℕ) (raws : List (List ℕ)) → length raws ≡ 0 → concat (packed unit sequence raws) ≡ []
none_packed unit sequence [] none = ap concat (nothing_more unit sequence [])
none_packed unit sequence (raw ∷ raws) none = absurd (omega arith)

-- one datagram more
pub joined_more : (lists : List (Roomy ℕ)) (i : ℕ) (list : Roomy ℕ) → slice_get lists i ≡ Some list → concat (bytes_in (take (i + 1) lists)) ≡ concat (bytes_in (take i lists)) ++ list.items
joined_more lists i list at =
    ap (λ (ls : List (Roomy ℕ)). concat (bytes_in ls)) (take_more lists i list (slice_get_within lists i list at))
    ∙ ap (λ (l : Roomy ℕ). concat (bytes_in (take i lists ++ l ∷ []))) (get_or_from_slice_get lists i list list at)
    ∙ joined (take i lists) list
  where
    joined : (ls : List (Roomy ℕ)) (l : Roomy ℕ) → concat (bytes_in (ls ++ l ∷ [])) ≡ concat (bytes_in ls) ++ l.items
    joined [] l = append-nil l.items
    joined (m ∷ ls) l = ap (λ (t : List ℕ). m.items ++ t) (joined ls l) ∙ sym (append_assoc m.items (concat (bytes_in ls)) l.items)
