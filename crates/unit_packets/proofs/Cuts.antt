-- The longest list of blocks.
use Rattle.std.proofs.Common.{◌≡◌, ℕ, zero, suc, ◌+◌, ◌-◌, ◌≤◌, ◌⊎◌, List, [], ◌∷◌, ◌++◌, length, take, drop, refl, sym, ap, ◌∙◌, arith, Ok, Err, Result, subst, inl, inr}
use Rattle.std.proofs.lemmas.List.{take-append-le, length-drop, get_or-take, length-take-le, drop-append-le, drop-drop}
use Rattle.unit_packets.specs.Blocks.{Block}
use Rattle.unit_packets.specs.declared.header.Header.{Header}
use Rattle.unit_packets.specs.declared.header.BlockError.{BlockError}
use Rattle.unit_packets.specs.Judging.{judge, block_at}
use Rattle.unit_packets.specs.Held.{BeginsWithBlock}
use Rattle.pitch_messages.specs.Raw.{raws_of}
use Rattle.unit_packets.specs.Cutting.{blocks_on, rest_on, blocks_by, rest_by, blocks_of, rest_of, place_of}
use Rattle.unit_packets.proofs.Stable.{judge_found, judge_more, IsFinal}

pub cases_Result : {A E : Type 0} (r : Result A E) → ((x : A) × (r ≡ Ok x)) ⊎ ((e : E) × (r ≡ Err e))
cases_Result (Ok x) = inl (x, refl)
cases_Result (Err e) = inr (e, refl)

by_ok : (n : ℕ) (bytes : List ℕ) (h : Header) → judge bytes ≡ Ok h → blocks_by (suc n) bytes ≡ block_at h bytes ∷ blocks_by n (drop h.length bytes)
unfolding blocks_by
by_ok n bytes h is = ap (blocks_on (blocks_by n) bytes) is

by_err : (n : ℕ) (bytes : List ℕ) (e : BlockError) → judge bytes ≡ Err e → blocks_by n bytes ≡ []
unfolding blocks_by
by_err zero bytes e is = refl
by_err (suc n) bytes e is = ap (blocks_on (blocks_by n) bytes) is

rest_ok : (n : ℕ) (bytes : List ℕ) (h : Header) → judge bytes ≡ Ok h → rest_by (suc n) bytes ≡ rest_by n (drop h.length bytes)
unfolding rest_by
rest_ok n bytes h is = ap (rest_on (rest_by n) bytes) is

rest_err : (n : ℕ) (bytes : List ℕ) (e : BlockError) → judge bytes ≡ Err e → rest_by n bytes ≡ bytes
unfolding rest_by
rest_err zero bytes e is = refl
rest_err (suc n) bytes e is = ap (rest_on (rest_by n) bytes) is

shorter : (bytes : List ℕ) (h : Header) → judge bytes ≡ Ok h → length (drop h.length bytes) + 8 ≤ length bytes
shorter bytes h is = let s = judge_found bytes h is in omega (arith, s.header, s.fits, length-drop h.length bytes)

record Same (n m : ℕ) (bytes : List ℕ) : Type 0 where
  blocks : blocks_by n bytes ≡ blocks_by m bytes
  rest : rest_by n bytes ≡ rest_by m bytes

-- it is no matter how many blocks more there might be than there are bytes
enough : (n m : ℕ) (bytes : List ℕ) → length bytes ≤ n → length bytes ≤ m → Same n m bytes
enough zero m bytes few more = elim (cases_Result (judge bytes)) [
  | inl found ↦ absurd (omega (arith, shorter bytes found.0 found.1))
  | inr none ↦ record { blocks = by_err zero bytes none.0 none.1 ∙ sym (by_err m bytes none.0 none.1); rest = rest_err zero bytes none.0 none.1 ∙ sym (rest_err m bytes none.0 none.1) }
]
enough (suc n) zero bytes few more = elim (cases_Result (judge bytes)) [
  | inl found ↦ absurd (omega (arith, shorter bytes found.0 found.1))
  | inr none ↦ record { blocks = by_err (suc n) bytes none.0 none.1 ∙ sym (by_err zero bytes none.0 none.1); rest = rest_err (suc n) bytes none.0 none.1 ∙ sym (rest_err zero bytes none.0 none.1) }
]
enough (suc n) (suc m) bytes few more = elim (cases_Result (judge bytes)) [
  | inl found ↦
      let h : Header = found.0 in
      let left = shorter bytes h found.1 in
      let again = enough n m (drop h.length bytes) (omega (arith, left)) (omega (arith, left)) in
      record {
        blocks = by_ok n bytes h found.1 ∙ ap (λ (bs : List Block). block_at h bytes ∷ bs) again.blocks ∙ sym (by_ok m bytes h found.1);
        rest = rest_ok n bytes h found.1 ∙ again.rest ∙ sym (rest_ok m bytes h found.1);
      }
  | inr none ↦ record { blocks = by_err (suc n) bytes none.0 none.1 ∙ sym (by_err (suc m) bytes none.0 none.1); rest = rest_err (suc n) bytes none.0 none.1 ∙ sym (rest_err (suc m) bytes none.0 none.1) }
]

pub record First (bytes : List ℕ) (h : Header) : Type 0 where
  pub blocks : blocks_of bytes ≡ block_at h bytes ∷ blocks_of (drop h.length bytes)
  pub rest : rest_of bytes ≡ rest_of (drop h.length bytes)

pub first_of : (bytes : List ℕ) (h : Header) → judge bytes ≡ Ok h → First bytes h
unfolding blocks_of rest_of
first_of bytes h is =
    let left = shorter bytes h is in
    let more = enough (length bytes) (suc (length bytes)) bytes (omega arith) (omega arith) in
    let less = enough (length bytes) (length (drop h.length bytes)) (drop h.length bytes) (omega (arith, left)) (omega arith) in
    record {
      blocks = more.blocks ∙ by_ok (length bytes) bytes h is ∙ ap (λ (bs : List Block). block_at h bytes ∷ bs) less.blocks;
      rest = more.rest ∙ rest_ok (length bytes) bytes h is ∙ less.rest;
    }

pub record None_at (bytes : List ℕ) : Type 0 where
  pub blocks : blocks_of bytes ≡ []
  pub rest : rest_of bytes ≡ bytes

pub none_of : (bytes : List ℕ) (e : BlockError) → judge bytes ≡ Err e → None_at bytes
unfolding blocks_of rest_of
none_of bytes e is = record { blocks = by_err (length bytes) bytes e is; rest = rest_err (length bytes) bytes e is }

-- bytes that are fed after others
pub record Appends (fed more : List ℕ) : Type 0 where
  pub blocks : blocks_of (fed ++ more) ≡ blocks_of fed ++ blocks_of (rest_of fed ++ more)
  pub rest : rest_of (fed ++ more) ≡ rest_of (rest_of fed ++ more)

at_more : (h : Header) (bytes more : List ℕ) → h.length ≤ length bytes → block_at h (bytes ++ more) ≡ block_at h bytes
at_more h bytes more fits = ap (λ (r : List ℕ). record { unit = h.unit; sequence = h.sequence; raws = raws_of h.count (drop 8 r) }) (take-append-le h.length bytes more fits)

appends_none : (fed more : List ℕ) (e : BlockError) → judge fed ≡ Err e → Appends fed more
appends_none fed more e is =
    let none = none_of fed e is in
    record {
      blocks = ap (λ (r : List ℕ). blocks_of (r ++ more)) (sym none.rest) ∙ ap (λ (bs : List Block). bs ++ blocks_of (rest_of fed ++ more)) (sym none.blocks);
      rest = ap (λ (r : List ℕ). rest_of (r ++ more)) (sym none.rest);
    }

appends_by : (n : ℕ) (fed more : List ℕ) → length fed ≤ n → Appends fed more
appends_by zero fed more le = elim (cases_Result (judge fed)) [
  | inl found ↦ absurd (omega (arith, shorter fed found.0 found.1))
  | inr none ↦ appends_none fed more none.0 none.1
]
appends_by (suc n) fed more le = elim (cases_Result (judge fed)) [
  | inl found ↦
      let h : Header = found.0 in
      let s = judge_found fed h found.1 in
      let first = first_of fed h found.1 in
      let longer = first_of (fed ++ more) h (judge_more fed more (subst (λ r. IsFinal r) (sym found.1) tt) ∙ found.1) in
      let again = appends_by n (drop h.length fed) more (omega (arith, shorter fed h found.1)) in
      let cut : drop h.length (fed ++ more) ≡ drop h.length fed ++ more = drop-append-le h.length fed more s.fits in
      record {
        blocks = longer.blocks
            ∙ ap (λ (b : Block). b ∷ blocks_of (drop h.length (fed ++ more))) (at_more h fed more s.fits)
            ∙ ap (λ (r : List ℕ). block_at h fed ∷ blocks_of r) cut
            ∙ ap (λ (bs : List Block). block_at h fed ∷ bs) again.blocks
            ∙ ap (λ (r : List ℕ). (block_at h fed ∷ blocks_of (drop h.length fed)) ++ blocks_of (r ++ more)) (sym first.rest)
            ∙ ap (λ (bs : List Block). bs ++ blocks_of (rest_of fed ++ more)) (sym first.blocks);
        rest = longer.rest ∙ ap rest_of cut ∙ again.rest ∙ ap (λ (r : List ℕ). rest_of (r ++ more)) (sym first.rest);
      }
  | inr none ↦ appends_none fed more none.0 none.1
]

pub appends : (fed more : List ℕ) → Appends fed more
appends fed more = appends_by (length fed) fed more (omega arith)

rest_short_by : (n : ℕ) (bytes : List ℕ) → length bytes ≤ n → length (rest_of bytes) ≤ length bytes
rest_short_by zero bytes le = elim (cases_Result (judge bytes)) [
  | inl found ↦ absurd (omega (arith, shorter bytes found.0 found.1))
  | inr none ↦ omega (arith, ap length (none_of bytes none.0 none.1).rest)
]
rest_short_by (suc n) bytes le = elim (cases_Result (judge bytes)) [
  | inl found ↦
      let left = shorter bytes found.0 found.1 in
      omega (arith, left, ap length (first_of bytes found.0 found.1).rest, rest_short_by n (drop found.0.length bytes) (omega (arith, left)))
  | inr none ↦ omega (arith, ap length (none_of bytes none.0 none.1).rest)
]

pub rest_short : (bytes : List ℕ) → length (rest_of bytes) ≤ length bytes
rest_short bytes = rest_short_by (length bytes) bytes (omega arith)

-- the rest stands behind the whole blocks
rest_stands_none : (bytes : List ℕ) (e : BlockError) → judge bytes ≡ Err e → rest_of bytes ≡ drop (length bytes - length (rest_of bytes)) bytes
rest_stands_none bytes e is =
    let rest = (none_of bytes e is).rest in
    let nothing : 0 ≡ length bytes - length (rest_of bytes) = omega (arith, ap length rest) in
    rest ∙ ap (λ (k : ℕ). drop k bytes) nothing

rest_stands_by : (n : ℕ) (bytes : List ℕ) → length bytes ≤ n → rest_of bytes ≡ drop (length bytes - length (rest_of bytes)) bytes
rest_stands_by zero bytes le = elim (cases_Result (judge bytes)) [
  | inl found ↦ absurd (omega (arith, shorter bytes found.0 found.1))
  | inr none ↦ rest_stands_none bytes none.0 none.1
]
rest_stands_by (suc n) bytes le = elim (cases_Result (judge bytes)) [
  | inl found ↦
      let h : Header = found.0 in
      let left : List ℕ = drop h.length bytes in
      let fewer = shorter bytes h found.1 in
      let fits = (judge_found bytes h found.1).fits in
      let first = first_of bytes h found.1 in
      let size : h.length + (length left - length (rest_of left)) ≡ length bytes - length (rest_of bytes) =
      omega (arith, fits, length-drop h.length bytes, rest_short left, ap length first.rest) in
      first.rest ∙ rest_stands_by n left (omega (arith, fewer)) ∙ drop-drop (length left - length (rest_of left)) h.length bytes ∙ ap (λ (k : ℕ). drop k bytes) size
  | inr none ↦ rest_stands_none bytes none.0 none.1
]

pub rest_stands : (bytes : List ℕ) → rest_of bytes ≡ drop (place_of bytes) bytes
rest_stands bytes = rest_stands_by (length bytes) bytes (omega arith)

-- what a block at the start needs to be taken out
pub record Takes (bytes : List ℕ) (h : Header) : Type 0 where
  pub header : 8 ≤ h.length
  pub fits : h.length ≤ length bytes
  pub stand : length (raws_of h.count (drop 8 (take h.length bytes))) ≡ h.count

pub begins_takes : (bytes : List ℕ) (h : Header) → BeginsWithBlock bytes h → Takes bytes h
begins_takes bytes h f =
    let size : length (take h.length bytes) ≡ h.length = length-take-le h.length bytes f.fits in
    let head = f.block.header in
    record {
      header = omega (arith, head, size);
      fits = f.fits;
      stand = sym f.block.count ∙ get_or-take h.length bytes 2 0 (omega (arith, head, size)) ∙ sym (ap (λ (g : Header). g.count) f.header);
    }
