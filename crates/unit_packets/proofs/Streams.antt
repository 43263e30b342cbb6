-- What a reader of a stream may conclude at each block, at each piece, and at a fault.
use Rattle.std.proofs.Common.{◌≡◌, ℕ, ◌<◌, ◌≤◌, Bool, true, false, true≢false, cond, List, [], ◌∷◌, ◌++◌, length, drop, refl, sym, ap, ◌∙◌, subst, arith, Option, Some, None, Err, Result, length-append, inl, inr, Ok}
use Rattle.std.proofs.lemmas.List.{append-nil}
use Rattle.std.proofs.lemmas.Bool.{cases_Bool}
use Rattle.unit_packets.specs.Blocks.{Block}
use Rattle.unit_packets.specs.Judging.{judge}
use Rattle.unit_packets.specs.Lending.{header_for}
use Rattle.unit_packets.specs.Held.{StandsFirst}
use Rattle.unit_packets.specs.Cutting.{blocks_of, rest_of, place_of, fault_from, fault_in, fault_of, fault_at_end, is_truncated}
use Rattle.unit_packets.specs.declared.header.Header.{Header}
use Rattle.unit_packets.specs.declared.header.BlockError.{BlockError}
use Rattle.unit_packets.specs.declared.header.BlockError.TheVariants.{Truncated}
use Rattle.unit_packets.specs.declared.header.BlockFault.{BlockFault}
use Rattle.unit_packets.proofs.Stable.{judge_found, judge_more, IsFinal}
use Rattle.unit_packets.proofs.Cuts.{None_at, first_of, none_of, appends, rest_short}

-- ---- A block more
-- a block that stands at the start is the first, and the others follow it
pub record Leads (rest : List ℕ) (block : Block) : Type 0 where
  pub header : 8 ≤ (header_for block).length
  pub fits : (header_for block).length ≤ length rest
  pub blocks : blocks_of rest ≡ block ∷ blocks_of (drop (header_for block).length rest)
  pub rest_is : rest_of rest ≡ rest_of (drop (header_for block).length rest)

pub leads : (rest : List ℕ) (block : Block) → StandsFirst rest block → Leads rest block
leads rest block stands =
    let h : Header = header_for block in
    let found = judge_found rest h stands.judged in
    let first = first_of rest h stands.judged in
    record {
      header = found.header;
      fits = found.fits;
      blocks = first.blocks ∙ ap (λ (b : Block). b ∷ blocks_of (drop h.length rest)) (sym stands.block_is);
      rest_is = first.rest;
    }

-- past a block that stands at the start are the others
pub record GoesOn (old left : List ℕ) (block : Block) : Type 0 where
  pub blocks : blocks_of old ≡ block ∷ blocks_of left
  pub rest : rest_of left ≡ rest_of old

pub goes_on : (old rest left : List ℕ) (block : Block) (h : Header) (n : ℕ) → rest ≡ old → StandsFirst rest block → h ≡ header_for block → n ≡ h.length → left ≡ drop n rest → GoesOn old left block
goes_on old rest left block h n same stands is size cut =
    let l = leads rest block stands in
    let past : left ≡ drop (header_for block).length rest = cut ∙ ap (λ (k : ℕ). drop k rest) (size ∙ ap (λ (g : Header). g.length) is) in
    record {
      blocks = ap blocks_of (sym same) ∙ l.blocks ∙ ap (λ (r : List ℕ). block ∷ blocks_of r) (sym past);
      rest = ap rest_of past ∙ sym l.rest_is ∙ ap rest_of same;
    }

-- ---- A fault
-- a rest of no bytes is no block yet
pub judge_nothing : judge [] ≡ Err (Truncated 0 8)
unfolding judge
judge_nothing = refl

-- so it has no blocks
pub of_nothing : None_at []
of_nothing = none_of [] (Truncated 0 8) judge_nothing

-- what stands where no block does
abbrev faulty : ℕ → BlockError → Option BlockFault
faulty place e = Some (record { place = place; error = e })

lasting_from : (ended : Bool) (place : ℕ) (r : Result Header BlockError) (e : BlockError) → r ≡ Err e → is_truncated e ≡ false → fault_from ended place r ≡ faulty place e
lasting_from ended place r e is lasts =
    ap (fault_from ended place) is ∙ ap (λ (b : Bool). cond b (cond ended (faulty place e) None) (faulty place e)) lasts

truncated_from : (ended : Bool) (place : ℕ) (r : Result Header BlockError) (e : BlockError) → r ≡ Err e → is_truncated e ≡ true → fault_from ended place r ≡ cond ended (faulty place e) None
truncated_from ended place r e is cut =
    ap (fault_from ended place) is ∙ ap (λ (b : Bool). cond b (cond ended (faulty place e) None) (faulty place e)) cut

nothing_lasts : (e : BlockError) → judge [] ≡ Err e → is_truncated e ≡ false → ⊥
nothing_lasts e is lasts = true≢false (ap is_truncated (same_error (Truncated 0 8) e (sym judge_nothing ∙ is)) ∙ lasts)
  where
    same_error : (d e : BlockError) → ◌≡◌ {A = Result Header BlockError} (Err d) (Err e) → d ≡ e
    same_error d e is = cc

lasting_in : (ended : Bool) (place : ℕ) (rest : List ℕ) (e : BlockError) → judge rest ≡ Err e → is_truncated e ≡ false → fault_in ended place rest ≡ faulty place e
lasting_in ended place [] e is lasts = absurd (nothing_lasts e is lasts)
lasting_in ended place (byte ∷ rest) e is lasts = lasting_from ended place (judge (byte ∷ rest)) e is lasts

open_in : (place : ℕ) (rest : List ℕ) (e : BlockError) → judge rest ≡ Err e → is_truncated e ≡ true → fault_in false place rest ≡ None
open_in place [] e is cut = refl
open_in place (byte ∷ rest) e is cut = truncated_from false place (judge (byte ∷ rest)) e is cut

ended_in : (place : ℕ) (rest : List ℕ) (e : BlockError) → 0 < length rest → judge rest ≡ Err e → fault_in true place rest ≡ faulty place e
ended_in place [] e some is = absurd (omega arith)
ended_in place (byte ∷ rest) e some is = elim (cases_Bool (is_truncated e)) [
  | inl cut ↦ truncated_from true place (judge (byte ∷ rest)) e is cut
  | inr lasts ↦ lasting_from true place (judge (byte ∷ rest)) e is lasts
]

-- a fault that more bytes do not mend
pub fault_lasting : (bytes : List ℕ) (e : BlockError) → judge (rest_of bytes) ≡ Err e → is_truncated e ≡ false → fault_of bytes ≡ Some (record { place = place_of bytes; error = e })
fault_lasting bytes e is lasts = lasting_in false (place_of bytes) (rest_of bytes) e is lasts

-- a rest that may become a block is no fault
pub fault_open : (bytes : List ℕ) (e : BlockError) → judge (rest_of bytes) ≡ Err e → is_truncated e ≡ true → fault_of bytes ≡ None
fault_open bytes e is cut = open_in (place_of bytes) (rest_of bytes) e is cut

-- at the stream's end any rest is a fault
pub fault_rest : (bytes : List ℕ) (e : BlockError) → 0 < length (rest_of bytes) → judge (rest_of bytes) ≡ Err e → fault_at_end bytes ≡ Some (record { place = place_of bytes; error = e })
fault_rest bytes e some is = ended_in (place_of bytes) (rest_of bytes) e some is

pub fault_no_rest : (bytes : List ℕ) → rest_of bytes ≡ [] → fault_at_end bytes ≡ None
fault_no_rest bytes none = ap (fault_in true (place_of bytes)) none

-- ---- More bytes
-- behind a fault that lasts, more bytes give no more blocks, and the fault stays
pub record Stays (bytes more : List ℕ) (e : BlockError) : Type 0 where
  pub blocks : blocks_of (bytes ++ more) ≡ blocks_of bytes
  pub fault : fault_of (bytes ++ more) ≡ Some (record { place = place_of bytes; error = e })
  pub rest_is : rest_of (bytes ++ more) ≡ rest_of bytes ++ more
  pub place_is : place_of (bytes ++ more) ≡ place_of bytes

pub fault_stays : (bytes more : List ℕ) (e : BlockError) → judge (rest_of bytes) ≡ Err e → is_truncated e ≡ false → Stays bytes more e
fault_stays bytes more e is lasts =
    let rest : List ℕ = rest_of bytes in
    let final : IsFinal (judge rest) = subst (λ r. IsFinal r) (sym is) lasts in
    let later : judge (rest ++ more) ≡ Err e = judge_more rest more final ∙ is in
    let none = none_of (rest ++ more) e later in
    let all = appends bytes more in
    let end : rest_of (bytes ++ more) ≡ rest ++ more = all.rest ∙ none.rest in
    let short = rest_short bytes in
    let place : place_of (bytes ++ more) ≡ place_of bytes =
    omega (arith, ap length end, length-append rest more, length-append bytes more, short) in
    record {
      blocks = all.blocks ∙ ap (λ (bs : List Block). blocks_of bytes ++ bs) none.blocks ∙ append-nil (blocks_of bytes);
      fault = fault_lasting (bytes ++ more) e (ap judge end ∙ later) lasts ∙ ap (λ (p : ℕ). faulty p e) place;
      rest_is = end;
      place_is = place;
    }

-- a rest of no bytes has no fault, as bytes that are cut off
pub fault_judged : (place : ℕ) (rest : List ℕ) → fault_in false place rest ≡ fault_from false place (judge rest)
fault_judged place [] = sym (ap (fault_from false place) judge_nothing)
fault_judged place (byte ∷ rest) = refl

-- a fault that lasts is one at the stream's end too
pub record Lasting (place : ℕ) (rest : List ℕ) (fault : BlockFault) : Type 0 where
  pub error : BlockError
  pub judged : judge rest ≡ Err error
  pub lasts : is_truncated error ≡ false
  pub is : fault ≡ record { place = place; error = error }

lasting_by : (place : ℕ) (rest : List ℕ) (fault : BlockFault) (r : Result Header BlockError) → judge rest ≡ r → fault_from false place r ≡ Some fault → Lasting place rest fault
lasting_by place rest fault (Ok h) is some = cc
lasting_by place rest fault (Err e) is some = elim (cases_Bool (is_truncated e)) [
  | inl cut ↦ let none : None ≡ Some fault = sym (truncated_from false place (Err e) e refl cut) ∙ some in cc
  | inr lasts ↦ let same : faulty place e ≡ Some fault = sym (lasting_from false place (Err e) e refl lasts) ∙ some in record { error = e; judged = is; lasts = lasts; is = cc }
]

pub lasting_of : (place : ℕ) (rest : List ℕ) (fault : BlockFault) → fault_in false place rest ≡ Some fault → Lasting place rest fault
lasting_of place rest fault is = lasting_by place rest fault (judge rest) refl (sym (fault_judged place rest) ∙ is)

-- bytes that begin with a lasting fault have it
pub lasting_more : (ended : Bool) (place : ℕ) (rest more : List ℕ) (e : BlockError) → judge rest ≡ Err e → is_truncated e ≡ false → fault_in ended place (rest ++ more) ≡ Some (record { place = place; error = e })
lasting_more ended place rest more e is lasts =
    let final : IsFinal (judge rest) = subst (λ r. IsFinal r) (sym is) lasts in
    lasting_in ended place (rest ++ more) e (judge_more rest more final ∙ is) lasts
