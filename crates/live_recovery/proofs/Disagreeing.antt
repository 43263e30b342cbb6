-- Copies that differ, of what came.
use Rattle.std.proofs.Common.{◌≡◌, ℕ, Bool, true, false, cond, eqb, List, [], ◌∷◌, Option, Some, None, refl, sym, ap, ◌∙◌, subst}
use Rattle.std.specs.Option.{option_map, option_or}
use Rattle.std.proofs.lemmas.Bool.{cond-true, eq-eqb}
use Rattle.std.proofs.lemmas.Option.{none-some, same_Some}
use Rattle.unit_packets.specs.Blocks.{Block}
use Rattle.unit_packets.specs.Cutting.{blocks_of}
use Rattle.pitch_model.specs.History.{Entry, Raw}
use Rattle.heard_items.specs.Heard.{heard_block}
use Rattle.heard_items.specs.Units.{unit_history}
use Rattle.client_end.specs.Came.{Came, Heard, GrpMade, GrpTook, GrpCut, GrpLost, SpinMade, SpinTook, SpinCut, SpinLost, Second}
use Rattle.line_copies.specs.Copies.{CopiesDiffer, block_differing}
use Rattle.line_copies.specs.Laws.{lines_history}
use Rattle.line_copies.specs.Standing.{HaveKept}
use Rattle.line_copies.specs.declared.lines.LineCopies.{LineCopies}
use Rattle.line_copies.proofs.Differing.{block_differs, differ_after}
use Rattle.line_copies.proofs.Venues.{are_of_no_venue, lines_are_as_honest}
use Rattle.live_units.specs.Coming.{IsHonestAt, LiveSetup, UnitCame, came_to, end_setup, has_unit, to_unit, with_blocks, with_came, with_datagram}
use Rattle.live_recovery.specs.Disagreeing.{at_unit, first_disagreement, told_by}
use Rattle.live_recovery.specs.Standing.{Agree, Compares, blocks_came, with_heard}
use Rattle.live_recovery.specs.declared.copies.Disagreement.{Disagreement}

-- ---- What is no block
pub record Silent (came : Came) : Type 0 where
  pub lines : (L : List Came) → lines_history (came ∷ L) ≡ lines_history L
  pub blocks : (unit : ℕ) (B : List Block) → with_heard unit came B ≡ B
  pub told : (unit : ℕ) (before : List UnitCame) → told_by unit came before ≡ None

abbrev pub IsSilent : Came → Type 0
IsSilent (Heard block) = ⊥
IsSilent came = Unit {0}

module _ (P : Came → Type 0) (heard : (block : Block) → P (Heard block)) (other : (came : Came) → Silent came → P came) where
  pub by_kind : (came : Came) → P came
  by_kind (Heard block) = heard block
  by_kind GrpMade = other GrpMade (record { lines = λ L. refl; blocks = λ unit B. refl; told = λ unit before. refl })
  by_kind (GrpTook bytes) = other (GrpTook bytes) (record { lines = λ L. refl; blocks = λ unit B. refl; told = λ unit before. refl })
  by_kind GrpCut = other GrpCut (record { lines = λ L. refl; blocks = λ unit B. refl; told = λ unit before. refl })
  by_kind (GrpLost bytes count) = other (GrpLost bytes count) (record { lines = λ L. refl; blocks = λ unit B. refl; told = λ unit before. refl })
  by_kind SpinMade = other SpinMade (record { lines = λ L. refl; blocks = λ unit B. refl; told = λ unit before. refl })
  by_kind (SpinTook bytes) = other (SpinTook bytes) (record { lines = λ L. refl; blocks = λ unit B. refl; told = λ unit before. refl })
  by_kind SpinCut = other SpinCut (record { lines = λ L. refl; blocks = λ unit B. refl; told = λ unit before. refl })
  by_kind (SpinLost bytes count) = other (SpinLost bytes count) (record { lines = λ L. refl; blocks = λ unit B. refl; told = λ unit before. refl })
  by_kind Second = other Second (record { lines = λ L. refl; blocks = λ unit B. refl; told = λ unit before. refl })

silent : (came : Came) → IsSilent came → Silent came
silent = by_kind (λ came. IsSilent came → Silent came) (λ block none. absurd none) (λ came so none. so)

-- ---- The blocks that came to a unit
heard_both : (block : Block) (b : Bool) (L : List Came) (E : List Entry) → lines_history L ≡ E → lines_history (cond b (Heard block ∷ L) L) ≡ cond b (heard_block block E) E
heard_both block true L E same = ap (heard_block block) same
heard_both block false L E same = same

silent_both : (b : Bool) (came : Came) (L : List Came) → Silent came → lines_history (cond b (came ∷ L) L) ≡ lines_history L
silent_both true came L so = so.lines L
silent_both false came L so = refl

pub same_history : (unit : ℕ) (came : List UnitCame) → lines_history (came_to unit came) ≡ unit_history unit (blocks_came came)
same_history unit [] = refl
same_history unit (next ∷ before) = one (same_history unit before)
  where
    one : lines_history (came_to unit before) ≡ unit_history unit (blocks_came before) → lines_history (came_to unit (next ∷ before)) ≡ unit_history unit (blocks_came (next ∷ before))
    one same =
        by_kind (λ (came : Came). lines_history (cond (eqb next.unit unit) (came ∷ came_to unit before) (came_to unit before)) ≡ unit_history unit (with_heard next.unit came (blocks_came before)))
        (λ block. heard_both block (eqb next.unit unit) (came_to unit before) (unit_history unit (blocks_came before)) same)
        (λ came so. silent_both (eqb next.unit unit) came (came_to unit before) so ∙ same ∙ ap (unit_history unit) (sym (so.blocks next.unit (blocks_came before))))
        next.came

-- ---- What is no block tells nothing
pub record SameCopies (came came' : List UnitCame) : Type 0 where
  pub blocks : blocks_came came' ≡ blocks_came came
  pub told : first_disagreement came' ≡ first_disagreement came

or_none : (o : Option Disagreement) → option_or o None ≡ o
or_none None = refl
or_none (Some d) = refl

pub same_copies : (came came' : List UnitCame) → came' ≡ came → SameCopies came came'
same_copies came came' is = record { blocks = ap blocks_came is; told = ap first_disagreement is }

pub copies_on : (a b c : List UnitCame) → SameCopies a b → SameCopies b c → SameCopies a c
copies_on a b c one more = record { blocks = more.blocks ∙ one.blocks; told = more.told ∙ one.told }

module _ (s : LiveSetup) (unit : ℕ) (came : Came) (before : List UnitCame) (quiet : IsSilent came) where
  silent_more : SameCopies before (to_unit unit came ∷ before)
  silent_more =
      let so : Silent came = silent came quiet in
      record {
        blocks = so.blocks unit (blocks_came before);
        told = ap (option_or (first_disagreement before)) (so.told unit before) ∙ or_none (first_disagreement before);
      }

  pub silent_came : SameCopies before (with_came s (to_unit unit came) before)
  silent_came = by (has_unit s unit)
    where
      by : (b : Bool) → SameCopies before (cond b (to_unit unit came ∷ before) before)
      by true = silent_more
      by false = same_copies before before refl

pub agree_on : (copies copies' : LineCopies) (came came' : List UnitCame) → copies' ≡ copies → SameCopies came came' → Agree copies came → Agree copies' came'
agree_on copies copies' came came' is same agree = record {
  kept = subst (λ (l : LineCopies). HaveKept l (blocks_came came')) (sym is) (subst (HaveKept copies) (sym same.blocks) agree.kept);
  none = same.told ∙ agree.none;
}

-- ---- What is told is so
onward : (n : ℕ) (b : Bool) (came : Came) (L : List Came) → CopiesDiffer (lines_history L) n → CopiesDiffer (lines_history (cond b (came ∷ L) L)) n
onward n false came L d = d
onward n true came L d =
    by_kind (λ (c : Came). CopiesDiffer (lines_history (c ∷ L)) n) (λ block. differ_after block (lines_history L) n d)
    (λ c so. subst (λ (E : List Entry). CopiesDiffer E n) (sym (so.lines L)) d) came

module _ (before : List UnitCame) (unit : ℕ) where
  abbrev DifferWith : Came → Disagreement → Type 0
  DifferWith came d = CopiesDiffer (lines_history (cond (eqb unit d.unit) (came ∷ came_to d.unit before) (came_to d.unit before))) d.sequence

  block_tells : (block : Block) (d : Disagreement) (o : Option ℕ) → block_differing block (lines_history (came_to unit before)) ≡ o → option_map (at_unit unit) o ≡ Some d → DifferWith (Heard block) d
  block_tells block d None at is = absurd (none-some d is)
  block_tells block d (Some n) at is =
      let L : List Came = came_to unit before in
      subst (DifferWith (Heard block)) (same_Some (at_unit unit n) d is)
      (subst (λ (l : List Came). CopiesDiffer (lines_history l) n) (sym (cond-true (eqb unit unit) (Heard block ∷ L) L (eq-eqb unit unit refl))) (block_differs block (lines_history L) n at))

  came_tells : (came : Came) (d : Disagreement) → told_by unit came before ≡ Some d → DifferWith came d
  came_tells came d = by_kind (λ (c : Came). told_by unit c before ≡ Some d → DifferWith c d)
      (λ block. block_tells block d (block_differing block (lines_history (came_to unit before))) refl)
      (λ c so is. absurd (none-some d (sym (so.told unit before) ∙ is))) came

pub disagreed : (came : List UnitCame) (d : Disagreement) → first_disagreement came ≡ Some d → CopiesDiffer (lines_history (came_to d.unit came)) d.sequence
disagreed [] d is = absurd (none-some d is)
disagreed (next ∷ before) d is = by (first_disagreement before) refl is (λ at. disagreed before d at)
  where
    by : (o : Option Disagreement) → first_disagreement before ≡ o → option_or o (told_by next.unit next.came before) ≡ Some d
        → (first_disagreement before ≡ Some d → CopiesDiffer (lines_history (came_to d.unit before)) d.sequence) → CopiesDiffer (lines_history (came_to d.unit (next ∷ before))) d.sequence
    by (Some x) at is earlier = onward d.sequence (eqb next.unit d.unit) next.came (came_to d.unit before) (earlier (at ∙ is))
    by None at is earlier = came_tells before next.unit next.came d is

pub of_no_venue : (s : LiveSetup) (V : List Raw) (came : List UnitCame) (d : Disagreement) → first_disagreement came ≡ Some d → IsHonestAt s came d.unit V → ⊥
of_no_venue s V came d is venue =
    are_of_no_venue venue.Image V (lines_history (came_to d.unit came)) d.sequence (disagreed came d is)
    (lines_are_as_honest venue.Image V (end_setup s d.unit) (came_to d.unit came) venue.honest)

-- ---- A block is compared
module _ (s : LiveSetup) (block : Block) (came : List UnitCame) where
  abbrev pub came_then : List UnitCame
  came_then = with_came s (to_unit block.unit (Heard block)) came

  module _ (copies copies' : LineCopies) (wanted : has_unit s block.unit ≡ true) (agree : Agree copies came) (told : Option ℕ) (is : told ≡ block_differing block (unit_history block.unit (blocks_came came))) where
    here : came_then ≡ to_unit block.unit (Heard block) ∷ came
    here = cond-true (has_unit s block.unit) (to_unit block.unit (Heard block) ∷ came) came wanted

    tells : first_disagreement came_then ≡ option_map (at_unit block.unit) told
    tells =
        ap first_disagreement here ∙ ap (λ (o : Option Disagreement). option_or o (told_by block.unit (Heard block) came)) agree.none
        ∙ ap (λ (E : List Entry). option_map (at_unit block.unit) (block_differing block E)) (same_history block.unit came)
        ∙ ap (option_map (at_unit block.unit)) (sym is)

    pub compares_some : (n : ℕ) → told ≡ Some n → Compares (Some (at_unit block.unit n)) copies' came_then
    compares_some n at = tells ∙ ap (option_map (at_unit block.unit)) at

    pub compares_same : told ≡ None → HaveKept copies' (block ∷ blocks_came came) → Compares None copies' came_then
    compares_same at kept = record {
      kept = subst (λ (l : List UnitCame). HaveKept copies' (blocks_came l)) (sym here) kept;
      none = tells ∙ ap (option_map (at_unit block.unit)) at;
    }

-- ---- The blocks of a datagram are
module _ (s : LiveSetup) where
  tells_on : (next : UnitCame) (came : List UnitCame) (d : Disagreement) → first_disagreement came ≡ Some d → first_disagreement (with_came s next came) ≡ Some d
  tells_on next came d is = by (has_unit s next.unit)
    where
      by : (b : Bool) → first_disagreement (cond b (next ∷ came) came) ≡ Some d
      by true = ap (λ (o : Option Disagreement). option_or o (told_by next.unit next.came came)) is
      by false = is

  tells_still : (blocks : List Block) (came : List UnitCame) (d : Disagreement) → first_disagreement came ≡ Some d → first_disagreement (with_blocks s blocks came) ≡ Some d
  tells_still [] came d is = is
  tells_still (block ∷ blocks) came d is = tells_still blocks (with_came s (to_unit block.unit (Heard block)) came) d (tells_on (to_unit block.unit (Heard block)) came d is)

  -- those that were passed agree, and these are left
  pub record AgreeTo (copies : LineCopies) (bytes left : List ℕ) (came : List UnitCame) : Type 0 where
    pub mid : List UnitCame
    pub agree : Agree copies mid
    pub rest_is : with_datagram s bytes came ≡ with_blocks s (blocks_of left) mid

  module _ (bytes left : List ℕ) (came : List UnitCame) where
    pub agree_none : (copies : LineCopies) → left ≡ bytes → Agree copies came → AgreeTo copies bytes left came
    agree_none copies same agree = record { mid = came; agree = agree; rest_is = ap (λ (b : List ℕ). with_datagram s b came) (sym same) }

    pub agree_all : (copies : LineCopies) → blocks_of left ≡ [] → AgreeTo copies bytes left came → Compares None copies (with_datagram s bytes came)
    agree_all copies none so = subst (Agree copies) (sym (so.rest_is ∙ ap (λ (blocks : List Block). with_blocks s blocks so.mid) none)) so.agree

    module _ (copies : LineCopies) (so : AgreeTo copies bytes left came) (block : Block) (left' : List ℕ) (split : blocks_of left ≡ block ∷ blocks_of left') where
      next_is : with_datagram s bytes came ≡ with_blocks s (blocks_of left') (with_came s (to_unit block.unit (Heard block)) so.mid)
      next_is = so.rest_is ∙ ap (λ (blocks : List Block). with_blocks s blocks so.mid) split

      pub agree_more : (copies' : LineCopies) → Compares None copies' (with_came s (to_unit block.unit (Heard block)) so.mid) → AgreeTo copies' bytes left' came
      agree_more copies' agree = record { mid = with_came s (to_unit block.unit (Heard block)) so.mid; agree = agree; rest_is = next_is }

      pub agree_ends : (copies' : LineCopies) (d : Disagreement) → Compares (Some d) copies' (with_came s (to_unit block.unit (Heard block)) so.mid) → Compares (Some d) copies' (with_datagram s bytes came)
      agree_ends copies' d told = ap first_disagreement next_is ∙ tells_still (blocks_of left') (with_came s (to_unit block.unit (Heard block)) so.mid) d told
