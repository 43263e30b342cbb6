-- Who has the right to add to the history.
use Rattle.std.proofs.Common.{◌≡◌, ℕ, ◌+◌, ◌-◌, ◌==◌, Bool, List, [], ◌∷◌, ◌++◌, length, slice_index, refl, ap, sym, subst, ◌∙◌, arith, length-append, MatchBool}
use Rattle.std.proofs.Math.Seq.{get_or-append_seam}
use mathlib.Core.List.{IsPrefix}
use Rattle.logbook.specs.Pages.{Nib, may_write, may_make, inked, left_with}
use Rattle.pitch_model.specs.Advertising.{Operation, accepted_by}
use Rattle.shared_unit.specs.layers.Histories.{IsLegal, then_done}
use Rattle.shared_unit.specs.layers.Moments.{Moment, Doing, history_in, rights_in}
use Rattle.shared_unit.specs.layers.Rules.{HasRight, MayAdd}
use Rattle.shared_unit.proofs.Fronts.{prefix_trans}
use Rattle.shared_unit.proofs.Steps.{history_prefix}

pub taken : (found : ℕ) (A : Type 0) → found ≡ 0 → MatchBool (found == 0) A (Unit {0}) → A
taken found A e m = subst (λ (n : ℕ). MatchBool (n == 0) A (Unit {0})) e m

pub may_first : (fixed : Bool) (plan : List (List ℕ)) (log : List Moment) (nib new : Nib) → history_in log ≡ [] → rights_in log ≡ nib.key ∷ [] → nib.right ≡ may_make → new ≡ inked nib 0 → MayAdd fixed plan log new
may_first fixed plan log nib new done given make is =
    let key : new.key ≡ nib.key = ap (λ n. n.key) is in record {
      has = record {
        may = ap (λ n. n.right) is ∙ ap left_with make;
        some = omega (arith, ap (λ (l : List ℕ). length l) given);
        last = subst (λ (l : List ℕ). slice_index l (length l - 1) ≡ new.key) (sym given) (sym key);
      };
      one = omega (arith, ap (λ (l : List ℕ). length l) given, ap (λ (l : List Operation). length l) done);
      legal = λ _. subst (λ (l : List Operation). IsPrefix (accepted_by l) plan) (sym done) (plan, refl);
    }

pub may_next : (fixed : Bool) (plan : List (List ℕ)) (log after : List Moment) (nib new : Nib) (operation : Operation) → history_in after ≡ then_done (history_in log) operation → rights_in after ≡ rights_in log ++ new.key ∷ []
    → new.right ≡ may_write → IsLegal fixed plan (history_in after) → MayAdd fixed plan log nib → MayAdd fixed plan after new
may_next fixed plan log after nib new operation done given write legal may =
    let n : length (rights_in after) ≡ length (rights_in log) + 1 = ap (λ (l : List ℕ). length l) given ∙ length-append (rights_in log) (new.key ∷ []) in
    let h : length (history_in after) ≡ length (history_in log) + 1 = ap (λ (l : List Operation). length l) done ∙ length-append (history_in log) (operation ∷ []) in
    let at : length (rights_in after) - 1 ≡ length (rights_in log) = omega (arith, n) in record {
      has = record {
        may = write;
        some = omega (arith, n);
        last = rw at (ap (λ (l : List ℕ). slice_index l (length (rights_in log))) given ∙ get_or-append_seam (rights_in log) new.key [] 0);
      };
      one = omega (arith, n, h, may.one);
      legal = legal;
    }

pub may_still : (fixed : Bool) (plan : List (List ℕ)) (log : List Moment) (nib new : Nib) → new ≡ nib → MayAdd fixed plan log nib → MayAdd fixed plan log new
may_still fixed plan log nib new is may = subst (MayAdd fixed plan log) (sym is) may

pub asks : (h : List Operation) (rights : List ℕ) (log : List Moment) (ask : Moment) (operation : Operation) (right : ℕ) → ask ≡ Doing operation right → history_in log ≡ h ++ history_in (ask ∷ []) → rights_in log ≡ rights ++ rights_in (ask ∷ [])
    → (history_in log ≡ then_done h operation) × (rights_in log ≡ rights ++ right ∷ [])
asks h rights log ask operation right is done given = (done ∙ ap (λ (m : Moment). h ++ history_in (m ∷ [])) is, given ∙ ap (λ (m : Moment). rights ++ rights_in (m ∷ [])) is)

-- what another end has seen begins what the one with the right has seen
pub begins : (own other both log : List Moment) (nib : Nib) → IsPrefix own both → IsPrefix other both → IsPrefix both log → HasRight own nib
    → ((own : List Moment) → IsPrefix own both → HasRight own nib → history_in log ≡ history_in own) → IsPrefix (history_in other) (history_in own)
begins own other both log nib this that later has whole = subst (IsPrefix (history_in other)) (whole own this has) (history_prefix other log (prefix_trans other both log that later))
