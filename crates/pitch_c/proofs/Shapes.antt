-- The machine values of the parts of a box and of a handle, whatever the box has: `R` is the row of
-- its type. Assumes `Logic`.
use Rattle.std.proofs.Common.{◌≡◌, ℕ, List, [], ◌∷◌, ◌++◌, refl, subst}
use mathlib.Core.Bool.{Bool, true, not, ◌&&◌}
use lib.Dec.{T}
use seplogic.Ra.Ura.{Ura}
use mir.Syntax.{impl, tnil, dnil}
use mir.Raw.{raw as bare}
use mir.Val.{Val, vptr, vstruct, vcons, vnil, of_list, has_ty, WT}
use base.Logic.{never, fst∗}
use base.Fml.{Fml, fsep}
use types.Logic.{Logic, sem}
use types.Kit.{Item, Goal, Seq, Step, step, ‵, ◌$◌, move, drop, fsplit, fjoin, fpick, fpack, rewrite, feq_i, feq_l}
use denote.RattleType.{RattleType, Valss}
use denote.Builtin.{RawPtr}
use denote.Memory.{lone}
use denote.RawPtr.{Ptr, block_ptr, null_ptr, ptr_val, in_a_block}
use denote.Steps.{nothing}
use denote.Param.{layout}
use denote.Struct.Struct.{Struct, Shape, within}
use Rattle.std.specs.Prelude.{Option, Some, None}
use Rattle.std.specs.Option.{IsSome}
use Rattle.std.proofs.alloc.Calls.{Al, handle_tells}
use Rattle.std.specs.Box.Ownership.{box_owns}
use Rattle.std.proofs.ResultValues.{and_tt}
use Rattle.std.specs.contracts.alloc.Global as global
use Rattle.std.specs.declared.alloc.Global.{Global}
use Rattle.std.proofs.alloc.Global.TheLaws as global-laws
use Rattle.std.specs.contracts.impls.GlobalAllocator.TheImpl.{ghosts}
use Rattle.box_parts.specs.contracts.Parts as parts
use Rattle.pitch_c.specs.Owned.{owns_at}

abbrev pub both : Val → Val → Val
both v w = vstruct (vcons v (vcons w vnil))

abbrev pub Z : RattleType
Z = global.the_row

abbrev pub al : Al
al = record { row = Z; laws = global-laws.the_row_laws; g = ghosts; d = impl [] tnil dnil; drops = impl [] tnil dnil }

abbrev pub Good : Val → Type 0
Good h = T (has_ty (layout Z) h) × WT h

pub good : (p h : Val) → T (has_ty mir.Syntax.ty_ptr p) → WT p → Good h → T (has_ty (layout Z) h && true) × WT (both p h)
good p h t w fits = (and_tt (has_ty (layout Z) h) fits.0, (w, (fits.1, tt)))

-- what is there
pub which : {X : Type 0} → (u : Option X) → IsSome u → (x : X) × (u ≡ Some x)
which None is = absurd (subst (λ (b : Bool). T (not b)) is tt)
which (Some x) is = (x, refl)

-- the two fields that each of them has
abbrev two : Shape
two = record { name = []; args = []; types = []; fields = RawPtr ∷ Z ∷ [] }

-- what its row says that it owns: that of its fields, and `F`
abbrev pub owns_with : Ptr → Z.Denot → List Val → Fml → Fml
owns_with p a vs F = fsep ((Struct two).own_val (p, (a, tt)) vs) F

module _ (R : RattleType) where
  abbrev pub P : RattleType
  P = parts.the_row R Z ghosts

  abbrev pub box_at : Global → Ptr → R.Denot → Fml
  box_at a p x = box_owns (ghosts.dealloc_token a) R p x

module _ (R : RattleType) {M : Type 1} {𝓤 : Ura M} {𝓛 : Logic 𝓤} {K : Type 0} {Γ : List (Item 𝓤)} {G : Goal 𝓤 𝓛.H} where
  -- what owns a box, taken apart
  pub box_out : K → (p : Ptr) (a : Z.Denot) (x : R.Denot) (vs : List Val)
      → ((b o : ℕ) (h : Val) → p ≡ block_ptr b o → vs ≡ both (vptr b o) h ∷ [] → Good h → Seq K 𝓛 (‵ (box_at R a (block_ptr b o) x) ∷ ‵ (Z.own_val a (h ∷ [])) ∷ Γ) G)
      → Seq K 𝓛 (‵ (owns_with p a vs (box_at R a p x)) ∷ Γ) G
  box_out t p a x vs k =
      fsplit t $ fpick t (λ vss. fsplit t $ feq_l t (λ ev. fsplit t $ feq_l t (λ ep. fsplit t $ handle_tells al t a vss.1.0 (λ h ea fits. move t (1 ∷ []) $ drop t $ move t (1 ∷ []) $
      in_a_block t p (λ q. box_at R a q x) (fst∗ 𝓤 (never 𝓤) (sem 𝓛 (ghosts.dealloc_token a (bare (lone R.mir)) null_ptr))) (λ b o e. k b o h e
      (subst (λ (q : Ptr). vs ≡ vstruct (of_list (ptr_val q ∷ h ∷ [])) ∷ []) e
      (subst (λ (ws : List Val). vs ≡ vstruct (of_list (ptr_val p ∷ (ws ++ []))) ∷ []) ea (subst (λ (ps : List Val). vs ≡ vstruct (of_list (ps ++ (vss.1.0 ++ []))) ∷ []) ep ev))) fits)))))

  -- the same of a handle that is open at x
  pub handle_out : K → (p : Ptr) (a : Z.Denot) (u : Option R.Denot) (x : R.Denot) (vs : List Val) → u ≡ Some x
      → ((b o : ℕ) (h : Val) → p ≡ block_ptr b o → vs ≡ both (vptr b o) h ∷ [] → Good h → Seq K 𝓛 (‵ (box_at R a (block_ptr b o) x) ∷ ‵ (Z.own_val a (h ∷ [])) ∷ Γ) G)
      → Seq K 𝓛 (‵ (owns_with p a vs (owns_at R a p u)) ∷ Γ) G
  handle_out t p a u x vs is k = rewrite t 0 (λ (w : Option R.Denot). ‵ (owns_with p a vs (owns_at R a p w))) is refl $ box_out t p a x vs k

module _ {M : Type 1} {𝓤 : Ura M} {𝓛 : Logic 𝓤} {K : Type 0} {Γ : List (Item 𝓤)} {G : Goal 𝓤 𝓛.H} where
  -- the fields put together, with what is owned beside them
  pub two_in : K → (p : Ptr) (h : Val) (a : Z.Denot) (F : Fml)
      → Step K 𝓛 (‵ (owns_with p a (both (ptr_val p) h ∷ []) F) ∷ Γ) G (‵ F ∷ ‵ (Z.own_val a (h ∷ [])) ∷ Γ) G
  two_in t p h a F = step (λ s. let v : Val = both (ptr_val p) h in
      nothing t $ move t (2 ∷ 0 ∷ []) $ fjoin t $ feq_i t (List Val) (ptr_val p ∷ []) (ptr_val p ∷ []) refl $ fjoin t $ feq_i t (List Val) (v ∷ []) (v ∷ []) refl $ fjoin t $
      fpack t (Valss (RawPtr ∷ Z ∷ [])) (within two (p, (a, tt)) (v ∷ [])) (ptr_val p ∷ [], (h ∷ [], tt)) $ fjoin t $ s)
