-- Each unit's lines apart.
use Rattle.std.proofs.Common.{◌≡◌, ℕ, Bool, true, false, cond, eqb, List, [], ◌∷◌, ◌++◌, drop, refl, sym, ap, ◌∙◌, inl, inr}
use Rattle.std.proofs.lemmas.Bool.{cases_Bool, eq-eqb}
use Rattle.feed_lines.specs.Texts.{texts_after}
use Rattle.feed_lines.proofs.Texts.{texts_none, texts_first}
use Rattle.pitch_text.specs.declared.verb.ScheduleEntry.{ScheduleEntry}
use Rattle.pitch_text.specs.declared.verb.Verb.{Verb}
use Rattle.world_model.specs.Printed.{verb_text}
use Rattle.world_model.specs.Verbs.{state_of}
use Rattle.schedule_replay.specs.Replay.{verbs_of, limits_of, replay_line}
use Rattle.schedule_replay.specs.layers.Merging.{own, pieces_after, first_piece, merged}
use Rattle.schedule_replay.specs.layers.Merging.{LinesStandApart}
use Rattle.schedule_replay.specs.layers.Merging.{UnitsRunApart}

pub own_same : (unit : ℕ) (e : ScheduleEntry) (es : List ScheduleEntry) → eqb e.unit unit ≡ true → own unit (e ∷ es) ≡ e ∷ own unit es
own_same unit e es same = ap (λ (b : Bool). cond b (e ∷ own unit es) (own unit es)) same

pub own_other : (unit : ℕ) (e : ScheduleEntry) (es : List ScheduleEntry) → eqb e.unit unit ≡ false → own unit (e ∷ es) ≡ own unit es
own_other unit e es other = ap (λ (b : Bool). cond b (e ∷ own unit es) (own unit es)) other

pub verbs_own : (unit : ℕ) (before : List ScheduleEntry) → verbs_of unit (own unit before) ≡ verbs_of unit before
verbs_own unit [] = refl
verbs_own unit (e ∷ before) = elim (cases_Bool (eqb e.unit unit)) [
  | inl same ↦
      ap (verbs_of unit) (own_same unit e before same)
      ∙ ap (λ (b : Bool). cond b (e.verb ∷ verbs_of unit (own unit before)) (verbs_of unit (own unit before))) same
      ∙ ap (λ (vs : List Verb). e.verb ∷ vs) (verbs_own unit before)
      ∙ sym (ap (λ (b : Bool). cond b (e.verb ∷ verbs_of unit before) (verbs_of unit before)) same)
  | inr other ↦
      ap (verbs_of unit) (own_other unit e before other) ∙ verbs_own unit before
      ∙ sym (ap (λ (b : Bool). cond b (e.verb ∷ verbs_of unit before) (verbs_of unit before)) other)
]

pub lines_stand_apart : LinesStandApart
unfolding replay_line
lines_stand_apart before e =
    ap (λ (done : List Verb). verb_text e.line e.unit (limits_of (e.verb ∷ done)) e.verb (state_of e.unit (limits_of (e.verb ∷ done)) done)) (sym (verbs_own e.unit before))

merged_same : (es : List ScheduleEntry) (p q : ℕ → List (List ℕ)) → ((unit : ℕ) → p unit ≡ q unit) → merged p es ≡ merged q es
merged_same [] p q same = refl
merged_same (e ∷ es) p q same =
    ap (λ (ps : List (List ℕ)). first_piece ps ++ merged (λ unit. cond (eqb e.unit unit) (drop 1 (p unit)) (p unit)) es) (same e.unit)
    ∙ ap (λ (t : List ℕ). first_piece (q e.unit) ++ t) (merged_same es (λ unit. cond (eqb e.unit unit) (drop 1 (p unit)) (p unit)) (λ unit. cond (eqb e.unit unit) (drop 1 (q unit)) (q unit))
    (λ unit. ap (λ (ps : List (List ℕ)). cond (eqb e.unit unit) (drop 1 ps) ps) (same unit)))

-- the pieces that are left of a unit, after some lines
left_of : List ScheduleEntry → List ScheduleEntry → ℕ → List (List ℕ)
left_of before es unit = pieces_after (own unit before) (own unit es)

left_more : (before : List ScheduleEntry) (e : ScheduleEntry) (es : List ScheduleEntry) (unit : ℕ)
    → cond (eqb e.unit unit) (drop 1 (left_of before (e ∷ es) unit)) (left_of before (e ∷ es) unit) ≡ left_of (e ∷ before) es unit
unfolding left_of
left_more before e es unit = elim (cases_Bool (eqb e.unit unit)) [
  | inl same ↦
      ap (λ (b : Bool). cond b (drop 1 (left_of before (e ∷ es) unit)) (left_of before (e ∷ es) unit)) same
      ∙ ap (λ (l : List ScheduleEntry). drop 1 (pieces_after (own unit before) l)) (own_same unit e es same)
      ∙ ap (λ (l : List ScheduleEntry). pieces_after l (own unit es)) (sym (own_same unit e before same))
  | inr other ↦
      ap (λ (b : Bool). cond b (drop 1 (left_of before (e ∷ es) unit)) (left_of before (e ∷ es) unit)) other
      ∙ ap (λ (l : List ScheduleEntry). pieces_after (own unit before) l) (own_other unit e es other)
      ∙ ap (λ (l : List ScheduleEntry). pieces_after l (own unit es)) (sym (own_other unit e before other))
]

runs_apart : (es before : List ScheduleEntry) → texts_after replay_line before es ≡ merged (left_of before es) es
unfolding left_of
runs_apart [] before = texts_none replay_line before
runs_apart (e ∷ es) before =
    let same : eqb e.unit e.unit ≡ true = eq-eqb e.unit e.unit refl in
    let first : replay_line before e ≡ first_piece (left_of before (e ∷ es) e.unit) =
    lines_stand_apart before e ∙ sym (ap (λ (l : List ScheduleEntry). first_piece (pieces_after (own e.unit before) l)) (own_same e.unit e es same)) in
    texts_first replay_line before e es
    ∙ ap (λ (t : List ℕ). t ++ texts_after replay_line (e ∷ before) es) first
    ∙ ap (λ (t : List ℕ). first_piece (left_of before (e ∷ es) e.unit) ++ t) (runs_apart es (e ∷ before)
    ∙ merged_same es (left_of (e ∷ before) es) (λ unit. cond (eqb e.unit unit) (drop 1 (left_of before (e ∷ es) unit)) (left_of before (e ∷ es) unit)) (λ unit. sym (left_more before e es unit)))

pub units_run_apart : UnitsRunApart
unfolding left_of
units_run_apart entries = runs_apart entries []
