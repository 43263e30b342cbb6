-- What is read stands in the raw at the places of its fields, and a raw of just the length that its
-- type needs is the writing of what it says.
use Rattle.std.proofs.Common.{◌≡◌, ◌==◌, ℕ, ◌≤◌, Bool, cond, List, [], ◌∷◌, length, inl, inr, refl, sym, ap, ◌∙◌, arith, subst, Option, None, Some, Result, Ok, Err, IfOk, nat_lt}
use Rattle.std.specs.List.{AllByRecursion}
use Rattle.std.proofs.lemmas.Bool.{cases_Bool}
use Rattle.std.proofs.lemmas.Bool.Decides.{nat_tests}
use Rattle.pitch_messages.specs.Raw.{IsRaw, kind_of}
use Rattle.pitch_messages.specs.Fields.{Values}
use Rattle.pitch_messages.specs.Table.{Row, needs, needs_by, reads_by, row_in}
use Rattle.pitch_messages.specs.layers.Rewriting.{blanked_by}
use Rattle.pitch_messages.specs.Reading.{MessageRow, reads, row_of, row_says, needs_of, table}
use Rattle.pitch_messages.specs.Writing.{InRow, Known, Unknown, in_row, bytes_in, written}
use Rattle.pitch_messages.specs.layers.Rewriting.{with_reserved_blank}
use Rattle.pitch_messages.specs.declared.message.Message.TheVariants as messages
use Rattle.pitch_messages.specs.declared.message.ReadError.TheVariants.{Short, BadSide}
use Rattle.pitch_messages.proofs.Laying.{AreSmall, AllAt, made, fields_said, row_rewritten}

-- the message that a row makes stands in that row
abbrev pub StandsIn : MessageRow → Type 0
StandsIn row = (values : Values row.fields) → in_row (made row.fields row.makes values) ≡ Known row values

all_stand : AllByRecursion StandsIn table
all_stand = assumption

-- a row that is found has the type, and what holds of all rows
pub found : {A : Type 0} (P : Row A → Type 0) (rows : List (Row A)) (kind : ℕ) (row : Row A) → AllByRecursion P rows → row_in rows kind ≡ Some row → (kind ≡ row.kind) × P row
found P [] kind row all is = cc
found {A} P (first ∷ rows) kind row all is = elim (cases_Bool (kind == first.kind)) [
  | inl b ↦
      let same : kind ≡ first.kind = grind (arith, nat_tests, b) in
      let chosen : Some first ≡ Some row = sym (ap (λ (t : Bool). cond t (Some first) (row_in rows kind)) b) ∙ is in
      let e : first ≡ row = cc in
      subst (λ (r : Row A). (kind ≡ r.kind) × P r) e (same, all.0)
  | inr b ↦ found P rows kind row all.1 (sym (ap (λ (t : Bool). cond t (Some first) (row_in rows kind)) b) ∙ is)
]

-- what a message says stands in a raw, where the fields of its row have their places
pub record IsReadAt (raw : List ℕ) (row : MessageRow) (values : Values row.fields) : Type 0 where
  pub here : row_of (kind_of raw) ≡ Some row
  pub kind : kind_of raw ≡ row.kind
  pub long : needs row ≤ length raw
  pub all : AllAt row.fields 2 raw values

abbrev pub ReadAt : List ℕ → InRow → Type 0
ReadAt raw (Known row values) = IsReadAt raw row values
ReadAt raw (Unknown other) = (row_of (kind_of raw) ≡ None) × (other ≡ raw)

pub read_at : (raw : List ℕ) → IfOk (reads raw) (λ message. ReadAt raw (in_row message))
unfolding reads
read_at raw = by (row_of (kind_of raw)) refl
  where
    by : (row : Option MessageRow) → row_of (kind_of raw) ≡ row
        → IfOk (reads_by (λ other. Ok (messages.Other other)) (λ needs has. Err (Short needs has)) row_says row raw) (λ message. ReadAt raw (in_row message))
    by None at = (at, refl)
    by (Some row) at =
        let mine : (kind_of raw ≡ row.kind) × StandsIn row = found StandsIn table (kind_of raw) row all_stand at in
        elim (cases_Bool (nat_lt (length raw) (needs row))) [
          | inl b ↦ subst (λ (t : Bool). IfOk (cond t (Err (Short (needs row) (length raw))) (row_says row raw)) (λ message. ReadAt raw (in_row message))) (sym b) tt
          | inr b ↦
              let long : needs row ≤ length raw = grind (arith, nat_tests, b) in
              subst (λ (t : Bool). IfOk (cond t (Err (Short (needs row) (length raw))) (row_says row raw)) (λ message. ReadAt raw (in_row message))) (sym b)
              (fields_said (λ byte. BadSide byte) row.fields 2 raw row.makes (λ message. ReadAt raw (in_row message))
              (λ values are. subst (ReadAt raw) (sym (mine.1 values)) (record { here = at; kind = mine.0; long = long; all = are })))
        ]

if_ok : {A E : Type 0} (r : Result A E) (P Q : A → Type 0) → ((a : A) → P a → Q a) → IfOk r P → IfOk r Q
if_ok (Ok a) P Q more holds = more a holds
if_ok (Err e) P Q more holds = tt

pub rewritten : (raw : List ℕ) → IsRaw raw → AreSmall raw → IfOk (reads raw) (λ message. length raw ≡ needs_of (kind_of raw) → with_reserved_blank raw ≡ written message)
unfolding written
rewritten raw is small =
    if_ok (reads raw) (λ message. ReadAt raw (in_row message)) (λ message. length raw ≡ needs_of (kind_of raw) → with_reserved_blank raw ≡ bytes_in (in_row message)) (λ message. by (in_row message)) (read_at raw)
  where
    by : (there : InRow) → ReadAt raw there → length raw ≡ needs_of (kind_of raw) → with_reserved_blank raw ≡ bytes_in there
    by (Known row values) at size =
        let whole : length raw ≡ needs row = size ∙ ap needs_by at.here in
        ap (λ (row : Option MessageRow). blanked_by row raw) at.here ∙ row_rewritten row raw values small whole (is.first ∙ whole) at.kind at.all
    by (Unknown other) at size = ap (λ (row : Option MessageRow). blanked_by row raw) at.0 ∙ sym at.1
