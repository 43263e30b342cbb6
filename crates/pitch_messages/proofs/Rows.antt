-- What a raw says by its row.
use Rattle.std.proofs.Common.{◌≡◌, ℕ, ◌<◌, ◌≤◌, Bool, cond, List, length, refl, sym, ap, ◌∙◌, arith, subst, Option, None, Some, Ok, Err, slice_index}
use Rattle.std.specs.Option.{option_map}
use Rattle.std.proofs.lemmas.Bool.{lt-ltb, le-ltb}
use Rattle.pitch_messages.specs.Raw.{IsRaw, kind_of}
use Rattle.pitch_messages.specs.declared.message.Message.TheVariants as messages
use Rattle.pitch_messages.specs.declared.message.ReadError.TheVariants.{Short}
use Rattle.pitch_messages.specs.Table.{Row, IsWhole, needs, needs_by, reads_by}
use Rattle.pitch_messages.specs.Reading.{MessageRow, needs_of, row_of, row_says, reads}
use Rattle.pitch_messages.specs.Session.{SessionRow, session_row_of, session_row_says, session_reads}
use Rattle.pitch_messages.specs.declared.session.SessionError.TheVariants.{WrongType, Short as TooShort}

-- the row of a raw that is long enough says what it says
row_known : {A B : Type 0} (other : List ℕ → B) (few : ℕ → ℕ → B) (says : Row A → List ℕ → B) (table : ℕ → Option (Row A)) (row : Row A) (raw : List ℕ) (kind : ℕ) → kind_of raw ≡ kind → table kind ≡ Some row → needs row ≤ length raw
    → says row raw ≡ reads_by other few says (table (kind_of raw)) raw
row_known {A} other few says table row raw kind is at enough =
    sym (ap (λ (r : Option (Row A)). reads_by other few says r raw) (ap table is ∙ at) ∙ ap (λ (b : Bool). cond b (few (needs row) (length raw)) (says row raw)) (le-ltb (length raw) (needs row) enough))

row_none : {A B : Type 0} (other : List ℕ → B) (few : ℕ → ℕ → B) (says : Row A → List ℕ → B) (raw : List ℕ) (row : Option (Row A)) → row ≡ None → other raw ≡ reads_by other few says row raw
row_none {A} other few says raw row none = sym (ap (λ (r : Option (Row A)). reads_by other few says r raw) none)

-- a raw that is too short
row_short : {A B : Type 0} (other : List ℕ → B) (few : ℕ → ℕ → B) (says : Row A → List ℕ → B) (raw : List ℕ) (least : ℕ) (row : Option (Row A)) → Some least ≡ option_map (λ (r : Row A). needs r) row → length raw < least → IsRaw raw
    → reads_by other few says row raw ≡ few least (slice_index raw 0)
row_short other few says raw least None of less is = cc
row_short other few says raw least (Some row) of less is =
    let same : least ≡ needs row = cc in
    let below : length raw < needs row = omega arith in
    ap (λ (b : Bool). cond b (few (needs row) (length raw)) (says row raw)) (lt-ltb (length raw) (needs row) below)
    ∙ (λ i. few (sym same i) (sym is.first i))

-- a raw that is not too short
pub row_long : {A : Type 0} (least size : ℕ) (row : Option (Row A)) → Some least ≡ option_map (λ (r : Row A). needs r) row → least ≤ size → needs_by row ≤ size
row_long least size None of enough = omega arith
row_long least size (Some row) of enough = let same : least ≡ needs row = cc in omega arith

pub row_unknown : {A : Type 0} (size : ℕ) (row : Option (Row A)) → None ≡ option_map (λ (r : Row A). needs r) row → needs_by row ≤ size
row_unknown size None of = omega arith
row_unknown size (Some row) of = cc

-- a raw that has what its type needs
pub whole : {A : Type 0} (table : ℕ → Option (Row A)) (kind : ℕ) (raw : List ℕ) → kind_of raw ≡ kind → needs_by (table (kind_of raw)) ≤ length raw → IsWhole table kind raw
whole table kind raw is long = record { is = is; long = subst (λ (k : ℕ). needs_by (table k) ≤ length raw) is long }

-- what its row says, if its type has one
abbrev pub row_or : {A B : Type 0} → (List ℕ → B) → (Row A → List ℕ → B) → Option (Row A) → List ℕ → B
row_or unknown known None raw = unknown raw
row_or unknown known (Some row) raw = known row raw

whole_by : {A B : Type 0} (other : List ℕ → B) (few : ℕ → ℕ → B) (says : Row A → List ℕ → B) (row : Option (Row A)) (raw : List ℕ) → needs_by row ≤ length raw → reads_by other few says row raw ≡ row_or other says row raw
whole_by other few says None raw long = refl
whole_by other few says (Some row) raw long = ap (λ (b : Bool). cond b (few (needs row) (length raw)) (says row raw)) (le-ltb (length raw) (needs row) long)

-- the same for the table of messages
pub said : (row : MessageRow) (raw : List ℕ) (kind : ℕ) → kind_of raw ≡ kind → row_of kind ≡ Some row → needs row ≤ length raw → row_says row raw ≡ reads raw
unfolding reads
said row raw kind is at there = row_known (λ other. Ok (messages.Other other)) (λ needs has. Err (Short needs has)) row_says row_of row raw kind is at there

pub unsaid : (raw : List ℕ) → row_of (kind_of raw) ≡ None → Ok (messages.Other raw) ≡ reads raw
unfolding reads
unsaid raw none = row_none (λ other. Ok (messages.Other other)) (λ needs has. Err (Short needs has)) row_says raw (row_of (kind_of raw)) none

pub whole_says : (raw : List ℕ) → needs_of (kind_of raw) ≤ length raw → reads raw ≡ row_or (λ other. Ok (messages.Other other)) row_says (row_of (kind_of raw)) raw
unfolding reads
whole_says raw long = whole_by (λ other. Ok (messages.Other other)) (λ needs has. Err (Short needs has)) row_says (row_of (kind_of raw)) raw long

pub short : (raw : List ℕ) (least : ℕ) → Some least ≡ option_map (λ (r : MessageRow). needs r) (row_of (kind_of raw)) → length raw < least → IsRaw raw → reads raw ≡ Err (Short least (slice_index raw 0))
unfolding reads
short raw least of less is = row_short (λ other. Ok (messages.Other other)) (λ n has. Err (Short n has)) row_says raw least (row_of (kind_of raw)) of less is

-- the same for the table of session messages
pub session_said : (row : SessionRow) (raw : List ℕ) (kind : ℕ) → kind_of raw ≡ kind → session_row_of kind ≡ Some row → needs row ≤ length raw → session_row_says row raw ≡ session_reads raw
unfolding session_reads
session_said row raw kind is at there = row_known (λ other. Err (WrongType (kind_of other))) (λ needs has. Err (TooShort needs has)) session_row_says session_row_of row raw kind is at there

pub session_whole_says : (raw : List ℕ) → needs_by (session_row_of (kind_of raw)) ≤ length raw → session_reads raw ≡ row_or (λ other. Err (WrongType (kind_of other))) session_row_says (session_row_of (kind_of raw)) raw
unfolding session_reads
session_whole_says raw long = whole_by (λ other. Err (WrongType (kind_of other))) (λ needs has. Err (TooShort needs has)) session_row_says (session_row_of (kind_of raw)) raw long

pub session_unsaid : (raw : List ℕ) → session_row_of (kind_of raw) ≡ None → Err (WrongType (kind_of raw)) ≡ session_reads raw
unfolding session_reads
session_unsaid raw none = row_none (λ other. Err (WrongType (kind_of other))) (λ needs has. Err (TooShort needs has)) session_row_says raw (session_row_of (kind_of raw)) none

pub session_short : (raw : List ℕ) (least : ℕ) → Some least ≡ option_map (λ (r : SessionRow). needs r) (session_row_of (kind_of raw)) → length raw < least → IsRaw raw → session_reads raw ≡ Err (TooShort least (slice_index raw 0))
unfolding session_reads
session_short raw least of less is = row_short (λ other. Err (WrongType (kind_of other))) (λ n has. Err (TooShort n has)) session_row_says raw least (session_row_of (kind_of raw)) of less is
