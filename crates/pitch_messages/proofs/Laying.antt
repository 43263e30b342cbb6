-- The two laws of fields that stand end to end, of every row at once: what was written is read, and
-- what was read is written.
use Rattle.std.proofs.Common.{◌≡◌, ◌==◌, ◌⊎◌, inl, inr, Bool, true, false, cond, ℕ, zero, suc, ◌+◌, ◌^◌, ◌<◌, ◌≤◌, List, [], ◌∷◌, ◌++◌, length, take, drop, get_or, refl, sym, ap, ◌∙◌, arith, subst, slice_index, Option, None, Some, Result, Ok, IfOk}
use Rattle.std.proofs.Math.Seq.{get_or-append_seam, drop-cons}
use Rattle.std.proofs.Math.ListN.{drop_of_length-le}
use Rattle.std.proofs.lemmas.List.{append_assoc, append-nil, drop_at, take_at, drop-drop, length-append, length-drop, get_or-drop}
use Rattle.std.proofs.lemmas.Bool.Decides.{nat_tests}
use Rattle.byteorder.specs.Endian.{little_bytes, little_number}
use Rattle.byteorder.specs.Numbers.{little_number-reads_back, length-bytes_low_first}
use Rattle.pitch_fields.specs.Fields.{number_at}
use Rattle.pitch_fields.specs.Side.{byte_of, side_of}
use Rattle.pitch_fields.specs.declared.side.Side.{Side}
use Rattle.pitch_fields.specs.declared.side.Side.TheVariants.{Buy, Sell}
use Rattle.pitch_fields.proofs.LittleEndian.{bytes_of_number}
use Rattle.pitch_messages.specs.Fields.{number_bytes, Field, Number, SideByte, Byte, Text, Reserved, Value, Values, Makes, width, widths, spaces, bytes_of, all_bytes, bytes_at, with_side, with_field, with_fields}
use Rattle.pitch_messages.specs.layers.Rewriting.{blanked, all_blanked}
use Rattle.pitch_messages.specs.Table.{Row, needs, says, row_bytes}
use Rattle.pitch_messages.specs.layers.Rewriting.{blanked_by}

-- what is made of what fields say
abbrev pub made : {A : Type 0} (fields : List Field) → Makes fields A → Values fields → A
made [] make values = make
made (field ∷ fields) make values = made fields (make values.0) values.1

-- what is said has the width of its field
abbrev pub Fits : (field : Field) → Value field → Type 0
Fits (Number n) number = number < 256 ^ n
Fits (Text n) text = length text ≡ n
Fits _ value = Unit {0}

abbrev pub AllFit : (fields : List Field) → Values fields → Type 0
AllFit [] values = Unit {0}
AllFit (field ∷ fields) values = Fits field values.0 × AllFit fields values.1

-- ---- What was written is read
-- the byte behind so many bytes
seam : (front rest : List ℕ) (byte at : ℕ) → length front ≡ at → slice_index (front ++ byte ∷ rest) at ≡ byte
seam front rest byte at size = subst (λ (n : ℕ). slice_index (front ++ byte ∷ rest) n ≡ byte) size (get_or-append_seam front byte rest 0)

side_back : {A E : Type 0} (bad : ℕ → E) (side : Side) (next : Side → Result A E) → with_side bad (side_of (byte_of side)) (byte_of side) next ≡ next side
side_back bad Buy next = refl
side_back bad Sell next = refl

field_back : {A E : Type 0} (bad : ℕ → E) (field : Field) (at : ℕ) (front rest : List ℕ) (value : Value field) (next : Value field → Result A E) → length front ≡ at → Fits field value
    → with_field bad field at (front ++ (bytes_of field value ++ rest)) next ≡ next value
field_back bad (Number n) at front rest value next size fits =
    ap (λ (xs : List ℕ). next (little_number n xs)) (drop_at front (little_bytes n value ++ rest) at size)
    ∙ ap next (little_number-reads_back n value rest fits)
field_back bad SideByte at front rest side next size fits =
    ap (λ (b : ℕ). with_side bad (side_of b) b next) (seam front rest (byte_of side) at size) ∙ side_back bad side next
field_back bad Byte at front rest byte next size fits = ap next (seam front rest byte at size)
field_back bad (Text n) at front rest text next size fits =
    ap (λ (xs : List ℕ). next (take n xs)) (drop_at front (text ++ rest) at size) ∙ ap next (take_at text rest n fits)
field_back bad (Reserved n) at front rest value next size fits = refl

spaces_size : (n : ℕ) → length (spaces n) ≡ n
spaces_size zero = refl
spaces_size (suc n) = ap suc (spaces_size n)

-- a field has its width
field_size : (field : Field) (value : Value field) → Fits field value → length (bytes_of field value) ≡ width field
field_size (Number n) value fits = length-bytes_low_first 0 n value
field_size SideByte side fits = refl
field_size Byte byte fits = refl
field_size (Text n) text fits = fits
field_size (Reserved n) value fits = spaces_size n

all_size : (fields : List Field) (values : Values fields) → AllFit fields values → length (all_bytes fields values) ≡ widths fields
all_size [] values fit = refl
all_size (field ∷ fields) values fit =
    omega (arith, length-append (bytes_of field values.0) (all_bytes fields values.1), field_size field values.0 fit.0, all_size fields values.1 fit.1)

fields_back : {A E : Type 0} (bad : ℕ → E) (fields : List Field) (at : ℕ) (front rest : List ℕ) (values : Values fields) (make : Makes fields A) → length front ≡ at → AllFit fields values
    → with_fields bad fields at (front ++ (all_bytes fields values ++ rest)) make ≡ Ok (made fields make values)
fields_back bad [] at front rest values make size fit = refl
fields_back bad (field ∷ fields) at front rest values make size fit =
    let mine : List ℕ = bytes_of field values.0 in
    let theirs : List ℕ = all_bytes fields values.1 in
    let end : ℕ = at + width field in
    let regrouped : front ++ ((mine ++ theirs) ++ rest) ≡ front ++ (mine ++ (theirs ++ rest)) = ap (λ (xs : List ℕ). front ++ xs) (append_assoc mine theirs rest) in
    let shifted : front ++ (mine ++ (theirs ++ rest)) ≡ (front ++ mine) ++ (theirs ++ rest) = sym (append_assoc front mine (theirs ++ rest)) in
    let place : length (front ++ mine) ≡ end = omega (arith, length-append front mine, field_size field values.0 fit.0, size) in
    ap (λ (raw : List ℕ). with_field bad field at raw (λ value. with_fields bad fields end raw (make value))) regrouped
    ∙ field_back bad field at front (theirs ++ rest) values.0 (λ value. with_fields bad fields end (front ++ (mine ++ (theirs ++ rest))) (make value)) size fit.0
    ∙ ap (λ (raw : List ℕ). with_fields bad fields end raw (make values.0)) shifted
    ∙ fields_back bad fields end (front ++ mine) rest values.1 (make values.0) place fit.1

-- the same of a row
pub row_back : {A E : Type 0} (bad : ℕ → E) (row : Row A) (values : Values row.fields) → AllFit row.fields values → says bad row (row_bytes row values) ≡ Ok (made row.fields row.makes values)
row_back bad row values fit =
    ap (λ (xs : List ℕ). with_fields bad row.fields 2 (needs row ∷ row.kind ∷ xs) row.makes) (sym (append-nil (all_bytes row.fields values)))
    ∙ fields_back bad row.fields 2 (needs row ∷ row.kind ∷ []) [] values row.makes refl fit

-- the same bytes, with those of a number as one thing
abbrev field_laid : (field : Field) → Value field → List ℕ
field_laid (Number n) number = number_bytes n number
field_laid SideByte side = byte_of side ∷ []
field_laid Byte byte = byte ∷ []
field_laid (Text n) text = text
field_laid (Reserved n) nothing = spaces n

abbrev pub all_laid : (fields : List Field) → Values fields → List ℕ
all_laid [] values = []
all_laid (field ∷ fields) values = field_laid field values.0 ++ all_laid fields values.1

field_same : (field : Field) (value : Value field) → bytes_of field value ≡ field_laid field value
unfolding number_bytes
field_same (Number n) number = refl
field_same SideByte side = refl
field_same _ value = refl

all_same : (fields : List Field) (values : Values fields) → all_bytes fields values ≡ all_laid fields values
all_same [] values = refl
all_same (field ∷ fields) values = λ i. field_same field values.0 i ++ all_same fields values.1 i

pub row_laid : {A : Type 0} (row : Row A) (values : Values row.fields) → AllFit row.fields values → row_bytes row values ≡ (2 + length (all_laid row.fields values)) ∷ row.kind ∷ all_laid row.fields values
row_laid row values fit =
    let same = all_same row.fields values in
    let size : needs row ≡ 2 + length (all_laid row.fields values) = omega (arith, all_size row.fields values fit, ap length same) in
    λ i. size i ∷ row.kind ∷ same i

pub row_size : {A : Type 0} (row : Row A) (values : Values row.fields) → AllFit row.fields values → length (row_bytes row values) ≡ needs row
row_size row values fit = omega (arith, all_size row.fields values fit)

-- ---- What was read is written
side_test : (t u : Bool) (side : Side) → cond t (Some Buy) (cond u (Some Sell) None) ≡ Some side → ((t ≡ true) × (side ≡ Buy)) ⊎ ((u ≡ true) × (side ≡ Sell))
side_test true u side is = inl (refl, cc)
side_test false true side is = inr (refl, cc)
side_test false false side is = cc

side_byte : (b : ℕ) (side : Side) → side_of b ≡ Some side → byte_of side ≡ b
side_byte b side is = elim (side_test (b == 66) (b == 83) side is) [
  | inl (t, buy) ↦ ap byte_of buy ∙ sym (grind (arith, nat_tests, t))
  | inr (t, sell) ↦ ap byte_of sell ∙ sym (grind (arith, nat_tests, t))
]

-- each is a byte
abbrev pub AreSmall : List ℕ → Type 0
AreSmall raw = (k : ℕ) → get_or raw k 0 < 256

pub byte_then : (at : ℕ) (raw : List ℕ) → at + 1 ≤ length raw → slice_index raw at ∷ drop (at + 1) raw ≡ drop at raw
byte_then at raw within =
    let next : at + 1 ≡ suc at = omega arith in
    ap (λ (n : ℕ). slice_index raw at ∷ drop n raw) next ∙ sym (drop-cons raw at 0 (omega (arith, within)))

one_at : (at : ℕ) (raw : List ℕ) → at + 1 ≤ length raw → slice_index raw at ∷ [] ≡ take 1 (drop at raw)
one_at at raw within = ap (λ (xs : List ℕ). take 1 xs) (byte_then at raw within)

-- a value is what stands in a field at a place, and values in fields end to end from one
abbrev pub IsAt : (field : Field) → ℕ → List ℕ → Value field → Type 0
IsAt (Number n) at raw number = number ≡ number_at n at raw
IsAt SideByte at raw side = side_of (slice_index raw at) ≡ Some side
IsAt Byte at raw byte = byte ≡ slice_index raw at
IsAt (Text n) at raw text = text ≡ bytes_at n at raw
IsAt (Reserved n) at raw nothing = Unit {0}

abbrev pub AllAt : (fields : List Field) → ℕ → List ℕ → Values fields → Type 0
AllAt [] at raw values = Unit {0}
AllAt (field ∷ fields) at raw values = IsAt field at raw values.0 × AllAt fields (at + width field) raw values.1

-- what is read stands there
side_said : {A E : Type 0} (bad : ℕ → E) (o : Option Side) (b : ℕ) (next : Side → Result A E) (P : A → Type 0) → ((side : Side) → o ≡ Some side → IfOk (next side) P) → IfOk (with_side bad o b next) P
side_said bad None b next P and = tt
side_said bad (Some side) b next P and = and side refl

field_said : {A E : Type 0} (bad : ℕ → E) (field : Field) (at : ℕ) (raw : List ℕ) (next : Value field → Result A E) (P : A → Type 0)
    → ((value : Value field) → IsAt field at raw value → IfOk (next value) P) → IfOk (with_field bad field at raw next) P
field_said bad (Number n) at raw next P and = and (number_at n at raw) refl
field_said bad SideByte at raw next P and = side_said bad (side_of (slice_index raw at)) (slice_index raw at) next P and
field_said bad Byte at raw next P and = and (slice_index raw at) refl
field_said bad (Text n) at raw next P and = and (bytes_at n at raw) refl
field_said bad (Reserved n) at raw next P and = and tt tt

pub fields_said : {A E : Type 0} (bad : ℕ → E) (fields : List Field) (at : ℕ) (raw : List ℕ) (make : Makes fields A) (P : A → Type 0)
    → ((values : Values fields) → AllAt fields at raw values → P (made fields make values)) → IfOk (with_fields bad fields at raw make) P
fields_said bad [] at raw make P and = and tt tt
fields_said bad (field ∷ fields) at raw make P and =
    field_said bad field at raw (λ value. with_fields bad fields (at + width field) raw (make value)) P (λ value is.
    fields_said bad fields (at + width field) raw (make value) P (λ values are. and (value, values) (is, are)))

-- and has the bytes that stand there
field_bytes : (field : Field) (at : ℕ) (raw : List ℕ) (value : Value field) → AreSmall raw → at + width field ≤ length raw → IsAt field at raw value → bytes_of field value ≡ blanked field (take (width field) (drop at raw))
field_bytes (Number n) at raw number small within is =
    ap (little_bytes n) is ∙ bytes_of_number n (drop at raw) (omega (arith, length-drop at raw, within)) (λ k. rw (get_or-drop at raw k 0) (small (at + k)))
field_bytes SideByte at raw side small within is = ap (λ (b : ℕ). b ∷ []) (side_byte (slice_index raw at) side is) ∙ one_at at raw within
field_bytes Byte at raw byte small within is = ap (λ (b : ℕ). b ∷ []) is ∙ one_at at raw within
field_bytes (Text n) at raw text small within is = is
field_bytes (Reserved n) at raw nothing small within is = refl

fields_bytes : (fields : List Field) (at : ℕ) (raw : List ℕ) (values : Values fields) → AreSmall raw → length raw ≡ at + widths fields → AllAt fields at raw values → all_bytes fields values ≡ all_blanked fields (drop at raw)
fields_bytes [] at raw values small size are = sym (drop_of_length-le raw (omega (arith, size)))
fields_bytes (field ∷ fields) at raw values small size are =
    let n : ℕ = width field in
    ap (λ (xs : List ℕ). xs ++ all_bytes fields values.1) (field_bytes field at raw values.0 small (omega (arith, size)) are.0)
    ∙ ap (λ (xs : List ℕ). blanked field (take n (drop at raw)) ++ xs)
    (fields_bytes fields (at + n) raw values.1 small (omega (arith, size)) are.1 ∙ ap (all_blanked fields) (sym (drop-drop n at raw)))

-- a raw of just the length of its row is the writing of what stands in it, but for reserved bytes
pub row_rewritten : {A : Type 0} (row : Row A) (raw : List ℕ) (values : Values row.fields) → AreSmall raw → length raw ≡ needs row → slice_index raw 0 ≡ needs row → slice_index raw 1 ≡ row.kind → AllAt row.fields 2 raw values
    → blanked_by (Some row) raw ≡ row_bytes row values
row_rewritten row raw values small size first kind are =
    let head : take 2 raw ≡ needs row ∷ row.kind ∷ [] =
    ap (λ (xs : List ℕ). take 2 xs) (sym (byte_then 0 raw (omega (arith, size)))
    ∙ ap (λ (xs : List ℕ). slice_index raw 0 ∷ xs) (sym (byte_then 1 raw (omega (arith, size)))))
    ∙ ap (λ (n : ℕ). n ∷ slice_index raw 1 ∷ []) first ∙ ap (λ (k : ℕ). needs row ∷ k ∷ []) kind in
    ap (λ (xs : List ℕ). xs ++ all_blanked row.fields (drop 2 raw)) head
    ∙ ap (λ (xs : List ℕ). needs row ∷ row.kind ∷ xs) (sym (fields_bytes row.fields 2 raw values small size are))
