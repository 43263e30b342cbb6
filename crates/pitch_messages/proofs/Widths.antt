-- What a message of bytes says has the widths of the wire.
use Rattle.std.proofs.Common.{◌≡◌, ℕ, zero, suc, ◌+◌, ◌^◌, ◌<◌, ◌≤◌, List, [], ◌∷◌, ◌++◌, length, take, drop, sym, arith, subst, Result, Ok, IfOk}
use Rattle.std.proofs.Math.Nat.{mod-lt}
use Rattle.std.proofs.lemmas.List.{length-take, length-drop}
use Rattle.std.specs.Int.{byte_at as byte_of_number, bytes_low_first}
use Rattle.byteorder.specs.Numbers.{little_from-lt}
use Rattle.pitch_fields.specs.Fields.{AreBytes}
use Rattle.pitch_fields.specs.Side.{byte_of}
use Rattle.pitch_fields.specs.declared.side.Side.{Side}
use Rattle.pitch_fields.specs.declared.side.Side.TheVariants.{Buy, Sell}
use Rattle.pitch_fields.proofs.Bytes.{byte_at, bytes_drop}
use Rattle.pitch_messages.specs.Fields.{Field, Number, SideByte, Byte, Text, Reserved, Value, Values, width, widths, spaces, bytes_of, all_bytes, bytes_at}
use Rattle.pitch_messages.specs.Raw.{IsRaw}
use Rattle.pitch_messages.specs.Table.{needs, row_bytes}
use Rattle.pitch_messages.specs.Reading.{reads}
use Rattle.pitch_messages.specs.Writing.{InRow, Known, Unknown, in_row, bytes_in, written}
use Rattle.pitch_messages.specs.declared.message.Message.{Message}
use Rattle.pitch_messages.specs.declared.message.ReadError.{ReadError}
use Rattle.pitch_messages.proofs.Laying.{Fits, AllFit, IsAt, AllAt, row_size}
use Rattle.pitch_messages.proofs.Rewriting.{ReadAt, read_at}

-- so many bytes
abbrev pub HasBytes : ℕ → List ℕ → Type 0
HasBytes n bytes = (length bytes ≡ n) × AreBytes bytes

-- a value that a field of bytes can say
abbrev pub IsWide : (field : Field) → Value field → Type 0
IsWide (Number n) number = number < 256 ^ n
IsWide SideByte side = Unit {0}
IsWide Byte byte = byte < 256
IsWide (Text n) text = HasBytes n text
IsWide (Reserved n) nothing = Unit {0}

abbrev pub AllWide : (fields : List Field) → Values fields → Type 0
AllWide [] values = Unit {0}
AllWide (field ∷ fields) values = IsWide field values.0 × AllWide fields values.1

abbrev pub IsWideRow : InRow → Type 0
IsWideRow (Known row values) = AllWide row.fields values
IsWideRow (Unknown raw) = Unit {0}

bytes_take : (n : ℕ) (raw : List ℕ) → AreBytes raw → AreBytes (take n raw)
bytes_take zero raw all = tt
bytes_take (suc n) [] all = tt
bytes_take (suc n) (x ∷ xs) all = (all.0, bytes_take n xs all.1)

text_at : (n at : ℕ) (raw : List ℕ) → AreBytes raw → at + n ≤ length raw → HasBytes n (bytes_at n at raw)
text_at n at raw all long = (omega (arith, length-take {A = ℕ} n (drop at raw), length-drop at raw, long), bytes_take n (drop at raw) (bytes_drop at raw all))

wide_at : (field : Field) (at : ℕ) (raw : List ℕ) (value : Value field) → AreBytes raw → at + width field ≤ length raw → IsAt field at raw value → IsWide field value
wide_at (Number n) at raw number all long is = subst (λ (x : ℕ). x < 256 ^ n) (sym is) (little_from-lt 0 n (drop at raw) (byte_at (drop at raw) (bytes_drop at raw all)))
wide_at SideByte at raw side all long is = tt
wide_at Byte at raw byte all long is = subst (λ (x : ℕ). x < 256) (sym is) (byte_at raw all at)
wide_at (Text n) at raw text all long is = subst (HasBytes n) (sym is) (text_at n at raw all long)
wide_at (Reserved n) at raw nothing all long is = tt

all_wide_at : (fields : List Field) (at : ℕ) (raw : List ℕ) (values : Values fields) → AreBytes raw → at + widths fields ≤ length raw → AllAt fields at raw values → AllWide fields values
all_wide_at [] at raw values all long are = tt
all_wide_at (field ∷ fields) at raw values all long are =
    (wide_at field at raw values.0 all (omega (arith, long)) are.0, all_wide_at fields (at + width field) raw values.1 all (omega (arith, long)) are.1)

pub read_wide : (raw : List ℕ) (message : Message) → AreBytes raw → reads raw ≡ Ok message → IsWideRow (in_row message)
read_wide raw message all e = by (in_row message) (subst (λ (read : Result Message ReadError). IfOk read (λ m. ReadAt raw (in_row m))) e (read_at raw))
  where
    by : (there : InRow) → ReadAt raw there → IsWideRow there
    by (Known row values) at = all_wide_at row.fields 2 raw values all at.long at.all
    by (Unknown other) at = tt

-- ---- Bytes of messages
-- what a field says is written as bytes, whatever the width of a number
abbrev pub IsOfBytes : (field : Field) → Value field → Type 0
IsOfBytes Byte byte = byte < 256
IsOfBytes (Text n) text = AreBytes text
IsOfBytes _ value = Unit {0}

abbrev pub AllOfBytes : (fields : List Field) → Values fields → Type 0
AllOfBytes [] values = Unit {0}
AllOfBytes (field ∷ fields) values = IsOfBytes field values.0 × AllOfBytes fields values.1

-- the same of a row, whose length and type are bytes
abbrev pub IsOfByteRow : InRow → Type 0
IsOfByteRow (Known row values) = (needs row < 256) × ((row.kind < 256) × AllOfBytes row.fields values)
IsOfByteRow (Unknown raw) = AreBytes raw

number_bytes : (i n x : ℕ) → AreBytes (bytes_low_first i n x)
number_bytes i zero x = tt
number_bytes i (suc n) x = (byte i, number_bytes (suc i) n x)
  where
    byte : (i : ℕ) → byte_of_number i x < 256
    byte zero = mod-lt x (omega arith)
    byte (suc i) = mod-lt _ (omega arith)

side_bytes : (side : Side) → byte_of side < 256
side_bytes Buy = omega arith
side_bytes Sell = omega arith

space_bytes : (n : ℕ) → AreBytes (spaces n)
space_bytes zero = tt
space_bytes (suc n) = (omega arith, space_bytes n)

pub bytes_append : (xs ys : List ℕ) → AreBytes xs → AreBytes ys → AreBytes (xs ++ ys)
bytes_append [] ys all more = more
bytes_append (x ∷ xs) ys all more = (all.0, bytes_append xs ys all.1 more)

field_bytes : (field : Field) (value : Value field) → IsOfBytes field value → AreBytes (bytes_of field value)
field_bytes (Number n) number of = number_bytes 0 n number
field_bytes SideByte side of = (side_bytes side, tt)
field_bytes Byte byte of = (of, tt)
field_bytes (Text n) text of = of
field_bytes (Reserved n) nothing of = space_bytes n

fields_bytes : (fields : List Field) (values : Values fields) → AllOfBytes fields values → AreBytes (all_bytes fields values)
fields_bytes [] values of = tt
fields_bytes (field ∷ fields) values of =
    bytes_append (bytes_of field values.0) (all_bytes fields values.1) (field_bytes field values.0 of.0) (fields_bytes fields values.1 of.1)

pub message_bytes : (message : Message) → IsOfByteRow (in_row message) → AreBytes (written message)
unfolding written
message_bytes message = by (in_row message)
  where
    by : (there : InRow) → IsOfByteRow there → AreBytes (bytes_in there)
    by (Known row values) of = (of.0, (of.1.0, fields_bytes row.fields values of.1.1))
    by (Unknown raw) of = of

-- ---- Raws
field_fits : (field : Field) (value : Value field) → IsWide field value → Fits field value × IsOfBytes field value
field_fits (Number n) number wide = (wide, tt)
field_fits SideByte side wide = (tt, tt)
field_fits Byte byte wide = (tt, wide)
field_fits (Text n) text wide = wide
field_fits (Reserved n) nothing wide = (tt, tt)

fields_fit : (fields : List Field) (values : Values fields) → AllWide fields values → AllFit fields values × AllOfBytes fields values
fields_fit [] values wide = (tt, tt)
fields_fit (field ∷ fields) values wide =
    let first = field_fits field values.0 wide.0 in
    let others = fields_fit fields values.1 wide.1 in
    ((first.0, others.0), (first.1, others.1))

-- a known type, whose length and type are bytes
abbrev pub IsByteRow : InRow → Type 0
IsByteRow (Known row values) = (needs row < 256) × (row.kind < 256)
IsByteRow (Unknown raw) = ⊥

-- a message with the widths of the wire is written as a raw of bytes
pub message_raw : (message : Message) → IsByteRow (in_row message) → IsWideRow (in_row message) → IsRaw (written message) × AreBytes (written message)
unfolding written
message_raw message = by (in_row message)
  where
    by : (there : InRow) → IsByteRow there → IsWideRow there → IsRaw (bytes_in there) × AreBytes (bytes_in there)
    by (Known row values) small wide =
        let fit = fields_fit row.fields values wide in
        let size : length (row_bytes row values) ≡ needs row = row_size row values fit.0 in
        (record { least = omega arith; most = omega (arith, size, small.0); first = sym size }, (small.0, (small.1, fields_bytes row.fields values fit.1)))
    by (Unknown raw) small wide = absurd small
