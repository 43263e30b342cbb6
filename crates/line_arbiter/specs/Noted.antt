-- What was noted of the lines. Notes stand newest first.
use Rattle.std.specs.Prelude.{◌≡◌, ℕ, ◌+◌, ◌-◌, ◌<◌, ◌^◌, Bool, true, false, ◌&&◌, ◌==◌, List, []}
use Rattle.std.specs.Prelude.{◌∷◌, min, Some, slice_get, if◌then◌else◌}
use Rattle.pitch_io.specs.declared.line.Line.{Line}
use Rattle.pitch_io.specs.declared.line.Line.TheVariants.{A, B, Gap}
use Rattle.line_arbiter.specs.declared.arbiter.Arbiter.{Arbiter}
use Rattle.line_arbiter.specs.declared.count.LineCount.{LineCount}

-- so many messages of a unit came on a line, and so many of them were fresh
pub record Note : Type 0 where
  pub line : Line
  pub unit : ℕ
  pub messages : ℕ
  pub fresh : ℕ

-- the two lines are one
abbrev pub same_line : Line → Line → Bool
same_line A A = true
same_line A B = false
same_line A Gap = false
same_line B A = false
same_line B B = true
same_line B Gap = false
same_line Gap A = false
same_line Gap B = false
same_line Gap Gap = true

-- a note is of this line and unit
abbrev pub is_of : Line → ℕ → Note → Bool
is_of line unit note = same_line line note.line && unit == note.unit

-- a count stops at the greatest number of 64 bits
abbrev pub capped : ℕ → ℕ
capped n = min n (2 ^ 64 - 1)

-- the sum over notes
abbrev pub total : (Note → ℕ) → List Note → ℕ
total what [] = 0
total what (note ∷ notes) = what note + total what notes

-- how many messages of a unit came on a line, and how many of them were fresh
abbrev pub line_count : Line → ℕ → List Note → LineCount
line_count line unit notes = record {
  messages = capped (total (λ note. if is_of line unit note then note.messages else 0) notes);
  fresh = capped (total (λ note. if is_of line unit note then note.fresh else 0) notes);
}

-- the first of the places of a line, one for each unit
abbrev pub line_place : Line → ℕ
line_place A = 0
line_place B = 256
line_place Gap = 512

-- the arbiter capped just these notes
abbrev pub HasNoted : Arbiter → List Note → Type 0
HasNoted arbiter notes = (line : Line) (unit : ℕ) → unit < 256
    → slice_get arbiter.counts (line_place line + unit) ≡ Some (line_count line unit notes)
