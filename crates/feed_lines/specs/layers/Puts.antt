-- Texts put into a buffer from a place, one after another.
use Rattle.std.specs.Prelude.{◌≡◌, ◌≤◌, ℕ, ◌+◌, List, [], ◌∷◌, length}
use Rattle.pitch_fields.specs.Fields.{put_at}

-- a buffer, and the place up to which it is written
abbrev pub Line : Type 0
Line = List ℕ × ℕ

-- a line with a text more, over what stood behind the place
unfoldable pub with_text : Line → List ℕ → Line
with_text line text = (put_at line.0 line.1 text, line.1 + length text)

-- a line with texts more, one after another
abbrev pub with_texts : Line → List (List ℕ) → Line
with_texts line [] = line
with_texts line (text ∷ texts) = with_texts (with_text line text) texts

-- these texts were put, in at most so many bytes; nothing else changed
pub record Puts (before after : Line) (texts : List (List ℕ)) (most : ℕ) : Type 0 where
  pub written : after ≡ with_texts before texts
  pub size : after.1 ≤ before.1 + most
  pub kept : length after.0 ≡ length before.0
