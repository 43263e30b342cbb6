-- Text that is to be written.
use Rattle.std.specs.Prelude.{◌≡◌, ℕ, ◌+◌, ◌≤◌, List, ◌++◌, length, take, drop, Option}
use Rattle.pitch_io.specs.Putting.{Grows}
use Rattle.feed_lines.specs.LineSize.{line_size}

-- the text so far, and how many bytes the page has room for
pub record Page : Type 0 where
  pub text : List ℕ
  pub size : ℕ

-- it has room for a line
abbrev pub HasPlace : Page → Type 0
HasPlace page = length page.text + line_size ≤ page.size

-- the page with a text behind what stood on it
abbrev pub with_text : Page → List ℕ → Page
with_text page text = record page { text = page.text ++ text }

-- the page and a text, one after the other: some prefix of both was written, and the rest stands on
-- the page
pub record Prints (old : Option (List ℕ)) (before : List ℕ) (new : Option (List ℕ))
    (after text : List ℕ) : Type 0 where
  pub count : ℕ
  pub within : count ≤ length (before ++ text)
  pub written : Grows old new (take count (before ++ text))
  pub rest : after ≡ drop count (before ++ text)

-- a text of which this is true was printed
pub record PrintsSuch (is : List ℕ → Type 0) (old : Option (List ℕ)) (before : List ℕ)
    (new : Option (List ℕ)) (after : List ℕ) : Type 0 where
  pub text : List ℕ
  pub printed : Prints old before new after text
  pub such : is text
