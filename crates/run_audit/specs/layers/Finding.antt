-- How far a report was gone through, and the book that a line names.
use Rattle.std.specs.Prelude.{◌≡◌, ℕ, ◌+◌, ◌<◌, take, List, ◌++◌, length, map, Option, None, Some}
use Rattle.pitch_messages.specs.Room.{Roomy}
use Rattle.pitch_model.specs.Book.{book_after}
use Rattle.feed_lines.specs.BookText.{book_text}
use Rattle.pitch_model.specs.History.{Raw}
use Rattle.run_audit.specs.layers.Lines.{book_front}
use Rattle.run_audit.specs.Log.{messages_at}
use Rattle.run_audit.specs.Report.{Agrees, IsPart, Printed, book_lines, lines_of}

-- the messages of each unit, of lists by unit
abbrev pub messages_of : List (Roomy Raw) → ℕ → List Raw
messages_of logs = messages_at (map (λ l. l.items) logs)

-- this line can be the first of a book of these lines alone
pub record Names (Vs : ℕ → List Raw) (line : List ℕ) (lines : List (List ℕ)) : Type 0 where
  pub unit : ℕ
  pub n : ℕ
  pub part : IsPart Vs (Printed unit n)
  pub lines_are : lines ≡ book_lines Vs unit n
  pub only : (other m : ℕ) (more : List ℕ)
      → IsPart Vs (Printed other m) → line ≡ book_front other m ++ more → (other ≡ unit) × (m ≡ n)

-- the text of the book of a unit after n messages, or none where it has fewer
abbrev pub IsBookAt : (ℕ → List Raw) → ℕ → ℕ → Option (Roomy ℕ) → Type 0
IsBookAt Vs unit n None = length (Vs unit) < n
IsBookAt Vs unit n (Some text) =
    IsPart Vs (Printed unit n) × (text.items ≡ book_text unit n (book_after (take n (Vs unit))))

-- the text of the book that a line names, or none where it can be the first line of no book
abbrev pub Finds : (ℕ → List Raw) → List ℕ → Option (Roomy ℕ) → Type 0
Finds Vs line None =
    (unit n : ℕ) (more : List ℕ) → IsPart Vs (Printed unit n) → line ≡ book_front unit n ++ more → ⊥
Finds Vs line (Some text) = Names Vs line (lines_of text.items)

-- the lines before these agree, and have so many books; the first of these has this number
pub record Reads (Vs : ℕ → List Raw) (all lines : List (List ℕ)) (books number : ℕ) : Type 0 where
  pub done : List (List ℕ)
  pub all_is : all ≡ done ++ lines
  pub agrees : Agrees Vs done books
  pub number_is : number ≡ length done + 1
