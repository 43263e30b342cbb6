-- A text of canonical lines says their entries.
use Rattle.std.proofs.Common.{◌≡◌, ℕ, ◌+◌, List, [], ◌∷◌, map, Result, Ok, refl, ap, ◌∙◌, append_assoc}
use Rattle.std.specs.List.{AllByRecursion, enumerate_from}
use Rattle.pitch_text.specs.declared.verb.Verb.{Verb}
use Rattle.pitch_text.specs.declared.verb.ScheduleEntry.{ScheduleEntry}
use Rattle.pitch_text.specs.Printing.{entry_text, lines_text}
use Rattle.pitch_text.specs.ScheduleGrammar.{entry, schedule_entry}
use Rattle.pitch_text.specs.WellFormed.{IsWellFormed}
use Rattle.pitch_text.proofs.LineLemmas.{line_again, entry_before_others}
use Rattle.text_lines.specs.Text.{TextFault, lines_of, said_from, said_of, all_of, entries_of}
use Rattle.text_lines.specs.Text.{with_front}
use Rattle.text_lines.specs.Items.{item_of, items_of}
use Rattle.text_lines.specs.declared.fault.TextError.{TextError}

-- each entry is one that some line gives
abbrev pub AreGiven : List (ℕ × Verb) → Type 0
AreGiven entries = AllByRecursion (λ (e : ℕ × Verb). IsWellFormed e.0 e.1) entries

-- an entry with the number of its line
abbrev Numbered : Type 0
Numbered = ℕ × (ℕ × Verb)

abbrev read_all : List Numbered → List (Result Numbered TextFault)
read_all es = map (λ (e : Numbered). Ok e) es

lines_say : (n : ℕ) (entries : List (ℕ × Verb)) → AreGiven entries → said_from entry n (lines_of (lines_text entries)) ≡ read_all (enumerate_from n entries)
lines_say n [] all = refl
lines_say n (e ∷ entries) all =
    let cut : lines_of (lines_text (e ∷ entries)) ≡ entry_text e.0 e.1 ∷ lines_of (lines_text entries) =
    ap lines_of (append_assoc (entry_text e.0 e.1) (10 ∷ []) (lines_text entries)) ∙ entry_before_others e.0 e.1 (lines_text entries) all.0 in
    rw (cut, line_again e.0 e.1 all.0, lines_say (n + 1) entries all.1) refl

all_read : (es : List Numbered) → all_of (read_all es) ≡ Ok es
all_read [] = refl
all_read (e ∷ es) = ap (λ (r : Result (List Numbered) TextFault). with_front e r) (all_read es)

pub lines_again : (entries : List (ℕ × Verb)) → AreGiven entries → entries_of entry (lines_text entries) ≡ Ok (enumerate_from 1 entries)
unfolding entries_of said_of
lines_again entries all = ap (λ (said : List (Result Numbered TextFault)). all_of said) (lines_say 1 entries all) ∙ all_read (enumerate_from 1 entries)

items_read : (es : List Numbered) → map (item_of schedule_entry) (read_all es) ≡ map (λ (e : Numbered). Ok (schedule_entry e)) es
items_read [] = refl
items_read (e ∷ es) = ap (λ (items : List (Result ScheduleEntry TextError)). Ok (schedule_entry e) ∷ items) (items_read es)

pub items_again : (entries : List (ℕ × Verb)) → AreGiven entries → items_of entry schedule_entry (lines_text entries) ≡ map (λ (e : Numbered). Ok (schedule_entry e)) (enumerate_from 1 entries)
unfolding items_of said_of
items_again entries all = ap (λ (said : List (Result Numbered TextFault)). map (item_of schedule_entry) said) (lines_say 1 entries all) ∙ items_read (enumerate_from 1 entries)
