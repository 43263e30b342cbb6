-- The words of a setup file.
use Rattle.std.specs.Prelude.{ℕ, ◌==◌, ◌||◌, Bool, List, [], ◌∷◌, length, nat_lt, slice_index}
use Rattle.std.specs.Prelude.{if◌then◌else◌}
use Rattle.std.specs.List.{after_first, before_first, flat_map, position_or_len}
use Rattle.std.specs.Str.{trim}
use Rattle.std.specs.Str.Lines.{lines}
use Rattle.long_options.specs.Words.{Text}

abbrev pub is_space : ℕ → Bool
is_space byte = byte == 32

-- an option, and its value behind the first space; alone, where there is none
abbrev pub option_words : Text → List Text
option_words line = if nat_lt (position_or_len is_space line) (length line)
    then before_first is_space line ∷ trim (after_first is_space line) ∷ []
    else line ∷ []

-- a line that is blank, or begins with `#`, which is 35
abbrev pub is_passed_over : Text → Bool
is_passed_over line = length line == 0 || slice_index line 0 == 35

-- the words of a line, whatever white space stands around it: one that is passed over has none
abbrev pub line_words : Text → List Text
line_words line = if is_passed_over (trim line) then [] else option_words (trim line)

-- the words of a setup file's text: those of its lines
abbrev pub setup_words : Text → List Text
setup_words text = flat_map line_words (lines text)
