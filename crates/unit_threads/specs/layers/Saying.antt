-- What a publisher says to its client and to its service. No caller needs this file.
use Rattle.std.specs.Prelude.{ℕ, zero, suc, List, [], ◌∷◌, ◌++◌, map, if◌then◌else◌}
use Rattle.venue_core.specs.Losses.{is_lost}
use Rattle.drill_client.specs.declared.words.Word.{Word}
use Rattle.drill_client.specs.declared.words.Word.TheVariants.{Sent, Advertised}
use Rattle.drill_client.specs.layers.Played.{command_datagrams, is_round}

-- the copies of a line: line A is 1 and line B is 2
abbrev pub line_words : {R : Type 0} → ℕ → ℕ → ℕ → ℕ → List (Word R)
line_words number unit index line =
    if is_lost number unit index line then [] else map Sent (command_datagrams number unit index)

-- the sequence that is advertised where it is time
abbrev pub round_words : {R : Type 0} → ℕ → ℕ → List (Word R)
round_words index count = if is_round index count then Advertised index ∷ [] else []

-- all that the client is told of a command
abbrev pub words_for_command : {R : Type 0} → ℕ → ℕ → ℕ → ℕ → List (Word R)
words_for_command number unit count index =
    line_words number unit index 1 ++ (line_words number unit index 2 ++ round_words index count)

-- and of the first commands of a plan of `count`
unfoldable pub words_through : {R : Type 0} → ℕ → ℕ → ℕ → ℕ → List (Word R)
words_through number unit count zero = []
words_through number unit count (suc index) =
    words_through number unit count index ++ words_for_command number unit count (suc index)
