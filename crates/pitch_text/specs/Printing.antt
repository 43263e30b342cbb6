-- The canonical line of an entry: one space between fields, no field that has its default, no space
-- at either end.
use Rattle.std.specs.Prelude.{ℕ, ◌==◌, Bool, nat_eq, List, [], ◌∷◌, ◌++◌, decimal, Option, Some}
use Rattle.std.specs.Prelude.{None, codes, if◌then◌else◌}
use Rattle.std.specs.List.{flat_map, before_first}
use Rattle.std.specs.Cmp.Lexicographic.{pointwise}
use Rattle.pitch_fields.specs.Price.{price_digits}
use Rattle.pitch_fields.specs.Side.{byte_of}
use Rattle.pitch_io.specs.declared.line.Line.{Line}
use Rattle.pitch_io.specs.declared.line.Line.TheVariants as lines
use Rattle.pitch_messages.specs.declared.order.Order.{Order}
use Rattle.pitch_text.specs.declared.command.Command.{Command}
use Rattle.pitch_text.specs.declared.command.Command.TheVariants as commands
use Rattle.pitch_text.specs.declared.verb.Session.{Session}
use Rattle.pitch_text.specs.declared.verb.Session.TheVariants.{Grp, Spin}
use Rattle.pitch_text.specs.declared.verb.Verb.{Verb}
use Rattle.pitch_text.specs.declared.verb.Verb.TheVariants as verbs
use Rattle.pitch_text.specs.Defaults.{default_hold, default_kept, default_second, default_minute}
use Rattle.pitch_text.specs.Defaults.{default_day}
use Rattle.pitch_fields.specs.Name.{no_participant}

-- ---- the words of a line

-- a name without the spaces after it
abbrev pub name_of : List ℕ → List ℕ
name_of padded = before_first (λ b. b == 32) padded

-- `hidden`, where the order is not displayed
abbrev pub hidden_words : Bool → List (List ℕ)
hidden_words display = if display then [] else codes "hidden" ∷ []

-- `mpid=`, where a participant is named
abbrev pub mpid_words : List ℕ → List (List ℕ)
mpid_words participant = if pointwise nat_eq participant no_participant
    then [] else (codes "mpid=" ++ name_of participant) ∷ []

-- `name=` and a number, where it is not the default
abbrev pub number_words : List ℕ → ℕ → ℕ → List (List ℕ)
number_words name default n = if n == default then [] else (name ++ decimal n) ∷ []

-- `at=`, where the offset is not 0
abbrev pub at_words : ℕ → List (List ℕ)
at_words offset = number_words (codes "at=") 0 offset

-- the quantity, symbol and price of an order
abbrev pub terms_words : Order → List (List ℕ)
terms_words o = decimal o.quantity ∷ name_of o.symbol ∷ price_digits o.price ∷ []

-- the required words of an add or a trade
abbrev pub order_words : List ℕ → Order → List (List ℕ)
order_words word o = word ∷ decimal o.id ∷ (byte_of o.side ∷ []) ∷ terms_words o

-- the words of a command
abbrev pub command_words : Command → List (List ℕ)
command_words (commands.Time second) = codes "time" ∷ decimal second ∷ []
command_words (commands.Add o offset) =
    order_words (codes "add") o
    ++ (hidden_words o.display ++ (mpid_words o.participant ++ at_words offset))
command_words (commands.Exec id quantity execution offset) =
    codes "exec" ∷ decimal id ∷ decimal quantity ∷ decimal execution ∷ at_words offset
command_words (commands.ExecAt id quantity remaining execution price offset) =
    codes "execat" ∷ decimal id ∷ decimal quantity
    ∷ decimal remaining ∷ decimal execution ∷ price_digits price ∷ at_words offset
command_words (commands.Reduce id quantity offset) =
    codes "reduce" ∷ decimal id ∷ decimal quantity ∷ at_words offset
command_words (commands.Modify id quantity price display offset) =
    codes "modify" ∷ decimal id
    ∷ decimal quantity ∷ price_digits price ∷ (hidden_words display ++ at_words offset)
command_words (commands.Delete id offset) = codes "delete" ∷ decimal id ∷ at_words offset
command_words (commands.Trade o execution offset) =
    order_words (codes "trade") o ++ (decimal execution ∷ at_words offset)
command_words (commands.Break execution offset) =
    codes "break" ∷ decimal execution ∷ at_words offset
command_words (commands.Clear offset) = codes "clear" ∷ at_words offset
command_words (commands.EndSession offset) = codes "end" ∷ at_words offset
command_words (commands.Status symbol halt sho offset) =
    codes "status" ∷ name_of symbol ∷ (halt ∷ []) ∷ (sho ∷ []) ∷ at_words offset

-- the word of a line of the feed
abbrev pub line_word : Line → List ℕ
line_word lines.A = codes "a"
line_word lines.B = codes "b"
line_word lines.Gap = codes "g"

-- the word of a session
abbrev pub session_word : Session → List ℕ
session_word Grp = codes "grp"
session_word Spin = codes "spin"

-- a number, or the word in its place
abbrev pub count_word : List ℕ → Option ℕ → List ℕ
count_word word None = word
count_word word (Some n) = decimal n

-- the limits that are not the default ones
abbrev pub setup_words : ℕ → ℕ → ℕ → ℕ → ℕ → List (List ℕ)
setup_words hold kept second minute day = number_words (codes "hold=") default_hold hold
    ++ (number_words (codes "kept=") default_kept kept
    ++ (number_words (codes "second=") default_second second
    ++ (number_words (codes "minute=") default_minute minute
    ++ number_words (codes "day=") default_day day)))

-- the words of a verb
abbrev pub verb_words : Verb → List (List ℕ)
verb_words (verbs.Command c) = command_words c
verb_words (verbs.Setup hold kept second minute day) =
    codes "open" ∷ setup_words hold kept second minute day
verb_words verbs.Flush = codes "flush" ∷ []
verb_words verbs.Beat = codes "beat" ∷ []
verb_words (verbs.Deliver line number) = line_word line ∷ decimal number ∷ []
verb_words (verbs.Rest line) = line_word line ∷ codes "rest" ∷ []
verb_words (verbs.Connect session) = session_word session ∷ codes "open" ∷ []
verb_words (verbs.Cut session) = session_word session ∷ codes "cut" ∷ []
verb_words (verbs.Up session bytes) =
    session_word session ∷ codes "up" ∷ count_word (codes "all") bytes ∷ []
verb_words (verbs.Down session bytes) =
    session_word session ∷ codes "down" ∷ count_word (codes "all") bytes ∷ []
verb_words verbs.Advertise = codes "advertise" ∷ []
verb_words verbs.Tick = codes "tick" ∷ []
verb_words verbs.Show = codes "show" ∷ []
verb_words (verbs.Quote symbol) = codes "quote" ∷ name_of symbol ∷ []

-- each word with a space before it
abbrev pub spaced : List (List ℕ) → List ℕ
spaced words = flat_map (λ w. 32 ∷ w) words

-- the line of a unit and a verb
unfoldable pub entry_text : ℕ → Verb → List ℕ
entry_text unit verb = decimal unit ++ spaced (verb_words verb)

-- the lines of some units and verbs, each ended by a line feed
abbrev pub lines_text : List (ℕ × Verb) → List ℕ
lines_text entries = flat_map (λ e. entry_text e.0 e.1 ++ 10 ∷ []) entries
