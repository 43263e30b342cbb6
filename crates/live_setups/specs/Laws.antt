-- Laws of what the words set up.
use Rattle.std.specs.Prelude.{◌≡◌, ◌≤◌, ◌+◌, ◌*◌, ◌==◌, ◌||◌, ℕ, Bool, true, List, length}
use Rattle.std.specs.Prelude.{slice_get, Some}
use Rattle.std.specs.List.{list_any}
use Rattle.long_options.specs.Words.{Text}
use Rattle.live_words.specs.Asked.{IsAsked}
use Rattle.live_words.specs.Options.{are_apart, units_of}
use Rattle.live_words.specs.declared.listen_words.ListenWords.{ListenWords}
use Rattle.live_words.specs.declared.serve_words.ServeWords.{ServeWords}
use Rattle.live_words.specs.declared.serve_words.UnitWords.{UnitWords}
use Rattle.live_words.specs.declared.words.Asked.TheVariants.{Listen, Serve}
use Rattle.live_setups.specs.Hearing.{CanBeHeard, ports_of, units_heard}
use Rattle.live_setups.specs.Serving.{CanBeServed, doors_of, lines_of}

-- ---- the words
-- what they ask for is heard, where they name no more lines than two bytes count
abbrev pub WordsAreHeard : Type 0
WordsAreHeard = (words : List Text) (asked : ListenWords) → IsAsked words (Listen asked)
    → length (ports_of asked.lines) ≤ 65535 → CanBeHeard asked

-- what they ask for is served
abbrev pub WordsAreServed : Type 0
WordsAreServed = (words : List Text) (asked : ServeWords) → IsAsked words (Serve asked)
    → CanBeServed asked

-- ---- the units that are heard
-- a unit is one of these
abbrev pub is_among : List ℕ → ℕ → Bool
is_among units unit = list_any (λ other. other == unit) units

-- each is heard once
abbrev pub UnitsAreApart : Type 0
UnitsAreApart = (asked : ListenWords) → are_apart (units_heard asked) ≡ true

-- and they are exactly those that are named, by themselves or with a server
abbrev pub UnitsAreNamed : Type 0
UnitsAreNamed = (asked : ListenWords) (unit : ℕ) → is_among (units_heard asked) unit
    ≡ (is_among asked.units.items unit || (is_among (units_of asked.servers.grp.items) unit
    || is_among (units_of asked.servers.spin.items) unit))

-- ---- the places of the units that are served
-- the lines of the unit at an index i are 3 i, 3 i + 1 and 3 i + 2: A, B, and the gap line
abbrev pub LinesStand : Type 0
LinesStand = (units : List UnitWords) (i : ℕ) (words : UnitWords) → slice_get units i ≡ Some words
    → (slice_get (lines_of units) (3 * i) ≡ Some (Some words.a))
    × ((slice_get (lines_of units) (3 * i + 1) ≡ Some words.b)
    × (slice_get (lines_of units) (3 * i + 2) ≡ Some words.gap))

-- its doors are 2 i and 2 i + 1: that of its proxy, and that of its Spin Server
abbrev pub DoorsStand : Type 0
DoorsStand = (units : List UnitWords) (i : ℕ) (words : UnitWords) → slice_get units i ≡ Some words
    → (slice_get (doors_of units) (2 * i) ≡ Some words.grp)
    × (slice_get (doors_of units) (2 * i + 1) ≡ Some words.spin)
