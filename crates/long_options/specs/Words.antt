-- The words of a command line: a command's name, and then its options in any order.
use Rattle.std.specs.Prelude.{◌≡◌, ◌⊎◌, ◌++◌, ◌&&◌, ℕ, Bool, true, false, not, List, [], ◌∷◌}
use Rattle.std.specs.Prelude.{Option, Some, None, find, is_some, option_and_then, ⊤}
use Rattle.std.specs.List.{list_any}
use Rattle.std.specs.Str.{bytes_eq}

-- a text as its bytes
abbrev pub Text : Type 0
Text = List ℕ

-- an option as it was given: its name, and its value if it has one
abbrev pub Given : Type 0
Given = Text × Option Text

-- an option that a command has: its name, whether it must be there, and whether it takes no value
abbrev pub Listed : Type 0
Listed = Text × Bool × Bool

-- a command: its name, and its options
abbrev pub Described : Type 0
Described = Text × List Listed

-- an option with a value that may be left out, one that must be there, and one without a value
abbrev pub may_have : Text → Listed
may_have name = (name, false, false)

abbrev pub must_have : Text → Listed
must_have name = (name, true, false)

abbrev pub may_set : Text → Listed
may_set name = (name, false, true)

-- `--name`
abbrev pub long_flag : Text → Text
long_flag name = 45 ∷ 45 ∷ name

-- a value that may be a word of its own: if it begins with a hyphen (45), it is that hyphen alone
abbrev pub IsApart : Text → Type 0
IsApart value = (rest : Text) → value ≡ 45 ∷ rest → rest ≡ []

-- the words begin with the option, as `--name value`, as `--name=value`, or as `--name` alone; 61
-- is `=`
abbrev pub IsWritten : Text → Option Text → List Text → List Text → Type 0
IsWritten name (Some value) words rest =
    ((words ≡ long_flag name ∷ value ∷ rest) × IsApart value)
    ⊎ (words ≡ (long_flag name ++ 61 ∷ value) ∷ rest)
IsWritten name None words rest = words ≡ long_flag name ∷ rest

-- the words write these options in this order
abbrev pub Writes : List Given → List Text → Type 0
Writes [] words = words ≡ []
Writes (g ∷ more) words = (rest : List Text) × Writes more rest × IsWritten g.0 g.1 words rest

-- an option of this name was given
abbrev pub has_name : Text → List Given → Bool
has_name name given = list_any (λ g. bytes_eq g.0 name) given

-- the value of the option of this name, where it was given one
abbrev pub value_of : Text → List Given → Option Text
value_of name given = option_and_then (λ g. g.1) (find (λ g. bytes_eq g.0 name) given)

-- no option of `more` has the name of one before it, or of one of `before`
abbrev pub Once : List Given → List Given → Type 0
Once before [] = ⊤
Once before (g ∷ more) = (has_name g.0 before ≡ false) × Once (before ++ g ∷ []) more

-- the option of this name that a command has
abbrev pub listed : List Listed → Text → Option Listed
listed options name = find (λ o. bytes_eq o.0 name) options

-- each option given is one that the command has, and has a value if that takes one
abbrev pub AreListed : List Listed → List Given → Type 0
AreListed options [] = ⊤
AreListed options (g ∷ more) =
    ((o : Listed) × (listed options g.0 ≡ Some o) × (o.2 ≡ not (is_some g.1)))
    × AreListed options more

-- an option that must be there was not given
abbrev pub lacks_one : List Listed → List Given → Bool
lacks_one options given = list_any (λ o. o.1 && not (has_name o.0 given)) options

-- the words are options of these, each at most once, and all that must be there
pub record AreOptions (options : List Listed) (words : List Text) (given : List Given) :
    Type 0 where
  pub writes : Writes given words
  pub once : Once [] given
  pub are_listed : AreListed options given
  pub whole : lacks_one options given ≡ false

-- the words are the command's name, and then its options
pub record IsCall (c : Described) (words : List Text) (given : List Given) : Type 0 where
  pub rest : List Text
  pub words_are : words ≡ c.0 ∷ rest
  pub options : AreOptions c.1 rest given
