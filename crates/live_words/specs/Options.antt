-- The options that the commands share, and what they name.
use Rattle.std.specs.Prelude.{◌≡◌, ◌<◌, ◌≤◌, ◌+◌, ◌-◌, ◌++◌, ◌==◌, ◌&&◌, ◌||◌, ℕ, Bool}
use Rattle.std.specs.Prelude.{true, not, List, [], ◌∷◌, length, map, replicate}
use Rattle.std.specs.Prelude.{Option, Some, None, codes, unwrap_or}
use Rattle.std.specs.List.{list_any, position_or_len, before_first, after_first}
use Rattle.std.specs.Net.Grammar.{IsSocketText}
use Rattle.clap.specs.Simple.{Shape}
use Rattle.clap.specs.Walk.{Row, Rule, all_of}
use Rattle.clap.specs.declared.builder.action.ArgAction.TheVariants.{Append}
use Rattle.long_options.specs.Words.{Text, may_have}
use Rattle.long_options.specs.Apps.{command_shape, option_rule}
use Rattle.pitch_words.specs.Numbers.{IsNumber}
use Rattle.session_ends.specs.declared.account.Account.{Account}
use Rattle.live_words.specs.declared.listen_words.Server.{Server}

-- ---- the words, as clap's builders are told of them
-- an option `--name` with a value, any number of times
abbrev pub any_times : Text → Rule
any_times name = record (option_rule (may_have name)) { action = Some Append }

-- an option `--name` with a value, once at most
abbrev pub once : Text → Rule
once name = option_rule (may_have name)

-- the options of the servers, and of their account
abbrev pub server_rules : List Rule
server_rules = any_times (codes "grp") ∷ any_times (codes "spin") ∷ once (codes "sub")
    ∷ once (codes "user") ∷ once (codes "password") ∷ []

-- a command of this name with these options
abbrev pub command_with : Text → List Rule → Shape
command_with name rules = record (command_shape (name, [])) { rules = rules }

-- ---- what they name
-- a server of a unit: the unit before the first `@`, which is 64, and behind it a socket address
abbrev pub is_at : ℕ → Bool
is_at byte = byte == 64

pub record IsServerText (text : Text) (server : Server) : Type 0 where
  pub has_at : position_or_len is_at text < length text
  pub unit : IsNumber 1 255 (before_first is_at text) server.unit
  pub addr : IsSocketText (after_first is_at text) server.addr

-- a word of a login: 1 to so many bytes, and spaces after them up to its length
abbrev pub IsLoginWord : ℕ → Text → List ℕ → Type 0
IsLoginWord most text word = (1 ≤ length text) × (length text ≤ most)
    × (word ≡ text ++ replicate (most - length text) 32)

-- an account: its three words are given, or none of them is
abbrev pub IsAccount : Option Text → Option Text → Option Text → Option Account → Type 0
IsAccount (Some sub) (Some user) (Some password) (Some account) = IsLoginWord 4 sub account.sub
    × IsLoginWord 4 user account.user × IsLoginWord 10 password account.password
IsAccount None None None None = Unit {0}
IsAccount sub user password account = ⊥

-- the texts name these, each the one at its place
abbrev pub AreNamed : {A : Type 0} → (Text → A → Type 0) → List Text → List A → Type 0
AreNamed Names [] [] = Unit {0}
AreNamed Names (text ∷ texts) (x ∷ xs) = Names text x × AreNamed Names texts xs
AreNamed Names texts xs = ⊥

-- the texts of an option that may be given several times
abbrev pub texts_of : Text → List Row → List Text
texts_of name rows = unwrap_or (all_of name rows) []

-- none of these units is there twice
abbrev pub are_apart : List ℕ → Bool
are_apart [] = true
are_apart (unit ∷ others) = not (list_any (λ other. other == unit) others) && are_apart others

-- servers of these units can be asked: each unit has one of a kind at most, and there is an account
-- where there is any
abbrev pub can_ask : List ℕ → List ℕ → Bool → Bool
can_ask grp spin has_account = are_apart grp
    && (are_apart spin && (has_account || length grp + length spin == 0))

abbrev pub units_of : List Server → List ℕ
units_of servers = map (λ server. server.unit) servers
