-- What the words of `serve` ask for.
use Rattle.std.specs.Prelude.{◌≡◌, ◌-◌, ◌^◌, ◌++◌, ◌==◌, ◌&&◌, ℕ, Bool, true, not, List, []}
use Rattle.std.specs.Prelude.{◌∷◌, length, map, find, nat_lt, Option, codes, is_some, option_map}
use Rattle.std.specs.List.{list_all, list_any}
use Rattle.std.specs.declared.net.socket_addr.SocketAddr.{SocketAddr}
use Rattle.clap.specs.Simple.{Shape}
use Rattle.clap.specs.Walk.{Row, Rule, first_of}
use Rattle.pitch_text.specs.Defaults.{default_kept, default_second, default_minute, default_day}
use Rattle.pitch_words.specs.Numbers.{IsGivenMaybe, IsGivenOr}
use Rattle.live_words.specs.Options.{any_times, once, server_rules, command_with}
use Rattle.live_words.specs.Options.{AreNamed, IsAccount, IsServerText, texts_of, units_of}
use Rattle.live_words.specs.Options.{are_apart, can_ask}
use Rattle.live_words.specs.Trials.{IsTrial, harm_rules, plan_rules}
use Rattle.live_words.specs.declared.listen_words.Server.{Server}
use Rattle.live_words.specs.declared.serve_words.Places.{Places}
use Rattle.live_words.specs.declared.serve_words.UnitWords.{UnitWords}
use Rattle.live_words.specs.declared.serve_words.ServeWords.{ServeWords}

-- ---- the words, as clap's builders are told of them
-- the options of the lines, of what each proxy keeps and accepts, and of the end
abbrev pub target_rules : List Rule
target_rules = any_times (codes "a") ∷ any_times (codes "b") ∷ any_times (codes "gap") ∷ []

abbrev pub limit_rules : List Rule
limit_rules = once (codes "kept") ∷ once (codes "second") ∷ once (codes "minute")
    ∷ once (codes "day") ∷ []

abbrev pub end_rules : List Rule
end_rules = once (codes "seconds") ∷ once (codes "after") ∷ []

-- `serve` with these options
abbrev pub serve_with : List Rule → Shape
serve_with rules = command_with (codes "serve") rules

abbrev pub serve_shape : Shape
serve_shape = serve_with (target_rules ++ server_rules ++ limit_rules ++ end_rules ++ plan_rules
    ++ harm_rules)

-- ---- what they ask for
-- the most units that are served, the most messages that a proxy keeps, and the most requests that
-- it may accept in a second, in a minute or in a day
abbrev pub most_served : ℕ
most_served = 64

abbrev pub most_kept : ℕ
most_kept = 65536

abbrev pub most_accepted : ℕ
most_accepted = 1000000

-- the options name these places: where a unit's lines are sent, and where its servers listen
pub record ArePlaces (rows : List Row) (places : Places) : Type 0 where
  pub a : AreNamed IsServerText (texts_of (codes "a") rows) places.a.items
  pub b : AreNamed IsServerText (texts_of (codes "b") rows) places.b.items
  pub gap : AreNamed IsServerText (texts_of (codes "gap") rows) places.gap.items
  pub grp : AreNamed IsServerText (texts_of (codes "grp") rows) places.grp.items
  pub spin : AreNamed IsServerText (texts_of (codes "spin") rows) places.spin.items

-- these units can be served: they are 1 to 64, each once
abbrev pub are_served : List ℕ → Bool
are_served units =
    not (length units == 0) && (not (nat_lt most_served (length units)) && are_apart units)

-- each of these units is one of those that are served
abbrev pub are_among : List ℕ → List ℕ → Bool
are_among served units = list_all (λ unit. list_any (λ other. other == unit) served) units

-- places of these units can be served: the units are those with a line A, each has at most one
-- place of a kind, and there is an account where there is a server
abbrev pub can_serve : List ℕ → List ℕ → List ℕ → List ℕ → List ℕ → Bool → Bool
can_serve a b gap grp spin has_account = are_served a && ((are_apart b && are_among a b)
    && ((are_apart gap && are_among a gap)
    && (can_ask grp spin has_account && (are_among a grp && are_among a spin))))

-- where the place of a unit is, if it has one
abbrev pub addr_of : List Server → ℕ → Option SocketAddr
addr_of places unit = option_map (λ place. place.addr) (find (λ place. place.unit == unit) places)

-- the unit of a line A, with its places
abbrev pub unit_of : Places → Server → UnitWords
unit_of places line = record {
  unit = line.unit;
  a = line.addr;
  b = addr_of places.b.items line.unit;
  gap = addr_of places.gap.items line.unit;
  grp = addr_of places.grp.items line.unit;
  spin = addr_of places.spin.items line.unit;
}

-- the units that are served, in the order of their lines A
abbrev pub units_at : Places → List UnitWords
units_at places = map (unit_of places) places.a.items

-- the options name these units, and their places can be served
pub record AreUnits (rows : List Row) (has_account : Bool) (units : List UnitWords) : Type 0 where
  pub places : Places
  pub named : ArePlaces rows places
  pub serves : can_serve (units_of places.a.items) (units_of places.b.items)
      (units_of places.gap.items) (units_of places.grp.items) (units_of places.spin.items)
      has_account ≡ true
  pub are : units ≡ units_at places

-- the options of `serve` ask for this
pub record AreServed (rows : List Row) (asked : ServeWords) : Type 0 where
  pub units : AreUnits rows (is_some asked.account) asked.units.items
  pub account : IsAccount (first_of (codes "sub") rows) (first_of (codes "user") rows)
      (first_of (codes "password") rows) asked.account
  pub kept : IsGivenOr default_kept 1 most_kept (first_of (codes "kept") rows) asked.kept
  pub second : IsGivenOr default_second 1 most_accepted (first_of (codes "second") rows)
      asked.second
  pub minute : IsGivenOr default_minute 1 most_accepted (first_of (codes "minute") rows)
      asked.minute
  pub day : IsGivenOr default_day 1 most_accepted (first_of (codes "day") rows) asked.day
  pub seconds : IsGivenMaybe 0 (2 ^ 64 - 1) (first_of (codes "seconds") rows) asked.seconds
  pub after : IsGivenMaybe 0 (2 ^ 64 - 1) (first_of (codes "after") rows) asked.after
  pub trial : IsTrial rows asked.trial
