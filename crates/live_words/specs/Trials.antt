-- What the words of `serve` ask for, where a venue is to try a handler: commands that it makes
-- itself, harm to what it sends, and a report.
use Rattle.std.specs.Prelude.{◌≡◌, ◌<◌, ◌-◌, ◌^◌, ◌==◌, ℕ, Bool, true, false, List, [], ◌∷◌}
use Rattle.std.specs.Prelude.{length, map, filter, Option, Some, None, codes, string_bytes}
use Rattle.std.specs.Prelude.{option_map}
use Rattle.std.specs.List.{position_or_len, before_first, after_first}
use Rattle.clap.specs.Walk.{Row, Rule, first_of}
use Rattle.long_options.specs.Words.{Text}
use Rattle.pitch_io.specs.declared.line.Line.{Line}
use Rattle.pitch_io.specs.declared.line.Line.TheVariants.{A, B, Gap}
use Rattle.pitch_words.specs.Numbers.{IsGivenMaybe, IsGivenOr, IsNumber}
use Rattle.live_words.specs.Options.{AreNamed, any_times, once, texts_of}
use Rattle.live_words.specs.declared.trial_words.PlanWords.{PlanWords}
use Rattle.live_words.specs.declared.trial_words.LineShare.{LineShare}
use Rattle.live_words.specs.declared.trial_words.ShareWords.{ShareWords}
use Rattle.live_words.specs.declared.trial_words.HarmWords.{HarmWords}
use Rattle.live_words.specs.declared.trial_words.TrialWords.{TrialWords}

-- ---- the words, as clap's builders are told of them
-- the options of the venue's own commands, of the harm, and of the report
abbrev pub plan_rules : List Rule
plan_rules = once (codes "plan") ∷ once (codes "count") ∷ once (codes "rate") ∷ []

abbrev pub harm_rules : List Rule
harm_rules = any_times (codes "lose") ∷ any_times (codes "repeat") ∷ any_times (codes "swap")
    ∷ once (codes "cut") ∷ once (codes "number") ∷ once (codes "report") ∷ []

-- ---- a venue's own commands
-- the most commands that a unit makes, and the most of them in a second, and how many there are
-- where nothing is said
abbrev pub most_commands : ℕ
most_commands = 1000000000

abbrev pub most_rate : ℕ
most_rate = 1000000

abbrev pub default_rate : ℕ
default_rate = 1000

-- a plan: its number and its count are given together, and a rate only with them
abbrev pub IsPlan : Option Text → Option Text → Option Text → Option PlanWords → Type 0
IsPlan (Some number) (Some count) rate (Some plan) = IsNumber 0 (2 ^ 64 - 1) number plan.number
    × IsNumber 1 most_commands count plan.count
    × IsGivenOr default_rate 1 most_rate rate plan.rate
IsPlan None None None None = Unit {0}
IsPlan number count rate plan = ⊥

-- ---- harm to what is sent
-- the name of a line
abbrev pub line_name : Line → Text
line_name A = codes "a"
line_name B = codes "b"
line_name Gap = codes "gap"

-- a line's share of a hundred: its name before the first `:`, which is 58, and the share behind it
abbrev pub is_colon : ℕ → Bool
is_colon byte = byte == 58

pub record IsShareText (text : Text) (of : LineShare) : Type 0 where
  pub has_colon : position_or_len is_colon text < length text
  pub line : before_first is_colon text ≡ line_name of.line
  pub share : IsNumber 0 100 (after_first is_colon text) of.share

-- a share is of this line
abbrev pub is_line : Line → Line → Bool
is_line A A = true
is_line B B = true
is_line Gap Gap = true
is_line line other = false

abbrev pub is_share_of : Line → LineShare → Bool
is_share_of line of = is_line line of.line

-- the one share, 0 where there is none, and nothing where there are two
abbrev pub one_share : List ℕ → Option ℕ
one_share [] = Some 0
one_share (share ∷ []) = Some share
one_share shares = None

-- the share that is given of a line
abbrev pub share_of : Line → List LineShare → Option ℕ
share_of line given = one_share (map (λ of. of.share) (filter (is_share_of line) given))

-- these are the shares of the lines, of each of which one is given at most
pub record HaveShares (given : List LineShare) (shares : ShareWords) : Type 0 where
  pub a : share_of A given ≡ Some shares.a
  pub b : share_of B given ≡ Some shares.b
  pub gap : share_of Gap given ≡ Some shares.gap

-- the texts give these shares
pub record AreShares (texts : List Text) (shares : ShareWords) : Type 0 where
  pub given : List LineShare
  pub named : AreNamed IsShareText texts given
  pub are : HaveShares given shares

-- the options name this harm, which is chosen by the number 1 where none is given
pub record IsHarm (rows : List Row) (harm : HarmWords) : Type 0 where
  pub number : IsGivenOr 1 0 (2 ^ 64 - 1) (first_of (codes "number") rows) harm.number
  pub lose : AreShares (texts_of (codes "lose") rows) harm.lose
  pub repeat : AreShares (texts_of (codes "repeat") rows) harm.repeat
  pub swap : AreShares (texts_of (codes "swap") rows) harm.swap
  pub cut : IsGivenMaybe 1 (2 ^ 64 - 1) (first_of (codes "cut") rows) harm.cut

-- the options of `serve` that are to try a handler ask for this; a file's name is any text
pub record IsTrial (rows : List Row) (trial : TrialWords) : Type 0 where
  pub plan : IsPlan (first_of (codes "plan") rows) (first_of (codes "count") rows)
      (first_of (codes "rate") rows) trial.plan
  pub harm : IsHarm rows trial.harm
  pub report : option_map string_bytes trial.report ≡ first_of (codes "report") rows
