-- How many requests are accepted (all of this is this project's own).
use Rattle.std.specs.Prelude.{◌≡◌, ℕ, ◌+◌, ◌/◌, ◌%◌, ◌≤◌, ◌==◌, nat_le, List, suc, [], ◌∷◌, length}
use Rattle.std.specs.Prelude.{Bool, Option, None, Some, if◌then◌else◌}
use Rattle.std.specs.List.{AllByRecursion}

-- how many pass the test
abbrev pub how_many : (ℕ → Bool) → List ℕ → ℕ
how_many test [] = 0
how_many test (t ∷ ts) = if test t then suc (how_many test ts) else how_many test ts

-- how many ticks there were, and the ticks at which requests were accepted, the newest first
pub record Spent : Type 0 where
  pub now : ℕ
  pub accepted : List ℕ

-- how many are accepted at most: at one tick, in one minute, and in all
pub record Limits : Type 0 where
  pub second : ℕ
  pub minute : ℕ
  pub day : ℕ

-- how many were accepted at this tick, and in this minute of 60 ticks
abbrev pub this_second : Spent → ℕ
this_second s = how_many (λ tick. tick == s.now) s.accepted

abbrev pub this_minute : Spent → ℕ
this_minute s = how_many (λ tick. tick / 60 == s.now / 60) s.accepted

-- why no request is accepted now, as a status: `D`, `M` or `S`
abbrev pub limit_reached : Limits → Spent → Option ℕ
limit_reached l s =
    if nat_le l.day (length s.accepted) then Some 68
    else if nat_le l.minute (this_minute s) then Some 77
    else if nat_le l.second (this_second s) then Some 83
    else None

-- a tick passes; a request is accepted
abbrev pub next_second : Spent → Spent
next_second s = record { now = s.now + 1; accepted = s.accepted }

abbrev pub spending : Spent → Spent
spending s = record { now = s.now; accepted = s.now ∷ s.accepted }

-- what a budget keeps: its limits, how far it is in its minute, and three counts
pub record Counts : Type 0 where
  pub limits : Limits
  pub phase : ℕ
  pub second : ℕ
  pub minute : ℕ
  pub day : ℕ

-- no request was accepted at a tick to come
abbrev pub IsPast : Spent → Type 0
IsPast s = AllByRecursion (λ tick. tick ≤ s.now) s.accepted

-- the counts are those of the ticks
pub record Counted (c : Counts) (s : Spent) : Type 0 where
  pub phase : c.phase ≡ s.now % 60
  pub second : c.second ≡ this_second s
  pub minute : c.minute ≡ this_minute s
  pub day : c.day ≡ length s.accepted
  pub past : IsPast s
