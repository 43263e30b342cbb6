-- A harmed net, and the net below it.
use Rattle.std.specs.Prelude.{◌≡◌, ◌⊎◌, ℕ, ◌++◌, List, slice_get, Contains, Option, None, Some}
use Rattle.std.specs.List.{AllByRecursion}
use Rattle.venue_net.specs.VenueCalls.{VenueCall, Send}
use Rattle.harmed_venue.specs.declared.harm.Harm.{Harm}
use Rattle.harmed_venue.specs.declared.harm.Shares.{Shares}
use Rattle.harmed_venue.specs.Harmed.{harmed, lines_left}
use Rattle.harmed_venue.specs.Lines.{LineNow}

-- where a net lists its calls, they are these
abbrev pub Lists : List VenueCall → Option (List VenueCall) → Type 0
Lists calls None = Unit {0}
Lists calls (Some listed) = listed ≡ calls

-- these calls were made of a net, whatever was before
abbrev pub Makes : Option (List VenueCall) → Option (List VenueCall) → List VenueCall → Type 0
Makes old new run = (before : List VenueCall) → Lists before old → Lists (run ++ before) new

-- how it harms, the calls that were made of it, and the net below it
pub record HarmedNet (N : Type 0) : Type 0 where
  pub harm : Harm
  pub calls : List VenueCall
  pub net : N

-- ---- No harm
abbrev pub no_shares : Shares
no_shares = record { a = 0; b = 0; gap = 0 }

-- nothing is lost, repeated or swapped, and no connection is cut
pub record IsHarmless (harm : Harm) : Type 0 where
  pub none_lost : harm.lose ≡ no_shares
  pub none_twice : harm.repeat ≡ no_shares
  pub none_late : harm.swap ≡ no_shares
  pub no_cut : harm.cut ≡ None

-- ---- Laws
-- then each call is passed on as it is
abbrev pub PassesOn : Harm → Type 0
PassesOn harm = IsHarmless harm → (calls : List VenueCall) → harmed harm calls ≡ calls

-- a datagram that goes out on a line is among those that were sent on it
abbrev pub WasSent : List VenueCall → VenueCall → Type 0
WasSent calls (Send line datagram) = Contains calls (Send line datagram)
WasSent calls call = Unit {0}

-- so is each: nothing is made up, and nothing is altered
abbrev pub MakesNothingUp : Harm → Type 0
MakesNothingUp harm =
    (calls : List VenueCall) → AllByRecursion (WasSent calls) (harmed harm calls)

-- a datagram is held back on a line
abbrev pub IsHeld : List LineNow → ℕ → List ℕ → Type 0
IsHeld lines line datagram =
    (l : LineNow) × ((slice_get lines line ≡ Some l) × (l.held ≡ Some datagram))

-- one that was sent on a line has gone out on it, or is held back there
abbrev pub HasGone : Harm → List VenueCall → ℕ → List ℕ → Type 0
HasGone harm calls line datagram = Contains (harmed harm calls) (Send line datagram)
    ⊎ IsHeld (lines_left harm calls) line datagram

abbrev pub IsOut : Harm → List VenueCall → VenueCall → Type 0
IsOut harm calls (Send line datagram) = HasGone harm calls line datagram
IsOut harm calls call = Unit {0}

-- so is each, where no share of them is lost
abbrev pub LosesNothing : Harm → Type 0
LosesNothing harm = harm.lose ≡ no_shares
    → (calls : List VenueCall) → AllByRecursion (IsOut harm calls) calls
