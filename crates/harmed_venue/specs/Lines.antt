-- What is done to the datagrams of a line.
use Rattle.std.specs.Prelude.{ℕ, zero, suc, ◌+◌, ◌/◌, ◌%◌, ◌^◌, ◌==◌, nat_lt, nat_le, Bool, ◌&&◌}
use Rattle.std.specs.Prelude.{List, [], ◌∷◌, ◌++◌, length, map, reverse, is_none}
use Rattle.std.specs.Prelude.{Option, None, Some, if◌then◌else◌}
use Rattle.rand_xoshiro.specs.SplitMix64.{mix_u64}
use Rattle.venue_net.specs.VenueCalls.{VenueCall, Send}
use Rattle.harmed_venue.specs.declared.fate.Fate.{Fate}
use Rattle.harmed_venue.specs.declared.fate.Fate.TheVariants.{Lost, Late, Twice, Once}
use Rattle.harmed_venue.specs.declared.harm.Harm.{Harm}
use Rattle.harmed_venue.specs.declared.harm.Shares.{Shares}

-- how many bytes a datagram has at most that is held back, as many as one over UDP has at most
abbrev pub longest_held : ℕ
longest_held = 65507

-- ---- A line
-- its number, its shares of a hundred, where its draws stand, and the datagram that is held back
pub record LineNow : Type 0 where
  pub number : ℕ
  pub lose : ℕ
  pub repeat : ℕ
  pub swap : ℕ
  pub draws : ℕ
  pub held : Option (List ℕ)

-- a draw of SplitMix64 (Steele, Lea and Flood): a word of 64 bits, and where the draws stand then
unfoldable pub drawn : ℕ → ℕ × ℕ
drawn draws = mix_u64 draws

-- a datagram is chosen by one draw: two digits of it for each share, the lowest for losses
abbrev pub is_lost : LineNow → Bool
is_lost line = nat_lt ((drawn line.draws).0 % 100) line.lose

abbrev pub is_repeated : LineNow → Bool
is_repeated line = nat_lt ((drawn line.draws).0 / 100 % 100) line.repeat

abbrev pub is_swapped : LineNow → Bool
is_swapped line = nat_lt ((drawn line.draws).0 / 10000 % 100) line.swap

-- one that is swapped is held back, where it isn't too long and no other is
abbrev pub is_late : LineNow → List ℕ → Bool
is_late line datagram =
    is_swapped line && (nat_le (length datagram) longest_held && is_none line.held)

-- it goes out never, behind the next one, twice or once
abbrev pub fate_of : LineNow → List ℕ → Fate
fate_of line datagram =
    if is_lost line then Lost else
    (if is_late line datagram then Late else (if is_repeated line then Twice else Once))

-- how it goes out now
abbrev pub copies : Fate → List ℕ → List (List ℕ)
copies Lost datagram = []
copies Late datagram = []
copies Twice datagram = datagram ∷ datagram ∷ []
copies Once datagram = datagram ∷ []

abbrev pub kept_by : Fate → List ℕ → Option (List ℕ)
kept_by Late datagram = Some datagram
kept_by other datagram = None

abbrev pub held_back : Option (List ℕ) → List (List ℕ)
held_back None = []
held_back (Some datagram) = datagram ∷ []

-- what goes out where a datagram is sent: it, and behind it what was held back
abbrev pub goes_out : LineNow → List ℕ → List (List ℕ)
goes_out line datagram = copies (fate_of line datagram) datagram ++ held_back line.held

-- how that leaves the line
abbrev pub after_send : List ℕ → LineNow → LineNow
after_send datagram line = record line {
  draws = (drawn line.draws).1;
  held = kept_by (fate_of line datagram) datagram;
}

-- what was held back has gone out
abbrev pub let_go : LineNow → LineNow
let_go line = record line { held = None }

-- the calls that send some datagrams on a line one after another, the newest first
abbrev pub sendings : LineNow → List (List ℕ) → List VenueCall
sendings line datagrams = reverse (map (λ datagram. Send line.number datagram) datagrams)

-- ---- At first
-- the lines go round: A, B and the gap line of a unit, and then those of the next
abbrev pub share_of : Shares → ℕ → ℕ
share_of shares line =
    if line % 3 == 0 then shares.a else (if line % 3 == 1 then shares.b else shares.gap)

-- each line has draws of its own
abbrev pub line_at_first : Harm → ℕ → LineNow
line_at_first harm line = record {
  number = line;
  lose = share_of harm.lose line;
  repeat = share_of harm.repeat line;
  swap = share_of harm.swap line;
  draws = (harm.number + line) % 2 ^ 64;
  held = None;
}

abbrev pub lines_at_first : Harm → ℕ → List LineNow
lines_at_first harm zero = []
lines_at_first harm (suc line) = lines_at_first harm line ++ line_at_first harm line ∷ []
