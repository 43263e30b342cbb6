-- What the units of a venue send, and on which lines.
use Rattle.std.specs.Prelude.{ℕ, ◌+◌, ◌*◌, List, [], ◌∷◌, slice_get}
use Rattle.std.specs.List.{flat_map}
use Rattle.std.specs.Option.{option_map_or}
use Rattle.venue_end.specs.Came.{VenueCame, on_gap_line, on_lines}
use Rattle.venue_end.specs.declared.setup.VenueSetup.{VenueSetup}
use Rattle.venue_units.specs.Coming.{UnitCame, state_at}

-- a datagram, and the line on which it is to be sent
pub record Sending : Type 0 where
  pub line : ℕ
  pub datagram : List ℕ

abbrev pub to_line : ℕ → List ℕ → Sending
to_line line datagram = record { line = line; datagram = datagram }

-- each unit has three lines, A, B and the gap line
abbrev pub lines_each : ℕ
lines_each = 3

abbrev pub line_a : ℕ → ℕ
line_a at = lines_each * at

abbrev pub line_b : ℕ → ℕ
line_b at = lines_each * at + 1

abbrev pub gap_line : ℕ → ℕ
gap_line at = lines_each * at + 2

-- datagrams of a unit go out on A and B, each on both before the next
abbrev pub on_both : ℕ → List (List ℕ) → List Sending
on_both at datagrams = flat_map
    (λ datagram. to_line (line_a at) datagram ∷ to_line (line_b at) datagram ∷ []) datagrams

-- or on the gap line
abbrev pub on_gap : ℕ → List (List ℕ) → List Sending
on_gap at datagrams = flat_map (λ datagram. to_line (gap_line at) datagram ∷ []) datagrams

-- what a unit's end hands out for its lines when this comes to it
abbrev pub lines_at : List VenueSetup → ℕ → VenueCame → List UnitCame → List (List ℕ)
lines_at s at came before =
    option_map_or (λ setup. on_lines setup came (state_at setup at before)) (slice_get s at) []

-- and for its gap line
abbrev pub gap_at : List VenueSetup → ℕ → VenueCame → List UnitCame → List (List ℕ)
gap_at s at came before =
    option_map_or (λ setup. on_gap_line setup came (state_at setup at before)) (slice_get s at) []
