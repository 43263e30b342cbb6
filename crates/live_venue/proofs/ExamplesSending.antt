-- Worked examples of what the units of a venue send, computed by the definitions. What came stands
-- newest first.
use Rattle.std.proofs.Common.{◌≡◌, ℕ, List, [], ◌∷◌, refl}
use Rattle.std.specs.Prelude.{codes}
use Rattle.pitch_text.specs.declared.command.Command.TheVariants.{Time}
use Rattle.pitch_messages.specs.Reading.{reads}
use Rattle.pitch_messages.specs.Writing.{written}
use Rattle.unit_packets.specs.BlockBytes.{block_bytes}
use Rattle.unit_packets.specs.Packing.{fits_datagram, packed_on}
use Rattle.venue_end.specs.Came.{Commanded, Flushed, ProxyTook, SpinCut}
use Rattle.venue_end.specs.declared.setup.VenueSetup.{VenueSetup}
use Rattle.venue_units.specs.Coming.{UnitCame, to_unit}
use Rattle.live_venue.specs.Running.{Now, at_first, beaten, flushed, left, took}
use Rattle.live_venue.specs.Sending.{gap_line, line_a, line_b, on_both, on_gap, to_line}

-- ---- Lines
-- those of the third unit
of_the_third : (line_a 2 ∷ line_b 2 ∷ gap_line 2 ∷ []) ≡ 6 ∷ 7 ∷ 8 ∷ []
of_the_third = refl

-- each datagram goes out on A and B before the next
two_on_both : on_both 2 ((1 ∷ []) ∷ (2 ∷ 3 ∷ []) ∷ []) ≡ to_line 6 (1 ∷ []) ∷ to_line 7 (1 ∷ []) ∷ to_line 6 (2 ∷ 3 ∷ []) ∷ to_line 7 (2 ∷ 3 ∷ []) ∷ []
two_on_both = refl

two_on_gap : on_gap 1 ((1 ∷ []) ∷ (2 ∷ 3 ∷ []) ∷ []) ≡ to_line 5 (1 ∷ []) ∷ to_line 5 (2 ∷ 3 ∷ []) ∷ []
two_on_gap = refl

-- ---- Units 7 and 9, with the indexes 0 and 1
abbrev made_for : ℕ → VenueSetup
made_for unit = record {
  unit = unit;
  account = record { sub = codes "0001"; user = codes "FEED"; password = codes "PITCH     " };
  kept = 3;
  second = 1;
  minute = 5;
  day = 6;
}

abbrev both : List VenueSetup
both = made_for 7 ∷ made_for 9 ∷ []

-- this came to them
abbrev by : List UnitCame → Now
by came = record at_first { came = came }

-- the datagram of a unit's first message, which tells a second
abbrev first_of : ℕ → ℕ → List ℕ
first_of unit n = 14 ∷ 0 ∷ 1 ∷ unit ∷ 1 ∷ 0 ∷ 0 ∷ 0 ∷ 6 ∷ 0x20 ∷ n ∷ 0 ∷ 0 ∷ 0 ∷ []

abbrev heartbeat : ℕ → ℕ → List ℕ
heartbeat unit sequence = 8 ∷ 0 ∷ 0 ∷ unit ∷ sequence ∷ 0 ∷ 0 ∷ 0 ∷ []

-- what each accepted is sent, the units by their indexes
abbrev commanded : List UnitCame
commanded = to_unit 0 (Commanded (Time 33)) ∷ to_unit 1 (Commanded (Time 34)) ∷ []

a_flush : flushed both 2 (by commanded) ≡ record (by (to_unit 1 Flushed ∷ to_unit 0 Flushed ∷ commanded)) {
  unsent = to_line 0 (first_of 7 33) ∷ to_line 1 (first_of 7 33) ∷ to_line 3 (first_of 9 34) ∷ to_line 4 (first_of 9 34) ∷ [];
}
unfolding reads written block_bytes fits_datagram packed_on
a_flush = refl

-- a heartbeat of each tells the first sequence that the unit did not send
abbrev one_sent : List UnitCame
one_sent = to_unit 1 Flushed ∷ to_unit 1 (Commanded (Time 34)) ∷ []

two_beats : beaten both 2 (by one_sent) ≡ record (by one_sent) {
  unsent = to_line 0 (heartbeat 7 1) ∷ to_line 1 (heartbeat 7 1) ∷ to_line 3 (heartbeat 9 2) ∷ to_line 4 (heartbeat 9 2) ∷ [];
}
unfolding reads written block_bytes fits_datagram packed_on
two_beats = refl

-- ---- Clients
-- nothing is sent for bytes at a place where none stands, or of a unit that is not there; what came
-- to the units is told of them
no_range : took both 130 (7 ∷ []) (by commanded) ≡ by (to_unit 1 (ProxyTook 130 (7 ∷ [])) ∷ commanded)
unfolding reads written
no_range = refl

no_unit : took both 258 (7 ∷ []) (by commanded) ≡ by (to_unit 2 (ProxyTook 258 (7 ∷ [])) ∷ commanded)
no_unit = refl

-- one that ends is cut, of the Spin Server of unit 9
an_end : left 200 (by []) ≡ by (to_unit 1 (SpinCut 200) ∷ [])
an_end = refl
