-- Units that have ended. A history stands newest first, and so does what came.
use Rattle.std.specs.Prelude.{ℕ, ◌==◌, Bool, false, ◌&&◌, List, [], ◌∷◌, nat_le, if◌then◌else◌}
use Rattle.std.specs.List.{list_all, list_any}
use Rattle.pitch_messages.specs.Raw.{kind_of}
use Rattle.pitch_messages.specs.Reading.{end_of_session_row}
use Rattle.pitch_model.specs.History.{Entry, Raw, Message}
use Rattle.pitch_model.specs.Reach.{reach}
use Rattle.live_units.specs.Coming.{LiveSetup, UnitCame, has_unit, history_at}

-- a raw of the type of an End of Session message
abbrev pub is_end : Raw → Bool
is_end raw = kind_of raw == end_of_session_row.kind

-- the sequences of those that a history has, with one more entry
abbrev pub with_end : Entry → List ℕ → List ℕ
with_end (Message sequence raw) ends = if is_end raw then sequence ∷ ends else ends
with_end entry ends = ends

abbrev pub ends_of : List Entry → List ℕ
ends_of [] = []
ends_of (entry ∷ E) = with_end entry (ends_of E)

-- one of them came that is not above the reach
abbrev pub is_ended : ℕ → List Entry → Bool
is_ended H E = list_any (λ sequence. nat_le sequence (reach H E)) (ends_of E)

-- a unit that is listened to has ended, by what its client heard
abbrev pub has_ended : LiveSetup → ℕ → List UnitCame → Bool
has_ended s unit came = has_unit s unit && is_ended s.hold (history_at s unit came)

-- each of some units has ended, and there are any
abbrev pub have_ended : LiveSetup → List ℕ → List UnitCame → Bool
have_ended s [] came = false
have_ended s (unit ∷ units) came = list_all (λ unit. has_ended s unit came) (unit ∷ units)
