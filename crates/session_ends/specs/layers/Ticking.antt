-- What an end's silence and its ticks come to.
use Rattle.std.specs.Prelude.{ℕ, ◌+◌, true, false, ◌||◌, nat_le, List, [], length, Option, None}
use Rattle.std.specs.Prelude.{Some, is_some, if◌then◌else◌}
use Rattle.unit_packets.specs.Causes.{counted}
use Rattle.session_ends.specs.declared.closed.Closed.{Closed}
use Rattle.session_ends.specs.declared.closed.CloseCause.TheVariants.{Silent}
use Rattle.session_ends.specs.declared.role.Role.{Role}
use Rattle.session_ends.specs.Closing.{Setup, or_else}
use Rattle.session_ends.specs.Items.{closed_at}
use Rattle.session_ends.specs.Sending.{some_bytes, heartbeat_bytes, header_unit, begins_with_login}
use Rattle.session_ends.specs.Ending.{Known}

-- nothing happened yet
abbrev pub nothing_known : Role → Known
nothing_known role = record {
  fed = [];
  logged = false;
  closed = None;
  quiet = true;
  silence = 0;
  sent = begins_with_login role;
}

-- ---- Ticks, the same at every end
abbrev pub silence_then : Known → ℕ
silence_then k = if k.quiet then k.silence + 1 else 0

abbrev pub closes_at_tick : Known → Option Closed
closes_at_tick k =
    if nat_le 5 (silence_then k) then Some (closed_at Silent (counted (length k.fed))) else None

abbrev pub known_ticked : Known → Known
known_ticked k = record {
  fed = k.fed;
  logged = k.logged;
  closed = or_else k.closed (closes_at_tick k);
  quiet = true;
  silence = silence_then k;
  sent = false;
}

abbrev pub tick_bytes : Setup → Known → List ℕ
tick_bytes s k =
    if is_some (or_else k.closed (closes_at_tick k)) then []
    else if k.sent then []
    else heartbeat_bytes (header_unit s.role s.unit)

-- ---- What is sent at an event that is neither a tick nor a feeding
abbrev pub sending : Known → List ℕ → Known
sending k bytes = record k { sent = some_bytes bytes || k.sent }
