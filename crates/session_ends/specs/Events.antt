-- What happens at an end of a session. A list of events has the newest first.
use Rattle.std.specs.Prelude.{ℕ, ◌+◌, Bool, true, ◌&&◌, ◌==◌, List, [], ◌∷◌, ◌++◌, length}
use Rattle.std.specs.Prelude.{if◌then◌else◌}
use Rattle.pitch_messages.specs.declared.session.SessionMessage.{SessionMessage}

pub data Event (X : Type 0) : Type 0 where
  -- bytes come in; beside them stands what the end could look up meanwhile
  Fed : (bytes : List ℕ) → (seen : X) → Event X
  -- a second passes
  Ticked : Event X
  -- a link sends a request
  Asked : (request : SessionMessage) → Event X
  -- a spin server is asked for the next block of its image
  Pumped : Event X
  -- a spin server is told of a sequence that was advertised
  Told : (sequence : ℕ) → Event X

-- the bytes that were fed, joined
abbrev pub fed_of : {X : Type 0} → List (Event X) → List ℕ
fed_of [] = []
fed_of (Fed bytes seen ∷ before) = fed_of before ++ bytes
fed_of (event ∷ before) = fed_of before

-- no byte was fed since the last tick, or since the making
abbrev pub is_quiet : {X : Type 0} → List (Event X) → Bool
is_quiet [] = true
is_quiet (Fed bytes seen ∷ before) = (length bytes == 0) && is_quiet before
is_quiet (Ticked ∷ before) = true
is_quiet (event ∷ before) = is_quiet before

-- how many silent ticks came last, in a row ("Heartbeat Messages"; the number that closes an end is
-- this project's own)
abbrev pub silence : {X : Type 0} → List (Event X) → ℕ
silence [] = 0
silence (Ticked ∷ before) = if is_quiet before then silence before + 1 else 0
silence (event ∷ before) = silence before
