-- What a history told of, and how far the client is.
use Rattle.std.specs.Prelude.{ℕ, ◌-◌, List, [], ◌∷◌, max, Option, Some, None, ◌==◌, if◌then◌else◌}
use Rattle.pitch_model.specs.History.{Entry, Message, Next, Advertised, images_at, spin_of}
use Rattle.pitch_model.specs.Reach.{reach, sequences}
use Rattle.pitch_model.specs.declared.status.Status.{Status}
use Rattle.pitch_model.specs.declared.status.Status.TheVariants.{Silent, Current, Behind}

-- the sequence that an entry tells of, as a list of one or none: a message's, the one before a
-- heartbeat's next, an advertised one, a finished image's
abbrev pub told_at : List Entry → Entry → List ℕ
told_at E (Message sequence raw) = sequence ∷ []
told_at E (Next next) = (next - 1) ∷ []
told_at E (Advertised sequence) = sequence ∷ []
told_at E entry = sequences (images_at entry (spin_of E))

-- the greatest so far, with one more number or none
abbrev pub raised : List ℕ → Option ℕ → Option ℕ
raised [] top = top
raised (k ∷ ks) None = Some k
raised (k ∷ ks) (Some top) = Some (max k top)

-- the greatest sequence that a history told of
abbrev pub top_of : List Entry → Option ℕ
top_of [] = None
top_of (entry ∷ E) = raised (told_at E entry) (top_of E)

-- where the reach is n
abbrev pub status_at : ℕ → Option ℕ → Status
status_at n None = Silent
status_at n (Some top) = if n == top then Current n else Behind n top

-- silent where nothing was told of, current where the reach is the top, else behind
abbrev pub status_of : ℕ → List Entry → Status
status_of H E = status_at (reach H E) (top_of E)
