-- What a venue's side does with the images of its feed ("Spin Image Available Message"). That only
-- the last ten are served is this project's own.
use Rattle.std.specs.Prelude.{ℕ, ◌+◌, ◌-◌, nat_eq, List, [], ◌∷◌, ◌++◌, length, drop, fold}
use Rattle.std.specs.Prelude.{Option, slice_get, if◌then◌else◌}
use Rattle.std.specs.List.{flat_map}
use Rattle.std.specs.Set.{is_member}
use Rattle.pitch_model.specs.History.{Raw}

-- a message is accepted, or the image of all that was accepted is advertised. Lists of operations
-- have the oldest first.
pub data Operation : Type 0 where
  Accept : (raw : Raw) → Operation
  Advertise : Operation

-- the message that an operation accepts, as a list of one or none
abbrev pub accepted_at : Operation → List Raw
accepted_at (Accept raw) = raw ∷ []
accepted_at Advertise = []

-- the messages that were accepted
abbrev pub accepted_by : List Operation → List Raw
accepted_by operations = flat_map accepted_at operations

-- the sequences of the images that are advertised, where n messages were accepted before: an
-- Advertise stands for the number of accepts before it
abbrev pub told_by : ℕ → List Operation → List ℕ
told_by n [] = []
told_by n (Accept raw ∷ operations) = told_by (n + 1) operations
told_by n (Advertise ∷ operations) = n ∷ told_by n operations

-- one more sequence is advertised; a repeat adds nothing
abbrev pub with_sequence : List ℕ → ℕ → List ℕ
with_sequence advertised sequence =
    if is_member nat_eq advertised sequence then advertised else advertised ++ sequence ∷ []

-- the distinct sequences that were advertised, in their order
abbrev pub advertised_by : List Operation → List ℕ
advertised_by operations = fold with_sequence [] (told_by 0 operations)

-- those whose images are served: the last ten
abbrev pub last_ten : List ℕ → List ℕ
last_ten advertised = drop (length advertised - 10) advertised

-- the newest of them
abbrev pub newest_of : List ℕ → Option ℕ
newest_of advertised = slice_get advertised (length advertised - 1)
