-- What a publisher tells its service. No caller needs this file.
use Rattle.std.specs.Prelude.{ℕ, List, [], ◌∷◌, flat_map, if◌then◌else◌}
use Rattle.pitch_model.specs.Advertising.{Operation}
use Rattle.drill_client.specs.layers.Played.{is_round}
use Rattle.unit_threads.specs.declared.ends.Request.{Request}
use Rattle.unit_threads.specs.declared.ends.Request.TheVariants.{Asked, Told}

-- the history that a request tells of, as a list of one or none
abbrev pub told_by : {J R : Type 0} → Request J R → List (List Operation)
told_by (Asked ask) = []
told_by (Told told) = told.history ∷ []

-- the histories that some requests tell of
abbrev pub told_in : {J R : Type 0} → List (Request J R) → List (List Operation)
told_in requests = flat_map told_by requests

-- the history so far, where it is time to advertise
abbrev pub told_with : List Operation → ℕ → ℕ → List (List Operation)
told_with history index count = if is_round index count then history ∷ [] else []
