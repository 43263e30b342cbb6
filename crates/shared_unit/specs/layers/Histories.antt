-- The one history of a shared unit: what its writer did, the first first.
use Rattle.std.specs.Prelude.{◌≡◌, ℕ, Bool, true, List, [], ◌∷◌, ◌++◌}
use mathlib.Core.List.{IsPrefix}
use Rattle.pitch_model.specs.Advertising.{Operation, accepted_by, advertised_by}
use Rattle.gap_store.specs.Look.{View}
use Rattle.spin_server.specs.Served.{Served}

-- the history with one operation more
abbrev pub then_done : List Operation → Operation → List Operation
then_done history operation = history ++ operation ∷ []

-- where the run fixes its messages, those accepted are the first of them
abbrev pub IsLegal : Bool → List (List ℕ) → List Operation → Type 0
IsLegal fixed plan history = fixed ≡ true → IsPrefix (accepted_by history) plan

-- what a gap proxy looks up in at a history, where so many of the last messages are kept
abbrev pub kept_at : ℕ → List Operation → View
kept_at kept history = record { messages = accepted_by history; kept = kept }

-- what a spin server looks up in at a history
abbrev pub served_at : List Operation → Served
served_at history = record { messages = accepted_by history; advertised = advertised_by history }
