-- What a service replies to an ask, at a history that it has seen. No caller needs this file.
use mathlib.Core.List.{IsPrefix}
use Rattle.std.specs.Prelude.{ℕ, false, true, List, [], ◌∷◌, map, if◌then◌else◌}
use Rattle.unit_packets.specs.Packing.{packed}
use Rattle.gap_store.specs.Look.{View, slice_of}
use Rattle.pitch_model.specs.Advertising.{Operation}
use Rattle.pitch_model.specs.History.{adds}
use Rattle.pitch_model.specs.Image.{image}
use Rattle.pitch_model.specs.declared.ask.Ask.{Ask}
use Rattle.pitch_model.specs.declared.ask.Ask.TheVariants as asks
use Rattle.spin_server.specs.Served.{Served, is_served}
use Rattle.shared_unit.specs.layers.Histories.{kept_at, served_at}
use Rattle.drill_client.specs.layers.Answered.{keeps_range}
use Rattle.drill_client.specs.declared.words.Reply.{Reply}
use Rattle.drill_client.specs.declared.words.Reply.TheVariants.{Gap, Again, Spin, NoSpin}
use Rattle.unit_threads.specs.declared.ends.Request.{Request}
use Rattle.unit_threads.specs.declared.ends.Request.TheVariants.{Asked, Told}

-- to a gap ask: that it is accepted and the datagrams of its messages, just where these are kept
abbrev pub replies_to_gap : {R : Type 0} → View → ℕ → ℕ → ℕ → List (Reply R)
replies_to_gap v unit first count =
    if keeps_range v first count
    then Gap true ∷ map Again (packed unit first (slice_of v first count))
    else Gap false ∷ []

-- to a spin ask: the image and the number of its orders, just where it is served
abbrev pub replies_to_spin : {R : Type 0} → Served → ℕ → List (Reply R)
replies_to_spin v sequence =
    if is_served v sequence then Spin (record {
      sequence = sequence;
      orders = adds (image v.messages sequence);
      raws = image v.messages sequence;
    }) ∷ []
    else NoSpin sequence ∷ []

-- to an ask, where so many of the last messages are kept
abbrev pub replies_to : {R : Type 0} → ℕ → ℕ → List Operation → Ask → List (Reply R)
replies_to kept unit history (asks.Gap first count) =
    replies_to_gap (kept_at kept history) unit first count
replies_to kept unit history (asks.Spin sequence) = replies_to_spin (served_at history) sequence

-- ---- To a request
-- an ask is replied to, and what is told is not
abbrev pub replies_by : {J R : Type 0} → ℕ → ℕ → List Operation → Request J R → List (Reply R)
replies_by kept unit history (Asked ask) = replies_to kept unit history ask
replies_by kept unit history (Told told) = []

-- a history begins with what is told
abbrev pub Includes : {J R : Type 0} → List Operation → Request J R → Type 0
Includes history (Asked ask) = Unit {0}
Includes history (Told told) = IsPrefix told.history history
