-- What a client hears of what it asked for. No public
-- clause needs this file.
use Rattle.std.specs.Prelude.{ℕ, ◌+◌, Bool, false, true, ◌&&◌, nat_lt, List, ◌∷◌, Option, None}
use Rattle.std.specs.Prelude.{Some, if◌then◌else◌}
use Rattle.unit_packets.specs.Packing.{packed}
use Rattle.gap_store.specs.Look.{View, look, slice_of}
use Rattle.gap_store.specs.declared.found.Found.{Found}
use Rattle.gap_store.specs.declared.found.Found.TheVariants.{Kept, Ahead, NotKept}
use Rattle.pitch_model.specs.Asking.{ask_of}
use Rattle.pitch_model.specs.History.{Entry, Raw, Ticked, GapReply, SpinReply, adds}
use Rattle.pitch_model.specs.Image.{image}
use Rattle.pitch_model.specs.declared.ask.Ask.{Ask}
use Rattle.pitch_model.specs.declared.ask.Ask.TheVariants.{Gap, Spin}
use Rattle.spin_server.specs.Served.{Served, is_served}
use Rattle.drill_client.specs.layers.Following.{heard_datagrams, imaged_whole}
use Rattle.drill_client.specs.layers.Limits.{drill_kept}

-- ---- Ticks
-- a datagram brings a tick where nine came since the last one
abbrev pub is_tick : ℕ → Bool
is_tick heard = if nat_lt heard 9 then false else true

-- how many came since the last tick, with one more
abbrev pub heard_with_one : ℕ → ℕ
heard_with_one heard = if is_tick heard then 0 else (heard + 1)

-- the history after a datagram, so many having come before it
abbrev pub with_tick : ℕ → ℕ → List Entry → List Entry
with_tick H heard E = if is_tick heard then Ticked (ask_of H E) ∷ E else E

-- what is asked then
abbrev pub tick_ask : ℕ → ℕ → List Entry → Option Ask
tick_ask H heard E = if is_tick heard then ask_of H E else None

-- ---- Answers
-- what can be asked for again, where these are all messages
abbrev pub last_kept : List Raw → View
last_kept messages = record { messages = messages; kept = drill_kept }

abbrev pub is_found : Found → Bool
is_found Kept = true
is_found (Ahead last) = false
is_found (NotKept least) = false

-- so many messages from a sequence on are kept, and there are some
abbrev pub keeps_range : View → ℕ → ℕ → Bool
keeps_range v first count = (nat_lt 0 first && nat_lt 0 count) && is_found (look v first count)

-- to a gap ask: that it is accepted and its datagrams, just where all of the range is kept
abbrev pub heard_of_gap : View → ℕ → ℕ → ℕ → List Entry → List Entry
heard_of_gap v unit first count E =
    if keeps_range v first count
    then heard_datagrams (packed unit first (slice_of v first count)) (GapReply true ∷ E)
    else GapReply false ∷ E

-- to a spin ask: the image, just where it is served
abbrev pub heard_of_spin : Served → ℕ → List Entry → List Entry
heard_of_spin v sequence E =
    if is_served v sequence
    then imaged_whole sequence (adds (image v.messages sequence)) (image v.messages sequence) E
    else SpinReply sequence 0 false ∷ E

-- to what was asked, if anything
abbrev pub heard_of_ask : View → Served → ℕ → Option Ask → List Entry → List Entry
heard_of_ask gaps images unit None E = E
heard_of_ask gaps images unit (Some (Gap first count)) E = heard_of_gap gaps unit first count E
heard_of_ask gaps images unit (Some (Spin sequence)) E = heard_of_spin images sequence E

-- ---- Copies
-- a copy of datagrams comes, unless it is lost, and what it leads the client to ask is answered
abbrev pub heard_of_copy : View
    → Served → ℕ → ℕ → ℕ → Bool → List (List ℕ) → List Entry → List Entry
heard_of_copy gaps images unit H heard lost datagrams E =
    if lost then E
    else heard_of_ask gaps images unit (tick_ask H heard (heard_datagrams datagrams E))
    (with_tick H heard (heard_datagrams datagrams E))

-- how many datagrams came then since the last tick
abbrev pub heard_after_copy : Bool → ℕ → ℕ
heard_after_copy lost heard = if lost then heard else heard_with_one heard
