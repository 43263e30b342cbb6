-- What the Spin Server's end of a session says.
use Rattle.std.specs.Prelude.{◌≡◌, ℕ, Bool, ◌&&◌, ◌==◌, List, [], ◌∷◌, ◌++◌, length, Option, None}
use Rattle.std.specs.Prelude.{Some, is_some, is_none, if◌then◌else◌}
use Rattle.pitch_messages.specs.declared.session.SessionMessage.{SessionMessage}
use Rattle.pitch_messages.specs.declared.session.SessionMessage.TheVariants.{Login, LoginReply}
use Rattle.pitch_messages.specs.declared.session.SessionMessage.TheVariants.{SpinAvailable}
use Rattle.pitch_messages.specs.declared.session.SessionMessage.TheVariants.{SpinRequest, SpinReply}
use Rattle.pitch_messages.specs.declared.session.SessionMessage.TheVariants.{SpinFinished}
use Rattle.pitch_model.specs.History.{adds}
use Rattle.pitch_model.specs.Image.{image}
use Rattle.unit_packets.specs.Packing.{packed}
use Rattle.session_ends.specs.declared.role.Said.{Said}
use Rattle.session_ends.specs.declared.role.Said.TheVariants.{Message}
use Rattle.session_ends.specs.Answering.{Answer, Answerer, no_answer, answers}
use Rattle.session_ends.specs.Closing.{Setup, closed_of, logged_in, login_status}
use Rattle.session_ends.specs.Ending.{Ending, EndKnows, known_of}
use Rattle.session_ends.specs.Events.{Event, Fed, Pumped, Told}
use Rattle.session_ends.specs.Saying.{heard_by}
use Rattle.session_ends.specs.Sending.{header_unit, sent_bytes, new_items}
use Rattle.pitch_model.specs.Advertising.{newest_of}
use Rattle.spin_server.specs.Served.{Served, is_served}

-- ---- The spin
-- an image that is being sent: its sequence, and the datagrams that are left
pub record Spin : Type 0 where
  pub sequence : ℕ
  pub left : List (List ℕ)

-- the next block of the image, or Spin Finished ("Spin Finished Message")
abbrev pub next_block : Setup → ℕ → List (List ℕ) → List ℕ
next_block s sequence [] = sent_bytes s (SpinFinished sequence)
next_block s sequence (datagram ∷ datagrams) = datagram

-- the spin after it
abbrev pub spin_left : ℕ → List (List ℕ) → Option Spin
spin_left sequence [] = None
spin_left sequence (datagram ∷ datagrams) = Some (record { sequence = sequence; left = datagrams })

-- what is sent of a spin at a time; nothing where none runs
abbrev pub pump_bytes : Setup → Option Spin → List ℕ
pump_bytes s None = []
pump_bytes s (Some spin) = next_block s spin.sequence spin.left

-- and what is left of it
abbrev pub pumped : Option Spin → Option Spin
pumped None = None
pumped (Some spin) = spin_left spin.sequence spin.left

-- how many blocks of its image are left; none where no spin runs
abbrev pub blocks_left : Option Spin → ℕ
blocks_left None = 0
blocks_left (Some spin) = length spin.left

-- ---- One message
-- the newest advertised sequence, where there is one ("Spin Image Available Message")
abbrev pub available_bytes : Setup → Option ℕ → List ℕ
available_bytes s None = []
available_bytes s (Some sequence) = sent_bytes s (SpinAvailable sequence)

-- a login gets its status, and the newest sequence after an accepted one ("Login Response Message")
abbrev pub after_login : Setup → ℕ → Option ℕ → List ℕ
after_login s status newest = if status == 65 then available_bytes s newest else []

abbrev pub spin_login_answer : Setup → ℕ → Served → Option Spin → Answer (Option Spin)
spin_login_answer s status view spin =
    record {
      reply = sent_bytes s (LoginReply status)
          ++ after_login s status (newest_of view.advertised);
      lines = [];
      knows = spin;
    }

-- a refused request gets its status, and no order
abbrev pub refusal_answer : Setup → ℕ → ℕ → Option Spin → Answer (Option Spin)
refusal_answer s sequence status spin =
    record { reply = sent_bytes s (SpinReply sequence 0 status); lines = []; knows = spin }

-- an accepted one gets `A` with the number of adds; its image is left to be sent, packed into
-- blocks without sequences
abbrev pub image_answer : Setup → ℕ → List (List ℕ) → Answer (Option Spin)
image_answer s sequence raws = record {
  reply = sent_bytes s (SpinReply sequence (adds raws) 65);
  lines = [];
  knows = Some (record { sequence = sequence; left = packed (header_unit s.role s.unit) 0 raws });
}

-- `S` where a spin runs
abbrev pub served_answer : Setup → Served → ℕ → Option Spin → Answer (Option Spin)
served_answer s view sequence (Some spin) = refusal_answer s sequence 83 (Some spin)
served_answer s view sequence None = image_answer s sequence (image view.messages sequence)

-- a request gets `O` where its sequence is not served, else `S` where a spin runs, else `A`
-- ("Spin Response Message")
abbrev pub spin_request_answer : Setup → Served → ℕ → Option Spin → Answer (Option Spin)
spin_request_answer s view sequence spin =
    if is_served view sequence
    then served_answer s view sequence spin else refusal_answer s sequence 79 spin

-- what is answered to a message that the end reads, where a login was accepted before or not
abbrev pub spin_message_answer : Setup
    → Bool → Option Spin → Served → SessionMessage → Answer (Option Spin)
spin_message_answer s logged spin view (Login sub user password) =
    spin_login_answer s (login_status s logged sub user password) view spin
spin_message_answer s logged spin view (SpinRequest sequence) =
    if logged then spin_request_answer s view sequence spin else no_answer spin
spin_message_answer s logged spin view message = no_answer spin

-- nothing is answered to what is skipped or too short
abbrev pub spin_said_answer : Setup → Bool → Option Spin → Served → Said → Answer (Option Spin)
spin_said_answer s logged spin view (Message message) =
    spin_message_answer s logged spin view message
spin_said_answer s logged spin view said = no_answer spin

abbrev pub spin_answer : Setup → Answerer (Option Spin) Served
spin_answer s logged spin view item = spin_said_answer s logged spin view (heard_by s.role item)

-- ---- Over events
-- what is answered when bytes come in, each message at its view: nothing where the end was closed
abbrev pub spin_fed_answer : Setup
    → List (Event (List Served)) → List ℕ → List Served → Option Spin → Answer (Option Spin)
spin_fed_answer s before bytes views spin =
    if is_some (closed_of s before) then no_answer spin
    else answers s (spin_answer s) (logged_in s.role before) spin views (new_items before bytes)

-- the spin that was accepted and is not yet sent whole; it runs while the end is open
abbrev pub running_spin : Setup → List (Event (List Served)) → Option Spin
running_spin s [] = None
running_spin s (Fed bytes views ∷ before) =
    (spin_fed_answer s before bytes views (running_spin s before)).knows
running_spin s (Pumped ∷ before) = pumped (running_spin s before)
running_spin s (event ∷ before) = running_spin s before

-- a spin runs
abbrev pub runs : Setup → List (Event (List Served)) → Bool
runs s es = is_none (closed_of s es) && is_some (running_spin s es)

-- what is said when the end is told of an advertised sequence: nothing before a login or while a
-- spin runs
abbrev pub tell_bytes : Setup → Bool → Option Spin → ℕ → List ℕ
tell_bytes s logged (Some spin) sequence = []
tell_bytes s logged None sequence = if logged then sent_bytes s (SpinAvailable sequence) else []

-- what is sent at an event that is no tick
abbrev pub spin_sends : Setup → Event (List Served) → List (Event (List Served)) → List ℕ
spin_sends s (Fed bytes views) before =
    (spin_fed_answer s before bytes views (running_spin s before)).reply
spin_sends s Pumped before =
    if is_some (closed_of s before) then [] else pump_bytes s (running_spin s before)
spin_sends s (Told sequence) before =
    if is_some (closed_of s before)
    then [] else tell_bytes s (logged_in s.role before) (running_spin s before) sequence
spin_sends s event before = []

-- ---- What the server keeps
pub record Serving : Type 0 where
  pub end : Ending
  pub spin : Option Spin

-- it stands for what happened to it, the newest first
pub record SpinStands (v : Serving) (es : List (Event (List Served))) : Type 0 where
  pub end_is : EndKnows v.end (known_of (spin_sends v.end.setup) v.end.setup es)
  pub spin_is : v.end.closed ≡ None → v.spin ≡ running_spin v.end.setup es
