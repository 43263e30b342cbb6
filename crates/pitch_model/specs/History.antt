-- What one unit's client heard and did. A history is a list of entries, the newest first.
use Rattle.std.specs.Prelude.{ℕ, Bool, ◌&&◌, ◌||◌, not, List, [], ◌∷◌, ◌++◌, Option, Some}
use Rattle.std.specs.Prelude.{nat_le, ◌==◌, sum_by, if◌then◌else◌}
use Rattle.pitch_fields.specs.Limits.{last_sequence}
use Rattle.pitch_messages.specs.Raw.{kind_of}
use Rattle.pitch_model.specs.declared.ask.Ask.{Ask}
use Rattle.pitch_model.specs.declared.ask.Ask.TheVariants.{Spin}

-- a raw message: its bytes
abbrev pub Raw : Type 0
Raw = List ℕ

pub data Entry : Type 0 where
  -- a message of a line or of the gap line ("Sequenced Unit Header")
  Message : (sequence : ℕ) → (raw : Raw) → Entry
  -- a heartbeat, with the sequence of the next message ("Heartbeat Messages")
  Next : (next : ℕ) → Entry
  -- the Gap Request Proxy accepted the login, or the connection ended
  GrpUp : Entry
  GrpDown : Entry
  -- whether a gap request was accepted ("Gap Response Message")
  GapReply : (accepted : Bool) → Entry
  -- the Spin Server accepted the login, or the connection ended
  SpinUp : Entry
  SpinDown : Entry
  -- an image through this sequence can be had ("Spin Image Available Message")
  Advertised : (sequence : ℕ) → Entry
  -- whether an image is sent, and how many orders it promises ("Spin Response Message")
  SpinReply : (sequence : ℕ) → (orders : ℕ) → (accepted : Bool) → Entry
  -- messages of an image
  ImageMessages : (raws : List Raw) → Entry
  -- an image ends ("Spin Finished Message")
  SpinFinished : (sequence : ℕ) → Entry
  -- a tick, and what was asked at it
  Ticked : (ask : Option Ask) → Entry

-- ---- The spin
-- no spin is under way, one was asked for, or one runs: through which sequence, how many orders it
-- promised, and what came of it
pub data Spinning : Type 0 where
  NoSpin : Spinning
  Asked : (sequence : ℕ) → Spinning
  Running : (sequence : ℕ) → (orders : ℕ) → (raws : List Raw) → Spinning

-- a raw of a type that adds an order: "Add Order Message", long, short or expanded form
abbrev pub is_add : Raw → Bool
is_add raw = kind_of raw == 0x21 || kind_of raw == 0x22 || kind_of raw == 0x2f

-- how many of the raws add an order
abbrev pub adds : List Raw → ℕ
adds raws = sum_by (λ raw. if is_add raw then 1 else 0) raws

-- a spin is asked for
abbrev pub spin_asked : Option Ask → Spinning → Spinning
spin_asked (Some (Spin sequence)) spin = Asked sequence
spin_asked ask spin = spin

-- a promise that can be kept: messages up to a sequence leave at most as many orders, and the last
-- sequence is 4,294,967,294
abbrev pub can_promise : ℕ → ℕ → Bool
can_promise sequence orders = nat_le orders sequence && nat_le orders last_sequence

-- the reply to what was asked makes the spin run where it is accepted, and ends it where not
abbrev pub spin_replied : Spinning → ℕ → ℕ → Bool → Spinning
spin_replied (Asked asked) sequence orders accepted =
    if asked == sequence
    then (if accepted && can_promise sequence orders then Running sequence orders [] else NoSpin)
    else Asked asked
spin_replied spin sequence orders accepted = spin

-- messages of an image come to the running spin
abbrev pub spin_more : Spinning → List Raw → Spinning
spin_more (Running sequence orders raws) more = Running sequence orders (raws ++ more)
spin_more spin more = spin

-- the running spin ends
abbrev pub spin_finished : Spinning → ℕ → Spinning
spin_finished (Running running orders raws) sequence =
    if running == sequence then NoSpin else Running running orders raws
spin_finished spin sequence = spin

-- the spin after an entry
abbrev pub spin_step : Entry → Spinning → Spinning
spin_step (Ticked ask) spin = spin_asked ask spin
spin_step SpinDown spin = NoSpin
spin_step (SpinReply sequence orders accepted) spin = spin_replied spin sequence orders accepted
spin_step (ImageMessages more) spin = spin_more spin more
spin_step (SpinFinished sequence) spin = spin_finished spin sequence
spin_step entry spin = spin

-- the spin after a history
abbrev pub spin_of : List Entry → Spinning
spin_of [] = NoSpin
spin_of (entry ∷ E) = spin_step entry (spin_of E)

-- ---- Images and messages, as lists of one or none
-- the image that Spin Finished finishes, with its sequence: it has as many adds as were promised
abbrev pub image_finished : Spinning → ℕ → List (ℕ × List Raw)
image_finished (Running running orders raws) sequence =
    if running == sequence && adds raws == orders then (running, raws) ∷ [] else []
image_finished spin sequence = []

-- the image that is bad then, with the number that was promised
abbrev pub bad_image : Spinning → ℕ → List (ℕ × List Raw)
bad_image (Running running orders raws) sequence =
    if running == sequence && not (adds raws == orders) then (orders, raws) ∷ [] else []
bad_image spin sequence = []

-- the image that an entry finishes
abbrev pub images_at : Entry → Spinning → List (ℕ × List Raw)
images_at (SpinFinished sequence) spin = image_finished spin sequence
images_at entry spin = []

-- the message that an entry is
abbrev pub messages_at : Entry → List (ℕ × Raw)
messages_at (Message sequence raw) = (sequence, raw) ∷ []
messages_at entry = []
