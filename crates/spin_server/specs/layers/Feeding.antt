-- What feeding a Spin Server's session does.
use Rattle.std.specs.Prelude.{◌≡◌, ℕ, List, ◌∷◌, ◌++◌, length, Option}
use Rattle.session_ends.specs.Answering.{followed}
use Rattle.session_ends.specs.layers.Hearings.{Rises}
use Rattle.session_ends.specs.Closing.{Setup}
use Rattle.session_ends.specs.Events.{Event, Fed}
use Rattle.session_ends.specs.Sending.{new_items}
use Rattle.spin_server.specs.Served.{Served}
use Rattle.spin_server.specs.layers.Looking.{ServedLater}
use Rattle.spin_server.specs.Serving.{Spin, spin_fed_answer, spin_sends, Serving, SpinStands}

-- what feeding does: it stands for one event more, and what it answers was appended; the messages
-- were answered at views that rise from that of the call to that after it, one for each message and
-- each end of a block
pub record SpinFeeds (es : List (Event (List Served))) (bytes : List ℕ) (old new : Serving)
    (view : Served) (shown : Served → Type 0) (reply reply' : List ℕ) : Type 0 where
  pub views : List Served
  pub each : length views ≡ length (new_items es bytes)
  pub now : Served
  pub rises : Rises ServedLater view views now
  pub shows : shown now
  pub stands : SpinStands new (Fed bytes views ∷ es)
  pub replied : reply' ≡ reply ++ spin_sends old.end.setup (Fed bytes views) es

-- ---- Laws
-- however the bytes are cut: what is answered to two pieces at once is what is answered to the one,
-- then to the other
abbrev pub SpinAnswersOnce : Type 0
SpinAnswersOnce = (s : Setup) (es : List (Event (List Served))) (a b : List ℕ)
    (views more : List Served) (spin : Option Spin) → length views ≡ length (new_items es a)
    → spin_fed_answer s es (a ++ b) (views ++ more) spin
    ≡ followed (spin_fed_answer s es a views spin)
    (spin_fed_answer s (Fed a views ∷ es) b more (spin_fed_answer s es a views spin).knows)
