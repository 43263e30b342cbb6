-- What feeding a proxy's session does.
use Rattle.std.specs.Prelude.{◌≡◌, ◌≤◌, ◌<◌, ℕ, Bool, List, ◌∷◌, ◌++◌, length, replicate}
use Rattle.std.specs.List.{AllByRecursion}
use Rattle.pitch_fields.specs.Limits.{last_sequence}
use Rattle.pitch_messages.specs.Raw.{IsRaw}
use Rattle.gap_store.specs.Look.{View, store_of}
use Rattle.gap_store.specs.layers.Looking.{IsLater}
use Rattle.session_ends.specs.Answering.{followed}
use Rattle.session_ends.specs.layers.Hearings.{Rises}
use Rattle.session_ends.specs.Closing.{Setup}
use Rattle.session_ends.specs.Ending.{Ending}
use Rattle.session_ends.specs.Events.{Event, Fed}
use Rattle.session_ends.specs.Sending.{new_items}
use Rattle.grp_session.specs.layers.Ranges.{ArePackedRanges}
use Rattle.grp_session.specs.Budget.{Limits, Spent}
use Rattle.grp_session.specs.Serving.{Source, proxy_answer, ProxyStands}

-- what feeding does with such a source: the end stands for one event more, and what it answers was
-- appended
pub record Answered (es : List (Event Source)) (bytes : List ℕ) (source : Source) (old new : Ending)
    (counted : Spent → Type 0) (reply reply' : List ℕ) (lines lines' : List (List ℕ)) : Type 0 where
  pub stands : ProxyStands new (Fed bytes source ∷ es)
  pub counts : counted (proxy_answer old.setup es bytes source).knows
  pub replied : reply' ≡ reply ++ (proxy_answer old.setup es bytes source).reply
  pub lined : lines' ≡ lines ++ (proxy_answer old.setup es bytes source).lines

-- a unit's messages are raw, and each has a sequence that a message can have
pub record AreSequenced (unit : ℕ) (messages : List (List ℕ)) : Type 0 where
  pub small : unit < 256
  pub raws : AllByRecursion IsRaw messages
  pub top : length messages ≤ last_sequence

-- the messages were answered at views that rise from that of the call to that after it, one for
-- each message and each end of a block; what goes on the gap line are packings of ranges of the
-- messages to be seen after it
pub record ProxyFeeds (es : List (Event Source)) (bytes : List ℕ)
    (old new : Ending) (there : Bool) (limits : Limits) (spent : Spent) (view : View)
    (counted : Spent → Type 0) (shown : View → Type 0)
    (reply reply' : List ℕ) (lines lines' : List (List ℕ)) : Type 0 where
  pub views : List View
  pub each : length views ≡ length (new_items es bytes)
  pub now : View
  pub rises : Rises IsLater view views now
  pub shows : shown now
  pub answered : Answered es bytes (record {
    there = there;
    views = views;
    limits = limits;
    spent = spent;
  }) old new counted reply reply' lines lines'
  pub packing : AreSequenced old.setup.unit now.messages → (added : List (List ℕ))
      × (lines' ≡ lines ++ added) × ArePackedRanges old.setup.unit now.messages added

-- ---- However the bytes are cut
-- what is answered to two pieces at once is what is answered to the one, then to the other
abbrev pub GrpAnswersOnce : Type 0
GrpAnswersOnce =
    (s : Setup) (es : List (Event Source)) (a b : List ℕ) (first : Source) (more : List View)
    → length first.views ≡ length (new_items es a)
    → proxy_answer s es (a ++ b) (record first { views = first.views ++ more })
    ≡ followed (proxy_answer s es a first) (proxy_answer s (Fed a first ∷ es) b
    (record first { views = more; spent = (proxy_answer s es a first).knows }))

-- ---- Over a store to which nobody else pushes
-- while a store stays as it was, all views at which a piece is answered are one
abbrev pub StoreHasOneView : Type 0
StoreHasOneView = (view now : View) (views : List View)
    → Rises IsLater view views now → store_of now ≡ store_of view
    → (now ≡ view) × (views ≡ replicate (length views) view)
