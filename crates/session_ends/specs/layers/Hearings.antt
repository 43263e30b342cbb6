-- What hearing items does to a server's end.
use Rattle.std.specs.Prelude.{◌≡◌, ℕ, Bool, List, [], ◌∷◌, ◌++◌, length}
use Rattle.session_ends.specs.declared.inbox.Heard.{Heard}
use Rattle.session_ends.specs.Closing.{Setup}
use Rattle.session_ends.specs.Answering.{Answer, Answerer, answers}
use Rattle.session_ends.specs.layers.Driving.{At}

-- ---- What a call does
-- views that come one after another, from the first up to the last
abbrev pub Rises : {V : Type 0} → (V → V → Type 0) → V → List V → V → Type 0
Rises Later first [] last = Later first last
Rises Later first (view ∷ views) last = Later first view × Rises Later view views last

-- something was answered, at a view that is not before that of the call
pub record Hears {S V : Type 0} (at : V → Answer S) (Later : V → V → Type 0) (view : V)
    (knows : S → Type 0) (shown : V → Type 0)
    (reply reply' : List ℕ) (lines lines' : List (List ℕ)) : Type 0 where
  pub now : V
  pub later : Later view now
  pub shows : shown now
  pub state_is : knows (at now).knows
  pub replied : reply' ≡ reply ++ (at now).reply
  pub lined : lines' ≡ lines ++ (at now).lines

-- messages were answered, at views that rise from that of the call to that after it
pub record HearsAll {S V : Type 0} (s : Setup) (one : Answerer S V)
    (Later : V → V → Type 0) (logged : Bool) (items : List Heard) (state : S) (view : V)
    (knows : S → Type 0) (shown : V → Type 0)
    (reply reply' : List ℕ) (lines lines' : List (List ℕ)) : Type 0 where
  pub views : List V
  pub each : length views ≡ length items
  pub now : V
  pub rises : Rises Later view views now
  pub shows : shown now
  pub state_is : knows (answers s one logged state views items).knows
  pub replied : reply' ≡ reply ++ (answers s one logged state views items).reply
  pub lined : lines' ≡ lines ++ (answers s one logged state views items).lines

-- ---- What a server's desk does
-- it answers by terms that stay, whatever is known and can be seen before
pub record Serves {D L Terms S V : Type 0} (terms : D → Terms) (one : Terms → Setup → Answerer S V)
    (knows : D → S → Type 0) (lines : D → List (List ℕ)) (shows : L → V → Type 0)
    (Later : V → V → Type 0)
    (s : Setup) (logged : Bool) (item : Heard) (from to : At D L) : Type 0 where
  pub same : terms to.desk ≡ terms from.desk
  pub hears : (state : S) (view : V) → knows from.desk state → shows from.source view
      → Hears (λ v. one (terms from.desk) s logged state v item) Later view (knows to.desk)
      (shows to.source) from.said to.said (lines from.desk) (lines to.desk)
