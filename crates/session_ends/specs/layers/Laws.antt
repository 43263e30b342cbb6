-- However the bytes are cut into pieces.
use Rattle.std.specs.Prelude.{◌≡◌, ℕ, List, ◌∷◌, ◌++◌, length, replicate, is_some, if◌then◌else◌}
use Rattle.session_ends.specs.Answering.{Answer, Answerer, no_answer, followed, answers}
use Rattle.session_ends.specs.layers.Hearings.{Rises}
use Rattle.session_ends.specs.Closing.{Setup, closed_of, logged_in}
use Rattle.session_ends.specs.Events.{Event, Fed}
use Rattle.session_ends.specs.Sending.{new_items}

-- what a server answers to bytes, at its views: nothing where it was closed
abbrev pub fed_answers : {X S V : Type 0}
    → Setup → Answerer S V → List (Event X) → List ℕ → List V → S → Answer S
fed_answers s one before bytes views state =
    if is_some (closed_of s before) then no_answer state
    else answers s one (logged_in s.role before) state views (new_items before bytes)

-- two pieces close an end exactly where both at once do, whatever could be seen beside them
abbrev pub ClosesOnce : Type 0 → Type 0
ClosesOnce X = (s : Setup) (es : List (Event X)) (a b : List ℕ) (seen more all : X)
    → closed_of s (Fed b more ∷ Fed a seen ∷ es) ≡ closed_of s (Fed (a ++ b) all ∷ es)

-- and what is answered to both at once is what is answered to the one, then to the other
abbrev pub AnswersOnce : (X S V : Type 0) → Type 0
AnswersOnce X S V = (s : Setup) (one : Answerer S V) (es : List (Event X)) (a b : List ℕ)
    (seen : X) (views more : List V) (state : S) → length views ≡ length (new_items es a)
    → fed_answers s one es (a ++ b) (views ++ more) state
    ≡ followed (fed_answers s one es a views state)
    (fed_answers s one (Fed a seen ∷ es) b more (fed_answers s one es a views state).knows)

-- views that rise from one up to the same are all that one
abbrev pub RisesNowhere : (V : Type 0) → (V → V → Type 0) → Type 0
RisesNowhere V Later = (first last : V) (views : List V)
    → Rises Later first views last → last ≡ first → views ≡ replicate (length views) first
