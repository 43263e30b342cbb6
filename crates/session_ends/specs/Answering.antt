-- How a server answers messages, one after another. What it can look up may change between two of
-- them: each is answered at a view.
use Rattle.std.specs.Prelude.{ℕ, Bool, ◌||◌, List, [], ◌∷◌, ◌++◌, is_some, if◌then◌else◌}
use Rattle.session_ends.specs.declared.inbox.Heard.{Heard}
use Rattle.session_ends.specs.Closing.{Setup, cause_of, logs_in}

-- what is sent back, the datagrams that are sent on the gap line, and what the server knows then
pub record Answer (S : Type 0) : Type 0 where
  pub reply : List ℕ
  pub lines : List (List ℕ)
  pub knows : S

abbrev pub no_answer : {S : Type 0} → S → Answer S
no_answer state = record { reply = []; lines = []; knows = state }

-- an answer, and what is answered after it
abbrev pub followed : {S : Type 0} → Answer S → Answer S → Answer S
followed a b = record { reply = a.reply ++ b.reply; lines = a.lines ++ b.lines; knows = b.knows }

-- how one message is answered: whether a login was accepted before, what is known, and the view
abbrev pub Answerer : Type 0 → Type 0 → Type 0
Answerer S V = Bool → S → V → Heard → Answer S

-- what is answered to messages, each at its view; nothing after one that closes the end
abbrev pub answers : {S V : Type 0}
    → Setup → Answerer S V → Bool → S → List V → List Heard → Answer S
answers s one logged state [] items = no_answer state
answers s one logged state (view ∷ views) [] = no_answer state
answers s one logged state (view ∷ views) (item ∷ items) =
    let a = one logged state view item in
    followed a (if is_some (cause_of s logged item) then no_answer a.knows
    else answers s one (logged || logs_in s.role item) a.knows views items)
