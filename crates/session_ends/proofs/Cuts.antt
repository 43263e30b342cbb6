-- However the bytes are cut.
use Rattle.std.proofs.Common.{◌≡◌, ℕ, Bool, false, cond, ◌||◌, List, [], ◌∷◌, ◌++◌, length, drop, refl, sym, ap, ◌∙◌, arith, append_assoc, Option, Some, None, is_some}
use Rattle.std.specs.List.{list_any}
use Rattle.std.proofs.lemmas.List.{append-nil, drop_at}
use Rattle.std.proofs.Math.Bool.{or-false}
use Rattle.session_ends.specs.declared.closed.Closed.{Closed}
use Rattle.session_ends.specs.declared.inbox.Heard.{Heard}
use Rattle.session_ends.specs.Answering.{Answer, Answerer, no_answer, followed, answers}
use Rattle.session_ends.specs.Closing.{Setup, cause_of, first_cause, or_else, logs_in, closed_of, logged_in}
use Rattle.session_ends.specs.Events.{Event, Fed, fed_of}
use Rattle.session_ends.specs.Items.{stream_items}
use Rattle.session_ends.specs.layers.Laws.{fed_answers, ClosesOnce, AnswersOnce}
use Rattle.session_ends.specs.Sending.{new_items}
use Rattle.session_ends.proofs.Ends.{or_assoc, cause_append, logged_on, closed_on, bool_assoc}
use Rattle.session_ends.proofs.Inboxes.{items_stay}

or_same : (a g : Option Closed) → or_else a (or_else a g) ≡ or_else a g
or_same None g = refl
or_same (Some x) g = refl

pub closes_once : {X : Type 0} → ClosesOnce X
closes_once s es a b seen more all =
    let m = items_stay (fed_of es ++ a) b in
    let one : Option Closed = first_cause s false (stream_items (fed_of es ++ a)) in
    let rest : Option Closed = first_cause s (false || list_any (logs_in s.role) (stream_items (fed_of es ++ a))) m.0 in
    let both : first_cause s false (stream_items ((fed_of es ++ a) ++ b)) ≡ or_else one rest = ap (first_cause s false) m.1 ∙ cause_append s false (stream_items (fed_of es ++ a)) m.0 in
    sym (or_assoc (closed_of s es) one (first_cause s false (stream_items ((fed_of es ++ a) ++ b))))
    ∙ ap (or_else (closed_of s es)) (ap (or_else one) both ∙ or_same one rest ∙ sym both ∙ ap (λ (x : List ℕ). first_cause s false (stream_items x)) (append_assoc (fed_of es) a b))

-- ---- Answers
followed_assoc : {S : Type 0} (a b c : Answer S) → followed a (followed b c) ≡ followed (followed a b) c
followed_assoc a b c =
    ap (λ (x : List ℕ). record { reply = x; lines = a.lines ++ (b.lines ++ c.lines); knows = c.knows }) (sym (append_assoc a.reply b.reply c.reply))
    ∙ ap (λ (x : List (List ℕ)). record { reply = (a.reply ++ b.reply) ++ c.reply; lines = x; knows = c.knows }) (sym (append_assoc a.lines b.lines c.lines))

followed_none : {S : Type 0} (a : Answer S) → followed a (no_answer a.knows) ≡ a
followed_none a =
    ap (λ (x : List ℕ). record { reply = x; lines = a.lines ++ []; knows = a.knows }) (append-nil a.reply)
    ∙ ap (λ (x : List (List ℕ)). record { reply = a.reply; lines = x; knows = a.knows }) (append-nil a.lines)

none_followed : {S : Type 0} (state : S) (a : Answer S) → followed (no_answer state) a ≡ a
none_followed state a = refl

-- messages behind others are answered behind them, unless one of these closes the end
answers_append : {S V : Type 0} (s : Setup) (one : Answerer S V) (logged : Bool) (state : S) (views more : List V) (items others : List Heard) → length views ≡ length items
    → answers s one logged state (views ++ more) (items ++ others)
    ≡ followed (answers s one logged state views items)
    (cond (is_some (first_cause s logged items)) (no_answer (answers s one logged state views items).knows)
    (answers s one (logged || list_any (logs_in s.role) items) (answers s one logged state views items).knows more others))
answers_append s one logged state [] more [] others e = ap (λ (b : Bool). answers s one b state more others) (sym (or-false logged))
answers_append s one logged state [] more (item ∷ items) others e = absurd (omega (arith, e))
answers_append s one logged state (view ∷ views) more [] others e = absurd (omega (arith, e))
answers_append {S} {V} s one logged state (view ∷ views) more (item ∷ items) others e = by (cause_of s logged item) (answers_append s one on a.knows views more items others (omega (arith, e)))
  where
    a : Answer S
    a = one logged state view item

    on : Bool
    on = logged || logs_in s.role item

    rest : Answer S
    rest = answers s one on a.knows views items

    behind : Bool → Answer S
    behind b = cond (is_some (first_cause s on items)) (no_answer rest.knows) (answers s one b rest.knows more others)

    by : (o : Option Closed) → answers s one on a.knows (views ++ more) (items ++ others) ≡ followed rest (behind (on || list_any (logs_in s.role) items))
        → followed a (cond (is_some o) (no_answer a.knows) (answers s one on a.knows (views ++ more) (items ++ others)))
        ≡ followed (followed a (cond (is_some o) (no_answer a.knows) rest))
        (cond (is_some (or_else o (first_cause s on items))) (no_answer (followed a (cond (is_some o) (no_answer a.knows) rest)).knows)
        (answers s one (logged || (logs_in s.role item || list_any (logs_in s.role) items)) (followed a (cond (is_some o) (no_answer a.knows) rest)).knows more others))
    by (Some c) h = sym (followed_none (followed a (no_answer a.knows)))
    by None h = ap (followed a) h ∙ followed_assoc a rest (behind (on || list_any (logs_in s.role) items))
        ∙ ap (λ (b : Bool). followed (followed a rest) (behind b)) (sym (bool_assoc logged (logs_in s.role item) (list_any (logs_in s.role) items)))

-- what two pieces say more
module _ {X : Type 0} (es : List (Event X)) (a b : List ℕ) (seen : X) where
  said : (more : List Heard) × (stream_items (fed_of es ++ a) ≡ stream_items (fed_of es) ++ more)
  said = items_stay (fed_of es) a

  said_then : (more : List Heard) × (stream_items ((fed_of es ++ a) ++ b) ≡ stream_items (fed_of es ++ a) ++ more)
  said_then = items_stay (fed_of es ++ a) b

  both_are : stream_items (fed_of es ++ (a ++ b)) ≡ stream_items (fed_of es) ++ (said.0 ++ said_then.0)
  both_are = ap stream_items (sym (append_assoc (fed_of es) a b)) ∙ said_then.1 ∙ ap (λ (l : List Heard). l ++ said_then.0) said.1 ∙ append_assoc (stream_items (fed_of es)) said.0 said_then.0

  new_first : new_items es a ≡ said.0
  new_first = ap (drop (length (stream_items (fed_of es)))) said.1 ∙ drop_at (stream_items (fed_of es)) said.0 (length (stream_items (fed_of es))) refl

  new_then : new_items (Fed a seen ∷ es) b ≡ said_then.0
  new_then = ap (drop (length (stream_items (fed_of es ++ a)))) said_then.1 ∙ drop_at (stream_items (fed_of es ++ a)) said_then.0 (length (stream_items (fed_of es ++ a))) refl

  new_both : new_items es (a ++ b) ≡ said.0 ++ said_then.0
  new_both = ap (drop (length (stream_items (fed_of es)))) both_are ∙ drop_at (stream_items (fed_of es)) (said.0 ++ said_then.0) (length (stream_items (fed_of es))) refl

  pub new_cut : new_items es (a ++ b) ≡ new_items es a ++ new_items (Fed a seen ∷ es) b
  new_cut = new_both ∙ ap (λ (l : List Heard). l ++ said_then.0) (sym new_first) ∙ ap (λ (l : List Heard). new_items es a ++ l) (sym new_then)

  pub first_are : stream_items (fed_of es ++ a) ≡ stream_items (fed_of es) ++ new_items es a
  first_are = said.1 ∙ ap (λ (l : List Heard). stream_items (fed_of es) ++ l) (sym new_first)

-- bytes that come to an end that is open, or closed
module _ {X S V : Type 0} (s : Setup) (one : Answerer S V) (es : List (Event X)) (bytes : List ℕ) (views : List V) (state : S) where
  fed_open : closed_of s es ≡ None → fed_answers s one es bytes views state ≡ answers s one (logged_in s.role es) state views (new_items es bytes)
  fed_open none = ap (λ (o : Option Closed). cond (is_some o) (no_answer state) (answers s one (logged_in s.role es) state views (new_items es bytes))) none

  fed_closed : (c : Closed) → closed_of s es ≡ Some c → fed_answers s one es bytes views state ≡ no_answer state
  fed_closed c some = ap (λ (o : Option Closed). cond (is_some o) (no_answer state) (answers s one (logged_in s.role es) state views (new_items es bytes))) some

once_open : {X S V : Type 0} (s : Setup) (one : Answerer S V) (es : List (Event X)) (a b : List ℕ) (seen : X) (views more : List V) (state : S) → length views ≡ length (new_items es a) → closed_of s es ≡ None
    → fed_answers s one es (a ++ b) (views ++ more) state
    ≡ followed (fed_answers s one es a views state) (fed_answers s one (Fed a seen ∷ es) b more (fed_answers s one es a views state).knows)
once_open {X} {S} {V} s one es a b seen views more state each none =
    let mine : Answer S = answers s one (logged_in s.role es) state views (new_items es a) in
    let items : List Heard = new_items (Fed a seen ∷ es) b in
    let after : Bool → Option Closed → Answer S = λ on o. cond (is_some o) (no_answer mine.knows) (answers s one on mine.knows more items) in
    fed_open s one es (a ++ b) (views ++ more) state none
    ∙ ap (λ (l : List Heard). answers s one (logged_in s.role es) state (views ++ more) l) (new_cut es a b seen)
    ∙ answers_append s one (logged_in s.role es) state views more (new_items es a) items each
    ∙ ap (λ (on : Bool). followed mine (after on (first_cause s (logged_in s.role es) (new_items es a)))) (sym (logged_on s es a seen (new_items es a) (first_are es a b seen)))
    ∙ ap (λ (o : Option Closed). followed mine (after (logged_in s.role (Fed a seen ∷ es)) o)) (sym (closed_on s es a seen (new_items es a) (first_are es a b seen) none))
    ∙ ap (λ (x : Answer S). followed x (fed_answers s one (Fed a seen ∷ es) b more x.knows)) (sym (fed_open s one es a views state none))

once_closed : {X S V : Type 0} (s : Setup) (one : Answerer S V) (es : List (Event X)) (a b : List ℕ) (seen : X) (views more : List V) (state : S) (c : Closed) → closed_of s es ≡ Some c
    → fed_answers s one es (a ++ b) (views ++ more) state
    ≡ followed (fed_answers s one es a views state) (fed_answers s one (Fed a seen ∷ es) b more (fed_answers s one es a views state).knows)
once_closed s one es a b seen views more state c some =
    let shut : closed_of s (Fed a seen ∷ es) ≡ Some c = ap (λ (o : Option Closed). or_else o (first_cause s false (stream_items (fed_of es ++ a)))) some in
    fed_closed s one es (a ++ b) (views ++ more) state c some
    ∙ ap (followed (no_answer state)) (sym (fed_closed s one (Fed a seen ∷ es) b more state c shut))
    ∙ ap (λ (x : Answer _). followed x (fed_answers s one (Fed a seen ∷ es) b more x.knows)) (sym (fed_closed s one es a views state c some))

pub answers_once : {X S V : Type 0} → AnswersOnce X S V
answers_once s one es a b seen views more state each = by (closed_of s es) refl
  where
    by : (o : Option Closed) → closed_of s es ≡ o → fed_answers s one es (a ++ b) (views ++ more) state
        ≡ followed (fed_answers s one es a views state) (fed_answers s one (Fed a seen ∷ es) b more (fed_answers s one es a views state).knows)
    by None is = once_open s one es a b seen views more state each is
    by (Some c) is = once_closed s one es a b seen views more state c is
