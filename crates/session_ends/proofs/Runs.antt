-- Messages that a server hears, one after another.
use Rattle.std.proofs.Common.{◌≡◌, ℕ, zero, suc, Bool, cond, ◌||◌, List, [], ◌∷◌, ◌++◌, length, replicate, refl, sym, ap, ◌∙◌, subst, append_assoc, Option, Some, None, is_some, MatchOption}
use Rattle.std.specs.List.{list_any}
use Rattle.std.proofs.lemmas.List.{append-nil}
use Rattle.std.proofs.Math.Bool.{or-false}
use Rattle.session_ends.specs.declared.closed.Closed.{Closed}
use Rattle.session_ends.specs.declared.inbox.Heard.{Heard}
use Rattle.session_ends.specs.Answering.{Answer, Answerer, no_answer, followed, answers}
use Rattle.session_ends.specs.layers.Driving.{At, Drives}
use Rattle.session_ends.specs.layers.Hearings.{Rises, Hears, HearsAll, Serves}
use Rattle.session_ends.specs.Closing.{Setup, cause_of, first_cause, or_else, logs_in}
use Rattle.session_ends.specs.layers.Laws.{RisesNowhere}
use Rattle.session_ends.proofs.Ends.{bool_assoc}

-- ---- The cause and the logins
-- the first cause, and the logins, are those of what is left
pub record Left (s : Setup) (logged0 : Bool) (items : List Heard) (logged : Bool) (rest : List Heard) : Type 0 where
  pub cause : first_cause s logged0 items ≡ first_cause s logged rest
  pub logins : (logged0 || list_any (logs_in s.role) items) ≡ (logged || list_any (logs_in s.role) rest)

pub left_none : (s : Setup) (logged : Bool) (items : List Heard) → Left s logged items logged items
left_none s logged items = record { cause = refl; logins = refl }

module _ (s : Setup) (logged0 : Bool) (items : List Heard) (logged : Bool) (item : Heard) (rest tail : List Heard) (f : Left s logged0 items logged rest) (is : rest ≡ item ∷ tail) where
  pub left_more : cause_of s logged item ≡ None → Left s logged0 items (logged || logs_in s.role item) tail
  left_more none = record {
    cause = f.cause ∙ ap (first_cause s logged) is ∙ ap (λ (o : Option Closed). or_else o (first_cause s (logged || logs_in s.role item) tail)) none;
    logins = f.logins ∙ ap (λ (l : List Heard). logged || list_any (logs_in s.role) l) is ∙ bool_assoc logged (logs_in s.role item) (list_any (logs_in s.role) tail);
  }

  pub left_stop : (closed : Closed) → cause_of s logged item ≡ Some closed → Some closed ≡ first_cause s logged0 items
  left_stop closed some = sym (f.cause ∙ ap (first_cause s logged) is ∙ ap (λ (o : Option Closed). or_else o (first_cause s (logged || logs_in s.role item) tail)) some)

pub left_end : (s : Setup) (logged0 : Bool) (items : List Heard) (logged : Bool) (rest : List Heard) → Left s logged0 items logged rest → rest ≡ [] → (None ≡ first_cause s logged0 items) × (logged ≡ (logged0 || list_any (logs_in s.role) items))
left_end s logged0 items logged rest f none =
    (sym (f.cause ∙ ap (first_cause s logged) none), sym (f.logins ∙ ap (λ (is : List Heard). logged || list_any (logs_in s.role) is) none ∙ or-false logged))

-- ---- What is done with them
-- what is done so far leads on, whatever is done with what is left
pub record Driven {X : Type 0} (answered : Setup → Bool → Heard → X → X → Type 0) (s : Setup) (logged0 : Bool) (items : List Heard) (first : X) (logged : Bool) (rest : List Heard) (now : X) : Type 0 where
  pub on : (to : X) → Drives answered s logged rest now to → Drives answered s logged0 items first to

pub driven_none : {X : Type 0} (answered : Setup → Bool → Heard → X → X → Type 0) (s : Setup) (logged : Bool) (items rest : List Heard) (first : X) → rest ≡ items → Driven answered s logged items first logged rest first
driven_none answered s logged items rest first is = record { on = λ to d. subst (λ (l : List Heard). Drives answered s logged l first to) is d }

-- one more is answered, and judged
module _ {X : Type 0} (answered : Setup → Bool → Heard → X → X → Type 0) (s : Setup) (logged0 : Bool) (items : List Heard) (first : X) (logged : Bool) (item : Heard) (rest tail : List Heard) (now next : X) (s' : Setup) (logged' : Bool) (closed : Option Closed)
    (l : Left s logged0 items logged rest) (d : Driven answered s logged0 items first logged rest now) (same : s' ≡ s) (is : rest ≡ item ∷ tail) (step : answered s' logged item now next) (cause : closed ≡ cause_of s' logged item) (logs : logged' ≡ (logged || logs_in s'.role item)) where
  then : (to : X) → MatchOption (cause_of s logged item) (Drives answered s (logged || logs_in s.role item) tail next to) (λ closed. to ≡ next) → Drives answered s logged0 items first to
  then to m = d.on to (subst (λ (l : List Heard). Drives answered s logged l now to) (sym is) (next, (subst (λ (x : Setup). answered x logged item now next) same step, m)))

  cause_is : (c : Option Closed) → closed ≡ c → cause_of s logged item ≡ c
  cause_is c e = ap (λ (x : Setup). cause_of x logged item) (sym same) ∙ sym cause ∙ e

  logs_is : (logged || logs_in s.role item) ≡ logged'
  logs_is = ap (λ (x : Setup). logged || logs_in x.role item) (sym same) ∙ sym logs

  pub left_on : closed ≡ None → Left s logged0 items logged' tail
  left_on none = subst (λ (b : Bool). Left s logged0 items b tail) logs_is (left_more s logged0 items logged item rest tail l is (cause_is None none))

  pub driven_on : closed ≡ None → Driven answered s logged0 items first logged' tail next
  driven_on none = record {
    on = λ to r. then to (subst (λ (o : Option Closed). MatchOption o (Drives answered s (logged || logs_in s.role item) tail next to) (λ closed. to ≡ next)) (sym (cause_is None none))
        (subst (λ (b : Bool). Drives answered s b tail next to) (sym logs_is) r));
  }

  pub closed_by : (c : Closed) → closed ≡ Some c → closed ≡ first_cause s logged0 items
  closed_by c some = some ∙ left_stop s logged0 items logged item rest tail l is c (cause_is (Some c) some)

  pub driven_to : (c : Closed) → closed ≡ Some c → Drives answered s logged0 items first next
  driven_to c some = then next (subst (λ (o : Option Closed). MatchOption o (Drives answered s (logged || logs_in s.role item) tail next next) (λ closed. next ≡ next)) (sym (cause_is (Some c) some)) refl)

pub driven_end : {X : Type 0} (answered : Setup → Bool → Heard → X → X → Type 0) (s : Setup) (logged0 : Bool) (items : List Heard) (first : X) (logged : Bool) (rest : List Heard) (now : X)
    → Driven answered s logged0 items first logged rest now → rest ≡ [] → Drives answered s logged0 items first now
driven_end answered s logged0 items first logged rest now d none = d.on now (subst (λ (l : List Heard). Drives answered s logged l now now) (sym none) refl)

-- ---- The answers
-- what it takes of views to come one after another
pub record IsOrder {V : Type 0} (Later : V → V → Type 0) : Type 0 where
  pub same : (v : V) → Later v v
  pub then : (a b c : V) → Later a b → Later b c → Later a c

pub rises_rest : {V : Type 0} (Later : V → V → Type 0) → IsOrder Later → (v : V) (n : ℕ) → Rises Later v (replicate n v) v
rises_rest Later o v zero = o.same v
rises_rest Later o v (suc n) = (o.same v, rises_rest Later o v n)

pub size_rest : {V : Type 0} (n : ℕ) (v : V) → length (replicate n v) ≡ n
size_rest zero v = refl
size_rest (suc n) v = ap suc (size_rest n v)

-- an answer, then those to what is left
module _ {S V : Type 0} (s : Setup) (one : Answerer S V) (Later : V → V → Type 0) (logged : Bool) (item : Heard) (items : List Heard) (state : S) (view : V) (knows : S → Type 0) (shown : V → Type 0)
    (reply reply' : List ℕ) (lines lines' : List (List ℕ)) (h : Hears (λ (v : V). one logged state v item) Later view knows shown reply reply' lines lines') where
  abbrev this : Answer S
  this = one logged state h.now item

  answers_more : (knows' : S → Type 0) (shown' : V → Type 0) (reply'' : List ℕ) (lines'' : List (List ℕ)) → cause_of s logged item ≡ None
      → HearsAll s one Later (logged || logs_in s.role item) items this.knows h.now knows' shown' reply' reply'' lines' lines'' → HearsAll s one Later logged (item ∷ items) state view knows' shown' reply reply'' lines lines''
  answers_more knows' shown' reply'' lines'' none t =
      let more : Answer S = answers s one (logged || logs_in s.role item) this.knows t.views items in
      let e : answers s one logged state (h.now ∷ t.views) (item ∷ items) ≡ followed this more = ap (λ (c : Option Closed). followed this (cond (is_some c) (no_answer this.knows) more)) none in
      record {
        views = h.now ∷ t.views;
        each = ap suc t.each;
        now = t.now;
        rises = (h.later, t.rises);
        shows = t.shows;
        state_is = subst knows' (ap (λ (a : Answer S). a.knows) (sym e)) t.state_is;
        replied = t.replied ∙ ap (λ (x : List ℕ). x ++ more.reply) h.replied ∙ append_assoc reply this.reply more.reply ∙ ap (λ (a : Answer S). reply ++ a.reply) (sym e);
        lined = t.lined ∙ ap (λ (x : List (List ℕ)). x ++ more.lines) h.lined ∙ append_assoc lines this.lines more.lines ∙ ap (λ (a : Answer S). lines ++ a.lines) (sym e);
      }

  answers_last : IsOrder Later → (closed : Closed) → cause_of s logged item ≡ Some closed → HearsAll s one Later logged (item ∷ items) state view knows shown reply reply' lines lines'
  answers_last o closed some =
      let left : List V = replicate (length items) h.now in
      let e : answers s one logged state (h.now ∷ left) (item ∷ items) ≡ followed this (no_answer this.knows) =
      ap (λ (c : Option Closed). followed this (cond (is_some c) (no_answer this.knows) (answers s one (logged || logs_in s.role item) this.knows left items))) some in
      record {
        views = h.now ∷ left;
        each = ap suc (size_rest (length items) h.now);
        now = h.now;
        rises = (h.later, rises_rest Later o h.now (length items));
        shows = h.shows;
        state_is = subst knows (ap (λ (a : Answer S). a.knows) (sym e)) h.state_is;
        replied = h.replied ∙ ap (λ (x : List ℕ). reply ++ x) (sym (append-nil this.reply)) ∙ ap (λ (a : Answer S). reply ++ a.reply) (sym e);
        lined = h.lined ∙ ap (λ (x : List (List ℕ)). lines ++ x) (sym (append-nil this.lines)) ∙ ap (λ (a : Answer S). lines ++ a.lines) (sym e);
      }

-- the same, by what closes the end
answers_on : {S V X : Type 0} (s : Setup) (one : Answerer S V) (Later : V → V → Type 0) → IsOrder Later → (logged : Bool) (item : Heard) (items : List Heard) (state : S) (view : V) (knows : X → S → Type 0) (shown : X → V → Type 0) (said : X → List ℕ) (lines : X → List (List ℕ))
    (from next to : X) (h : Hears (λ (v : V). one logged state v item) Later view (knows next) (shown next) (said from) (said next) (lines from) (lines next)) (A : Type 0) (c : Option Closed) → cause_of s logged item ≡ c → MatchOption c A (λ closed. to ≡ next)
    → (A → HearsAll s one Later (logged || logs_in s.role item) items (one logged state h.now item).knows h.now (knows to) (shown to) (said next) (said to) (lines next) (lines to))
    → HearsAll s one Later logged (item ∷ items) state view (knows to) (shown to) (said from) (said to) (lines from) (lines to)
answers_on s one Later o logged item items state view knows shown said lines from next to h A None is m go =
    answers_more s one Later logged item items state view (knows next) (shown next) (said from) (said next) (lines from) (lines next) h (knows to) (shown to) (said to) (lines to) is (go m)
answers_on {S} {V} {X} s one Later o logged item items state view knows shown said lines from next to h A (Some closed) is m go =
    subst (λ (x : X). HearsAll s one Later logged (item ∷ items) state view (knows x) (shown x) (said from) (said x) (lines from) (lines x)) (sym m)
    (answers_last s one Later logged item items state view (knows next) (shown next) (said from) (said next) (lines from) (lines next) h o closed is)

-- what a server's desk answers, one after another
pub served_all : {D L Terms S V : Type 0} (terms : D → Terms) (one : Terms → Setup → Answerer S V) (knows : D → S → Type 0) (lines : D → List (List ℕ)) (shows : L → V → Type 0) (Later : V → V → Type 0) → IsOrder Later
    → (s : Setup) (logged : Bool) (items : List Heard) (from to : At D L) → Drives (Serves terms one knows lines shows Later) s logged items from to → (state : S) (view : V) → knows from.desk state → shows from.source view
    → HearsAll s (one (terms from.desk) s) Later logged items state view (knows to.desk) (shows to.source) from.said to.said (lines from.desk) (lines to.desk)
served_all {D} {L} terms one knows lines shows Later o s logged [] from to d state view k v =
    subst (λ (x : At D L). HearsAll s (one (terms from.desk) s) Later logged [] state view (knows x.desk) (shows x.source) from.said x.said (lines from.desk) (lines x.desk)) (sym d) (record {
      views = [];
      each = refl;
      now = view;
      rises = o.same view;
      shows = v;
      state_is = k;
      replied = sym (append-nil from.said);
      lined = sym (append-nil (lines from.desk));
    })
served_all {D} {L} {Terms} terms one knows lines shows Later o s logged (item ∷ items) from to d state view k v =
    let next : At D L = d.0 in
    let does : Serves terms one knows lines shows Later s logged item from next = d.1.0 in
    let h = does.hears state view k v in
    answers_on s (one (terms from.desk) s) Later o logged item items state view (λ (x : At D L). knows x.desk) (λ (x : At D L). shows x.source) (λ (x : At D L). x.said) (λ (x : At D L). lines x.desk) from next to h
    (Drives (Serves terms one knows lines shows Later) s (logged || logs_in s.role item) items next to) (cause_of s logged item) refl d.1.1
    (λ r. subst (λ (t : Terms). HearsAll s (one t s) Later (logged || logs_in s.role item) items (one (terms from.desk) s logged state h.now item).knows h.now (knows to.desk) (shows to.source) next.said to.said (lines next.desk) (lines to.desk)) does.same
    (served_all terms one knows lines shows Later o s (logged || logs_in s.role item) items next to r (one (terms from.desk) s logged state h.now item).knows h.now h.state_is h.shows))

-- and by the same terms to its end
pub served_same : {D L Terms S V : Type 0} (terms : D → Terms) (one : Terms → Setup → Answerer S V) (knows : D → S → Type 0) (lines : D → List (List ℕ)) (shows : L → V → Type 0) (Later : V → V → Type 0)
    (s : Setup) (logged : Bool) (items : List Heard) (from to : At D L) → Drives (Serves terms one knows lines shows Later) s logged items from to → terms to.desk ≡ terms from.desk
served_same {D} {L} terms one knows lines shows Later s logged [] from to d = ap (λ (x : At D L). terms x.desk) d
served_same {D} {L} {Terms} terms one knows lines shows Later s logged (item ∷ items) from to d = by (cause_of s logged item) d.1.1 (λ r. served_same terms one knows lines shows Later s (logged || logs_in s.role item) items d.0 to r) ∙ d.1.0.same
  where
    by : (c : Option Closed) → MatchOption c (Drives (Serves terms one knows lines shows Later) s (logged || logs_in s.role item) items d.0 to) (λ closed. to ≡ d.0)
        → (Drives (Serves terms one knows lines shows Later) s (logged || logs_in s.role item) items d.0 to → terms to.desk ≡ terms d.0.desk) → terms to.desk ≡ terms d.0.desk
    by None m go = go m
    by (Some closed) m go = ap (λ (x : At D L). terms x.desk) m

-- ---- Views that do not rise
pub rises_to : {V : Type 0} (Later : V → V → Type 0) → IsOrder Later → (first : V) (vs : List V) (last : V) → Rises Later first vs last → Later first last
rises_to Later o first [] last r = r
rises_to Later o first (v ∷ vs) last r = o.then first v last r.0 (rises_to Later o v vs last r.1)

pub rises_nowhere : {V : Type 0} (Later : V → V → Type 0) → IsOrder Later → ((a b : V) → Later a b → Later b a → b ≡ a) → RisesNowhere V Later
rises_nowhere Later o one first last [] r same = refl
rises_nowhere {V} Later o one first last (v ∷ vs) r same =
    let is : v ≡ first = one first v r.0 (subst (Later v) same (rises_to Later o v vs last r.1)) in
    ap (λ (w : V). w ∷ vs) is ∙ ap (λ (ws : List V). first ∷ ws) (rises_nowhere Later o one first last vs (subst (λ (w : V). Rises Later w vs last) is r.1) same)
