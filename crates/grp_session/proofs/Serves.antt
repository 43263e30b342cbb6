-- The proxy's end over what happens to it.
use Rattle.std.proofs.Common.{◌≡◌, ℕ, Bool, true, false, cond, List, [], ◌∷◌, ◌++◌, length, replicate, refl, sym, ap, ◌∙◌, subst, Option, Some, None, is_some, nat_eq}
use Rattle.std.proofs.lemmas.List.{append-nil}
use Rattle.std.proofs.lemmas.Bool.{eq-eqb}
use Rattle.pitch_messages.specs.declared.session.SessionMessage.{SessionMessage}
use Rattle.pitch_messages.specs.declared.session.SessionMessage.TheVariants.{GapReply, GapRequest}
use Rattle.gap_store.specs.Look.{View}
use Rattle.gap_store.specs.layers.Looking.{IsLater}
use Rattle.session_ends.specs.declared.closed.Closed.{Closed}
use Rattle.session_ends.specs.declared.inbox.Heard.{Heard}
use Rattle.session_ends.specs.declared.role.Said.{Said}
use Rattle.session_ends.specs.Saying.{heard_by}
use Rattle.session_ends.specs.Answering.{Answer, no_answer, answers}
use Rattle.session_ends.specs.layers.Hearings.{Hears, HearsAll, Serves}
use Rattle.session_ends.specs.Closing.{Setup, logged_in}
use Rattle.session_ends.specs.Ending.{Ending, EndKnows, known_of}
use Rattle.session_ends.specs.layers.Ticking.{nothing_known, known_ticked}
use Rattle.session_ends.specs.declared.role.Role.{Role}
use Rattle.session_ends.specs.Events.{Event, Fed, Ticked}
use Rattle.session_ends.specs.Sending.{sent_bytes, new_items}
use Rattle.session_ends.specs.layers.Driving.{At, HearsPiece}
use Rattle.session_ends.proofs.Ends.{Takes, takes, fed_end, shut_end, known_none}
use Rattle.session_ends.proofs.Runs.{rises_rest, size_rest, served_all, served_same}
use Rattle.grp_session.specs.Asking.{gap_status, datagrams_of}
use Rattle.grp_session.specs.layers.Ranges.{IsAsked}
use Rattle.grp_session.specs.Budget.{Limits, Spent}
use Rattle.grp_session.specs.Serving.{Source, grp_answer, proxy_answer, grp_sends, ProxyStands}
use Rattle.grp_session.specs.Serving.{request_answer, gap_answer, message_answer, said_answer}
use Rattle.grp_session.specs.layers.Feeding.{ProxyFeeds}
use Rattle.grp_session.proofs.Asked.{later_order}
use Rattle.grp_session.proofs.GapLine.{answered_lines, none_packed}

pub stands_none : (v : Ending) (role : Role) → v.setup.role ≡ role → EndKnows v (nothing_known role) → ProxyStands v []
stands_none v role same is = subst (EndKnows v) (ap nothing_known (sym same) ∙ sym (known_none (grp_sends v.setup) v.setup)) is

pub stands_ticked : (old new : Ending) (es : List (Event Source)) → new.setup ≡ old.setup → EndKnows new (known_ticked (known_of (grp_sends old.setup) old.setup es)) → ProxyStands new (Ticked ∷ es)
stands_ticked old new es same is = subst (λ (s : Setup). EndKnows new (known_of (grp_sends s) s (Ticked ∷ es))) (sym same) is

-- nothing is answered
pub hears_none : {S V : Type 0} (Later : V → V → Type 0) (at : V → Answer S) (state : S) (view : V) (knows : S → Type 0) (shown : V → Type 0) (reply : List ℕ) (lines : List (List ℕ))
    → ((v : V) → at v ≡ no_answer state) → Later view view → knows state → shown view → Hears at Later view knows shown reply reply lines lines
hears_none Later at state view knows shown reply lines is later k v = record {
  now = view;
  later = later;
  shows = v;
  state_is = subst (λ a. knows a.knows) (sym (is view)) k;
  replied = sym (append-nil reply) ∙ ap (λ a. reply ++ a.reply) (sym (is view));
  lined = sym (append-nil lines) ∙ ap (λ a. lines ++ a.lines) (sym (is view));
}

-- only a reply is sent
pub hears_reply : {S V : Type 0} (Later : V → V → Type 0) (at : V → Answer S) (said : List ℕ) (state : S) (view : V) (knows : S → Type 0) (shown : V → Type 0) (reply reply' : List ℕ) (lines : List (List ℕ))
    → ((v : V) → at v ≡ record { reply = said; lines = []; knows = state }) → reply' ≡ reply ++ said → Later view view → knows state → shown view → Hears at Later view knows shown reply reply' lines lines
hears_reply Later at said state view knows shown reply reply' lines is more later k v = record {
  now = view;
  later = later;
  shows = v;
  state_is = subst (λ a. knows a.knows) (sym (is view)) k;
  replied = more ∙ ap (λ a. reply ++ a.reply) (sym (is view));
  lined = sym (append-nil lines) ∙ ap (λ a. lines ++ a.lines) (sym (is view));
}

-- a request of the unit was asked
pub hears_asked : (s : Setup) (there : Bool) (l : Limits) (spent : Spent) (view : View) (unit sequence count status : ℕ) (counted : Spent → Type 0) (shown : View → Type 0) (reply reply' : List ℕ) (lines lines' : List (List ℕ))
    → unit ≡ s.unit → IsAsked unit there l sequence count spent view status counted shown lines lines' → reply' ≡ reply ++ (gap_answer s status view spent unit sequence count).reply
    → Hears (λ (v : View). request_answer s there l v spent unit sequence count) IsLater view counted shown reply reply' lines lines'
hears_asked s there l spent view unit sequence count status counted shown reply reply' lines lines' mine asked more =
    let same : nat_eq unit s.unit ≡ true = eq-eqb unit s.unit mine in
    let is : gap_status (nat_eq unit s.unit) there l asked.now spent sequence count ≡ status = ap (λ (b : Bool). gap_status b there l asked.now spent sequence count) same ∙ sym asked.answer in
    let e : request_answer s there l asked.now spent unit sequence count ≡ gap_answer s status asked.now spent unit sequence count = ap (λ (n : ℕ). gap_answer s n asked.now spent unit sequence count) is in
    record {
      now = asked.now;
      later = asked.later;
      shows = asked.shows;
      state_is = subst (λ (a : Answer Spent). counted a.knows) (sym e) asked.counts;
      replied = more ∙ ap (λ (a : Answer Spent). reply ++ a.reply) (sym e);
      lined = asked.lines ∙ ap (λ (u : ℕ). lines ++ datagrams_of status u asked.now sequence count) mine ∙ ap (λ (a : Answer Spent). lines ++ a.lines) (sym e);
    }

-- a request of another unit
pub hears_other : (s : Setup) (there : Bool) (l : Limits) (spent : Spent) (view : View) (unit sequence count : ℕ) (counted : Spent → Type 0) (shown : View → Type 0) (reply reply' : List ℕ) (lines : List (List ℕ))
    → nat_eq unit s.unit ≡ false → reply' ≡ reply ++ (gap_answer s 73 view spent unit sequence count).reply → counted spent → shown view
    → Hears (λ (v : View). request_answer s there l v spent unit sequence count) IsLater view counted shown reply reply' lines lines
hears_other s there l spent view unit sequence count counted shown reply reply' lines other more c v =
    hears_reply IsLater (λ (w : View). request_answer s there l w spent unit sequence count) (sent_bytes s (GapReply unit sequence count 73)) spent view counted shown reply reply' lines
    (λ w. ap (λ (b : Bool). gap_answer s (gap_status b there l w spent sequence count) w spent unit sequence count) other) more (later_order.same view) c v

-- a message is a request, after an accepted login
pub hears_request : (s : Setup) (there : Bool) (l : Limits) (logged : Bool) (spent : Spent) (view : View) (unit sequence count : ℕ) (message : SessionMessage) (counted : Spent → Type 0) (shown : View → Type 0) (reply reply' : List ℕ) (lines lines' : List (List ℕ))
    → message ≡ GapRequest unit sequence count → logged ≡ true → Hears (λ (v : View). request_answer s there l v spent unit sequence count) IsLater view counted shown reply reply' lines lines'
    → Hears (λ (v : View). message_answer s there l logged spent v message) IsLater view counted shown reply reply' lines lines'
hears_request s there l logged spent view unit sequence count message counted shown reply reply' lines lines' is on h =
    subst (λ (x : SessionMessage). Hears (λ (v : View). message_answer s there l logged spent v x) IsLater view counted shown reply reply' lines lines') (sym is)
    (subst (λ (b : Bool). Hears (λ (v : View). message_answer s there l b spent v (GapRequest unit sequence count)) IsLater view counted shown reply reply' lines lines') (sym on) h)

-- what was said is what the stream says next
pub hears_item : (s : Setup) (there : Bool) (l : Limits) (logged : Bool) (spent : Spent) (view : View) (said : Said) (item : Heard) (counted : Spent → Type 0) (shown : View → Type 0) (reply reply' : List ℕ) (lines lines' : List (List ℕ))
    → said ≡ heard_by s.role item → Hears (λ (v : View). said_answer s there l logged spent v said) IsLater view counted shown reply reply' lines lines'
    → Hears (λ (v : View). grp_answer s there l logged spent v item) IsLater view counted shown reply reply' lines lines'
hears_item s there l logged spent view said item counted shown reply reply' lines lines' is h =
    subst (λ (x : Said). Hears (λ (v : View). said_answer s there l logged spent v x) IsLater view counted shown reply reply' lines lines') is h

-- a piece was heard while the end was open
pub fed_serves : {D L : Type 0} (terms : D → Bool × Limits) (counted : D → Spent → Type 0) (lines : D → List (List ℕ)) (shows : L → View → Type 0) (es : List (Event Source)) (piece said : List ℕ) (old new : Ending) (from to : At D L) (there : Bool) (l : Limits) (spent : Spent) (view : View)
    → old.closed ≡ None → ProxyStands old es → terms from.desk ≡ (there, l) → from.said ≡ [] → lines from.desk ≡ [] → to.said ≡ said → HearsPiece (Serves terms (λ (t : Bool × Limits) (s : Setup). grp_answer s t.0 t.1) counted lines shows IsLater) old new piece said from to
    → counted from.desk spent → shows from.source view → ProxyFeeds es piece old new there l spent view (counted to.desk) (shows to.source) [] said [] (lines to.desk)
fed_serves terms counted lines shows es piece said old new from to there l spent view still stands by_terms none_said none_sent said_is w k shown =
    let s : Setup = old.setup in
    let h : HearsAll s (grp_answer s there l) IsLater old.logged w.items spent view (counted to.desk) (shows to.source) from.said to.said (lines from.desk) (lines to.desk) =
    subst (λ (t : Bool × Limits). HearsAll s (grp_answer s t.0 t.1) IsLater old.logged w.items spent view (counted to.desk) (shows to.source) from.said to.said (lines from.desk) (lines to.desk)) by_terms
    (served_all terms (λ (t : Bool × Limits) (s : Setup). grp_answer s t.0 t.1) counted lines shows IsLater later_order s old.logged w.items from to w.drives spent view k shown) in
    let source : Source = record { there = there; views = h.views; limits = l; spent = spent } in
    let t : Takes s es piece old.logged new.inbox w.items = takes (grp_sends s) s es piece source old new.inbox [] w.items still stands refl w.takes in
    let a : Answer Spent = answers s (grp_answer s there l) old.logged spent h.views w.items in
    let answered : proxy_answer s es piece source ≡ a =
    ap (λ (o : Option Closed). cond (is_some o) (no_answer spent) (answers s (grp_answer s there l) (logged_in s.role es) spent h.views (new_items es piece))) t.open_is
    ∙ ap (λ (x : List Heard). answers s (grp_answer s there l) (logged_in s.role es) spent h.views x) t.new_is
    ∙ ap (λ (b : Bool). answers s (grp_answer s there l) b spent h.views w.items) (sym t.logged_is) in
    let bytes : said ≡ (proxy_answer s es piece source).reply = sym said_is ∙ h.replied ∙ ap (λ (x : List ℕ). x ++ a.reply) none_said ∙ ap (λ (x : Answer Spent). x.reply) (sym answered) in
    let sent : lines to.desk ≡ a.lines = h.lined ∙ ap (λ (x : List (List ℕ)). x ++ a.lines) none_sent in
    record {
      views = h.views;
      each = h.each ∙ ap length (sym t.new_is);
      now = h.now;
      rises = h.rises;
      shows = h.shows;
      answered = record {
        stands = subst (λ (x : Setup). EndKnows new (known_of (grp_sends x) x (Fed piece source ∷ es))) (sym w.did.setup_is) (fed_end (grp_sends s) es piece source old new w.items said still stands t w.did bytes);
        counts = subst (λ (x : Answer Spent). counted to.desk x.knows) (sym answered) h.state_is;
        replied = bytes;
        lined = sent ∙ ap (λ (x : Answer Spent). x.lines) (sym answered);
      };
      packing = λ are. (a.lines, sent, answered_lines s there l h.now are old.logged spent h.views w.items view h.rises);
    }

-- by limits that stay
pub fed_limits : {D L : Type 0} (terms : D → Bool × Limits) (counted : D → Spent → Type 0) (lines : D → List (List ℕ)) (shows : L → View → Type 0) (piece said : List ℕ) (old new : Ending) (from to : At D L)
    → HearsPiece (Serves terms (λ (t : Bool × Limits) (s : Setup). grp_answer s t.0 t.1) counted lines shows IsLater) old new piece said from to → (terms to.desk).1 ≡ (terms from.desk).1
fed_limits terms counted lines shows piece said old new from to w =
    ap (λ (t : Bool × Limits). t.1) (served_same terms (λ (t : Bool × Limits) (s : Setup). grp_answer s t.0 t.1) counted lines shows IsLater old.setup old.logged w.items from to w.drives)

-- an end that was closed stays as it was, and says nothing
pub fed_shut : (es : List (Event Source)) (piece : List ℕ) (v : Ending) (c : Closed) (there : Bool) (l : Limits) (spent : Spent) (view : View) (counted : Spent → Type 0) (shown : View → Type 0) (reply : List ℕ) (lines : List (List ℕ))
    → v.closed ≡ Some c → ProxyStands v es → counted spent → shown view → ProxyFeeds es piece v v there l spent view counted shown reply reply lines lines
fed_shut es piece v c there l spent view counted shown reply lines some stands k shows =
    let s : Setup = v.setup in
    let n : ℕ = length (new_items es piece) in
    let source : Source = record { there = there; views = replicate n view; limits = l; spent = spent } in
    let said : proxy_answer s es piece source ≡ no_answer spent =
    ap (λ (o : Option Closed). cond (is_some o) (no_answer spent) (answers s (grp_answer s there l) (logged_in s.role es) spent source.views (new_items es piece))) (sym stands.closed_is ∙ some) in
    record {
      views = replicate n view;
      each = size_rest n view;
      now = view;
      rises = rises_rest IsLater later_order view n;
      shows = shows;
      answered = record {
        stands = shut_end (grp_sends s) s es (Fed piece source) v c some stands;
        counts = subst (λ (x : Answer Spent). counted x.knows) (sym said) k;
        replied = sym (append-nil reply) ∙ ap (λ (x : Answer Spent). reply ++ x.reply) (sym said);
        lined = sym (append-nil lines) ∙ ap (λ (x : Answer Spent). lines ++ x.lines) (sym said);
      };
      packing = λ are. ([], sym (append-nil lines), none_packed v.setup.unit view.messages);
    }

-- what was said into empty lists is appended to others
pub feeds_behind : (es : List (Event Source)) (piece : List ℕ) (old new : Ending) (there : Bool) (l : Limits) (spent : Spent) (view : View) (counted : Spent → Type 0) (shown : View → Type 0)
    (said reply reply' : List ℕ) (sent lines lines' : List (List ℕ))
    → ProxyFeeds es piece old new there l spent view counted shown [] said [] sent → reply' ≡ reply ++ said → lines' ≡ lines ++ sent → ProxyFeeds es piece old new there l spent view counted shown reply reply' lines lines'
feeds_behind es piece old new there l spent view counted shown said reply reply' sent lines lines' f r n = record {
  views = f.views;
  each = f.each;
  now = f.now;
  rises = f.rises;
  shows = f.shows;
  answered = record {
    stands = f.answered.stands;
    counts = f.answered.counts;
    replied = r ∙ ap (λ (x : List ℕ). reply ++ x) f.answered.replied;
    lined = n ∙ ap (λ (x : List (List ℕ)). lines ++ x) f.answered.lined;
  };
  packing = λ are. let p = f.packing are in (p.0, n ∙ ap (λ (x : List (List ℕ)). lines ++ x) p.1, p.2);
}
