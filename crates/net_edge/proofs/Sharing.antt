-- The market of a shared unit. A server that was told of all, and that has seen no more than all afterwards, answered at just that.
use Rattle.std.proofs.Common.{◌≡◌, ℕ, zero, suc, ◌+◌, ◌≤◌, Bool, true, false, cond, ◌||◌, List, [], ◌∷◌, ◌++◌, length, length-append, replicate, Option, None, Some, Ok, refl, sym, ap, ◌∙◌, subst, arith, is_some}
use Rattle.std.proofs.lemmas.Bool.Decides.{nat_tests}
use Rattle.std.proofs.lemmas.List.{append-nil}
use Rattle.std.proofs.lemmas.Option.{none-some, same_Some}
use Rattle.venue_core.proofs.Accepting.{last_there}
use mathlib.Core.List.{IsPrefix}
use Rattle.pitch_fields.specs.Fields.{AreBytes}
use Rattle.pitch_fields.specs.Limits.{last_sequence}
use Rattle.pitch_fields.proofs.Lists.{all_push}
use Rattle.pitch_messages.specs.Raw.{IsRaw}
use Rattle.pitch_messages.specs.declared.session.SessionMessage.{SessionMessage}
use Rattle.pitch_messages.specs.declared.session.SessionMessage.TheVariants.{Login, LoginReply, SpinRequest}
use Rattle.pitch_model.specs.Advertising.{Operation, Accept, Advertise, accepted_by, advertised_by, with_sequence}
use Rattle.pitch_model.specs.Book.{book_after}
use Rattle.pitch_model.specs.History.{Raw}
use Rattle.pitch_model.proofs.Advertising.{accepted_more, advertised_accept, advertised_advertise}
use Rattle.gap_store.specs.Look.{View}
use Rattle.gap_store.specs.layers.Looking.{IsLater}
use Rattle.gap_store.proofs.OneView.{later_both as same_views}
use Rattle.session_ends.specs.Answering.{Answer, Answerer, no_answer, followed, answers}
use Rattle.session_ends.specs.layers.Hearings.{Rises}
use Rattle.session_ends.specs.Closing.{Setup, cause_of, closed_of, logged_in, logs_in, login_status}
use Rattle.session_ends.specs.Ending.{Ending, EndKnows, Known, known_of}
use Rattle.session_ends.specs.Events.{Event, Fed}
use Rattle.session_ends.specs.Saying.{heard_by}
use Rattle.session_ends.specs.Sending.{new_items, sent_bytes, sent_since, some_bytes}
use Rattle.session_ends.specs.declared.inbox.Heard.{Heard}
use Rattle.session_ends.specs.declared.role.Said.{Said}
use Rattle.session_ends.specs.declared.role.Said.TheVariants.{Message}
use Rattle.session_ends.proofs.Runs.{IsOrder, rises_nowhere, rises_to}
use Rattle.grp_session.specs.Budget.{Limits, Spent}
use Rattle.grp_session.specs.Serving.{Source}
use Rattle.grp_session.specs.layers.Feeding.{Answered, ProxyFeeds}
use Rattle.grp_session.proofs.Asked as asked
use Rattle.spin_server.specs.Served.{Served, is_served}
use Rattle.spin_server.specs.layers.Looking.{ServedLater}
use Rattle.spin_server.specs.Serving.{Serving, Spin, SpinStands, after_login, refusal_answer}
use Rattle.spin_server.specs.Serving.{running_spin, served_answer, spin_answer, spin_fed_answer}
use Rattle.spin_server.specs.Serving.{spin_message_answer, spin_said_answer, spin_sends}
use Rattle.spin_server.specs.layers.Feeding.{SpinFeeds}
use Rattle.spin_server.specs.layers.ShelfViews.{seen_of}
use Rattle.spin_server.proofs.Serves as serves
use Rattle.spin_server.proofs.Shelving.{later_both, seen_newest, seen_served}
use Rattle.shared_unit.specs.layers.Histories.{kept_at, served_at, then_done}
use Rattle.shared_unit.specs.layers.Moments.{Writing}
use Rattle.shared_unit.proofs.Looking.{messages_later, images_later}
use Rattle.venue_core.specs.Commands.{raw_of}
use Rattle.venue_core.specs.Refusals.{IsAnswer, adds_open_order, are_spent, first_refusal, has_bad_name, has_no_shares, is_ended, names_no_order, overfills, refusal, refused_if, takes_too_much}
use Rattle.venue_core.specs.Stands.{last_of}
use Rattle.venue_core.specs.declared.error.VenueError.{VenueError}
use Rattle.venue_core.specs.declared.error.VenueError.TheVariants.{Ended, ZeroQuantity, BadSymbol, KnownId, UnknownId, BookFull, SequencesSpent}
use Rattle.unit_market.specs.Markets.{Journal, kept_view}
use Rattle.unit_market.specs.Views.{image_view, new_journal}
use Rattle.venue_end.specs.Came.{gap_source}
use Rattle.venue_end.specs.layers.Serving.{SpinFed}
use Rattle.pitch_text.specs.declared.command.Command.{Command}
use Rattle.world_model.specs.Ends.{default_limits}
use Rattle.net_edge.specs.Due.{demo_unit}
use Rattle.net_edge.specs.layers.Ends.{AreMessages}
use Rattle.net_edge.specs.layers.Shared.{SharedHas, Accepts, Advertises}

-- ---- The writer
last_accepted : (history : List Operation) (raw : Raw) → last_of (accepted_by (then_done history (Accept raw))) ≡ Some raw
last_accepted history raw = ap last_of (accepted_more history (Accept raw)) ∙ last_there (accepted_by history) raw

pub accepted_is : (history now : List Operation) (raw last : Raw) → now ≡ then_done history (Accept raw) → Some last ≡ last_of (accepted_by now) → last ≡ raw
accepted_is history now raw last is at = same_Some last raw (at ∙ ap (λ (h : List Operation). last_of (accepted_by h)) is ∙ last_accepted history raw)

pub accepted_there : (history now : List Operation) (raw : Raw) → now ≡ then_done history (Accept raw) → None ≡ last_of (accepted_by now) → ⊥
accepted_there history now raw is none = none-some raw (none ∙ ap (λ (h : List Operation). last_of (accepted_by h)) is ∙ last_accepted history raw)

-- a writer that has done nothing has the journal of that
pub has_nothing : (writer : Writing) → writer.history ≡ [] → writer.cut_off ≡ false → SharedHas writer (new_journal demo_unit default_limits.kept)
has_nothing writer nothing reaches = record {
  unit_is = refl;
  kept_is = refl;
  reaches = reaches;
  accepted_is = ap accepted_by nothing;
  advertised_is = ap advertised_by nothing;
  messages = record { raws = tt; bytes = tt; few = omega arith };
}

-- ---- A command
-- one that was answered with a sequence was not refused
not_refused : (r : Option VenueError) (wanted given : ℕ) → IsAnswer r wanted (Ok given) → r ≡ None
not_refused None wanted given is = refl
not_refused (Some error) wanted given is = absurd (cc)

last_not_refused : (xs : List (Option VenueError)) (last : Option VenueError) → first_refusal (xs ++ last ∷ []) ≡ None → last ≡ None
last_not_refused [] None e = e
last_not_refused [] (Some error) e = e
last_not_refused (None ∷ xs) last e = last_not_refused xs last e
last_not_refused (Some error ∷ xs) last e = absurd (none-some error (sym e))

-- and so there is a sequence for its message
next_there : (V : List Raw) (command : Command) → length V ≤ last_sequence → refusal V command ≡ None → suc (length V) ≤ last_sequence
next_there V command few fine = by (are_spent (length V)) refl
    (last_not_refused (refused_if (is_ended V) Ended ∷ refused_if (has_no_shares command) ZeroQuantity ∷ refused_if (has_bad_name command) BadSymbol ∷ refused_if (adds_open_order (book_after V) command) KnownId
    ∷ refused_if (names_no_order (book_after V) command) UnknownId ∷ takes_too_much (book_after V) command ∷ refused_if (overfills (book_after V) command) BookFull ∷ [])
    (refused_if (are_spent (length V)) SequencesSpent) fine)
  where
    by : (spent : Bool) → are_spent (length V) ≡ spent → refused_if spent SequencesSpent ≡ None → suc (length V) ≤ last_sequence
    by true is e = absurd (none-some SequencesSpent (sym e))
    by false is e = grind (arith, nat_tests, is, few)

messages_more : (V : List Raw) (raw : Raw) → AreMessages V → IsRaw raw → AreBytes raw → suc (length V) ≤ last_sequence → AreMessages (V ++ raw ∷ [])
messages_more V raw are is_raw bytes few = record {
  raws = all_push IsRaw V raw are.raws is_raw;
  bytes = all_push AreBytes V raw are.bytes bytes;
  few = omega (arith, few, length-append V (raw ∷ []));
}

-- a command was answered with a sequence
pub accepts : (writer now : Writing) (command : Command) (sequence : ℕ) (j : Journal) → IsAnswer (refusal (accepted_by writer.history) command) (length (accepted_by writer.history) + 1) (Ok sequence)
    → now.cut_off ≡ false → now.history ≡ then_done writer.history (Accept (raw_of command)) → IsRaw (raw_of command) → AreBytes (raw_of command) → SharedHas writer j → Accepts writer now command j
accepts writer now command sequence j answer reaches is is_raw bytes has =
    let raw : Raw = raw_of command in
    let fine : refusal j.messages command ≡ None =
    subst (λ (raws : List Raw). refusal raws command ≡ None) has.accepted_is (not_refused (refusal (accepted_by writer.history) command) (length (accepted_by writer.history) + 1) sequence answer) in
    record {
      not_refused = fine;
      has = record {
        unit_is = has.unit_is;
        kept_is = has.kept_is;
        reaches = reaches;
        accepted_is = ap accepted_by is ∙ accepted_more writer.history (Accept raw) ∙ ap (λ (raws : List Raw). raws ++ raw ∷ []) has.accepted_is;
        advertised_is = ap advertised_by is ∙ advertised_accept writer.history raw ∙ has.advertised_is;
        messages = messages_more j.messages raw has.messages is_raw bytes (next_there j.messages command has.messages.few fine);
      };
    }

-- ---- An image
-- one was advertised
pub advertises : (writer now : Writing) (sequence : ℕ) (j : Journal) → sequence ≡ length (accepted_by writer.history) → now.cut_off ≡ false → now.history ≡ then_done writer.history Advertise → SharedHas writer j → Advertises writer now sequence j
advertises writer now sequence j at reaches is has = record {
  sequence_is = at ∙ ap (λ (raws : List Raw). length raws) has.accepted_is;
  has = record {
    unit_is = has.unit_is;
    kept_is = has.kept_is;
    reaches = reaches;
    accepted_is = ap accepted_by is ∙ accepted_more writer.history Advertise ∙ append-nil (accepted_by writer.history) ∙ has.accepted_is;
    advertised_is = ap advertised_by is ∙ advertised_advertise writer.history ∙ ap (λ (ns : List ℕ). with_sequence ns (length (accepted_by writer.history))) has.advertised_is
        ∙ ap (λ (raws : List Raw). with_sequence j.advertised (length raws)) has.accepted_is;
    messages = has.messages;
  };
}

-- ---- A server between the same history
-- what it was told of begins what it has seen before it is fed, and it has seen no more than that afterwards
module _ {V : Type 0} (Later : V → V → Type 0) (order : IsOrder Later) (one : (a b : V) → Later a b → Later b a → b ≡ a) (at : List Operation → V) (grows : (h o : List Operation) → IsPrefix h o → Later (at h) (at o)) where
  pub all_one : (told before after : List Operation) (views : List V) (now : V) → IsPrefix told before → IsPrefix after told → Rises Later (at before) views now → now ≡ at after → views ≡ replicate (length views) (at told)
  all_one told before after views now begins covered rises shows =
      let up : Later (at told) (at before) = grows told before begins in
      let on : Later (at before) now = rises_to Later order (at before) views now rises in
      let back : Later now (at told) = subst (λ (v : V). Later v (at told)) (sym shows) (grows after told covered) in
      let same : now ≡ at before = one (at before) now on (order.then now (at told) (at before) back up) in
      let is : at before ≡ at told = one (at told) (at before) up (order.then (at before) now (at told) on back) in
      rises_nowhere Later order one (at before) now views rises same ∙ ap (λ (v : V). replicate (length views) v) is

-- ---- The proxy
pub proxy_answers : (writer : Writing) (before after : List Operation) (kept : ℕ) (j : Journal) (es : List (Event Source)) (piece : List ℕ) (old new : Ending) (limits : Limits) (spent : Spent) (counted : Spent → Type 0)
    (reply reply' : List ℕ) (lines lines' : List (List ℕ)) → kept ≡ default_limits.kept → SharedHas writer j → IsPrefix writer.history before → (writer.cut_off ≡ false → IsPrefix after writer.history)
    → ProxyFeeds es piece old new true limits spent (kept_at kept before) counted (λ v. v ≡ kept_at kept after) reply reply' lines lines'
    → Answered es piece (gap_source j limits spent es piece) old new counted reply reply' lines lines'
proxy_answers writer before after kept j es piece old new limits spent counted reply reply' lines lines' is has begins covered feeds =
    let n : ℕ = length (new_items es piece) in
    let told : List Operation = writer.history in
    let views : feeds.views ≡ replicate n (kept_at kept told) =
    all_one IsLater asked.later_order same_views (kept_at kept) (messages_later kept) told before after feeds.views feeds.now begins (covered has.reaches) feeds.rises feeds.shows
    ∙ ap (λ (m : ℕ). replicate m (kept_at kept told)) feeds.each in
    let view : kept_at kept told ≡ kept_view j =
    ap (λ (k : ℕ). kept_at k told) (is ∙ sym has.kept_is) ∙ ap (λ (raws : List Raw). record { messages = raws; kept = j.kept }) has.accepted_is in
    let all : feeds.views ≡ replicate n (kept_view j) = views ∙ ap (λ (v : View). replicate n v) view in
    subst (λ (vs : List View). Answered es piece (record { there = true; views = vs; limits = limits; spent = spent }) old new counted reply reply' lines lines') all feeds.answered

-- ---- The Spin Server
-- a message is answered the same whether all sequences are seen or the last ten
module _ (s : Setup) (history : List Operation) (spin : Option Spin) where
  request_same : (sequence : ℕ) (spin' : Option Spin) → served_answer s (served_at history) sequence spin' ≡ served_answer s (seen_of history) sequence spin'
  request_same sequence spin' = grind arith

  logged_same : (logged : Bool) (sequence : ℕ) → spin_message_answer s logged spin (served_at history) (SpinRequest sequence) ≡ spin_message_answer s logged spin (seen_of history) (SpinRequest sequence)
  logged_same false sequence = refl
  logged_same true sequence =
      ap (λ (b : Bool). cond b (served_answer s (served_at history) sequence spin) (refusal_answer s sequence 79 spin)) (sym (seen_served history sequence))
      ∙ ap (λ (a : Answer (Option Spin)). cond (is_served (seen_of history) sequence) a (refusal_answer s sequence 79 spin)) (request_same sequence spin)

  message_same : (logged : Bool) (message : SessionMessage) → spin_message_answer s logged spin (served_at history) message ≡ spin_message_answer s logged spin (seen_of history) message
  message_same logged (Login sub user password) =
      let status : ℕ = login_status s logged sub user password in
      ap (λ (newest : Option ℕ). record { reply = sent_bytes s (LoginReply status) ++ after_login s status newest; lines = []; knows = spin }) (sym (seen_newest history))
  message_same logged (SpinRequest sequence) = logged_same logged sequence
  message_same logged message = refl

  said_same : (logged : Bool) (said : Said) → spin_said_answer s logged spin (served_at history) said ≡ spin_said_answer s logged spin (seen_of history) said
  said_same logged (Message message) = message_same logged message
  said_same logged said = refl

-- and so are all messages
module _ {S V : Type 0} (s : Setup) (each : Answerer S V) (v w : V) (same : (logged : Bool) (state : S) (item : Heard) → each logged state v item ≡ each logged state w item) where
  answers_same : (n : ℕ) (logged : Bool) (state : S) (items : List Heard) → answers s each logged state (replicate n v) items ≡ answers s each logged state (replicate n w) items
  answers_same zero logged state items = refl
  answers_same (suc n) logged state [] = refl
  answers_same (suc n) logged state (item ∷ items) =
      let after : Bool = logged || logs_in s.role item in
      let closes : Bool = is_some (cause_of s logged item) in
      let a : Answer S = each logged state w item in
      ap (λ (x : Answer S). followed x (cond closes (no_answer x.knows) (answers s each after x.knows (replicate n v) items))) (same logged state item)
      ∙ ap (λ (x : Answer S). followed a (cond closes (no_answer a.knows) x)) (answers_same n after a.knows items)

pub fed_same : (s : Setup) (history : List Operation) (es : List (Event (List Served))) (piece : List ℕ) (n : ℕ) (spin : Option Spin) → spin_fed_answer s es piece (replicate n (served_at history)) spin ≡ spin_fed_answer s es piece (replicate n (seen_of history)) spin
fed_same s history es piece n spin =
    ap (λ (a : Answer (Option Spin)). cond (is_some (closed_of s es)) (no_answer spin) a)
    (answers_same s (spin_answer s) (served_at history) (seen_of history) (λ logged state item. said_same s history state logged (heard_by s.role item)) n (logged_in s.role es) spin (new_items es piece))

-- where as much is answered, the server stands for the piece at either views
stands_same : (v : Serving) (es : List (Event (List Served))) (piece : List ℕ) (views views' : List Served)
    → ((s : Setup) → spin_fed_answer s es piece views (running_spin s es) ≡ spin_fed_answer s es piece views' (running_spin s es)) → SpinStands v (Fed piece views ∷ es) → SpinStands v (Fed piece views' ∷ es)
stands_same v es piece views views' same stands =
    let s : Setup = v.end.setup in
    let known : List ℕ → Known = λ reply. record (known_of (spin_sends s) s (Fed piece views ∷ es)) { sent = some_bytes reply || sent_since (spin_sends s) s.role es } in
    record {
      end_is = subst (λ (reply : List ℕ). EndKnows v.end (known reply)) (ap (λ (a : Answer (Option Spin)). a.reply) (same s)) stands.end_is;
      spin_is = λ on. stands.spin_is on ∙ ap (λ (a : Answer (Option Spin)). a.knows) (same s);
    }

pub spin_answers : (writer : Writing) (before after : List Operation) (j : Journal) (es : List (Event (List Served))) (piece : List ℕ) (old new : Serving) (reply reply' : List ℕ)
    → SharedHas writer j → IsPrefix writer.history before → (writer.cut_off ≡ false → IsPrefix after writer.history) → SpinFeeds es piece old new (served_at before) (λ v. v ≡ served_at after) reply reply' → SpinFed es piece (image_view j.messages j.advertised) old new reply reply'
spin_answers writer before after j es piece old new reply reply' has begins covered feeds =
    let n : ℕ = length (new_items es piece) in
    let told : List Operation = writer.history in
    let views : feeds.views ≡ replicate n (served_at told) =
    all_one ServedLater serves.later_order later_both served_at images_later told before after feeds.views feeds.now begins (covered has.reaches) feeds.rises feeds.shows
    ∙ ap (λ (m : ℕ). replicate m (served_at told)) feeds.each in
    let is : seen_of told ≡ image_view j.messages j.advertised =
    ap (λ (raws : List Raw). image_view raws (advertised_by told)) has.accepted_is ∙ ap (λ (ns : List ℕ). image_view j.messages ns) has.advertised_is in
    let at : SpinStands new (Fed piece (replicate n (served_at told)) ∷ es) = subst (λ (vs : List Served). SpinStands new (Fed piece vs ∷ es)) views feeds.stands in
    subst (λ (view : Served). SpinFed es piece view old new reply reply') is (record {
      stands = stands_same new es piece (replicate n (served_at told)) (replicate n (seen_of told)) (λ s. fed_same s told es piece n (running_spin s es)) at;
      replied = feeds.replied ∙ ap (λ (vs : List Served). reply ++ spin_sends old.end.setup (Fed piece vs) es) views
          ∙ ap (λ (a : Answer (Option Spin)). reply ++ a.reply) (fed_same old.end.setup told es piece n (running_spin old.end.setup es));
    })
