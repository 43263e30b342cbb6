-- What a proxy answers: it knows the second that it knew, and P holds of what it sends on the gap
-- line, where P holds of each range.
use Rattle.std.proofs.Common.{◌≡◌, ℕ, ◌||◌, Bool, true, false, List, [], ◌∷◌, ◌++◌, length, arith, Option, Some, None, is_some, nat_eq, refl, ◌∙◌}
use Rattle.std.specs.List.{AllByRecursion}
use Rattle.std.proofs.lemmas.Bool.{cond_both}
use Rattle.pitch_fields.proofs.Lists.{all_replicate}
use Rattle.pitch_messages.specs.declared.session.SessionMessage.{SessionMessage}
use Rattle.pitch_messages.specs.declared.session.SessionMessage.TheVariants.{GapRequest}
use Rattle.gap_store.specs.Look.{View}
use Rattle.session_ends.specs.Answering.{Answer, answers, no_answer}
use Rattle.session_ends.specs.Closing.{Setup, cause_of, closed_of, logged_in, logs_in}
use Rattle.session_ends.specs.Saying.{heard_by}
use Rattle.session_ends.specs.Sending.{new_items}
use Rattle.session_ends.specs.declared.inbox.Heard.{Heard}
use Rattle.session_ends.specs.declared.role.Said.{Said}
use Rattle.session_ends.specs.declared.role.Said.TheVariants.{Message}
use Rattle.grp_session.specs.Asking.{datagrams_of, gap_status, spent_after}
use Rattle.grp_session.specs.Budget.{Limits, Spent}
use Rattle.grp_session.specs.Serving.{Source, grp_answer, message_answer, said_answer}
use Rattle.unit_market.specs.Markets.{kept_view}
use Rattle.venue_end.specs.Came.{VenueState, answers_in, journal_in, proxy_source}
use Rattle.venue_end.specs.Servers.{proxy_setup}
use Rattle.venue_end.specs.Sessions.{Session}
use Rattle.net_edge.specs.layers.Ends.{demo_venue}

spent_same : (status : ℕ) (spent : Spent) → (spent_after status spent).now ≡ spent.now
spent_same status spent = grind arith

module _ (P : List (List ℕ) → Type 0) (none : P []) (join : (xs ys : List (List ℕ)) → P xs → P ys → P (xs ++ ys)) (Q : View → Type 0) (each : (status unit first count : ℕ) (v : View) → Q v → P (datagrams_of status unit v first count)) where
  abbrev pub Fits : ℕ → Answer Spent → Type 0
  Fits second a = (a.knows.now ≡ second) × P a.lines

  module _ (s : Setup) (there : Bool) (l : Limits) where
    message_fits : (logged : Bool) (spent : Spent) (v : View) (m : SessionMessage) → Q v → Fits spent.now (message_answer s there l logged spent v m)
    message_fits true spent v (GapRequest u first count) q = let status = gap_status (nat_eq u s.unit) there l v spent first count in (spent_same status spent, each status s.unit first count v q)
    message_fits false spent v (GapRequest u first count) q = (refl, none)
    message_fits logged spent v m q = (refl, none)

    said_fits : (logged : Bool) (spent : Spent) (v : View) (said : Said) → Q v → Fits spent.now (said_answer s there l logged spent v said)
    said_fits logged spent v (Message m) q = message_fits logged spent v m q
    said_fits logged spent v said q = (refl, none)

    answers_fit : (logged : Bool) (spent : Spent) (views : List View) (items : List Heard) → AllByRecursion Q views → Fits spent.now (answers s (grp_answer s there l) logged spent views items)
    answers_fit logged spent [] items all = (refl, none)
    answers_fit logged spent (v ∷ views) [] all = (refl, none)
    answers_fit logged spent (v ∷ views) (item ∷ items) all =
        let a : Answer Spent = grp_answer s there l logged spent v item in
        let first : Fits spent.now a = said_fits logged spent v (heard_by s.role item) all.0 in
        let rest = cond_both (is_some (cause_of s logged item)) (no_answer a.knows) (answers s (grp_answer s there l) (logged || logs_in s.role item) a.knows views items) (Fits a.knows.now) (λ e. (refl, none))
        (λ e. answers_fit (logged || logs_in s.role item) a.knows views items all.1) in
        (rest.0 ∙ first.0, join a.lines _ first.1 rest.1)

  -- over what the demo's venue has
  pub answers_in_fit : (now : VenueState) (bytes : List ℕ) (o : Option (Session Source)) → Q (kept_view (journal_in demo_venue now)) → Fits now.spent.now (answers_in demo_venue now bytes o)
  answers_in_fit now bytes None q = (refl, none)
  answers_in_fit now bytes (Some session) q =
      let s : Setup = proxy_setup demo_venue in
      let source : Source = proxy_source demo_venue now session.happened bytes in
      cond_both (is_some (closed_of s session.happened)) (no_answer now.spent) _ (Fits now.spent.now) (λ e. (refl, none))
      (λ e. answers_fit s true source.limits (logged_in s.role session.happened) now.spent source.views (new_items session.happened bytes) (all_replicate Q (length (new_items session.happened bytes)) (kept_view (journal_in demo_venue now)) q))
