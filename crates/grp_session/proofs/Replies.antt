-- What the proxy sends on the gap line are pieces of the venue's feed.
use Rattle.std.proofs.Common.{◌≡◌, ℕ, zero, suc, ◌+◌, ◌-◌, ◌≤◌, ◌<◌, Bool, true, false, ◌||◌, cond, List, [], ◌∷◌, length, take, drop, replicate, refl, sym, ◌∙◌, subst, arith, is_some}
use Rattle.std.specs.List.{AllByRecursion, flat_map}
use Rattle.std.proofs.lemmas.List.{append-nil, length-take}
use Rattle.pitch_messages.specs.Raw.{IsRaw}
use Rattle.pitch_model.specs.History.{Raw}
use Rattle.pitch_model.specs.Honest.{AreVenues}
use Rattle.heard_items.proofs.Datagrams.{packing_pieces, venues_slice}
use Rattle.gap_store.specs.Look.{View}
use Rattle.session_ends.specs.Answering.{Answer, answers, no_answer}
use Rattle.session_ends.specs.Closing.{Setup, cause_of, closed_of, logged_in, logs_in}
use Rattle.session_ends.specs.Events.{Event}
use Rattle.session_ends.specs.Saying.{heard_by}
use Rattle.session_ends.specs.Sending.{new_items}
use Rattle.session_ends.specs.declared.inbox.Heard.{Heard}
use Rattle.grp_session.specs.Budget.{Limits, Spent}
use Rattle.grp_session.specs.layers.Feeding.{AreSequenced}
use Rattle.grp_session.specs.layers.Ranges.{IsPackedRange, ArePackedRanges}
use Rattle.grp_session.specs.Serving.{Source, grp_answer, proxy_answer}
use Rattle.grp_session.proofs.GapLine.{none_packed, one_more, said_lines, stops}
use Rattle.grp_session.proofs.Pieces.{Pieces, pieces_append}

-- ---- Over views of one venue's messages, however many of them each view keeps
module _ (s : Setup) (there : Bool) (l : Limits) (V : List Raw) (are : AreSequenced s.unit V) where
  answers_ranges : (logged : Bool) (spent : Spent) (views : List View) (items : List Heard) → AllByRecursion (λ v. v.messages ≡ V) views → ArePackedRanges s.unit V (answers s (grp_answer s there l) logged spent views items).lines
  answers_ranges logged spent [] items same = none_packed s.unit V
  answers_ranges logged spent (v ∷ views) [] same = none_packed s.unit V
  answers_ranges logged spent (v ∷ views) (item ∷ items) same =
      let a : Answer Spent = grp_answer s there l logged spent v item in
      let all : View = record { messages = V; kept = v.kept } in
      one_more s there l all are a.lines _ (said_lines s there l all are logged spent v (heard_by s.role item) (record { more = []; messages = sym same.0 ∙ sym (append-nil v.messages); kept = refl }))
      (stops s there l all are (is_some (cause_of s logged item)) (no_answer a.knows) (answers s (grp_answer s there l) (logged || logs_in s.role item) a.knows views items) refl
      (answers_ranges (logged || logs_in s.role item) a.knows views items same.1))

-- ---- Ranges are pieces
module _ (V : List Raw) (unit : ℕ) where
  range_pieces : (datagrams : List (List ℕ)) → IsPackedRange unit V datagrams → Pieces V unit datagrams
  range_pieces datagrams is =
      let known = is.known in
      let some = is.there in
      let n : ℕ = is.first - 1 in
      let back : n + 1 ≡ is.first = omega (arith, known) in
      let slice : List Raw = take is.count (drop n V) in
      let long : length slice ≤ is.count = omega (arith, length-take is.count (drop n V)) in
      let are : AreVenues V is.first slice = subst (λ (k : ℕ). AreVenues V k slice) back (venues_slice V n is.count) in
      packing_pieces V unit is.first slice datagrams (omega (arith, known)) (omega (arith, long, some)) are is.packing

  joined_pieces : (ranges : List (List (List ℕ))) → AllByRecursion (IsPackedRange unit V) ranges → Pieces V unit (flat_map (λ (range : List (List ℕ)). range) ranges)
  joined_pieces [] all = tt
  joined_pieces (range ∷ ranges) all = pieces_append V unit range (flat_map (λ (r : List (List ℕ)). r) ranges) (range_pieces range all.0) (joined_pieces ranges all.1)

  ranges_pieces : (datagrams : List (List ℕ)) → ArePackedRanges unit V datagrams → Pieces V unit datagrams
  ranges_pieces datagrams are = subst (Pieces V unit) (sym are.joined) (joined_pieces are.ranges are.each)

-- ---- What the proxy answers over this venue's messages
module _ (V : List Raw) (unit : ℕ) (small : unit < 256) (raws : AllByRecursion IsRaw V) (few : length V ≤ 4294967294) where
  pub proxy_pieces : (s : Setup) (es : List (Event Source)) (bytes : List ℕ) (source : Source) → s.unit ≡ unit → AllByRecursion (λ v. v.messages ≡ V) source.views → Pieces V unit (proxy_answer s es bytes source).lines
  proxy_pieces s es bytes source at same = by (is_some (closed_of s es))
    where
      are : AreSequenced s.unit V
      are = record { small = subst (λ (u : ℕ). u < 256) (sym at) small; raws = raws; top = few }

      by : (b : Bool) → Pieces V unit (cond b (no_answer source.spent) (answers s (grp_answer s source.there source.limits) (logged_in s.role es) source.spent source.views (new_items es bytes))).lines
      by true = tt
      by false = let lines : List (List ℕ) = (answers s (grp_answer s source.there source.limits) (logged_in s.role es) source.spent source.views (new_items es bytes)).lines in
          ranges_pieces V unit lines (subst (λ (u : ℕ). ArePackedRanges u V lines) at (answers_ranges s source.there source.limits V are (logged_in s.role es) source.spent source.views (new_items es bytes) same))

pub views_same : (n : ℕ) (v : View) (V : List Raw) → v.messages ≡ V → AllByRecursion (λ w. w.messages ≡ V) (replicate n v)
views_same zero v V e = tt
views_same (suc n) v V e = (e, views_same n v V e)
