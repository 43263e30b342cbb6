-- What goes on the gap line are packings of ranges.
use Rattle.std.proofs.Common.{◌≡◌, ℕ, zero, suc, ◌+◌, ◌-◌, ◌≤◌, ◌⊎◌, Bool, true, false, cond, ◌||◌, List, [], ◌∷◌, ◌++◌, length, take, drop, refl, sym, ap, ◌∙◌, arith, subst, inl, inr, nat_eq, nat_lt, is_some, length-append}
use Rattle.std.specs.List.{AllByRecursion}
use Rattle.std.proofs.lemmas.Bool.{cases_eq, eq-eqb, ne_eqb, cond-true, cond-false}
use Rattle.std.proofs.lemmas.List.{length-take, length-drop, take-append-le, drop-append-le}
use Rattle.gap_store.proofs.Ranges.{kept_within}
use Rattle.pitch_fields.proofs.Lists.{all_take, all_drop}
use Rattle.pitch_messages.specs.Raw.{IsRaw}
use Rattle.pitch_messages.specs.declared.session.SessionMessage.{SessionMessage}
use Rattle.pitch_messages.specs.declared.session.SessionMessage.TheVariants.{GapRequest}
use Rattle.unit_packets.specs.Packing.{IsPacking, packed}
use Rattle.unit_packets.proofs.OnePacking.{packing_is_computed}
use Rattle.gap_store.specs.Look.{View, look, slice_of}
use Rattle.gap_store.specs.layers.Looking.{IsLater}
use Rattle.gap_store.specs.declared.found.Found.{Found}
use Rattle.gap_store.specs.declared.found.Found.TheVariants.{Kept, Ahead, NotKept}
use Rattle.session_ends.specs.declared.inbox.Heard.{Heard}
use Rattle.session_ends.specs.declared.role.Said.{Said}
use Rattle.session_ends.specs.declared.role.Said.TheVariants.{Message}
use Rattle.session_ends.specs.Answering.{Answer, answers, no_answer}
use Rattle.session_ends.specs.layers.Hearings.{Rises}
use Rattle.session_ends.specs.Closing.{Setup, cause_of, logs_in}
use Rattle.session_ends.specs.Saying.{heard_by}
use Rattle.session_ends.proofs.Runs.{rises_to}
use Rattle.grp_session.specs.Asking.{status_found, status_here, gap_status, datagrams_of}
use Rattle.grp_session.specs.layers.Ranges.{IsPackedRange, ArePackedRanges}
use Rattle.grp_session.specs.Budget.{Limits, Spent}
use Rattle.grp_session.specs.Serving.{request_answer, message_answer, said_answer, grp_answer}
use Rattle.grp_session.specs.layers.Feeding.{AreSequenced}
use Rattle.grp_session.proofs.Asked.{later_order}

-- ---- A request that is accepted
opens : (over none : Bool) (found : Found) (l : Limits) (spent : Spent) → cond over 67 (cond none 79 (status_found l spent found)) ≡ 65 → (none ≡ false) × (found ≡ Kept)
opens true none found l spent is = absurd (omega arith)
opens false true found l spent is = absurd (omega arith)
opens false false Kept l spent is = (refl, refl)
opens false false (Ahead last) l spent is = absurd (omega arith)
opens false false (NotKept first) l spent is = absurd (omega arith)

accepted : (mine there : Bool) (l : Limits) (view : View) (spent : Spent) (sequence count : ℕ) → gap_status mine there l view spent sequence count ≡ 65
    → ((nat_eq count 0 || nat_eq sequence 0) ≡ false) × (look view sequence count ≡ Kept)
unfolding status_here
accepted false there l view spent sequence count is = absurd (omega arith)
accepted true false l view spent sequence count is = absurd (omega arith)
accepted true true l view spent sequence count is = opens (nat_lt 100 count) (nat_eq count 0 || nat_eq sequence 0) (look view sequence count) l spent is

not_zero : (a : Bool) (n : ℕ) → (a || nat_eq n 0) ≡ false → 1 ≤ n
not_zero true n is = cc
not_zero false zero is = cc
not_zero false (suc n) is = omega arith

-- ---- Ranges of messages
range_packed : (unit sequence count : ℕ) (view now : View) → IsLater view now → AreSequenced unit now.messages → 1 ≤ sequence → sequence + count - 1 ≤ length view.messages
    → IsPackedRange unit now.messages (packed unit sequence (slice_of view sequence count))
range_packed unit sequence count view now later are known there =
    let size : length now.messages ≡ length view.messages + length later.more = ap length later.messages ∙ length-append view.messages later.more in
    let same : take count (drop (sequence - 1) now.messages) ≡ slice_of view sequence count =
    ap (λ (m : List (List ℕ)). take count (drop (sequence - 1) m)) later.messages
    ∙ ap (take count) (drop-append-le (sequence - 1) view.messages later.more (omega arith))
    ∙ take-append-le count (drop (sequence - 1) view.messages) later.more (omega (arith, length-drop (sequence - 1) view.messages)) in
    let raws : AllByRecursion IsRaw (slice_of view sequence count) =
    subst (AllByRecursion IsRaw) same (all_take IsRaw count (drop (sequence - 1) now.messages) (all_drop IsRaw (sequence - 1) now.messages are.raws)) in
    let top : length now.messages ≤ 4294967294 = are.top in
    let most : sequence + length (slice_of view sequence count) ≤ 4294967295 = omega (arith, length-take count (drop (sequence - 1) view.messages)) in
    record {
      first = sequence;
      count = count;
      known = known;
      there = omega arith;
      packing = subst (λ (r : List (List ℕ)). IsPacking unit sequence r (packed unit sequence (slice_of view sequence count))) (sym same)
          (packing_is_computed unit sequence (slice_of view sequence count) are.small raws (inr (inr most)));
    }

-- ---- What is answered
abbrev OneRange : ℕ → List (List ℕ) → List (List ℕ) → Type 0
OneRange unit messages lines = (lines ≡ []) ⊎ IsPackedRange unit messages lines

pub none_packed : (unit : ℕ) (messages : List (List ℕ)) → ArePackedRanges unit messages []
none_packed unit messages = record { ranges = []; each = tt; joined = refl }

module _ (s : Setup) (there : Bool) (l : Limits) (now : View) (are : AreSequenced s.unit now.messages) where
  request_lines : (spent : Spent) (view : View) (unit sequence count : ℕ) → IsLater view now → OneRange s.unit now.messages (request_answer s there l view spent unit sequence count).lines
  request_lines spent view unit sequence count later =
      let status : ℕ = gap_status (nat_eq unit s.unit) there l view spent sequence count in
      elim (cases_eq status 65) [
        | inl is ↦
            let a = accepted (nat_eq unit s.unit) there l view spent sequence count is in
            let lines : datagrams_of status s.unit view sequence count ≡ packed s.unit sequence (slice_of view sequence count) = cond-true (nat_eq status 65) _ _ (eq-eqb status 65 is) in
            inr (subst (IsPackedRange s.unit now.messages) (sym lines)
            (range_packed s.unit sequence count view now later are (not_zero (nat_eq count 0) sequence a.0) (kept_within view sequence count (sym a.1))))
        | inr other ↦ inl (cond-false (nat_eq status 65) _ _ (ne_eqb status 65 other))
      ]

  asked_lines : (logged : Bool) (spent : Spent) (view : View) (unit sequence count : ℕ) → IsLater view now → OneRange s.unit now.messages (message_answer s there l logged spent view (GapRequest unit sequence count)).lines
  asked_lines true spent view unit sequence count later = request_lines spent view unit sequence count later
  asked_lines false spent view unit sequence count later = inl refl

  message_lines : (logged : Bool) (spent : Spent) (view : View) (message : SessionMessage) → IsLater view now → OneRange s.unit now.messages (message_answer s there l logged spent view message).lines
  message_lines logged spent view (GapRequest unit sequence count) later = asked_lines logged spent view unit sequence count later
  message_lines logged spent view message later = inl refl

  pub said_lines : (logged : Bool) (spent : Spent) (view : View) (said : Said) → IsLater view now → OneRange s.unit now.messages (said_answer s there l logged spent view said).lines
  said_lines logged spent view (Message message) later = message_lines logged spent view message later
  said_lines logged spent view said later = inl refl

  pub one_more : (lines others : List (List ℕ)) → OneRange s.unit now.messages lines → ArePackedRanges s.unit now.messages others → ArePackedRanges s.unit now.messages (lines ++ others)
  one_more lines others (inl none) all = subst (λ (x : List (List ℕ)). ArePackedRanges s.unit now.messages (x ++ others)) (sym none) all
  one_more lines others (inr range) all = record { ranges = lines ∷ all.ranges; each = (range, all.each); joined = ap (λ (x : List (List ℕ)). lines ++ x) all.joined }

  pub stops : (stop : Bool) (a b : Answer Spent) → a.lines ≡ [] → ArePackedRanges s.unit now.messages b.lines → ArePackedRanges s.unit now.messages (cond stop a b).lines
  stops true a b none all = subst (ArePackedRanges s.unit now.messages) (sym none) (none_packed s.unit now.messages)
  stops false a b none all = all

  pub answered_lines : (logged : Bool) (spent : Spent) (views : List View) (items : List Heard) (first : View) → Rises IsLater first views now
      → ArePackedRanges s.unit now.messages (answers s (grp_answer s there l) logged spent views items).lines
  answered_lines logged spent [] items first rises = none_packed s.unit now.messages
  answered_lines logged spent (view ∷ views) [] first rises = none_packed s.unit now.messages
  answered_lines logged spent (view ∷ views) (item ∷ items) first rises =
      let a : Answer Spent = grp_answer s there l logged spent view item in
      one_more a.lines _ (said_lines logged spent view (heard_by s.role item) (rises_to IsLater later_order view views now rises.1))
      (stops (is_some (cause_of s logged item)) (no_answer a.knows) (answers s (grp_answer s there l) (logged || logs_in s.role item) a.knows views items) refl
      (answered_lines (logged || logs_in s.role item) a.knows views items view rises.1))
