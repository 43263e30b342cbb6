-- Answers to gap requests.
use Rattle.std.proofs.Common.{◌≡◌, ℕ, ◌<◌, ◌≤◌, Bool, true, false, cond, ◌||◌, List, [], ◌++◌, refl, sym, ap, ◌∙◌, arith, subst, append_assoc, Option, Some, None, nat_eq, nat_lt, unwrap_or}
use Rattle.std.proofs.lemmas.List.{append-nil}
use Rattle.std.proofs.lemmas.Bool.{ne_eqb, cond-true, cond-false, lt-ltb, le-ltb}
use Rattle.gap_store.proofs.Keeping.{same_view}
use Rattle.unit_packets.specs.Packing.{packed, packed_on}
use Rattle.gap_store.specs.Look.{View, look, slice_of}
use Rattle.gap_store.specs.layers.Looking.{IsLater, given, FindsAt, PacksRange, PacksAt}
use Rattle.gap_store.specs.declared.found.Found.{Found}
use Rattle.gap_store.specs.declared.found.Found.TheVariants.{Kept}
use Rattle.session_ends.specs.layers.Showing.{ShowsLater}
use Rattle.session_ends.proofs.Runs.{IsOrder}
use Rattle.session_ends.proofs.Showing.{shown_same}
use Rattle.grp_session.specs.Budget.{Limits, Spent, limit_reached, spending}
use Rattle.grp_session.specs.Asking.{status_found, status_here}
use Rattle.grp_session.specs.layers.Ranges.{IsAsked}

later_then : (a b c : View) → IsLater a b → IsLater b c → IsLater a c
later_then a b c p q = record {
  more = p.more ++ q.more;
  messages = q.messages ∙ ap (λ (x : List (List ℕ)). x ++ q.more) p.messages ∙ append_assoc a.messages p.more q.more;
  kept = q.kept ∙ p.kept;
}

pub later_order : IsOrder IsLater
later_order = record { same = same_view; then = later_then }

-- ---- What is seen after a look-up
-- the same as before
pub still_shown : (shown : View → Type 0) (view : View) → shown view → ShowsLater IsLater shown view
still_shown = shown_same IsLater later_order

pub found_shown : (shown : View → Type 0) (view : View) (first count : ℕ) (found : Found) → FindsAt shown view first count found → ShowsLater IsLater shown view
found_shown shown view first count found f = record { now = f.now; later = f.later; shows = f.shows }

pub packed_shown : (shown : View → Type 0) (view : View) (unit first count : ℕ) (found : Found) (before after : List (List ℕ)) → PacksAt shown view unit first count found before after → ShowsLater IsLater shown view
packed_shown shown view unit first count found before after p = record { now = p.now; later = p.later; shows = p.shows }

-- ---- The first status that applies
pub status_there : (l : Limits) (view : View) (spent : Spent) (sequence count : ℕ) → 85 ≡ status_here false l view spent sequence count
unfolding status_here
status_there l view spent sequence count = refl

pub status_count : (l : Limits) (view : View) (spent : Spent) (sequence count : ℕ) → 100 < count → 67 ≡ status_here true l view spent sequence count
unfolding status_here
status_count l view spent sequence count lt = sym (cond-true (nat_lt 100 count) _ _ (lt-ltb 100 count lt))

pub status_range : (l : Limits) (view : View) (spent : Spent) (sequence count : ℕ) → count ≤ 100 → ((nat_eq count 0) || (nat_eq sequence 0)) ≡ true → 79 ≡ status_here true l view spent sequence count
unfolding status_here
status_range l view spent sequence count le z = sym (cond-false (nat_lt 100 count) _ _ (le-ltb 100 count le) ∙ cond-true ((nat_eq count 0) || (nat_eq sequence 0)) _ _ z)

status_look : (l : Limits) (view : View) (spent : Spent) (sequence count : ℕ) → count ≤ 100 → 1 ≤ count → 1 ≤ sequence → status_found l spent (look view sequence count) ≡ status_here true l view spent sequence count
unfolding status_here
status_look l view spent sequence count le one some =
    sym (cond-false (nat_lt 100 count) _ _ (le-ltb 100 count le)
    ∙ ap (λ (b : Bool). cond (b || nat_eq sequence 0) 79 (status_found l spent (look view sequence count))) (ne_eqb count 0 (λ e. omega arith))
    ∙ cond-false (nat_eq sequence 0) _ _ (ne_eqb sequence 0 (λ e. omega arith)))

-- ---- Requests
-- a refusal that needs no look-up
pub asked_plain : (unit : ℕ) (there there' : Bool) (l : Limits) (sequence count status : ℕ) (spent : Spent) (view : View) (counted : Spent → Type 0) (shown : View → Type 0) (lines : List (List ℕ))
    → counted spent → shown view → there ≡ there' → status ≡ status_here there' l view spent sequence count → nat_eq status 65 ≡ false → IsAsked unit there l sequence count spent view status counted shown lines lines
asked_plain unit there there' l sequence count status spent view counted shown lines c s same is other = record {
  now = view;
  later = same_view view;
  shows = s;
  answer = is ∙ ap (λ (b : Bool). status_here b l view spent sequence count) (sym same);
  lines = sym (append-nil lines) ∙ ap (λ (b : Bool). lines ++ cond b (packed unit sequence (slice_of view sequence count)) []) (sym other);
  counts = subst counted (ap (λ (b : Bool). cond b (spending spent) spent) (sym other)) c;
}

some_not : (b c d : Bool) (status : ℕ) → cond b (Some 68) (cond c (Some 77) (cond d (Some 83) None)) ≡ Some status → nat_eq status 65 ≡ false
some_not true c d status is = let e : 68 ≡ status = cc in ap (λ (n : ℕ). nat_eq n 65) (sym e)
some_not false true d status is = let e : 77 ≡ status = cc in ap (λ (n : ℕ). nat_eq n 65) (sym e)
some_not false false true status is = let e : 83 ≡ status = cc in ap (λ (n : ℕ). nat_eq n 65) (sym e)
some_not false false false status is = cc

-- what a look-up that is not Kept appends
nothing_packed : (unit sequence : ℕ) (raws lines lines' : List (List ℕ)) → PacksRange unit sequence raws lines lines' → raws ≡ [] → lines' ≡ lines
unfolding packed_on
nothing_packed unit sequence raws lines lines' packs none = packs.appended ∙ ap (λ (r : List (List ℕ)). lines ++ packed unit sequence r) none ∙ append-nil lines

-- one whose range was looked for at a view
module _ (unit : ℕ) (there : Bool) (l : Limits) (sequence count : ℕ) (spent : Spent) (view now : View) (shown : View → Type 0) (found : Found) (later : IsLater view now) (shows : shown now)
    (answer : found ≡ look now sequence count) (is_there : there ≡ true) (le : count ≤ 100) (one : 1 ≤ count) (some : 1 ≤ sequence) where
  answer_is : (status : ℕ) → status ≡ status_found l spent found → status ≡ status_here there l now spent sequence count
  answer_is status is = is ∙ ap (status_found l spent) answer ∙ status_look l now spent sequence count le one some ∙ ap (λ (b : Bool). status_here b l now spent sequence count) (sym is_there)

  pub asked_refused : (status : ℕ) (counted : Spent → Type 0) (lines : List (List ℕ)) → status ≡ status_found l spent found → nat_eq status 65 ≡ false → counted spent → IsAsked unit there l sequence count spent view status counted shown lines lines
  asked_refused status counted lines is other c = record {
    now = now;
    later = later;
    shows = shows;
    answer = answer_is status is;
    lines = sym (append-nil lines) ∙ ap (λ (b : Bool). lines ++ cond b (packed unit sequence (slice_of now sequence count)) []) (sym other);
    counts = subst counted (ap (λ (b : Bool). cond b (spending spent) spent) (sym other)) c;
  }

  pub asked_limited : (status : ℕ) (counted : Spent → Type 0) (lines : List (List ℕ)) → found ≡ Kept → Some status ≡ limit_reached l spent → counted spent → IsAsked unit there l sequence count spent view status counted shown lines lines
  asked_limited status counted lines is refused c =
      asked_refused status counted lines (ap (λ (o : Option ℕ). unwrap_or o 65) refused ∙ sym (ap (status_found l spent) is)) (some_not _ _ _ status (sym refused)) c

  pub asked_gone : (other : Found) (counted : Spent → Type 0) (lines lines' : List (List ℕ)) → found ≡ other → given other now sequence count ≡ [] → status_found l spent other ≡ 79
      → PacksRange unit sequence (given (look now sequence count) now sequence count) lines lines' → counted spent → IsAsked unit there l sequence count spent view 79 counted shown lines lines'
  asked_gone other counted lines lines' is none status packs c =
      let empty : given (look now sequence count) now sequence count ≡ [] = ap (λ (f : Found). given f now sequence count) (sym answer ∙ is) ∙ none in
      let same : lines' ≡ lines = nothing_packed unit sequence _ lines lines' packs empty in
      subst (λ (x : List (List ℕ)). IsAsked unit there l sequence count spent view 79 counted shown lines x) (sym same)
      (asked_refused 79 counted lines (sym status ∙ sym (ap (status_found l spent) is)) refl c)

  pub asked_taken : (counted : Spent → Type 0) (lines lines' : List (List ℕ)) → found ≡ Kept → None ≡ limit_reached l spent → PacksRange unit sequence (given (look now sequence count) now sequence count) lines lines' → counted (spending spent)
      → IsAsked unit there l sequence count spent view 65 counted shown lines lines'
  asked_taken counted lines lines' is free packs c = record {
    now = now;
    later = later;
    shows = shows;
    answer = answer_is 65 (ap (λ (o : Option ℕ). unwrap_or o 65) free ∙ sym (ap (status_found l spent) is));
    lines = packs.appended ∙ ap (λ (f : Found). lines ++ packed unit sequence (given f now sequence count)) (sym answer ∙ is);
    counts = c;
  }
