-- Laws of what calls are made to.
use Rattle.std.proofs.Common.{◌≡◌, ℕ, zero, suc, ◌+◌, ◌%◌, ◌==◌, ◌&&◌, Bool, true, false, nat_lt, List, [], ◌∷◌, ◌++◌, length, map, reverse, slice_get, replicate, unwrap_or, Option, None, Some, if◌then◌else◌, refl, sym, ap, ◌∙◌, subst, arith, lit<}
use Rattle.std.proofs.lemmas.Bool.Decides.{nat_tests}
use Rattle.std.proofs.lemmas.List.{length-append, reverse-append}
use Rattle.std.proofs.lemmas.List.Elements.{Contains-append_left, Contains-append_right}
use Rattle.std.specs.List.{AllByRecursion, Contains}
use Rattle.live_net.specs.declared.live.WaitEnd.{WaitEnd}
use Rattle.venue_net.specs.VenueCalls.{VenueCall, Wait, Read, Send, Accept, Take, Put, Close}
use Rattle.harmed_venue.specs.declared.fate.Fate.{Fate}
use Rattle.harmed_venue.specs.declared.fate.Fate.TheVariants.{Lost, Late, Twice, Once}
use Rattle.harmed_venue.specs.declared.harm.Harm.{Harm}
use Rattle.harmed_venue.specs.declared.harm.Shares.{Shares}
use Rattle.harmed_venue.specs.Harmed.{after_sent, all_held, all_held_if, cuts_left, harmed, is_cut, is_due, is_put_ended, is_second, is_taken_ended, lets_go, lines_left, made_of, seconds_left, sent_on, told_if, unless_cut}
use Rattle.harmed_venue.specs.Lines.{LineNow, after_send, copies, fate_of, goes_out, held_back, is_late, is_lost, is_repeated, is_swapped, kept_by, let_go, line_at_first, lines_at_first, sendings, share_of}
use Rattle.harmed_venue.specs.Venues.{IsHarmless, MakesNothingUp, PassesOn, WasSent, no_shares}
use Rattle.harmed_venue.proofs.Each.{Each, all_append, all_as, all_map, each_map, each_more, each_set}

-- ---- At first
count_first : (harm : Harm) (n : ℕ) → length (lines_at_first harm n) ≡ n
count_first harm zero = refl
count_first harm (suc n) = length-append (lines_at_first harm n) (line_at_first harm n ∷ []) ∙ (let e : length (lines_at_first harm n) + 1 ≡ suc n = omega (arith, count_first harm n) in e)

pub each_first : (P : ℕ → LineNow → Type 0) (harm : Harm) → ((n : ℕ) → P n (line_at_first harm n)) → (count : ℕ) → Each P (lines_at_first harm count)
each_first P harm first zero n l e = absurd (cc)
each_first P harm first (suc count) n l e =
    each_more P (lines_at_first harm count) (line_at_first harm count) (subst (λ (k : ℕ). P k (line_at_first harm count)) (sym (count_first harm count)) (first count))
    (each_first P harm first count) n l e

-- ---- What was sent
pub one_of : (calls : List VenueCall) (call : VenueCall) → Contains (call ∷ calls) call
one_of calls call = Contains-append_left (call ∷ []) calls call (0, lit< tt, refl)

later : (calls : List VenueCall) (more call : VenueCall) → Contains calls call → Contains (more ∷ calls) call
later calls more call there = Contains-append_right (more ∷ []) calls call there

-- a line has its number, and what is held back on it was sent on it
pub record IsSound (calls : List VenueCall) (n : ℕ) (line : LineNow) : Type 0 where
  pub number_is : line.number ≡ n
  pub sent : AllByRecursion (λ d. Contains calls (Send n d)) (held_back line.held)

sound_later : (calls : List VenueCall) (call : VenueCall) (n : ℕ) (line : LineNow) → IsSound calls n line → IsSound (call ∷ calls) n line
sound_later calls call n line sound = record {
  number_is = sound.number_is;
  sent = all_as (λ d. Contains calls (Send n d)) (λ d. Contains (call ∷ calls) (Send n d)) (λ d there. later calls call (Send n d) there) (held_back line.held) sound.sent;
}

sound_kept : (calls : List VenueCall) (n : ℕ) (d : List ℕ) (fate : Fate) → AllByRecursion (λ x. Contains (Send n d ∷ calls) (Send n x)) (held_back (kept_by fate d))
sound_kept calls n d Lost = tt
sound_kept calls n d Late = (one_of calls (Send n d), tt)
sound_kept calls n d Twice = tt
sound_kept calls n d Once = tt

sound_sent : (calls : List VenueCall) (line : ℕ) (d : List ℕ) (lines : List LineNow) (at : Option LineNow) → slice_get lines line ≡ at
    → Each (IsSound calls) lines → Each (IsSound (Send line d ∷ calls)) (after_sent line d at lines)
sound_sent calls line d lines None e each n l there = sound_later calls (Send line d) n l (each n l there)
sound_sent calls line d lines (Some found) e each n l there =
    each_set (IsSound (Send line d ∷ calls)) lines line (after_send d found)
    (record { number_is = (each line found e).number_is; sent = sound_kept calls line d (fate_of found d) })
    (λ m x q. sound_later calls (Send line d) m x (each m x q)) n l there

sound_waited : (calls : List VenueCall) (call : VenueCall) (goes : Bool) (lines : List LineNow)
    → Each (IsSound calls) lines → Each (IsSound (call ∷ calls)) (if goes then map let_go lines else lines)
sound_waited calls call false lines each n l there = sound_later calls call n l (each n l there)
sound_waited calls call true lines each n l there =
    each_map (IsSound calls) (IsSound (call ∷ calls)) let_go (λ m x sound. record { number_is = sound.number_is; sent = tt }) lines each n l there

pub sound_lines : (harm : Harm) (calls : List VenueCall) → Each (IsSound calls) (lines_left harm calls)
sound_lines harm [] n l there = each_first (IsSound []) harm (λ m. record { number_is = refl; sent = tt }) harm.lines n l there
sound_lines harm (Send line d ∷ calls) n l there = sound_sent calls line d (lines_left harm calls) (slice_get (lines_left harm calls) line) refl (sound_lines harm calls) n l there
sound_lines harm (Wait more answer ∷ calls) n l there = sound_waited calls (Wait more answer) (lets_go answer) (lines_left harm calls) (sound_lines harm calls) n l there
sound_lines harm (Read room bytes answer ∷ calls) n l there = sound_later calls (Read room bytes answer) n l (sound_lines harm calls n l there)
sound_lines harm (Accept place came ∷ calls) n l there = sound_later calls (Accept place came) n l (sound_lines harm calls n l there)
sound_lines harm (Take place room bytes answer ∷ calls) n l there = sound_later calls (Take place room bytes answer) n l (sound_lines harm calls n l there)
sound_lines harm (Put place piece answer ∷ calls) n l there = sound_later calls (Put place piece answer) n l (sound_lines harm calls n l there)
sound_lines harm (Close place ∷ calls) n l there = sound_later calls (Close place) n l (sound_lines harm calls n l there)

-- ---- What goes out
was_later : (calls : List VenueCall) (more call : VenueCall) → WasSent calls call → WasSent (more ∷ calls) call
was_later calls more (Wait m answer) was = tt
was_later calls more (Read room bytes answer) was = tt
was_later calls more (Send line d) was = later calls more (Send line d) was
was_later calls more (Accept place came) was = tt
was_later calls more (Take place room bytes answer) was = tt
was_later calls more (Put place piece answer) was = tt
was_later calls more (Close place) was = tt

all_reverse : (P : VenueCall → Type 0) (xs : List VenueCall) → AllByRecursion P xs → AllByRecursion P (reverse xs)
all_reverse P [] all = tt
all_reverse P (x ∷ xs) all =
    subst (λ (l : List VenueCall). AllByRecursion P l) (sym (reverse-append (x ∷ []) xs)) (all_append P (reverse xs) (x ∷ []) (all_reverse P xs all.1) (all.0, tt))

all_sendings : (calls : List VenueCall) (line : LineNow) (n : ℕ) (ds : List (List ℕ)) → line.number ≡ n → AllByRecursion (λ d. Contains calls (Send n d)) ds → AllByRecursion (WasSent calls) (sendings line ds)
all_sendings calls line n ds e all =
    all_reverse (WasSent calls) (map (λ (d : List ℕ). Send line.number d) ds)
    (all_map (WasSent calls) (λ (d : List ℕ). Send line.number d) ds (subst (λ (k : ℕ). AllByRecursion (λ d. Contains calls (Send k d)) ds) (sym e) all))

all_copies : (calls : List VenueCall) (n : ℕ) (d : List ℕ) (fate : Fate) → AllByRecursion (λ x. Contains (Send n d ∷ calls) (Send n x)) (copies fate d)
all_copies calls n d Lost = tt
all_copies calls n d Late = tt
all_copies calls n d Twice = (one_of calls (Send n d), (one_of calls (Send n d), tt))
all_copies calls n d Once = (one_of calls (Send n d), tt)

all_sent : (calls : List VenueCall) (line : ℕ) (d : List ℕ) (lines : List LineNow) (at : Option LineNow) → slice_get lines line ≡ at
    → Each (IsSound calls) lines → AllByRecursion (WasSent (Send line d ∷ calls)) (sent_on line d at)
all_sent calls line d lines None e each = (one_of calls (Send line d), tt)
all_sent calls line d lines (Some found) e each =
    let sound : IsSound (Send line d ∷ calls) line found = sound_later calls (Send line d) line found (each line found e) in
    all_sendings (Send line d ∷ calls) found line (goes_out found d) sound.number_is
    (all_append (λ x. Contains (Send line d ∷ calls) (Send line x)) (copies (fate_of found d) d) (held_back found.held) (all_copies calls line d (fate_of found d)) sound.sent)

all_gone : (P : VenueCall → Type 0) (lines : List LineNow) → Each (λ n line. AllByRecursion P (sendings line (held_back line.held))) lines → AllByRecursion P (all_held lines)
all_gone P [] each = tt
all_gone P (line ∷ lines) each = all_append P (all_held lines) (sendings line (held_back line.held)) (all_gone P lines (λ n l there. each (suc n) l there)) (each 0 line refl)

all_waited : (calls : List VenueCall) (more : Bool) (answer : WaitEnd) (goes : Bool) (lines : List LineNow)
    → Each (IsSound calls) lines → AllByRecursion (WasSent (Wait more answer ∷ calls)) (all_held_if goes lines ++ Wait more answer ∷ [])
all_waited calls more answer false lines each = (tt, tt)
all_waited calls more answer true lines each =
    all_append (WasSent (Wait more answer ∷ calls)) (all_held lines) (Wait more answer ∷ [])
    (all_gone (WasSent (Wait more answer ∷ calls)) lines (λ n l there.
    let sound : IsSound (Wait more answer ∷ calls) n l = sound_later calls (Wait more answer) n l (each n l there) in
    all_sendings (Wait more answer ∷ calls) l n (held_back l.held) sound.number_is sound.sent))
    (tt, tt)

all_took : (calls : List VenueCall) (cut : Bool) (place : ℕ) (call : VenueCall) → WasSent calls call → AllByRecursion (WasSent calls) (unless_cut cut place call)
all_took calls true place call was = (tt, tt)
all_took calls false place call was = (was, tt)

all_made : (harm : Harm) (call : VenueCall) (calls : List VenueCall) → AllByRecursion (WasSent (call ∷ calls)) (made_of (lines_left harm calls) (cuts_left harm calls) call)
all_made harm (Wait more answer) calls = all_waited calls more answer (lets_go answer) (lines_left harm calls) (sound_lines harm calls)
all_made harm (Read room bytes answer) calls = (tt, tt)
all_made harm (Send line d) calls = all_sent calls line d (lines_left harm calls) (slice_get (lines_left harm calls) line) refl (sound_lines harm calls)
all_made harm (Accept place came) calls = (tt, tt)
all_made harm (Take place room bytes answer) calls = all_took (Take place room bytes answer ∷ calls) (is_cut (cuts_left harm calls) place) place (Take place room bytes answer) tt
all_made harm (Put place piece answer) calls = all_took (Put place piece answer ∷ calls) (is_cut (cuts_left harm calls) place) place (Put place piece answer) tt
all_made harm (Close place) calls = (tt, tt)

-- each datagram that goes out was sent
pub makes_nothing_up : (harm : Harm) → MakesNothingUp harm
makes_nothing_up harm [] = tt
makes_nothing_up harm (call ∷ calls) =
    all_append (WasSent (call ∷ calls)) (made_of (lines_left harm calls) (cuts_left harm calls) call) (harmed harm calls) (all_made harm call calls)
    (all_as (WasSent calls) (WasSent (call ∷ calls)) (λ it was. was_later calls call it was) (harmed harm calls) (makes_nothing_up harm calls))

-- ---- No harm
by_kind : (a b : Bool) → (if a then no_shares.a else (if b then no_shares.b else no_shares.gap)) ≡ 0
by_kind true b = refl
by_kind false true = refl
by_kind false false = refl

pub no_share : (n : ℕ) → share_of no_shares n ≡ 0
no_share n = by_kind (n % 3 == 0) (n % 3 == 1)

-- a line that does nothing
record IsQuiet (n : ℕ) (line : LineNow) : Type 0 where
  pub number_is : line.number ≡ n
  pub none_lost : line.lose ≡ 0
  pub none_twice : line.repeat ≡ 0
  pub none_late : line.swap ≡ 0
  pub none_held : line.held ≡ None

nat_lt_zero : (n : ℕ) → nat_lt n 0 ≡ false
nat_lt_zero n = grind (arith, nat_tests)

pub below_none : (n share : ℕ) → share ≡ 0 → nat_lt n share ≡ false
below_none n share e = ap (λ (k : ℕ). nat_lt n k) e ∙ nat_lt_zero n

fate_by : (a b c : Bool) → a ≡ false → b ≡ false → c ≡ false → (if a then Lost else (if b then Late else (if c then Twice else Once))) ≡ Once
fate_by false false false e f g = refl
fate_by true b c e f g = absurd (cc)
fate_by a true c e f g = absurd (cc)
fate_by a b true e f g = absurd (cc)

and_none : (a b : Bool) → a ≡ false → (a && b) ≡ false
and_none a b e = ap (λ (c : Bool). c && b) e

quiet_fate : (n : ℕ) (line : LineNow) (d : List ℕ) → IsQuiet n line → fate_of line d ≡ Once
quiet_fate n line d quiet =
    fate_by (is_lost line) (is_late line d) (is_repeated line) (below_none _ line.lose quiet.none_lost)
    (and_none (is_swapped line) _ (below_none _ line.swap quiet.none_late)) (below_none _ line.repeat quiet.none_twice)

quiet_send : (n : ℕ) (line : LineNow) (d : List ℕ) → IsQuiet n line → IsQuiet n (after_send d line)
quiet_send n line d quiet = record {
  number_is = quiet.number_is;
  none_lost = quiet.none_lost;
  none_twice = quiet.none_twice;
  none_late = quiet.none_late;
  none_held = ap (λ (fate : Fate). kept_by fate d) (quiet_fate n line d quiet);
}

quiet_sent : (line : ℕ) (d : List ℕ) (lines : List LineNow) (at : Option LineNow) → slice_get lines line ≡ at → Each IsQuiet lines → Each IsQuiet (after_sent line d at lines)
quiet_sent line d lines None e each = each
quiet_sent line d lines (Some found) e each = each_set IsQuiet lines line (after_send d found) (quiet_send line found d (each line found e)) each

quiet_waited : (goes : Bool) (lines : List LineNow) → Each IsQuiet lines → Each IsQuiet (if goes then map let_go lines else lines)
quiet_waited false lines each = each
quiet_waited true lines each = each_map IsQuiet IsQuiet let_go (λ n line quiet. record {
  number_is = quiet.number_is;
  none_lost = quiet.none_lost;
  none_twice = quiet.none_twice;
  none_late = quiet.none_late;
  none_held = refl;
}) lines each

quiet_first : (harm : Harm) → IsHarmless harm → (n : ℕ) → IsQuiet n (line_at_first harm n)
quiet_first harm harmless n = record {
  number_is = refl;
  none_lost = ap (λ (shares : Shares). share_of shares n) harmless.none_lost ∙ no_share n;
  none_twice = ap (λ (shares : Shares). share_of shares n) harmless.none_twice ∙ no_share n;
  none_late = ap (λ (shares : Shares). share_of shares n) harmless.none_late ∙ no_share n;
  none_held = refl;
}

quiet_lines : (harm : Harm) → IsHarmless harm → (calls : List VenueCall) → Each IsQuiet (lines_left harm calls)
quiet_lines harm harmless [] = each_first IsQuiet harm (quiet_first harm harmless) harm.lines
quiet_lines harm harmless (Send line d ∷ calls) = quiet_sent line d (lines_left harm calls) (slice_get (lines_left harm calls) line) refl (quiet_lines harm harmless calls)
quiet_lines harm harmless (Wait more answer ∷ calls) = quiet_waited (lets_go answer) (lines_left harm calls) (quiet_lines harm harmless calls)
quiet_lines harm harmless (Read room bytes answer ∷ calls) = quiet_lines harm harmless calls
quiet_lines harm harmless (Accept place came ∷ calls) = quiet_lines harm harmless calls
quiet_lines harm harmless (Take place room bytes answer ∷ calls) = quiet_lines harm harmless calls
quiet_lines harm harmless (Put place piece answer ∷ calls) = quiet_lines harm harmless calls
quiet_lines harm harmless (Close place ∷ calls) = quiet_lines harm harmless calls

-- no connection was cut
abbrev IsUncut : ℕ → Bool → Type 0
IsUncut n cut = cut ≡ false

uncut_first : (places : ℕ) → Each IsUncut (replicate places false)
uncut_first zero n cut e = absurd (cc)
uncut_first (suc places) zero cut e = let same : false ≡ cut = cc in sym same
uncut_first (suc places) (suc n) cut e = uncut_first places n cut e

uncut_told : (told : Bool) (place : ℕ) (cuts : List Bool) → Each IsUncut cuts → Each IsUncut (told_if told place cuts)
uncut_told true place cuts each = each_set IsUncut cuts place false refl each
uncut_told false place cuts each = each

uncut_second : (second : Bool) (due : Bool) (cuts : List Bool) → due ≡ false → Each IsUncut cuts → Each IsUncut (if second && due then map (λ (cut : Bool). true) cuts else cuts)
uncut_second false due cuts e each = each
uncut_second true true cuts e each = absurd (cc)
uncut_second true false cuts e each = each

never_due : (every : Option ℕ) (passed : ℕ) → every ≡ None → is_due every passed ≡ false
never_due every passed e = ap (λ (o : Option ℕ). is_due o passed) e

uncut_places : (harm : Harm) → IsHarmless harm → (calls : List VenueCall) → Each IsUncut (cuts_left harm calls)
uncut_places harm harmless [] = uncut_first harm.places
uncut_places harm harmless (Wait more answer ∷ calls) =
    uncut_second (is_second answer) (is_due harm.cut (seconds_left harm calls)) (cuts_left harm calls)
    (never_due harm.cut (seconds_left harm calls) harmless.no_cut) (uncut_places harm harmless calls)
uncut_places harm harmless (Send line d ∷ calls) = uncut_places harm harmless calls
uncut_places harm harmless (Read room bytes answer ∷ calls) = uncut_places harm harmless calls
uncut_places harm harmless (Accept place came ∷ calls) = each_set IsUncut (cuts_left harm calls) place false refl (uncut_places harm harmless calls)
uncut_places harm harmless (Take place room bytes answer ∷ calls) = uncut_told (is_taken_ended answer) place (cuts_left harm calls) (uncut_places harm harmless calls)
uncut_places harm harmless (Put place piece answer ∷ calls) = uncut_told (is_put_ended answer) place (cuts_left harm calls) (uncut_places harm harmless calls)
uncut_places harm harmless (Close place ∷ calls) = each_set IsUncut (cuts_left harm calls) place false refl (uncut_places harm harmless calls)

uncut_at : (cuts : List Bool) (place : ℕ) (at : Option Bool) → slice_get cuts place ≡ at → Each IsUncut cuts → unwrap_or at false ≡ false
uncut_at cuts place None e each = refl
uncut_at cuts place (Some cut) e each = each place cut e

-- each call is passed on
passed_took : (cut : Bool) (place : ℕ) (call : VenueCall) → cut ≡ false → unless_cut cut place call ≡ call ∷ []
passed_took false place call e = refl
passed_took true place call e = absurd (cc)

passed_sent : (line : ℕ) (d : List ℕ) (lines : List LineNow) (at : Option LineNow) → slice_get lines line ≡ at → Each IsQuiet lines → sent_on line d at ≡ Send line d ∷ []
passed_sent line d lines None e each = refl
passed_sent line d lines (Some found) e each =
    let quiet = each line found e in
    ap (λ (fate : Fate). sendings found (copies fate d ++ held_back found.held)) (quiet_fate line found d quiet)
    ∙ ap (λ (held : Option (List ℕ)). sendings found (copies Once d ++ held_back held)) quiet.none_held
    ∙ ap (λ (n : ℕ). Send n d ∷ []) quiet.number_is

none_gone : (lines : List LineNow) → Each (λ n line. line.held ≡ None) lines → all_held lines ≡ []
none_gone [] each = refl
none_gone (line ∷ lines) each =
    ap (λ (l : List VenueCall). l ++ sendings line (held_back line.held)) (none_gone lines (λ n l there. each (suc n) l there))
    ∙ ap (λ (held : Option (List ℕ)). sendings line (held_back held)) (each 0 line refl)

passed_waited : (more : Bool) (answer : WaitEnd) (goes : Bool) (lines : List LineNow) → Each IsQuiet lines → all_held_if goes lines ++ Wait more answer ∷ [] ≡ Wait more answer ∷ []
passed_waited more answer false lines each = refl
passed_waited more answer true lines each = ap (λ (l : List VenueCall). l ++ Wait more answer ∷ []) (none_gone lines (λ n l there. (each n l there).none_held))

passed_made : (harm : Harm) → IsHarmless harm → (call : VenueCall) (calls : List VenueCall) → made_of (lines_left harm calls) (cuts_left harm calls) call ≡ call ∷ []
passed_made harm harmless (Wait more answer) calls = passed_waited more answer (lets_go answer) (lines_left harm calls) (quiet_lines harm harmless calls)
passed_made harm harmless (Read room bytes answer) calls = refl
passed_made harm harmless (Send line d) calls = passed_sent line d (lines_left harm calls) (slice_get (lines_left harm calls) line) refl (quiet_lines harm harmless calls)
passed_made harm harmless (Accept place came) calls = refl
passed_made harm harmless (Take place room bytes answer) calls =
    passed_took (is_cut (cuts_left harm calls) place) place (Take place room bytes answer) (uncut_at (cuts_left harm calls) place (slice_get (cuts_left harm calls) place) refl (uncut_places harm harmless calls))
passed_made harm harmless (Put place piece answer) calls =
    passed_took (is_cut (cuts_left harm calls) place) place (Put place piece answer) (uncut_at (cuts_left harm calls) place (slice_get (cuts_left harm calls) place) refl (uncut_places harm harmless calls))
passed_made harm harmless (Close place) calls = refl

pub passes_on : (harm : Harm) → PassesOn harm
passes_on harm harmless [] = refl
passes_on harm harmless (call ∷ calls) =
    ap (λ (l : List VenueCall). l ++ harmed harm calls) (passed_made harm harmless call calls) ∙ ap (λ (l : List VenueCall). call ∷ l) (passes_on harm harmless calls)
