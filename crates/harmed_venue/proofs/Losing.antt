-- Where no share is lost, nothing is: what was sent has gone out, or is held back.
use Rattle.std.proofs.Common.{◌≡◌, ◌⊎◌, inl, inr, ℕ, zero, suc, Bool, true, false, List, [], ◌∷◌, ◌++◌, map, set, slice_get, Option, None, Some, if◌then◌else◌, refl, sym, ap, ◌∙◌, subst}
use Rattle.std.proofs.lemmas.List.Elements.{Contains-append_left, Contains-append_right}
use Rattle.std.specs.List.{Contains}
use Rattle.live_net.specs.declared.live.WaitEnd.{WaitEnd}
use Rattle.venue_net.specs.VenueCalls.{VenueCall, Wait, Read, Send, Accept, Take, Put, Close}
use Rattle.harmed_venue.specs.declared.fate.Fate.{Fate}
use Rattle.harmed_venue.specs.declared.fate.Fate.TheVariants.{Lost, Late, Twice, Once}
use Rattle.harmed_venue.specs.declared.harm.Harm.{Harm}
use Rattle.harmed_venue.specs.declared.harm.Shares.{Shares}
use Rattle.harmed_venue.specs.Harmed.{after_sent, all_held, all_held_if, cuts_left, harmed, lets_go, lines_left, made_of, sent_on}
use Rattle.harmed_venue.specs.Lines.{LineNow, after_send, copies, fate_of, goes_out, held_back, is_late, is_lost, is_repeated, kept_by, let_go, sendings, share_of}
use Rattle.harmed_venue.specs.Venues.{HasGone, IsHeld, IsOut, LosesNothing, no_shares}
use Rattle.harmed_venue.proofs.Calling.{sendings_more}
use Rattle.harmed_venue.proofs.Each.{Each, all_as, each_map, each_set}
use Rattle.harmed_venue.proofs.Lawful.{below_none, each_first, no_share, one_of, sound_lines}

-- ---- No line loses
abbrev KeepsAll : ℕ → LineNow → Type 0
KeepsAll n line = line.lose ≡ 0

keeps_sent : (line : ℕ) (d : List ℕ) (lines : List LineNow) (at : Option LineNow) → slice_get lines line ≡ at → Each KeepsAll lines → Each KeepsAll (after_sent line d at lines)
keeps_sent line d lines None e each = each
keeps_sent line d lines (Some found) e each = each_set KeepsAll lines line (after_send d found) (each line found e) each

keeps_waited : (goes : Bool) (lines : List LineNow) → Each KeepsAll lines → Each KeepsAll (if goes then map let_go lines else lines)
keeps_waited false lines each = each
keeps_waited true lines each = each_map KeepsAll KeepsAll let_go (λ n line e. e) lines each

keeps_lines : (harm : Harm) → harm.lose ≡ no_shares → (calls : List VenueCall) → Each KeepsAll (lines_left harm calls)
keeps_lines harm e [] = each_first KeepsAll harm (λ n. ap (λ (shares : Shares). share_of shares n) e ∙ no_share n) harm.lines
keeps_lines harm e (Send line d ∷ calls) = keeps_sent line d (lines_left harm calls) (slice_get (lines_left harm calls) line) refl (keeps_lines harm e calls)
keeps_lines harm e (Wait more answer ∷ calls) = keeps_waited (lets_go answer) (lines_left harm calls) (keeps_lines harm e calls)
keeps_lines harm e (Read room bytes answer ∷ calls) = keeps_lines harm e calls
keeps_lines harm e (Accept place came ∷ calls) = keeps_lines harm e calls
keeps_lines harm e (Take place room bytes answer ∷ calls) = keeps_lines harm e calls
keeps_lines harm e (Put place piece answer ∷ calls) = keeps_lines harm e calls
keeps_lines harm e (Close place ∷ calls) = keeps_lines harm e calls

not_lost : (a b c : Bool) → a ≡ false → (if a then Lost else (if b then Late else (if c then Twice else Once))) ≡ Lost → ⊥
not_lost true b c e f = cc
not_lost false true c e f = cc
not_lost false false true e f = cc
not_lost false false false e f = cc

-- ---- Lines of which one is changed
changed_here : (lines : List LineNow) (n : ℕ) (new old : LineNow) → slice_get lines n ≡ Some old → slice_get (set lines n new) n ≡ Some new
changed_here [] n new old e = absurd (cc)
changed_here (x ∷ xs) zero new old e = refl
changed_here (x ∷ xs) (suc n) new old e = changed_here xs n new old e

suc_both : (m n : ℕ) (found l : LineNow) (P : Type 0) → ((n ≡ m) × (found ≡ l)) ⊎ P → ((suc n ≡ suc m) × (found ≡ l)) ⊎ P
suc_both m n found l P (inl same) = inl (ap (λ (k : ℕ). suc k) same.0, same.1)
suc_both m n found l P (inr p) = inr p

here_or_there : (lines : List LineNow) (m n : ℕ) (new found l : LineNow) → slice_get lines m ≡ Some found → slice_get lines n ≡ Some l
    → ((n ≡ m) × (found ≡ l)) ⊎ (slice_get (set lines m new) n ≡ Some l)
here_or_there [] m n new found l e f = absurd (cc)
here_or_there (x ∷ xs) zero zero new found l e f = inl (refl, cc)
here_or_there (x ∷ xs) zero (suc n) new found l e f = inr f
here_or_there (x ∷ xs) (suc m) zero new found l e f = inr f
here_or_there (x ∷ xs) (suc m) (suc n) new found l e f = suc_both m n found l _ (here_or_there xs m n new found l e f)

-- ---- What goes out
goes_held : (found : LineNow) (n : ℕ) (more d : List ℕ) → found.number ≡ n → found.held ≡ Some d → Contains (sendings found (goes_out found more)) (Send n d)
goes_held found n more d number held =
    subst (λ (l : List VenueCall). Contains l (Send n d)) (sym (sendings_more found (copies (fate_of found more) more) (held_back found.held)))
    (Contains-append_left (sendings found (held_back found.held)) (sendings found (copies (fate_of found more) more)) (Send n d)
    (subst (λ (o : Option (List ℕ)). Contains (sendings found (held_back o)) (Send n d)) (sym held)
    (subst (λ (k : ℕ). Contains (Send k d ∷ []) (Send n d)) (sym number) (one_of [] (Send n d)))))

by_copies : (found : LineNow) (n : ℕ) (d : List ℕ) (fate : Fate) → found.number ≡ n → fate_of found d ≡ fate → Contains (sendings found (copies fate d)) (Send n d) → Contains (sendings found (goes_out found d)) (Send n d)
by_copies found n d way number e there =
    subst (λ (l : List VenueCall). Contains l (Send n d)) (sym (sendings_more found (copies (fate_of found d) d) (held_back found.held)))
    (Contains-append_right (sendings found (held_back found.held)) (sendings found (copies (fate_of found d) d)) (Send n d)
    (subst (λ (f : Fate). Contains (sendings found (copies f d)) (Send n d)) (sym e) there))

held_goes : (lines : List LineNow) (n : ℕ) (l : LineNow) (d : List ℕ) → slice_get lines n ≡ Some l → l.held ≡ Some d → Contains (all_held lines) (Send l.number d)
held_goes [] n l d e held = absurd (cc)
held_goes (x ∷ xs) zero l d e held =
    let same : l ≡ x = cc in
    Contains-append_right (all_held xs) (sendings x (held_back x.held)) (Send l.number d)
    (subst (λ (y : LineNow). Contains (sendings y (held_back y.held)) (Send l.number d)) same
    (subst (λ (o : Option (List ℕ)). Contains (sendings l (held_back o)) (Send l.number d)) (sym held) (one_of [] (Send l.number d))))
held_goes (x ∷ xs) (suc n) l d e held = Contains-append_left (all_held xs) (sendings x (held_back x.held)) (Send l.number d) (held_goes xs n l d e held)

-- ---- Each datagram that was sent
module _ (harm : Harm) (line : ℕ) (d : List ℕ) where
  -- what is held stays, or goes out
  held_sent : (calls : List VenueCall) (m : ℕ) (e : List ℕ) (at : Option LineNow) → slice_get (lines_left harm calls) m ≡ at → (l : LineNow)
      → slice_get (lines_left harm calls) line ≡ Some l → l.held ≡ Some d
      → Contains (sent_on m e at) (Send line d) ⊎ IsHeld (after_sent m e at (lines_left harm calls)) line d
  held_sent calls m e None there l is held = inr (l, (is, held))
  held_sent calls m e (Some found) there l is held = by_place (here_or_there (lines_left harm calls) m line (after_send e found) found l there is) where
    by_place : ((line ≡ m) × (found ≡ l)) ⊎ (slice_get (set (lines_left harm calls) m (after_send e found)) line ≡ Some l)
        → Contains (sent_on m e (Some found)) (Send line d) ⊎ IsHeld (after_sent m e (Some found) (lines_left harm calls)) line d
    by_place (inl same) = inl (goes_held found line e d ((sound_lines harm calls m found there).number_is ∙ sym same.0) (ap (λ (x : LineNow). x.held) same.1 ∙ held))
    by_place (inr stays) = inr (l, (stays, held))

  held_waited : (calls : List VenueCall) (more : Bool) (answer : WaitEnd) (goes : Bool) (l : LineNow)
      → slice_get (lines_left harm calls) line ≡ Some l → l.held ≡ Some d
      → Contains (all_held_if goes (lines_left harm calls) ++ Wait more answer ∷ []) (Send line d)
      ⊎ IsHeld (if goes then map let_go (lines_left harm calls) else lines_left harm calls) line d
  held_waited calls more answer false l is held = inr (l, (is, held))
  held_waited calls more answer true l is held =
      inl (Contains-append_left (all_held (lines_left harm calls)) (Wait more answer ∷ []) (Send line d)
      (subst (λ (n : ℕ). Contains (all_held (lines_left harm calls)) (Send n d)) (sound_lines harm calls line l is).number_is (held_goes (lines_left harm calls) line l d is held)))

  out_by : (made before : List VenueCall) (P : Type 0) → Contains made (Send line d) ⊎ P → Contains (made ++ before) (Send line d) ⊎ P
  out_by made before P (inl there) = inl (Contains-append_left made before (Send line d) there)
  out_by made before P (inr p) = inr p

  out_held : (call : VenueCall) (calls : List VenueCall) → IsHeld (lines_left harm calls) line d → HasGone harm (call ∷ calls) line d
  out_held (Send m e) calls (l, h) = out_by (sent_on m e (slice_get (lines_left harm calls) m)) (harmed harm calls) _ (held_sent calls m e (slice_get (lines_left harm calls) m) refl l h.0 h.1)
  out_held (Wait more answer) calls (l, h) = out_by (all_held_if (lets_go answer) (lines_left harm calls) ++ Wait more answer ∷ []) (harmed harm calls) _ (held_waited calls more answer (lets_go answer) l h.0 h.1)
  out_held (Read room bytes answer) calls held = inr held
  out_held (Accept place came) calls held = inr held
  out_held (Take place room bytes answer) calls held = inr held
  out_held (Put place piece answer) calls held = inr held
  out_held (Close place) calls held = inr held

  out_later : (call : VenueCall) (calls : List VenueCall) → HasGone harm calls line d → HasGone harm (call ∷ calls) line d
  out_later call calls (inl there) = inl (Contains-append_right (made_of (lines_left harm calls) (cuts_left harm calls) call) (harmed harm calls) (Send line d) there)
  out_later call calls (inr held) = out_held call calls held

  -- one that is sent now
  sent_now : (calls : List VenueCall) (at : Option LineNow) → slice_get (lines_left harm calls) line ≡ at → Each KeepsAll (lines_left harm calls)
      → Contains (sent_on line d at) (Send line d) ⊎ IsHeld (after_sent line d at (lines_left harm calls)) line d
  sent_now calls None there keeps = inl (one_of [] (Send line d))
  sent_now calls (Some found) there keeps = by_fate (fate_of found d) refl where
    number : found.number ≡ line
    number = (sound_lines harm calls line found there).number_is

    sent_alone : Contains (sendings found (d ∷ [])) (Send line d)
    sent_alone = subst (λ (k : ℕ). Contains (Send k d ∷ []) (Send line d)) (sym number) (one_of [] (Send line d))

    sent_twice : Contains (sendings found (d ∷ d ∷ [])) (Send line d)
    sent_twice = subst (λ (k : ℕ). Contains (Send k d ∷ Send k d ∷ []) (Send line d)) (sym number) (one_of (Send line d ∷ []) (Send line d))

    by_fate : (fate : Fate) → fate_of found d ≡ fate → Contains (sent_on line d (Some found)) (Send line d) ⊎ IsHeld (after_sent line d (Some found) (lines_left harm calls)) line d
    by_fate Lost e = absurd (not_lost (is_lost found) (is_late found d) (is_repeated found) (below_none _ found.lose (keeps line found there)) e)
    by_fate Late e = inr (after_send d found, (changed_here (lines_left harm calls) line (after_send d found) found there, ap (λ (f : Fate). kept_by f d) e))
    by_fate Twice e = inl (by_copies found line d Twice number e sent_twice)
    by_fate Once e = inl (by_copies found line d Once number e sent_alone)

  out_now : (calls : List VenueCall) → Each KeepsAll (lines_left harm calls) → HasGone harm (Send line d ∷ calls) line d
  out_now calls keeps = out_by (sent_on line d (slice_get (lines_left harm calls) line)) (harmed harm calls) _ (sent_now calls (slice_get (lines_left harm calls) line) refl keeps)

is_out_later : (harm : Harm) (call it : VenueCall) (calls : List VenueCall) → IsOut harm calls it → IsOut harm (call ∷ calls) it
is_out_later harm call (Send line d) calls out = out_later harm line d call calls out
is_out_later harm call (Wait more answer) calls out = tt
is_out_later harm call (Read room bytes answer) calls out = tt
is_out_later harm call (Accept place came) calls out = tt
is_out_later harm call (Take place room bytes answer) calls out = tt
is_out_later harm call (Put place piece answer) calls out = tt
is_out_later harm call (Close place) calls out = tt

is_out_now : (harm : Harm) → harm.lose ≡ no_shares → (call : VenueCall) (calls : List VenueCall) → IsOut harm (call ∷ calls) call
is_out_now harm e (Send line d) calls = out_now harm line d calls (keeps_lines harm e calls)
is_out_now harm e (Wait more answer) calls = tt
is_out_now harm e (Read room bytes answer) calls = tt
is_out_now harm e (Accept place came) calls = tt
is_out_now harm e (Take place room bytes answer) calls = tt
is_out_now harm e (Put place piece answer) calls = tt
is_out_now harm e (Close place) calls = tt

pub loses_nothing : (harm : Harm) → LosesNothing harm
loses_nothing harm e [] = tt
loses_nothing harm e (call ∷ calls) =
    (is_out_now harm e call calls, all_as (IsOut harm calls) (IsOut harm (call ∷ calls)) (λ it out. is_out_later harm call it calls out) calls (loses_nothing harm e calls))
