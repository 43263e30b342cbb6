-- What was put at a place of a Spin Server, by the calls of a run, is what its unit's end put.
use Rattle.std.proofs.Common.{◌≡◌, ◌⊎◌, inl, inr, ℕ, zero, suc, ◌<◌, ◌≤◌, Bool, true, false, cond, ◌==◌, List, [], ◌∷◌, ◌++◌, map, take, length, refl, sym, ap, ◌∙◌, subst, arith, length-take, Option, None, Some, slice_get}
use Rattle.std.proofs.lemmas.Bool.{eq-eqb, eqb-true}
use Rattle.live_net.specs.declared.live.PeerPut.TheVariants as put
use Rattle.live_turns.specs.Due.{room_for_one}
use Rattle.pitch_text.specs.declared.command.Command.{Command}
use Rattle.session_ends.specs.Events.{Ticked, Told, Pumped}
use Rattle.spin_server.specs.Served.{Served}
use Rattle.venue_core.specs.Refusals.{refusal}
use Rattle.venue_core.specs.declared.error.VenueError.{VenueError}
use Rattle.venue_end.specs.Came.{VenueCame, VenueState, Commanded, Flushed, Beaten, Advertised, ProxyMade, ProxyTook, ProxyPut, ProxyCut, SpinMade, SpinTook, SpinPumped, SpinPut, SpinCut, Second, AllCut, commanded_on, spin_fed, venue_after}
use Rattle.venue_end.specs.Servers.{spin_says}
use Rattle.venue_end.specs.Sessions.{Session, happens_at, new_session, puts, session_of, waiting_in, without}
use Rattle.venue_end.specs.declared.setup.VenueSetup.{VenueSetup}
use Rattle.venue_net.specs.VenueCalls.{VenueCall, Wait, Read, Send, Accept, Take, Put, Close}
use Rattle.venue_turns.specs.Due.{Ends, IsMade}
use Rattle.venue_turns.specs.declared.due.Due.{Due}
use Rattle.venue_turns.specs.declared.due.Due.TheVariants as to
use Rattle.venue_units.specs.Coming.{UnitCame, came_to, to_unit}
use Rattle.venue_units.specs.Places.{cut_at, is_spin, made_at, put_at, seen_of, unit_of, waits_at, waits_in}
use Rattle.live_venue.specs.Running.{Brings, Now, Runs, ends_now, left, let_in, pumped, wrote}
use Rattle.served_laws.specs.Putting.{first_waiting, put_of}
use Rattle.served_laws.proofs.Putting.{spins_apart}
use Rattle.served_laws.proofs.Sessions.{none_at, none_without, not_the_last, one_goes, others_stay}
use Rattle.live_laws.specs.Sent.{was_put}
use Rattle.live_laws.proofs.Bringing.{AlsoBy, AreCalm, brings_keeps, put_keeps}

abbrev Spins : Type 0
Spins = List (Session (List Served))

take_within : (n room : ℕ) (bytes : List ℕ) → n ≤ length (take room bytes) → take n (take room bytes) ≡ take n bytes
take_within zero room bytes within = refl
take_within (suc n) zero bytes within = absurd (omega (arith, within))
take_within (suc n) (suc room) [] within = refl
take_within (suc n) (suc room) (b ∷ bytes) within = ap (λ (l : List ℕ). b ∷ l) (take_within n room bytes (omega (arith, within)))

module _ (s : VenueSetup) (place : ℕ) where
  -- ---- At the end of its unit
  -- no session stands there
  abbrev NoneStands : List VenueCame → Type 0
  NoneStands before = session_of place (venue_after s before).spins ≡ None

  -- so much was put there; or nothing since a client was let in, for which there is no session
  abbrev Tells : List ℕ → List VenueCame → Type 0
  Tells bytes before = (bytes ≡ put_of s place before) ⊎ ((bytes ≡ []) × NoneStands before)

  -- what comes of others
  abbrev IsOther : VenueCame → Type 0
  IsOther (SpinMade id) = (id == place) ≡ false
  IsOther (SpinPut id count) = (id == place) ≡ false
  IsOther came = Unit {0}

  commanded_none : (r : Option VenueError) (command : Command) (now : VenueState) → session_of place now.spins ≡ None → session_of place (commanded_on r command now).spins ≡ None
  commanded_none (Some error) command now none = none
  commanded_none None command now none = none

  none_on : (f : Session (List Served) → Session (List Served)) (keeps : (k : Session (List Served)) → (f k).id ≡ k.id) (ks : Spins) → session_of place ks ≡ None → session_of place (map f ks) ≡ None
  none_on f keeps [] none = refl
  none_on f keeps (k ∷ ks) none = ap (λ (n : ℕ). cond (n == place) (Some (f k)) (session_of place (map f ks))) (keeps k) ∙ by (k.id == place) none (none_on f keeps ks)
    where
      by : (b : Bool) → cond b (Some k) (session_of place ks) ≡ None → (session_of place ks ≡ None → session_of place (map f ks) ≡ None) → cond b (Some (f k)) (session_of place (map f ks)) ≡ None
      by true some rest = absurd (let same : Some k ≡ None = some in cc)
      by false none rest = rest none

  still_none : (came : VenueCame) (before : List VenueCame) → IsOther came → NoneStands before → NoneStands (came ∷ before)
  still_none (Commanded command) before other none = commanded_none (refusal (venue_after s before).messages command) command (venue_after s before) none
  still_none Flushed before other none = none
  still_none Beaten before other none = none
  still_none Advertised before other none = none_on (happens_at (spin_says s) (Told (length (venue_after s before).messages))) (λ k. refl) (venue_after s before).spins none
  still_none (ProxyMade id) before other none = none
  still_none (ProxyTook id bytes) before other none = none
  still_none (ProxyPut id count) before other none = none
  still_none (ProxyCut id) before other none = none
  still_none (SpinMade id) before other none =
      let ks : Spins = (venue_after s before).spins in
      not_the_last (new_session id) place (without id ks) other ∙ others_stay id place ks other ∙ none
  still_none (SpinTook id bytes) before other none = none_at (spin_fed s (venue_after s before) bytes) (λ k. refl) id place (venue_after s before).spins none
  still_none (SpinPumped id) before other none = none_at (happens_at (spin_says s) Pumped) (λ k. refl) id place (venue_after s before).spins none
  still_none (SpinPut id count) before other none = none_at (puts count) (λ k. refl) id place (venue_after s before).spins none
  still_none (SpinCut id) before other none = none_without id place (venue_after s before).spins (spins_apart s before) none
  still_none Second before other none = none_on (happens_at (spin_says s) Ticked) (λ k. refl) (venue_after s before).spins none
  still_none AllCut before other none = refl

  same_put : (came : VenueCame) (before : List VenueCame) → IsOther came → put_of s place before ≡ put_of s place (came ∷ before)
  same_put (SpinMade id) before other = sym (ap (λ (b : Bool). cond b [] (put_of s place before)) other)
  same_put (SpinPut id count) before other = sym (ap (λ (b : Bool). cond b (put_of s place before ++ first_waiting s place count before) (put_of s place before)) other)
  same_put (Commanded command) before other = refl
  same_put Flushed before other = refl
  same_put Beaten before other = refl
  same_put Advertised before other = refl
  same_put (ProxyMade id) before other = refl
  same_put (ProxyTook id bytes) before other = refl
  same_put (ProxyPut id count) before other = refl
  same_put (ProxyCut id) before other = refl
  same_put (SpinTook id bytes) before other = refl
  same_put (SpinPumped id) before other = refl
  same_put (SpinCut id) before other = refl
  same_put Second before other = refl
  same_put AllCut before other = refl

  tells_other : (bytes : List ℕ) (came : VenueCame) (before : List VenueCame) → IsOther came → Tells bytes before → Tells bytes (came ∷ before)
  tells_other bytes came before other (inl is) = inl (is ∙ same_put came before other)
  tells_other bytes came before other (inr (nothing, none)) = inr (nothing, still_none came before other none)

  here : (place == place) ≡ true
  here = eq-eqb place place refl

  -- a client is let in, with a session or without one
  tells_made : (before : List VenueCame) → Tells [] (SpinMade place ∷ before)
  tells_made before = inl (sym (ap (λ (b : Bool). cond b [] (put_of s place before)) here))

  tells_cut : (before : List VenueCame) → Tells [] (SpinCut place ∷ before)
  tells_cut before = inr (refl, one_goes place (venue_after s before).spins (spins_apart s before))

  -- the first of what waits is put
  tells_put : (bytes piece : List ℕ) (n room : ℕ) (before : List VenueCame) → piece ≡ take room (waiting_in (session_of place (venue_after s before).spins)) → (0 < n) × (n ≤ length piece) → Tells bytes before
      → Tells (bytes ++ take n piece) (SpinPut place n ∷ before)
  tells_put bytes piece n room before first fits (inl is) =
      let waiting : List ℕ = waiting_in (session_of place (venue_after s before).spins) in
      let within : n ≤ length (take room waiting) = subst (λ (l : List ℕ). n ≤ length l) first fits.1 in
      inl (ap (λ (l : List ℕ). l ++ take n piece) is
      ∙ ap (λ (l : List ℕ). put_of s place before ++ l) (ap (take n) first ∙ take_within n room waiting within)
      ∙ sym (ap (λ (b : Bool). cond b (put_of s place before ++ first_waiting s place n before) (put_of s place before)) here))
  tells_put bytes piece n room before first fits (inr (nothing, none)) =
      let empty : piece ≡ take room [] = first ∙ ap (λ (o : Option (Session (List Served))). take room (waiting_in o)) none in
      let size : length (take {A = ℕ} room []) ≤ 0 = omega (arith, length-take {A = ℕ} room []) in
      let some = fits.0 in
      let within : n ≤ length (take {A = ℕ} room []) = subst (λ (l : List ℕ). n ≤ length l) empty fits.1 in
      absurd (omega (arith, some, within, size))

-- ---- By what came to all units
module _ (setups : List VenueSetup) (place : ℕ) (s : VenueSetup) (there : slice_get setups (unit_of place) ≡ Some s) (spins : is_spin place ≡ true) where
  abbrev pub PutIs : List ℕ → List UnitCame → Type 0
  PutIs bytes came = Tells s place bytes (came_to (unit_of place) came)

  abbrev Others : VenueCame → Type 0
  Others came = IsOther s place came

  to_others : (bytes : List ℕ) (at : ℕ) (came : VenueCame) (before : List UnitCame) → Others came → PutIs bytes before → PutIs bytes (to_unit at came ∷ before)
  to_others bytes at came before other is = by (at == unit_of place)
    where
      by : (b : Bool) → Tells s place bytes (cond b (came ∷ came_to (unit_of place) before) (came_to (unit_of place) before))
      by true = tells_other s place bytes came (came_to (unit_of place) before) other is
      by false = is

  here_first : (came : VenueCame) (before : List UnitCame) → came ∷ came_to (unit_of place) before ≡ came_to (unit_of place) (to_unit (unit_of place) came ∷ before)
  here_first came before = sym (ap (λ (b : Bool). cond b (came ∷ came_to (unit_of place) before) (came_to (unit_of place) before)) (eq-eqb (unit_of place) (unit_of place) refl))

  spin_came : (spin proxy : VenueCame) (other : ℕ) → Others spin → Others proxy → Others (cond (is_spin other) spin proxy)
  spin_came spin proxy other a b = by (is_spin other)
    where
      by : (c : Bool) → Others (cond c spin proxy)
      by true = a
      by false = b

  calm : AreCalm Others
  calm = record {
    flushed = tt;
    second = tt;
    all_cut = tt;
    advertised = tt;
    took = λ other bytes. spin_came (SpinTook other bytes) (ProxyTook other bytes) other tt tt;
    cut = λ other. spin_came (SpinCut other) (ProxyCut other) other tt tt;
    pumped = λ other. tt;
  }

  -- ---- A call
  others_bring : (bytes : List ℕ) (call : VenueCall) (now now' : Now) → AlsoBy Others call → Brings setups call now now' → PutIs bytes now.came → PutIs bytes now'.came
  others_bring bytes call now now' also e is = brings_keeps Others (PutIs bytes) calm (to_others bytes) setups call now now' also e is

  let_in_here : (now now' : Now) → (now' ≡ let_in place now) ⊎ (now' ≡ left place now) → PutIs [] now'.came
  let_in_here now now' (inl e) =
      subst (λ (n : Now). PutIs [] n.came) (sym e) (subst (Tells s place []) (here_first (made_at place) now.came)
      (subst (λ (b : Bool). Tells s place [] (cond b (SpinMade place) (ProxyMade place) ∷ came_to (unit_of place) now.came)) (sym spins) (tells_made s place (came_to (unit_of place) now.came))))
  let_in_here now now' (inr e) =
      subst (λ (n : Now). PutIs [] n.came) (sym e) (subst (Tells s place []) (here_first (cut_at place) now.came)
      (subst (λ (b : Bool). Tells s place [] (cond b (SpinCut place) (ProxyCut place) ∷ came_to (unit_of place) now.came)) (sym spins) (tells_cut s place (came_to (unit_of place) now.came))))

  waits_here : (came : List UnitCame) → waits_at setups place came ≡ waiting_in (session_of place (venue_after s (came_to (unit_of place) came)).spins)
  waits_here came =
      ap (λ (o : Option VenueSetup). seen_of [] (λ setup now. waits_in place now) (unit_of place) came o) there
      ∙ ap (λ (b : Bool). cond b (waiting_in (session_of place (venue_after s (came_to (unit_of place) came)).spins)) (waiting_in (session_of place (venue_after s (came_to (unit_of place) came)).proxies))) spins

  put_here : (bytes piece : List ℕ) (n : ℕ) (now : Now) → piece ≡ take room_for_one (waits_at setups place now.came) → (0 < n) × (n ≤ length piece) → PutIs bytes now.came → PutIs (bytes ++ take n piece) (wrote place n now).came
  put_here bytes piece n now first fits is =
      subst (Tells s place (bytes ++ take n piece)) (here_first (put_at place n) now.came)
      (subst (λ (b : Bool). Tells s place (bytes ++ take n piece) (cond b (SpinPut place n) (ProxyPut place n) ∷ came_to (unit_of place) now.came)) (sym spins)
      (tells_put s place bytes piece n room_for_one (came_to (unit_of place) now.came) (first ∙ ap (take room_for_one) (waits_here now.came)) fits is))

  -- a piece that is put is the first of what waits there
  piece_made : (e : Ends) (what : Due) (other n : ℕ) (piece : List ℕ) → IsMade e what (Put other piece (put.Wrote n)) → piece ≡ take room_for_one (e.waits other)
  piece_made e (to.Put at) other n piece (same, is) = is ∙ ap (λ (p : ℕ). take room_for_one (e.waits p)) (sym same)
  piece_made e (to.Wait more) other n piece made = absurd made
  piece_made e to.Read other n piece made = absurd made
  piece_made e (to.Accept at) other n piece made = absurd made
  piece_made e (to.Take at) other n piece made = absurd made
  piece_made e (to.Close at) other n piece made = absurd made

  accept_on : (bytes : List ℕ) (other : ℕ) (now now' : Now) → (now' ≡ let_in other now) ⊎ (now' ≡ left other now) → PutIs bytes now.came → PutIs (cond (other == place) [] bytes) now'.came
  accept_on bytes other now now' e is = by (other == place) refl
    where
      by : (b : Bool) → (other == place) ≡ b → PutIs (cond b [] bytes) now'.came
      by true same = let_in_here now now' (subst (λ (p : ℕ). (now' ≡ let_in p now) ⊎ (now' ≡ left p now)) (eqb-true other place same) e)
      by false differs = others_bring bytes (Accept other true) now now' (spin_came (SpinMade other) (ProxyMade other) other differs tt) e is

  put_on : (bytes piece : List ℕ) (other n : ℕ) (now now' : Now) → piece ≡ take room_for_one (waits_at setups other now.came) → (0 < n) × (n ≤ length piece)
      → (now' ≡ pumped setups other (wrote other n now)) ⊎ (now' ≡ left other (wrote other n now)) → PutIs bytes now.came → PutIs (cond (other == place) (bytes ++ take n piece) bytes) now'.came
  put_on bytes piece other n now now' first fits e is = by (other == place) refl
    where
      by : (b : Bool) → (other == place) ≡ b → PutIs (cond b (bytes ++ take n piece) bytes) now'.came
      by true same =
          let at : other ≡ place = eqb-true other place same in
          put_keeps Others (PutIs (bytes ++ take n piece)) calm (to_others (bytes ++ take n piece)) setups place n now now'
          (subst (λ (p : ℕ). (now' ≡ pumped setups p (wrote p n now)) ⊎ (now' ≡ left p (wrote p n now))) at e)
          (put_here bytes piece n now (subst (λ (p : ℕ). piece ≡ take room_for_one (waits_at setups p now.came)) at first) fits is)
      by false differs = others_bring bytes (Put other piece (put.Wrote n)) now now' (spin_came (SpinPut other n) (ProxyPut other n) other differs tt) e is

  -- ---- A run
  pub put_is : (run : List VenueCall) (now : Now) → Runs setups run now → PutIs (was_put place run) now.came
  put_is [] now e = inl (sym (ap (λ (n : Now). put_of s place (came_to (unit_of place) n.came)) e))
  put_is (Send line datagram ∷ run) now (before, (runs, e)) = subst (λ (n : List UnitCame). PutIs (was_put place run) n) (ap (λ (n : Now). n.came) e) (put_is run before runs)
  put_is (Accept other true ∷ run) now (before, (runs, on)) = accept_on (was_put place run) other before now on.brings (put_is run before runs)
  put_is (Put other piece (put.Wrote n) ∷ run) now (before, (runs, on)) =
      put_on (was_put place run) piece other n before now (piece_made (ends_now setups before.came) on.is_due.what other n piece on.is_due.made) on.fits on.brings (put_is run before runs)
  put_is (Wait more answer ∷ run) now (before, (runs, on)) = others_bring (was_put place run) (Wait more answer) before now tt on.brings (put_is run before runs)
  put_is (Read room bytes answer ∷ run) now (before, (runs, on)) = others_bring (was_put place run) (Read room bytes answer) before now (λ command. tt) on.brings (put_is run before runs)
  put_is (Accept other false ∷ run) now (before, (runs, on)) = others_bring (was_put place run) (Accept other false) before now tt on.brings (put_is run before runs)
  put_is (Take other room bytes answer ∷ run) now (before, (runs, on)) = others_bring (was_put place run) (Take other room bytes answer) before now tt on.brings (put_is run before runs)
  put_is (Put other piece put.Full ∷ run) now (before, (runs, on)) = others_bring (was_put place run) (Put other piece put.Full) before now tt on.brings (put_is run before runs)
  put_is (Put other piece put.Ended ∷ run) now (before, (runs, on)) = others_bring (was_put place run) (Put other piece put.Ended) before now tt on.brings (put_is run before runs)
  put_is (Close other ∷ run) now (before, (runs, on)) = others_bring (was_put place run) (Close other) before now tt on.brings (put_is run before runs)
