-- Once what stood at a place is cut, no session stands there.
use Rattle.std.proofs.Common.{◌≡◌, ℕ, ◌+◌, ◌-◌, ◌≤◌, Bool, true, false, cond, not, ◌||◌, List, [], ◌∷◌, ◌++◌, map, eqb, Option, Some, None, is_some, refl, ap, ◌∙◌, arith, slice_get}
use Rattle.std.proofs.lemmas.Bool.{eqb-true}
use Rattle.grp_session.specs.Serving.{Source}
use Rattle.pitch_text.specs.declared.command.Command.{Command}
use Rattle.session_ends.specs.Events.{Ticked, Pumped}
use Rattle.spin_server.specs.Served.{Served}
use Rattle.venue_core.specs.Refusals.{refusal}
use Rattle.venue_core.specs.declared.error.VenueError.{VenueError}
use Rattle.venue_end.specs.Came.{VenueCame, VenueState, Commanded, Flushed, Beaten, Advertised, ProxyMade, ProxyTook, ProxyPut, ProxyCut, SpinMade, SpinTook, SpinPumped, SpinPut, SpinCut, Second, AllCut, commanded_on, proxy_fed, spin_fed, venue_after, venue_step}
use Rattle.venue_end.specs.Servers.{proxy_says, spin_says}
use Rattle.venue_end.specs.Sessions.{Session, session_of, at_session, without, with_new, new_session, happens_at, puts}
use Rattle.venue_end.specs.declared.setup.VenueSetup.{VenueSetup}
use Rattle.venue_units.specs.Coming.{came_to, to_unit}
use Rattle.venue_units.specs.layers.Laws.{CutPlacesAreShut}
use Rattle.venue_units.specs.Places.{cause_in, cut_at, has_in, is_shut_in, is_spin, seen_of, unit_of}
use Rattle.venue_units.proofs.Standing.{came_here}

-- ---- How many sessions have a number
module _ {X : Type 0} where
  times : ℕ → List (Session X) → ℕ
  times id [] = 0
  times id (session ∷ sessions) = cond (eqb session.id id) (1 + times id sessions) (times id sessions)

  -- it counts by the number alone
  times_at : (id : ℕ) (one : ℕ) (f : Session X → Session X) → ((k : Session X) → (f k).id ≡ k.id) → (ks : List (Session X)) → times id (at_session one f ks) ≡ times id ks
  unfolding times
  times_at id one f same [] = refl
  times_at id one f same (k ∷ ks) = by (eqb k.id one) (times_at id one f same ks)
    where
      by : (b : Bool) → times id (at_session one f ks) ≡ times id ks → times id (cond b (f k ∷ ks) (k ∷ at_session one f ks)) ≡ times id (k ∷ ks)
      by true rest = ap (λ (n : ℕ). cond (eqb n id) (1 + times id ks) (times id ks)) (same k)
      by false rest = ap (λ (n : ℕ). cond (eqb k.id id) (1 + n) n) rest

  times_all : (id : ℕ) (f : Session X → Session X) → ((k : Session X) → (f k).id ≡ k.id) → (ks : List (Session X)) → times id (map f ks) ≡ times id ks
  unfolding times
  times_all id f same [] = refl
  times_all id f same (k ∷ ks) = ap (λ (n : ℕ). cond (eqb n id) (1 + times id (map f ks)) (times id (map f ks))) (same k) ∙ ap (λ (n : ℕ). cond (eqb k.id id) (1 + n) n) (times_all id f same ks)

  times_joined : (id : ℕ) (ks ls : List (Session X)) → times id (ks ++ ls) ≡ times id ks + times id ls
  unfolding times
  times_joined id [] ls = let none : times id ls ≡ 0 + times id ls = omega arith in none
  times_joined id (k ∷ ks) ls = by (eqb k.id id) (times_joined id ks ls)
    where
      by : (b : Bool) → times id (ks ++ ls) ≡ times id ks + times id ls → cond b (1 + times id (ks ++ ls)) (times id (ks ++ ls)) ≡ cond b (1 + times id ks) (times id ks) + times id ls
      by true rest = omega (arith, rest)
      by false rest = rest

  -- one of a number that ends, and one of another
  times_without : (id : ℕ) (ks : List (Session X)) → times id (without id ks) ≡ times id ks - 1
  unfolding times
  times_without id [] = refl
  times_without id (k ∷ ks) = by (eqb k.id id) refl (times_without id ks)
    where
      by : (b : Bool) → eqb k.id id ≡ b → times id (without id ks) ≡ times id ks - 1 → times id (cond b ks (k ∷ without id ks)) ≡ cond b (1 + times id ks) (times id ks) - 1
      by true is rest = omega arith
      by false is rest = ap (λ (b : Bool). cond b (1 + times id (without id ks)) (times id (without id ks))) is ∙ rest

  times_fewer : (id one : ℕ) (ks : List (Session X)) → times id (without one ks) ≤ times id ks
  unfolding times
  times_fewer id one [] = omega arith
  times_fewer id one (k ∷ ks) = by (eqb k.id one) (eqb k.id id) (times_fewer id one ks)
    where
      by : (b a : Bool) → times id (without one ks) ≤ times id ks → times id (cond b ks (k ∷ without one ks)) ≤ times id (k ∷ ks)
      by true a rest = fewer (eqb k.id id)
        where
          fewer : (c : Bool) → times id ks ≤ cond c (1 + times id ks) (times id ks)
          fewer true = omega arith
          fewer false = omega arith
      by false a rest = both (eqb k.id id)
        where
          both : (c : Bool) → cond c (1 + times id (without one ks)) (times id (without one ks)) ≤ cond c (1 + times id ks) (times id ks)
          both true = omega (arith, rest)
          both false = rest

  -- a new one is the only one of its number
  times_new : (id one : ℕ) (ks : List (Session X)) → times id ks ≤ 1 → times id (with_new one ks) ≤ 1
  unfolding times
  times_new id one ks few = by (eqb one id) refl
    where
      joined : times id (with_new one ks) ≡ times id (without one ks) + times id (new_session {X = X} one ∷ [])
      joined = times_joined id (without one ks) (new_session one ∷ [])

      by : (b : Bool) → eqb one id ≡ b → times id (with_new one ks) ≤ 1
      by true is =
          let same : one ≡ id = eqb-true one id is in
          let gone : times id (without one ks) ≡ times id ks - 1 = ap (λ (n : ℕ). times id (without n ks)) same ∙ times_without id ks in
          let added : times id (new_session {X = X} one ∷ []) ≡ 1 = ap (λ (b : Bool). cond b (1 + 0) 0) is in
          omega (arith, joined, gone, added, few)
      by false is =
          let fewer = times_fewer id one ks in
          let added : times id (new_session {X = X} one ∷ []) ≡ 0 = ap (λ (b : Bool). cond b (1 + 0) 0) is in
          omega (arith, joined, fewer, added, few)

  none_has : (id : ℕ) (ks : List (Session X)) → times id ks ≡ 0 → session_of id ks ≡ None
  unfolding times
  none_has id [] none = refl
  none_has id (k ∷ ks) none = by (eqb k.id id) none (none_has id ks)
    where
      by : (b : Bool) → cond b (1 + times id ks) (times id ks) ≡ 0 → (times id ks ≡ 0 → session_of id ks ≡ None) → cond b (Some k) (session_of id ks) ≡ None
      by true none rest = absurd (omega (arith, none))
      by false none rest = rest none

  gone : (id : ℕ) (ks : List (Session X)) → times id ks ≤ 1 → session_of id (without id ks) ≡ None
  gone id ks few = let less = times_without id ks in none_has id (without id ks) (omega (arith, less, few))

-- ---- Each number is one session's
record AreSingle (id : ℕ) (now : VenueState) : Type 0 where
  proxies : times id now.proxies ≤ 1
  spins : times id now.spins ≤ 1

module _ (id : ℕ) where
  commanded : (r : Option VenueError) (command : Command) (now : VenueState) → AreSingle id now → AreSingle id (commanded_on r command now)
  commanded (Some error) command now single = single
  commanded None command now single = record { proxies = single.proxies; spins = single.spins }

  as_many : (n m : ℕ) → n ≡ m → m ≤ 1 → n ≤ 1
  as_many n m same few = omega (arith, same, few)

  fewer : (n m : ℕ) → n ≤ m → m ≤ 1 → n ≤ 1
  fewer n m le few = omega (arith, le, few)

  step : (s : VenueSetup) (came : VenueCame) (now : VenueState) → AreSingle id now → AreSingle id (venue_step s came now)
  unfolding times
  step s (Commanded command) now single = commanded (refusal now.messages command) command now single
  step s Flushed now single = record { proxies = single.proxies; spins = single.spins }
  step s Beaten now single = single
  step s Advertised now single = record { proxies = single.proxies; spins = as_many _ _ (times_all id _ (λ k. refl) now.spins) single.spins }
  step s (ProxyMade one) now single = record { proxies = times_new id one now.proxies single.proxies; spins = single.spins }
  step s (ProxyTook one bytes) now single = record { proxies = as_many _ _ (times_at id one (proxy_fed s now bytes) (λ k. refl) now.proxies) single.proxies; spins = single.spins }
  step s (ProxyPut one count) now single = record { proxies = as_many _ _ (times_at id one (puts count) (λ k. refl) now.proxies) single.proxies; spins = single.spins }
  step s (ProxyCut one) now single = record { proxies = fewer _ _ (times_fewer id one now.proxies) single.proxies; spins = single.spins }
  step s (SpinMade one) now single = record { proxies = single.proxies; spins = times_new id one now.spins single.spins }
  step s (SpinTook one bytes) now single = record { proxies = single.proxies; spins = as_many _ _ (times_at id one (spin_fed s now bytes) (λ k. refl) now.spins) single.spins }
  step s (SpinPumped one) now single = record { proxies = single.proxies; spins = as_many _ _ (times_at id one (happens_at (spin_says s) Pumped) (λ k. refl) now.spins) single.spins }
  step s (SpinPut one count) now single = record { proxies = single.proxies; spins = as_many _ _ (times_at id one (puts count) (λ k. refl) now.spins) single.spins }
  step s (SpinCut one) now single = record { proxies = single.proxies; spins = fewer _ _ (times_fewer id one now.spins) single.spins }
  step s Second now single = record {
    proxies = as_many _ _ (times_all id (happens_at (proxy_says s) Ticked) (λ k. refl) now.proxies) single.proxies;
    spins = as_many _ _ (times_all id (happens_at (spin_says s) Ticked) (λ k. refl) now.spins) single.spins;
  }
  step s AllCut now single = record { proxies = omega arith; spins = omega arith }

  single_after : (s : VenueSetup) (before : List VenueCame) → AreSingle id (venue_after s before)
  unfolding times
  single_after s [] = record { proxies = omega arith; spins = omega arith }
  single_after s (came ∷ before) = step s came (venue_after s before) (single_after s before)

-- ---- A cut
cut_leaves_none : (s : VenueSetup) (place : ℕ) (before : List VenueCame) → has_in place (venue_after s (cut_at place ∷ before)) ≡ false
cut_leaves_none s place before = by (is_spin place) (single_after place s before)
  where
    by : (b : Bool) → AreSingle place (venue_after s before) → cond b (is_some (session_of place (venue_after s (cond b (SpinCut place) (ProxyCut place) ∷ before)).spins)) (is_some (session_of place (venue_after s (cond b (SpinCut place) (ProxyCut place) ∷ before)).proxies)) ≡ false
    by true single = ap (λ (o : Option (Session (List Served))). is_some o) (gone place (venue_after s before).spins single.spins)
    by false single = ap (λ (o : Option (Session Source)). is_some o) (gone place (venue_after s before).proxies single.proxies)

pub cut_places_are_shut : CutPlacesAreShut
cut_places_are_shut s place before = by (slice_get s (unit_of place))
  where
    by : (o : Option VenueSetup) → seen_of true (λ setup now. is_shut_in setup place now) (unit_of place) (to_unit (unit_of place) (cut_at place) ∷ before) o ≡ true
    by None = refl
    by (Some setup) =
        ap (λ (came : List VenueCame). is_shut_in setup place (venue_after setup came)) (came_here (unit_of place) (cut_at place) before)
        ∙ shut setup (venue_after setup (cut_at place ∷ came_to (unit_of place) before)) (cut_leaves_none setup place (came_to (unit_of place) before))
      where
        shut : (setup : VenueSetup) (now : VenueState) → has_in place now ≡ false → is_shut_in setup place now ≡ true
        shut setup now none = ap (λ (b : Bool). not b || is_some (cause_in setup place now)) none
