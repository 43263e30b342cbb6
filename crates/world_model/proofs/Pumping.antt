-- A Spin Server that is asked for blocks until its image is sent.
use Rattle.std.proofs.Common.{◌≡◌, ℕ, suc, ◌+◌, ◌&&◌, Bool, true, false, cond, Option, None, Some, is_some, is_none, List, [], ◌∷◌, ◌++◌, length, replicate, refl, sym, ap, ◌∙◌, subst, arith}
use Rattle.session_ends.specs.Closing.{closed_of, or_else}
use Rattle.session_ends.specs.Events.{Pumped}
use Rattle.session_ends.specs.declared.closed.Closed.{Closed}
use Rattle.spin_server.specs.Served.{Served}
use Rattle.spin_server.specs.Serving.{Spin, blocks_left, pumped, running_spin, spin_left}
use Rattle.venue_end.specs.Came.{SpinPumped, VenueCame, venue_after}
use Rattle.venue_end.specs.Feeding.{runs_on}
use Rattle.venue_end.specs.Servers.{spin_says, spin_setup}
use Rattle.venue_end.specs.Sessions.{Session, happens_at, session_of}
use Rattle.venue_end.specs.Stands.{Comes, OfVenue, VenueStands}
use Rattle.venue_end.specs.declared.setup.VenueSetup.{VenueSetup}
use Rattle.venue_end.specs.declared.venue.VenueEnd.{VenueEnd}
use Rattle.served_laws.proofs.Sessions.{became, one_becomes}
use Rattle.world_model.specs.Ends.{the_session}
use Rattle.world_model.specs.Verbs.{pumps}
use Rattle.world_model.specs.layers.Feeding.{asked_out}

-- ---- How many calls are left
one_less : (closed : Option Closed) (spin : Option Spin)
    → cond (is_none closed && is_some spin) (blocks_left spin + 1) 1
    ≡ 1 + cond (is_none (or_else closed None) && is_some (pumped spin)) (cond (is_none (or_else closed None) && is_some (pumped spin)) (blocks_left (pumped spin) + 1) 1) 0
one_less (Some closed) spin = omega arith
one_less None None = omega arith
one_less None (Some spin) = by spin.left
  where
    by : (left : List (List ℕ)) → length left + 1
        ≡ 1 + cond (is_some (spin_left spin.sequence left)) (cond (is_some (spin_left spin.sequence left)) (blocks_left (spin_left spin.sequence left) + 1) 1) 0
    by [] = omega arith
    by (datagram ∷ datagrams) = omega arith

module _ (s : VenueSetup) where
  abbrev asked : Session (List Served) → Session (List Served)
  asked session = happens_at (spin_says s) Pumped session

  one_call : (o : Option (Session (List Served))) → pumps s o ≡ 1 + cond (runs_on s o) (pumps s (became asked (λ k. refl) o)) 0
  one_call None = refl
  one_call (Some session) = one_less (closed_of (spin_setup s) session.happened) (running_spin (spin_setup s) session.happened)

  -- ---- A loop of calls
  module _ (before : List VenueCame) where
    abbrev calls_then : ℕ → List VenueCame
    calls_then calls = replicate calls (SpinPumped the_session) ++ before

    abbrev left_then : ℕ → ℕ
    left_then calls = pumps s (session_of the_session (venue_after s (calls_then calls)).spins)

    -- some calls were made, and if one more is to be made, so many in all
    pub record Pumping (now : VenueEnd) (more : Bool) : Type 0 where
      pub calls : ℕ
      pub stands : VenueStands s now (calls_then calls)
      pub rest : calls + cond more (left_then calls) 0 ≡ left_then 0

    pub pumping_begins : (e : VenueEnd) → VenueStands s e before → Pumping e true
    pumping_begins e is = record { calls = 0; stands = is; rest = omega arith }

    pub pumping_on : (old new : VenueEnd) (more : Bool) → Pumping old true → Comes old new (SpinPumped the_session) → OfVenue old (λ v came. more ≡ runs_on v (session_of the_session (venue_after v came).spins)) → Pumping new more
    pumping_on old new more p comes goes =
        let now : List VenueCame = calls_then p.calls in
        let o : Option (Session (List Served)) = session_of the_session (venue_after s now).spins in
        let there : session_of the_session (venue_after s (calls_then (suc p.calls))).spins ≡ became asked (λ k. refl) o = one_becomes asked (λ k. refl) the_session (venue_after s now).spins in
        let one : left_then p.calls ≡ 1 + cond more (left_then (suc p.calls)) 0 =
        one_call o ∙ ap (λ (x : Option (Session (List Served))). 1 + cond (runs_on s o) (pumps s x) 0) (sym there) ∙ ap (λ (b : Bool). 1 + cond b (left_then (suc p.calls)) 0) (sym (goes s now p.stands)) in
        let before_it : p.calls + left_then p.calls ≡ left_then 0 = p.rest in
        record { calls = suc p.calls; stands = comes s now p.stands; rest = omega (arith, one, before_it) }

    pub pumping_ends : (e : VenueEnd) → Pumping e false → VenueStands s e (asked_out s before)
    pumping_ends e p =
        let all : p.calls + 0 ≡ left_then 0 = p.rest in
        let calls : p.calls ≡ left_then 0 = omega (arith, all) in
        subst (λ (n : ℕ). VenueStands s e (calls_then n)) calls p.stands
