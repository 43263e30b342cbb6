-- What was put to a session, and what waits for it, is all that its server said.
use Rattle.std.proofs.Common.{◌≡◌, ℕ, zero, suc, ◌<◌, Bool, true, false, cond, ◌==◌, List, [], ◌∷◌, ◌++◌, take, drop, map, length, refl, sym, ap, ◌∙◌, subst, append_assoc, Option, Some, None}
use Rattle.std.proofs.lemmas.Bool.{eqb-true}
use Rattle.std.proofs.lemmas.List.{append-nil, take-append-drop}
use Rattle.pitch_model.specs.History.{Raw}
use Rattle.pitch_text.specs.declared.command.Command.{Command}
use Rattle.venue_core.specs.Refusals.{refusal}
use Rattle.venue_core.specs.declared.error.VenueError.{VenueError}
use Rattle.session_ends.specs.Events.{Event, Fed, Ticked, Asked, Pumped, Told}
use Rattle.spin_server.specs.Served.{Served}
use Rattle.spin_path.specs.Paths.{all_said, says_at}
use Rattle.venue_end.specs.Came.{VenueCame, VenueState, Commanded, Flushed, Beaten, Advertised, ProxyMade, ProxyTook, ProxyPut, ProxyCut, SpinMade, SpinTook, SpinPumped, SpinPut, SpinCut, Second, AllCut, commanded_on, spin_fed, spin_views, venue_after}
use Rattle.venue_end.specs.Servers.{spin_says, spin_setup}
use Rattle.venue_end.specs.Sessions.{Session, session_of, at_session, without, with_new, new_session, happens_at, puts, waiting_in}
use Rattle.venue_end.specs.declared.setup.VenueSetup.{VenueSetup}
use Rattle.venue_end.proofs.Shown.{images_are_the_venues}
use Rattle.served_laws.specs.Coming.{IsSaid}
use Rattle.served_laws.specs.Laws.{AllIsPut, PutIsSaid, PutStaysSaid}
use Rattle.served_laws.specs.Putting.{put_of, first_waiting}
use Rattle.served_laws.proofs.Sessions.{AreApart, all_of, others_stay, one_goes, apart_without, not_the_last, the_last, apart_with, became, one_becomes, others_remain, apart_at, each_becomes, apart_each}
use Rattle.served_laws.proofs.Growing.{still_at, still_after}
use Rattle.served_laws.proofs.Staying.{said_more}

abbrev Spin : Type 0
Spin = Session (List Served)

module _ (s : VenueSetup) where
  -- so much was put to a session, where there is one: the server said that, and what waits
  abbrev IsAll : List ℕ → Option Spin → Type 0
  IsAll put None = Unit {0}
  IsAll put (Some k) = all_said (spin_setup s) k.happened ≡ put ++ k.waiting

  -- ---- One session
  says_same : (event : Event (List Served)) (before : List (Event (List Served))) → says_at (spin_setup s) event before ≡ spin_says s event before
  says_same (Fed bytes views) before = refl
  says_same Ticked before = refl
  says_same (Asked request) before = refl
  says_same Pumped before = refl
  says_same (Told sequence) before = refl

  happens : (event : Event (List Served)) (put : List ℕ) (k : Spin) → IsAll put (Some k) → IsAll put (Some (happens_at (spin_says s) event k))
  happens event put k is =
      ap (λ (l : List ℕ). l ++ says_at (spin_setup s) event k.happened) is
      ∙ ap (λ (l : List ℕ). (put ++ k.waiting) ++ l) (says_same event k.happened)
      ∙ append_assoc put k.waiting (spin_says s event k.happened)

  put_more : (count : ℕ) (put : List ℕ) (o : Option Spin) → IsAll put o → IsAll (put ++ take count (waiting_in o)) (became (puts count) (λ k. refl) o)
  put_more count put None is = tt
  put_more count put (Some k) is =
      is ∙ ap (λ (l : List ℕ). put ++ l) (sym (take-append-drop count k.waiting)) ∙ sym (append_assoc put (take count k.waiting) (drop count k.waiting))

  became_all : (f : Spin → Spin) (keeps : (k : Spin) → (f k).id ≡ k.id) (put : List ℕ) → ((k : Spin) → IsAll put (Some k) → IsAll put (Some (f k))) → (o : Option Spin) → IsAll put o → IsAll put (became f keeps o)
  became_all f keeps put does None is = tt
  became_all f keeps put does (Some k) is = does k is

  -- ---- All of them
  -- each has a number of its own, and what was put to it and what waits is all that its server said
  record AreAll (now : VenueState) (put : ℕ → List ℕ) : Type 0 where
    apart : AreApart now.spins
    all : (id : ℕ) → IsAll (put id) (session_of id now.spins)

  -- one of a number becomes another
  at_one : (f : Spin → Spin) (keeps : (k : Spin) → (f k).id ≡ k.id) (other id : ℕ) (put : List ℕ) (ks : List Spin) → ((k : Spin) → IsAll put (Some k) → IsAll put (Some (f k))) → IsAll put (session_of id ks) → IsAll put (session_of id (at_session other f ks))
  at_one f keeps other id put ks does is = by (other == id) refl
    where
      by : (b : Bool) → (other == id) ≡ b → IsAll put (session_of id (at_session other f ks))
      by true e =
          let same : other ≡ id = eqb-true other id e in
          subst (λ (n : ℕ). IsAll put (session_of id (at_session n f ks))) (sym same) (subst (IsAll put) (sym (one_becomes f keeps id ks)) (became_all f keeps put does (session_of id ks) is))
      by false e = subst (IsAll put) (sym (others_remain f keeps other id ks e)) is

  at_each : (f : Spin → Spin) (keeps : (k : Spin) → (f k).id ≡ k.id) (id : ℕ) (put : List ℕ) (ks : List Spin) → ((k : Spin) → IsAll put (Some k) → IsAll put (Some (f k))) → IsAll put (session_of id ks) → IsAll put (session_of id (map f ks))
  at_each f keeps id put ks does is = subst (IsAll put) (sym (each_becomes f keeps id ks)) (became_all f keeps put does (session_of id ks) is)

  put_at : (count other id : ℕ) (put : List ℕ) (ks : List Spin) → IsAll put (session_of id ks) → IsAll (cond (other == id) (put ++ take count (waiting_in (session_of id ks))) put) (session_of id (at_session other (puts count) ks))
  put_at count other id put ks is = by (other == id) refl
    where
      by : (b : Bool) → (other == id) ≡ b → IsAll (cond b (put ++ take count (waiting_in (session_of id ks))) put) (session_of id (at_session other (puts count) ks))
      by true e =
          let same : other ≡ id = eqb-true other id e in
          subst (λ (n : ℕ). IsAll (put ++ take count (waiting_in (session_of id ks))) (session_of id (at_session n (puts count) ks))) (sym same)
          (subst (IsAll (put ++ take count (waiting_in (session_of id ks)))) (sym (one_becomes (puts count) (λ k. refl) id ks)) (put_more count put (session_of id ks) is))
      by false e = subst (IsAll put) (sym (others_remain (puts count) (λ k. refl) other id ks e)) is

  gone_at : (other id : ℕ) (put : List ℕ) (ks : List Spin) → AreApart ks → IsAll put (session_of id ks) → IsAll put (session_of id (without other ks))
  gone_at other id put ks apart is = by (other == id) refl
    where
      by : (b : Bool) → (other == id) ≡ b → IsAll put (session_of id (without other ks))
      by true e = subst (λ (n : ℕ). IsAll put (session_of id (without n ks))) (sym (eqb-true other id e)) (subst (IsAll put) (sym (one_goes id ks apart)) tt)
      by false e = subst (IsAll put) (sym (others_stay other id ks e)) is

  made_at : (made id : ℕ) (put : List ℕ) (ks : List Spin) → AreApart ks → IsAll put (session_of id ks) → IsAll (cond (made == id) [] put) (session_of id (with_new made ks))
  made_at made id put ks apart is = by (made == id) refl
    where
      by : (b : Bool) → (made == id) ≡ b → IsAll (cond b [] put) (session_of id (with_new made ks))
      by true e = subst (λ (n : ℕ). IsAll [] (session_of n (with_new made ks))) (eqb-true made id e) (subst (IsAll []) (sym (the_last (new_session made) (without made ks) (one_goes made ks apart))) refl)
      by false e = subst (IsAll put) (sym (not_the_last (new_session made) id (without made ks) e ∙ others_stay made id ks e)) is

  apart_made : (made : ℕ) (ks : List Spin) → AreApart ks → AreApart (with_new made ks)
  apart_made made ks apart = apart_with (new_session made) (without made ks) (apart_without made ks apart) (one_goes made ks apart)

  -- ---- All that comes
  commanded : (r : Option VenueError) (command : Command) (now : VenueState) (put : ℕ → List ℕ) → AreAll now put → AreAll (commanded_on r command now) put
  commanded (Some error) command now put is = is
  commanded None command now put is = record { apart = is.apart; all = is.all }

  spin_step : (before : List VenueCame) (came : VenueCame) → AreAll (venue_after s before) (λ id. put_of s id before) → AreAll (venue_after s (came ∷ before)) (λ id. put_of s id (came ∷ before))
  spin_step before (Commanded command) is = commanded (refusal (venue_after s before).messages command) command (venue_after s before) (λ id. put_of s id before) is
  spin_step before Flushed is = record { apart = is.apart; all = is.all }
  spin_step before Beaten is = is
  spin_step before Advertised is =
      let now : VenueState = venue_after s before in
      let f : Spin → Spin = happens_at (spin_says s) (Told (length now.messages)) in
      record { apart = apart_each f (λ k. refl) now.spins is.apart; all = λ id. at_each f (λ k. refl) id (put_of s id before) now.spins (happens (Told (length now.messages)) (put_of s id before)) (is.all id) }
  spin_step before (ProxyMade id) is = record { apart = is.apart; all = is.all }
  spin_step before (ProxyTook id bytes) is = record { apart = is.apart; all = is.all }
  spin_step before (ProxyPut id count) is = record { apart = is.apart; all = is.all }
  spin_step before (ProxyCut id) is = record { apart = is.apart; all = is.all }
  spin_step before (SpinMade made) is =
      let ks : List Spin = (venue_after s before).spins in
      record { apart = apart_made made ks is.apart; all = λ id. made_at made id (put_of s id before) ks is.apart (is.all id) }
  spin_step before (SpinTook other bytes) is =
      let now : VenueState = venue_after s before in
      let f : Spin → Spin = spin_fed s now bytes in
      record { apart = apart_at f (λ k. refl) other now.spins is.apart; all = λ id. at_one f (λ k. refl) other id (put_of s id before) now.spins (λ k. happens (Fed bytes (spin_views now k.happened bytes)) (put_of s id before) k) (is.all id) }
  spin_step before (SpinPumped other) is =
      let ks : List Spin = (venue_after s before).spins in
      let f : Spin → Spin = happens_at (spin_says s) Pumped in
      record { apart = apart_at f (λ k. refl) other ks is.apart; all = λ id. at_one f (λ k. refl) other id (put_of s id before) ks (happens Pumped (put_of s id before)) (is.all id) }
  spin_step before (SpinPut other count) is =
      let ks : List Spin = (venue_after s before).spins in
      record { apart = apart_at (puts count) (λ k. refl) other ks is.apart; all = λ id. put_at count other id (put_of s id before) ks (is.all id) }
  spin_step before (SpinCut other) is =
      let ks : List Spin = (venue_after s before).spins in
      record { apart = apart_without other ks is.apart; all = λ id. gone_at other id (put_of s id before) ks is.apart (is.all id) }
  spin_step before Second is =
      let ks : List Spin = (venue_after s before).spins in
      let f : Spin → Spin = happens_at (spin_says s) Ticked in
      record { apart = apart_each f (λ k. refl) ks is.apart; all = λ id. at_each f (λ k. refl) id (put_of s id before) ks (happens Ticked (put_of s id before)) (is.all id) }
  spin_step before AllCut is = record { apart = tt; all = λ id. tt }

  are_all : (before : List VenueCame) → AreAll (venue_after s before) (λ id. put_of s id before)
  are_all [] = record { apart = tt; all = λ id. tt }
  are_all (came ∷ before) = spin_step before came (are_all before)

-- no two sessions have one number
pub spins_apart : (s : VenueSetup) (before : List VenueCame) → AreApart (venue_after s before).spins
spins_apart s before = (are_all s before).apart

pub all_is_put : AllIsPut
all_is_put s before id session is = subst (IsAll s (put_of s id before)) is ((are_all s before).all id)

-- ---- What was put was said
take_none : (n : ℕ) → take {A = ℕ} n [] ≡ []
take_none zero = refl
take_none (suc n) = refl

module _ (s : VenueSetup) (small : s.unit < 256) where
  said_nothing : (V : List Raw) → IsSaid V s.unit []
  said_nothing V = record {
    setup = spin_setup s;
    server = record { role_is = refl; unit_is = small };
    unit_is = refl;
    happened = [];
    served = tt;
    begins = ([], refl);
  }

  -- of a session that is there
  said_there : (before : List VenueCame) (id : ℕ) (session : Spin) → session_of id (venue_after s before).spins ≡ Some session → (bytes left : List ℕ) → put_of s id before ++ session.waiting ≡ bytes ++ left → IsSaid (venue_after s before).messages s.unit bytes
  said_there before id session there bytes left is = record {
    setup = spin_setup s;
    server = record { role_is = refl; unit_is = small };
    unit_is = refl;
    happened = session.happened;
    served = all_of _ id (venue_after s before).spins session (images_are_the_venues s before) there;
    begins = (left, sym (all_is_put s before id session there ∙ is));
  }

  said_more_put : (before : List VenueCame) (id count : ℕ) (o : Option Spin) → session_of id (venue_after s before).spins ≡ o → IsSaid (venue_after s before).messages s.unit (put_of s id before)
      → IsSaid (venue_after s before).messages s.unit (put_of s id before ++ take count (waiting_in o))
  said_more_put before id count None none is = subst (IsSaid (venue_after s before).messages s.unit) (sym (ap (λ (l : List ℕ). put_of s id before ++ l) (take_none count) ∙ append-nil (put_of s id before))) is
  said_more_put before id count (Some k) there is =
      said_there before id k there (put_of s id before ++ take count k.waiting) (drop count k.waiting)
      (ap (λ (l : List ℕ). put_of s id before ++ l) (sym (take-append-drop count k.waiting)) ∙ sym (append_assoc (put_of s id before) (take count k.waiting) (drop count k.waiting)))

  -- what is put as this comes, of the messages before it
  put_step : (before : List VenueCame) (id : ℕ) (came : VenueCame) → IsSaid (venue_after s before).messages s.unit (put_of s id before) → IsSaid (venue_after s before).messages s.unit (put_of s id (came ∷ before))
  put_step before id (SpinMade made) is = by (made == id)
    where
      by : (b : Bool) → IsSaid (venue_after s before).messages s.unit (cond b [] (put_of s id before))
      by true = said_nothing (venue_after s before).messages
      by false = is
  put_step before id (SpinPut put count) is = by (put == id)
    where
      by : (b : Bool) → IsSaid (venue_after s before).messages s.unit (cond b (put_of s id before ++ first_waiting s id count before) (put_of s id before))
      by true = said_more_put before id count (session_of id (venue_after s before).spins) refl is
      by false = is
  put_step before id (Commanded command) is = is
  put_step before id Flushed is = is
  put_step before id Beaten is = is
  put_step before id Advertised is = is
  put_step before id (ProxyMade other) is = is
  put_step before id (ProxyTook other bytes) is = is
  put_step before id (ProxyPut other count) is = is
  put_step before id (ProxyCut other) is = is
  put_step before id (SpinTook other bytes) is = is
  put_step before id (SpinPumped other) is = is
  put_step before id (SpinCut other) is = is
  put_step before id Second is = is
  put_step before id AllCut is = is

  said_then : (before : List VenueCame) (id : ℕ) → IsSaid (venue_after s before).messages s.unit (put_of s id before)
  said_then [] id = said_nothing []
  said_then (came ∷ before) id =
      let put : List ℕ = put_of s id (came ∷ before) in
      still_at s (λ (V : List Raw). IsSaid V s.unit put) (λ V later. said_more V later s.unit put) came (venue_after s before) (put_step before id came (said_then before id))

pub put_is_said : PutIsSaid
put_is_said s before id small = said_then s small before id

pub put_stays_said : PutStaysSaid
put_stays_said s later before id small =
    let put : List ℕ = put_of s id before in
    still_after s (λ (V : List Raw). IsSaid V s.unit put) (λ V more. said_more V more s.unit put) later before (said_then s small before id)
