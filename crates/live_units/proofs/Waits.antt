-- What waits at the place of one unit, and at the others.
use Rattle.std.proofs.Common.{◌≡◌, ◌≢◌, inl, inr, ℕ, zero, suc, List, [], ◌∷◌, drop, refl, sym, ap, ◌∙◌, subst, Option, Some, None, slice_get}
use Rattle.std.specs.Option.{option_flatten}
use Rattle.std.proofs.Math.ListN.{set}
use Rattle.std.proofs.lemmas.Bool.{cases_eq, cond-true, cond-false}
use Rattle.client_end.specs.Came.{Came, EndSetup, end_after}
use Rattle.sending_end.specs.Waiting.{waits_after}
use Rattle.sending_end.specs.Stands.{CameThen, NoneWaits, Passes, WaitsStill, waiting}
use Rattle.sending_end.specs.declared.end.SendingEnd.{SendingEnd}
use Rattle.sending_end.specs.declared.session.Session.{Session}
use Rattle.sending_end.specs.declared.session.Session.TheVariants.{Proxy, SpinServer}
use Rattle.unit_clients.proofs.Placing.{set_there}
use Rattle.live_units.specs.Coming.{LiveSetup, UnitCame, came_to, end_setup, has_unit, state_at}
use Rattle.live_units.specs.Places.{AtPlace, IsUnitAt, waits_at}
use Rattle.live_units.specs.Standing.{UnitLoses, UnitSends}
use Rattle.live_units.specs.Units.{waits_then}
use Rattle.live_units.specs.declared.unit.LiveUnit.{LiveUnit}

-- ---- A list in which one element was set
pub set_other : {X : Type 0} (xs : List X) (i q : ℕ) (y : X) → q ≢ i → slice_get (set xs i y) q ≡ slice_get xs q
set_other [] i q y other = refl
set_other (x ∷ xs) zero zero y other = absurd (other refl)
set_other (x ∷ xs) zero (suc q) y other = refl
set_other (x ∷ xs) (suc i) zero y other = refl
set_other (x ∷ xs) (suc i) (suc q) y other = set_other xs i q y (λ same. other (ap suc same))

-- ---- Places
abbrev pub waits_in : List (Option LiveUnit) → ℕ → Session → List ℕ
waits_in places unit session = waits_at (option_flatten (slice_get places unit)) session

module _ (places : List (Option LiveUnit)) (u : ℕ) (place place' : Option LiveUnit) (there : slice_get places u ≡ Some place) where
  pub waits_before : (session : Session) → waits_in places u session ≡ waits_at place session
  waits_before session = ap (λ (o : Option (Option LiveUnit)). waits_at (option_flatten o) session) there

  pub waits_now : (session : Session) → waits_in (set places u place') u session ≡ waits_at place' session
  waits_now session = ap (λ (o : Option (Option LiveUnit)). waits_at (option_flatten o) session) (set_there places u place' place there)

  pub waits_elsewhere : (other : ℕ) (session : Session) → other ≢ u → waits_in (set places u place') other session ≡ waits_in places other session
  waits_elsewhere other session apart = ap (λ (o : Option (Option LiveUnit)). waits_at (option_flatten o) session) (set_other places u other place' apart)

  -- where the same waits there
  pub waits_everywhere : ((session : Session) → waits_at place' session ≡ waits_at place session) → (unit : ℕ) (session : Session) → waits_in (set places u place') unit session ≡ waits_in places unit session
  waits_everywhere same unit session = elim (cases_eq unit u) [
    | inl is ↦ subst (λ (n : ℕ). waits_in (set places u place') n session ≡ waits_in places n session) (sym is) (waits_now session ∙ same session ∙ sym (waits_before session))
    | inr apart ↦ waits_elsewhere unit session apart
  ]

-- ---- One end
came_session : (s : EndSetup) (before : List Came) (came : Came) (e e' : SendingEnd) → CameThen s before came e e' → (session : Session) → waiting session e' ≡ waits_after session s came (end_after s before) (waiting session e)
came_session s before came e e' comes Proxy = comes.proxy
came_session s before came e e' comes SpinServer = comes.spin_server

pub still_session : (e e' : SendingEnd) → WaitsStill e e' → (session : Session) → waiting session e' ≡ waiting session e
still_session e e' still Proxy = still.proxy
still_session e e' still SpinServer = still.spin_server

none_session : (e : SendingEnd) → NoneWaits e → (session : Session) → waiting session e ≡ []
none_session e none Proxy = none.proxy
none_session e none SpinServer = none.spin_server

-- ---- One place
pub place_map : (P Q : LiveUnit → LiveUnit → Type 0) → ((e e' : LiveUnit) → P e e' → Q e e') → (place place' : Option LiveUnit) → AtPlace P place place' → AtPlace Q place place'
place_map P Q f None None did = tt
place_map P Q f None (Some e') did = absurd did
place_map P Q f (Some e) None did = absurd did
place_map P Q f (Some e) (Some e') did = f e e' did

-- this came to the unit there
pub came_place : (s : LiveSetup) (u : ℕ) (came : Came) (all : List UnitCame) (place place' : Option LiveUnit) → IsUnitAt s all u place → AtPlace (λ e e'. Passes e.end e'.end came) place place' → (session : Session)
    → waits_at place' session ≡ waits_then s u came all session (waits_at place session)
came_place s u came all None None is did session = sym (cond-false (has_unit s u) (waits_after session (end_setup s u) came (state_at s u all) []) [] is)
came_place s u came all None (Some e') is did session = absurd did
came_place s u came all (Some e) None is did session = absurd did
came_place s u came all (Some e) (Some e') is did session =
    came_session (end_setup s u) (came_to u all) came e.end e'.end (did (end_setup s u) (came_to u all) is.1.end_is) session
    ∙ sym (cond-true (has_unit s u) (waits_after session (end_setup s u) came (state_at s u all) (waiting session e.end)) (waiting session e.end) is.0)

-- the same waits there
pub still_place : (place place' : Option LiveUnit) → AtPlace (λ e e'. WaitsStill e.end e'.end) place place' → (session : Session) → waits_at place' session ≡ waits_at place session
still_place None None did session = refl
still_place None (Some e') did session = absurd did
still_place (Some e) None did session = absurd did
still_place (Some e) (Some e') did session = still_session e.end e'.end did session

-- nothing does
pub none_place : (place place' : Option LiveUnit) → AtPlace UnitLoses place place' → (session : Session) → waits_at place' session ≡ []
none_place None None did session = refl
none_place None (Some e') did session = absurd did
none_place (Some e) None did session = absurd did
none_place (Some e) (Some e') did session = none_session e'.end did.waits session

none_drops : (count : ℕ) → drop {A = ℕ} count [] ≡ []
none_drops zero = refl
none_drops (suc count) = refl

-- so many bytes wait no more
pub sent_place : (session : Session) (count : ℕ) (place place' : Option LiveUnit) → AtPlace (UnitSends session count) place place' → waits_at place' session ≡ drop count (waits_at place session)
sent_place session count None None did = sym (none_drops count)
sent_place session count None (Some e') did = absurd did
sent_place session count (Some e) None did = absurd did
sent_place session count (Some e) (Some e') did = did.left

pub unsent_place : (session : Session) (count : ℕ) (place place' : Option LiveUnit) → AtPlace (UnitSends session count) place place' → (that : Session) → that ≢ session → waits_at place' that ≡ waits_at place that
unsent_place session count None None did that other = refl
unsent_place session count None (Some e') did that other = absurd did
unsent_place session count (Some e) None did that other = absurd did
unsent_place session count (Some e) (Some e') did that other = did.others that other
