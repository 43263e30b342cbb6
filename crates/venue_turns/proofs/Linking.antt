-- How the connection at a place is after a call more.
use Rattle.std.proofs.Common.{◌≡◌, ℕ, ◌+◌, ◌==◌, nat_le, min, Bool, true, false, not, cond, ◌&&◌, ◌||◌, List, [], ◌∷◌, refl, sym, ap, ◌∙◌, Option, None, Some}
use Rattle.std.proofs.lemmas.Bool.{eq-eqb, ne_eqb}
use Rattle.live_net.specs.declared.live.PeerPut.TheVariants as put
use Rattle.live_net.specs.declared.live.PeerTaken.TheVariants as taken
use Rattle.venue_net.specs.VenueCalls.{VenueCall, Wait, Read, Send, Accept, Take, Put, Close}
use Rattle.venue_turns.specs.Standing.{begins_by, ends_by, is_second, stands, is_full, seconds_full, is_stuck, longest_stall}
use Rattle.venue_turns.specs.Turning.{Knows}
use Rattle.venue_turns.specs.declared.link.Link.{Link}
use Rattle.venue_turns.specs.declared.link.Link.TheVariants.{Free, Open, Full}

-- ---- Seconds without room
-- none passed where there is room
pub none_full : (place : ℕ) (run : List VenueCall) → is_full place run ≡ false → seconds_full place run ≡ 0
none_full place [] is = refl
none_full place (call ∷ before) is = ap (λ (b : Bool). cond (not b) 0 (cond (is_second call) (seconds_full place before + 1) (seconds_full place before))) is

-- a call that is no second adds none
pub still_full : (place : ℕ) (run : List VenueCall) (call : VenueCall) → is_full place (call ∷ run) ≡ true → is_second call ≡ false → seconds_full place (call ∷ run) ≡ seconds_full place run
still_full place run call is no_second =
    ap (λ (b : Bool). cond (not b) 0 (cond (is_second call) (seconds_full place run + 1) (seconds_full place run))) is
    ∙ ap (λ (b : Bool). cond b (seconds_full place run + 1) (seconds_full place run)) no_second

-- ---- Calls of a place
abbrev pub place_called : VenueCall → Option ℕ
place_called (Wait more answer) = None
place_called (Read room bytes answer) = None
place_called (Send line datagram) = None
place_called (Accept place came) = Some place
place_called (Take place room bytes answer) = Some place
place_called (Put place piece answer) = Some place
place_called (Close place) = Some place

pub same_place : (p q : ℕ) → ◌≡◌ {A = Option ℕ} (Some p) (Some q) → p ≡ q
same_place p q is = cc

pub no_place : (p : ℕ) → ◌≡◌ {A = Option ℕ} None (Some p) → ⊥
no_place p is = cc

-- ---- How a connection is
-- a call leaves the one at a place as it was
pub record Leaves (place : ℕ) (run : List VenueCall) (call : VenueCall) : Type 0 where
  pub stands_is : stands place (call ∷ run) ≡ stands place run
  pub full_is : is_full place (call ∷ run) ≡ is_full place run
  pub no_second : is_second call ≡ false

pub knows_left : (place : ℕ) (run : List VenueCall) (call : VenueCall) (l : Link) → Leaves place run call → Knows place run l → Knows place (call ∷ run) l
knows_left place run call Free leaves knows = record { link_is = leaves.stands_is ∙ knows.link_is }
knows_left place run call Open leaves knows = record { link_is = (leaves.stands_is ∙ knows.link_is.0, leaves.full_is ∙ knows.link_is.1) }
knows_left place run call (Full counted) leaves knows =
    let is : is_full place (call ∷ run) ≡ true = leaves.full_is ∙ knows.link_is.1 in
    record { link_is = (leaves.stands_is ∙ knows.link_is.0, is, knows.link_is.2 ∙ sym (ap (λ (n : ℕ). min n longest_stall) (still_full place run call is leaves.no_second))) }

-- one of another place does
pub leaves_others : (place other : ℕ) (run : List VenueCall) (call : VenueCall) → place_called call ≡ Some place → (other ≡ place → ⊥) → Leaves other run call
leaves_others place other run (Wait more answer) is ne = absurd (no_place place is)
leaves_others place other run (Read room bytes answer) is ne = absurd (no_place place is)
leaves_others place other run (Send line datagram) is ne = absurd (no_place place is)
leaves_others place other run (Accept p true) is ne =
    let not_here : (p == other) ≡ false = ne_eqb p other (λ same. ne (sym same ∙ same_place p place is)) in
    record { stands_is = ap (λ (b : Bool). b || stands other run) not_here; full_is = ap (λ (b : Bool). not b && is_full other run) not_here; no_second = refl }
leaves_others place other run (Accept p false) is ne = record { stands_is = refl; full_is = refl; no_second = refl }
leaves_others place other run (Take p room bytes (taken.Got n)) is ne = record { stands_is = refl; full_is = refl; no_second = refl }
leaves_others place other run (Take p room bytes taken.Quiet) is ne = record { stands_is = refl; full_is = refl; no_second = refl }
leaves_others place other run (Take p room bytes taken.Ended) is ne =
    let not_here : (p == other) ≡ false = ne_eqb p other (λ same. ne (sym same ∙ same_place p place is)) in
    record { stands_is = ap (λ (b : Bool). not b && stands other run) not_here; full_is = refl; no_second = refl }
leaves_others place other run (Put p piece (put.Wrote n)) is ne =
    let not_here : (p == other) ≡ false = ne_eqb p other (λ same. ne (sym same ∙ same_place p place is)) in
    record { stands_is = refl; full_is = ap (λ (b : Bool). not b && is_full other run) not_here; no_second = refl }
leaves_others place other run (Put p piece put.Full) is ne =
    let not_here : (p == other) ≡ false = ne_eqb p other (λ same. ne (sym same ∙ same_place p place is)) in
    record { stands_is = refl; full_is = ap (λ (b : Bool). b || is_full other run) not_here; no_second = refl }
leaves_others place other run (Put p piece put.Ended) is ne =
    let not_here : (p == other) ≡ false = ne_eqb p other (λ same. ne (sym same ∙ same_place p place is)) in
    record { stands_is = ap (λ (b : Bool). not b && stands other run) not_here; full_is = refl; no_second = refl }
leaves_others place other run (Close p) is ne =
    let not_here : (p == other) ≡ false = ne_eqb p other (λ same. ne (sym same ∙ same_place p place is)) in
    record { stands_is = ap (λ (b : Bool). not b && stands other run) not_here; full_is = refl; no_second = refl }

-- one was let in
module _ (place : ℕ) (run : List VenueCall) where
  here : (place == place) ≡ true
  here = eq-eqb place place refl

  pub knows_let_in : Knows place (Accept place true ∷ run) Open
  knows_let_in = record { link_is = (ap (λ (b : Bool). b || stands place run) here, ap (λ (b : Bool). not b && is_full place run) here) }

  -- a piece found no room in one that had some
  pub knows_full : (piece : List ℕ) → stands place run ≡ true → is_full place run ≡ false → Knows place (Put place piece put.Full ∷ run) (Full 0)
  knows_full piece stood room =
      let is : is_full place (Put place piece put.Full ∷ run) ≡ true = ap (λ (b : Bool). b || is_full place run) here in
      record { link_is = (stood, is, sym (ap (λ (n : ℕ). min n longest_stall) (still_full place run (Put place piece put.Full) is refl ∙ none_full place run room))) }

-- it ended
pub knows_ended : (place : ℕ) (run : List VenueCall) (call : VenueCall) → ends_by place call ≡ true → Knows place (call ∷ run) Free
knows_ended place run call is = record { link_is = ap (λ (b : Bool). b || (not (ends_by place call) && stands place run)) (begins_none call is) ∙ ap (λ (b : Bool). not b && stands place run) is }
  where
    begins_none : (call : VenueCall) → ends_by place call ≡ true → begins_by place call ≡ false
    begins_none (Accept p came) is = cc
    begins_none (Wait more answer) is = refl
    begins_none (Read room bytes answer) is = refl
    begins_none (Send line datagram) is = refl
    begins_none (Take p room bytes answer) is = refl
    begins_none (Put p piece answer) is = refl
    begins_none (Close p) is = refl

-- one that has room is not stuck
pub not_stuck : (place : ℕ) (run : List VenueCall) → is_full place run ≡ false → false ≡ is_stuck place run
not_stuck place run room = sym (ap (λ (n : ℕ). nat_le longest_stall n) (none_full place run room))
