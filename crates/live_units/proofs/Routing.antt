-- What comes to one of the units, and the others.
use Rattle.std.proofs.Common.{◌≡◌, ◌≢◌, ℕ, ◌+◌, Bool, true, false, inl, inr, cond, List, [], ◌∷◌, ◌++◌, drop, eqb, refl, sym, ap, ◌∙◌, subst, Option, Some, None, slice_get}
use Rattle.std.proofs.Math.ListN.{set}
use Rattle.std.proofs.lemmas.Bool.{cases_eq, cond-true, cond-false, eq-eqb, ne_eqb}
use Rattle.std.proofs.lemmas.List.{append-nil}
use Rattle.client_end.specs.Came.{Came, EndSetup}
use Rattle.sending_end.specs.Stands.{Passes, WaitsStill}
use Rattle.sending_end.specs.declared.session.Session.{Session}
use Rattle.unit_clients.specs.Tables.{AtEach, with_place}
use Rattle.unit_clients.proofs.Placing.{each_set}
use Rattle.stream_print.specs.Page.{Prints}
use Rattle.live_units.specs.Coming.{LiveSetup, UnitCame, block_count, came_to, end_setup, has_unit, live_lines, to_unit, with_came}
use Rattle.live_units.specs.LiveText.{came_text, is_block}
use Rattle.live_units.specs.Places.{IsUnitAt, AtPlace}
use Rattle.live_units.specs.Standing.{OfUnit, UnitPasses, UnitSends, UnitStands, UnitStays}
use Rattle.live_units.specs.Units.{LiveStands, OfLive, PassesAt, SendsAt, StandStill, StayAll, waiting_at, waits_then}
use Rattle.live_units.specs.declared.unit.LiveUnit.{LiveUnit}
use Rattle.live_units.specs.declared.units.LiveUnits.{LiveUnits}
use Rattle.live_units.proofs.Waits.{came_place, place_map, sent_place, still_place, unsent_place, waits_in, waits_before, waits_elsewhere, waits_everywhere, waits_now}

-- what a place does to what came to its unit
abbrev pub Did : LiveSetup → ℕ → List Came → List Came → Option LiveUnit → Option LiveUnit → Type 0
Did s u before after place place' = AtPlace (λ e e'. UnitStands (end_setup s u) e before → UnitStands (end_setup s u) e' after) place place'

module _ (s : LiveSetup) (u : ℕ) (came : Came) (all : List UnitCame) where
  -- ---- Which units it comes to
  pub to_other : (unit : ℕ) → unit ≢ u → came_to unit (with_came s (to_unit u came) all) ≡ came_to unit all
  to_other unit other = by (has_unit s u)
    where
      by : (b : Bool) → came_to unit (cond b (to_unit u came ∷ all) all) ≡ came_to unit all
      by true = cond-false (eqb u unit) (came ∷ came_to unit all) (came_to unit all) (ne_eqb u unit (λ same. other (sym same)))
      by false = refl

  pub to_same : has_unit s u ≡ true → came_to u (with_came s (to_unit u came) all) ≡ came ∷ came_to u all
  to_same ours =
      ap (came_to u) (cond-true (has_unit s u) (to_unit u came ∷ all) all ours)
      ∙ cond-true (eqb u u) (came ∷ came_to u all) (came_to u all) (eq-eqb u u refl)

  -- ---- The places
  other_place : (unit : ℕ) (place : Option LiveUnit) → unit ≢ u → IsUnitAt s all unit place → IsUnitAt s (with_came s (to_unit u came) all) unit place
  other_place unit None other is = is
  other_place unit (Some e) other is = (is.0, subst (UnitStands (end_setup s unit) e) (sym (to_other unit other)) is.1)

  same_place : (place place' : Option LiveUnit) → Did s u (came_to u all) (came ∷ came_to u all) place place' → IsUnitAt s all u place → IsUnitAt s (with_came s (to_unit u came) all) u place'
  same_place None None did is = is
  same_place None (Some e') did is = absurd did
  same_place (Some e) None did is = absurd did
  same_place (Some e) (Some e') did is = (is.0, subst (UnitStands (end_setup s u) e') (sym (to_same is.0)) (did is.1))

  pub places_are : (places : List (Option LiveUnit)) (place place' : Option LiveUnit) → AtEach (IsUnitAt s all) places → slice_get places u ≡ Some place
      → Did s u (came_to u all) (came ∷ came_to u all) place place' → AtEach (IsUnitAt s (with_came s (to_unit u came) all)) (set places u place')
  places_are places place place' each there did =
      each_set (IsUnitAt s all) (IsUnitAt s (with_came s (to_unit u came) all)) places u place' each other_place (same_place place place' did (each.each u place there))

  -- ---- What prints nothing
  pub same_count : is_block came ≡ false → block_count (with_came s (to_unit u came) all) ≡ block_count all
  same_count none = by (has_unit s u)
    where
      by : (b : Bool) → block_count (cond b (to_unit u came ∷ all) all) ≡ block_count all
      by true = ap (λ (c : Bool). cond c (block_count all + 1) (block_count all)) none
      by false = refl

  pub same_lines : came_text (end_setup s u) (block_count all + 1) came (came_to u all) ≡ [] → live_lines s (with_came s (to_unit u came) all) ≡ live_lines s all
  same_lines none = by (has_unit s u)
    where
      by : (b : Bool) → live_lines s (cond b (to_unit u came ∷ all) all) ≡ live_lines s all
      by true = ap (λ (t : List ℕ). live_lines s all ++ t) none ∙ append-nil (live_lines s all)
      by false = refl

-- it is no block, and prints nothing
pub record IsQuiet (came : Came) : Type 0 where
  pub no_block : is_block came ≡ false
  pub no_text : (s : EndSetup) (k : ℕ) (before : List Came) → came_text s k came before ≡ []

-- the units with what was left in a place
abbrev pub with_unit : LiveUnits → ℕ → Option LiveUnit → LiveUnits
with_unit l u place' = record l { units = with_place l.units u place' }

quietly : (l : LiveUnits) (u : ℕ) (came : Came) (place place' : Option LiveUnit) (now : Option (List ℕ)) → slice_get l.units.places u ≡ Some place → IsQuiet came
    → ((s : LiveSetup) (before : List Came) → Did s u before (came ∷ before) place place')
    → OfLive l now (λ s start all. LiveStands s start now (with_unit l u place') (with_came s (to_unit u came) all))
quietly l u came place place' now there quiet did s start all st = record {
  units_are = places_are s u came all l.units.places place place' st.units_are there (did s (came_to u all));
  number_is = st.number_is ∙ sym (same_count s u came all quiet.no_block);
  printed = subst (Prints start [] now l.page.text) (sym (same_lines s u came all (quiet.no_text (end_setup s u) (block_count all + 1) (came_to u all)))) st.printed;
}

-- ---- One unit of all
module _ (l : LiveUnits) (u : ℕ) (place place' : Option LiveUnit) (there : slice_get l.units.places u ≡ Some place) where
  -- what waits once this came
  pub waits_came : (s : LiveSetup) (came : Came) (all : List UnitCame) (l' : LiveUnits) → l'.units.places ≡ set l.units.places u place' → IsUnitAt s all u place → AtPlace (λ e e'. Passes e.end e'.end came) place place' → (session : Session)
      → waiting_at l' u session ≡ waits_then s u came all session (waiting_at l u session)
  waits_came s came all l' same is did session =
      ap (λ (places : List (Option LiveUnit)). waits_in places u session) same
      ∙ waits_now l.units.places u place place' there session
      ∙ came_place s u came all place place' is did session
      ∙ ap (waits_then s u came all session) (sym (waits_before l.units.places u place place' there session))

  pub passes_at : (came : Came) → IsQuiet came → AtPlace (λ e e'. UnitPasses e e' came) place place' → (now : Option (List ℕ)) → PassesAt l (with_unit l u place') now now u came
  passes_at came quiet did now s start all st = record {
    stands = quietly l u came place place' now there quiet
        (λ s before. place_map (λ e e'. UnitPasses e e' came) (λ e e'. UnitStands (end_setup s u) e before → UnitStands (end_setup s u) e' (came ∷ before)) (λ e e' p. p.comes (end_setup s u) before) place place' did) s start all st;
    waits = waits_came s came all (with_unit l u place') refl (st.units_are.each u place there)
        (place_map (λ e e'. UnitPasses e e' came) (λ e e'. Passes e.end e'.end came) (λ e e' p. p.waits) place place' did);
    others = waits_elsewhere l.units.places u place place' there;
  }

  -- ---- The units stand for what they stood for
  abbrev Kept : LiveUnit → LiveUnit → Type 0
  Kept e e' = OfUnit e (λ s before. UnitStands s e' before)

  kept_place : (s : LiveSetup) (all : List UnitCame) (place place' : Option LiveUnit) → AtPlace Kept place place' → IsUnitAt s all u place → IsUnitAt s all u place'
  kept_place s all None None did is = is
  kept_place s all None (Some e') did is = absurd did
  kept_place s all (Some e) None did is = absurd did
  kept_place s all (Some e) (Some e') did is = (is.0, did (end_setup s u) (came_to u all) is.1)

  stand_still : AtPlace Kept place place' → StandStill l (with_unit l u place')
  stand_still did now s start all st = record {
    units_are = each_set (IsUnitAt s all) (IsUnitAt s all) l.units.places u place' st.units_are (λ unit other apart is. is) (kept_place s all place place' did (st.units_are.each u place there));
    number_is = st.number_is;
    printed = st.printed;
  }

  pub stay_all : AtPlace UnitStays place place' → StayAll l (with_unit l u place')
  stay_all did = record {
    stand = stand_still (place_map UnitStays Kept (λ e e' p. p.stands) place place' did);
    waits = waits_everywhere l.units.places u place place' there (still_place place place' (place_map UnitStays (λ e e'. WaitsStill e.end e'.end) (λ e e' p. p.waits) place place' did));
  }

  pub sends_at : (session : Session) (count : ℕ) → AtPlace (UnitSends session count) place place' → SendsAt l (with_unit l u place') u session count
  sends_at session count did = record {
    stand = stand_still (place_map (UnitSends session count) Kept (λ e e' p. p.stands) place place' did);
    here = waits_now l.units.places u place place' there session ∙ sent_place session count place place' did ∙ ap (drop count) (sym (waits_before l.units.places u place place' there session));
    others = λ other that apart. elim (cases_eq other u) [
      | inl same ↦ subst (λ (n : ℕ). waits_in (set l.units.places u place') n that ≡ waits_in l.units.places n that) (sym same)
          (waits_now l.units.places u place place' there that ∙ unsent_place session count place place' did that (λ is. apart same is) ∙ sym (waits_before l.units.places u place place' there that))
      | inr different ↦ waits_elsewhere l.units.places u place place' there other that different
    ];
  }
