-- A unit that loses both its connections.
use Rattle.std.proofs.Common.{◌≡◌, ◌≢◌, ◌⊎◌, ℕ, ◌+◌, true, List, [], ◌∷◌, ◌++◌, inl, inr, refl, sym, ap, ◌∙◌, subst, Option, Some, None, slice_get}
use Rattle.std.specs.List.{AllByRecursion}
use Rattle.client_end.specs.Came.{Came, GrpCut, SpinCut, Second}
use Rattle.unit_clients.proofs.Placing.{each_set}
use Rattle.stream_print.specs.Page.{Prints}
use Rattle.live_units.specs.Coming.{LiveSetup, UnitCame, block_count, came_to, end_setup, has_unit, live_lines, to_unit, with_came}
use Rattle.live_units.specs.Places.{IsUnitAt, AtPlace}
use Rattle.live_units.specs.Standing.{UnitLoses, UnitStands}
use Rattle.live_units.specs.Units.{LiveStands, LosesAt}
use Rattle.live_units.specs.declared.unit.LiveUnit.{LiveUnit}
use Rattle.live_units.specs.declared.units.LiveUnits.{LiveUnits}
use Rattle.live_units.proofs.Quiet.{quiet_second}
use Rattle.live_units.proofs.Routing.{IsQuiet, same_count, same_lines, to_other, to_same, with_unit}
use Rattle.live_units.proofs.Waits.{none_place, waits_elsewhere, waits_now}

-- these came to a unit, the newest first
abbrev with_all : LiveSetup → ℕ → List Came → List UnitCame → List UnitCame
with_all s u [] all = all
with_all s u (came ∷ more) all = with_came s (to_unit u came) (with_all s u more all)

module _ (s : LiveSetup) (u : ℕ) (all : List UnitCame) where
  other_all : (more : List Came) (unit : ℕ) → unit ≢ u → came_to unit (with_all s u more all) ≡ came_to unit all
  other_all [] unit other = refl
  other_all (came ∷ more) unit other = to_other s u came (with_all s u more all) unit other ∙ other_all more unit other

  same_all : has_unit s u ≡ true → (more : List Came) → came_to u (with_all s u more all) ≡ more ++ came_to u all
  same_all ours [] = refl
  same_all ours (came ∷ more) = to_same s u came (with_all s u more all) ours ∙ ap (λ (l : List Came). came ∷ l) (same_all ours more)

  count_all : (more : List Came) → AllByRecursion IsQuiet more → block_count (with_all s u more all) ≡ block_count all
  count_all [] quiet = refl
  count_all (came ∷ more) quiet = same_count s u came (with_all s u more all) quiet.0.no_block ∙ count_all more quiet.1

  lines_all : (more : List Came) → AllByRecursion IsQuiet more → live_lines s (with_all s u more all) ≡ live_lines s all
  lines_all [] quiet = refl
  lines_all (came ∷ more) quiet =
      same_lines s u came (with_all s u more all) (quiet.0.no_text (end_setup s u) (block_count (with_all s u more all) + 1) (came_to u (with_all s u more all))) ∙ lines_all more quiet.1

  other_places : (more : List Came) (unit : ℕ) (place : Option LiveUnit) → unit ≢ u → IsUnitAt s all unit place → IsUnitAt s (with_all s u more all) unit place
  other_places more unit None other is = is
  other_places more unit (Some e) other is = (is.0, subst (UnitStands (end_setup s unit) e) (sym (other_all more unit other)) is.1)

  stands_all : (l : LiveUnits) (place' : Option LiveUnit) (start now : Option (List ℕ)) (more : List Came) → AllByRecursion IsQuiet more → LiveStands s start now l all → IsUnitAt s (with_all s u more all) u place'
      → LiveStands s start now (with_unit l u place') (with_all s u more all)
  stands_all l place' start now more quiet st here = record {
    units_are = each_set (IsUnitAt s all) (IsUnitAt s (with_all s u more all)) l.units.places u place' st.units_are (other_places more) here;
    number_is = st.number_is ∙ sym (count_all more quiet);
    printed = subst (Prints start [] now l.page.text) (sym (lines_all more quiet)) st.printed;
  }

quiet_cut_proxy : IsQuiet GrpCut
quiet_cut_proxy = record { no_block = refl; no_text = λ s k before. refl }

quiet_cut_spin_server : IsQuiet SpinCut
quiet_cut_spin_server = record { no_block = refl; no_text = λ s k before. refl }

abbrev both_cut : List Came
both_cut = SpinCut ∷ GrpCut ∷ []

abbrev cut_after_a_second : List Came
cut_after_a_second = SpinCut ∷ GrpCut ∷ Second ∷ []

module _ (l : LiveUnits) (u : ℕ) where
  loses : (s : LiveSetup) (start now : Option (List ℕ)) (all : List UnitCame) (place place' : Option LiveUnit) → slice_get l.units.places u ≡ Some place → AtPlace UnitLoses place place' → LiveStands s start now l all
      → LiveStands s start now (with_unit l u place') (with_all s u both_cut all) ⊎ LiveStands s start now (with_unit l u place') (with_all s u cut_after_a_second all)
  loses s start now all None None there did st = inl (stands_all s u all l None start now both_cut (quiet_cut_spin_server, (quiet_cut_proxy, tt)) st (st.units_are.each u None there))
  loses s start now all None (Some e') there did st = absurd did
  loses s start now all (Some e) None there did st = absurd did
  loses s start now all (Some e) (Some e') there did st =
      let is = st.units_are.each u (Some e) there in
      elim did.stands [
        | inl without ↦
            inl (stands_all s u all l (Some e') start now both_cut (quiet_cut_spin_server, (quiet_cut_proxy, tt)) st
            (is.0, subst (UnitStands (end_setup s u) e') (sym (same_all s u all is.0 both_cut)) (without (end_setup s u) (came_to u all) is.1)))
        | inr after ↦
            inr (stands_all s u all l (Some e') start now cut_after_a_second (quiet_cut_spin_server, (quiet_cut_proxy, (quiet_second, tt))) st
            (is.0, subst (UnitStands (end_setup s u) e') (sym (same_all s u all is.0 cut_after_a_second)) (after (end_setup s u) (came_to u all) is.1)))
      ]

  pub loses_at : (place place' : Option LiveUnit) → slice_get l.units.places u ≡ Some place → AtPlace UnitLoses place place' → LosesAt l (with_unit l u place') u
  loses_at place place' there did = record {
    stands = λ now s start all st. loses s start now all place place' there did st;
    waits = λ session. waits_now l.units.places u place place' there session ∙ none_place place place' did session;
    others = waits_elsewhere l.units.places u place place' there;
  }
