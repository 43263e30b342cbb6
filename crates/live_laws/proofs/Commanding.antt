-- A text without a fault gives each unit the messages of its commands.
use Rattle.std.proofs.Common.{◌≡◌, inl, inr, ℕ, ◌==◌, Bool, true, false, cond, filter, List, [], ◌∷◌, ◌++◌, map, is_some, refl, sym, ap, ◌∙◌, subst, Option, None, Some, slice_get, Result, Ok, Err}
use Rattle.std.specs.Option.{option_and_then, option_map_or}
use Rattle.std.proofs.lemmas.Bool.{eq-eqb, eqb-true}
use Rattle.std.proofs.lemmas.Option.{none-some, same_Some}
use Rattle.text_lines.specs.Items.{items_of}
use Rattle.text_lines.specs.Text.{TextFault, all_of, entries_of, said_of, with_front}
use Rattle.pitch_model.specs.History.{Raw}
use Rattle.pitch_text.specs.CommandGrammar.{command_entry}
use Rattle.pitch_text.specs.declared.command.Command.{Command}
use Rattle.command_feed.specs.Feed.{accepted_after, then_accepted}
use Rattle.unit_commands.specs.UnitCommands.{unit_command}
use Rattle.venue_core.specs.Commands.{raw_of}
use Rattle.venue_core.specs.Refusals.{refusal}
use Rattle.venue_core.specs.declared.error.VenueError.{VenueError}
use Rattle.venue_end.specs.Came.{Commanded, commanded_on, venue_after}
use Rattle.venue_end.specs.declared.setup.VenueSetup.{VenueSetup}
use Rattle.venue_turns.specs.Due.{is_read}
use Rattle.venue_units.specs.Coming.{UnitCame, came_to, state_at, to_unit}
use Rattle.live_venue.specs.Input.{Heard, all_heard, at_index, index_of, next_heard, refusal_at, said_heard, told_line, unless_refused}
use Rattle.live_venue.specs.declared.fault.InputFault.{InputFault}
use Rattle.live_venue.specs.declared.fault.InputFault.TheVariants.{NoUnit, Refused}
use Rattle.live_laws.specs.Laws.{RunsHaveTheCommands, TextsAreCommands}
use Rattle.live_laws.specs.Sent.{messages_at}
use Rattle.live_laws.specs.Text.{commands_for, told_by}
use Rattle.live_laws.proofs.Hearing.{Entry, Said, as_item, runs_have_the_text}
use Rattle.live_laws.proofs.Sending.{unit_there}

module _ (s : List VenueSetup) where
  -- ---- A fault stays
  fault_stays : (fault : InputFault) (items : List Said) (heard : Heard) → heard.fault ≡ Some fault → (all_heard s 0 items heard).fault ≡ Some fault
  fault_stays fault [] heard is = is
  fault_stays fault (said ∷ items) heard is = fault_stays fault items (next_heard s 0 said heard) (ap (λ (o : Option InputFault). (cond (is_some o) heard (said_heard s 0 said heard.came)).fault) is ∙ is)

  -- ---- A command that a unit accepted
  module _ (came : List UnitCame) (at : ℕ) (command : Command) where
    abbrev later : List UnitCame
    later = to_unit at (Commanded command) ∷ came

    accepts : (setup : VenueSetup) → slice_get s at ≡ Some setup → refusal_at s at came command ≡ None → refusal (state_at setup at came).messages command ≡ None
    accepts setup there none = sym (ap (λ (o : Option VenueSetup). option_and_then (λ (made : VenueSetup). refusal (state_at made at came).messages command) o) there) ∙ none

    here : (setup : VenueSetup) → (state_at setup at later).messages ≡ (commanded_on (refusal (state_at setup at came).messages command) command (state_at setup at came)).messages
    here setup = ap (λ (b : Bool). (venue_after setup (cond b (Commanded command ∷ came_to at came) (came_to at came))).messages) (eq-eqb at at refl)

    gains : (setup : VenueSetup) → slice_get s at ≡ Some setup → refusal_at s at came command ≡ None → messages_at s later at ≡ messages_at s came at ++ raw_of command ∷ []
    gains setup there none =
        ap (λ (o : Option VenueSetup). option_map_or (λ (made : VenueSetup). (state_at made at later).messages) o []) there
        ∙ here setup ∙ ap (λ (r : Option VenueError). (commanded_on r command (state_at setup at came)).messages) (accepts setup there none)
        ∙ ap (λ (V : List Raw). V ++ raw_of command ∷ []) (sym (ap (λ (o : Option VenueSetup). option_map_or (λ (made : VenueSetup). (state_at made at came).messages) o []) there))

    others_have : (other : ℕ) → (at == other) ≡ false → messages_at s later other ≡ messages_at s came other
    others_have other differs = ap (λ (b : Bool). option_map_or (λ (made : VenueSetup). (venue_after made (cond b (Commanded command ∷ came_to other came) (came_to other came))).messages) (slice_get s other) []) differs

    refused_not : (setup : VenueSetup) → slice_get s at ≡ Some setup → refusal_at s at came command ≡ None → refusal (messages_at s came at) command ≡ None
    refused_not setup there none =
        ap (λ (V : List Raw). refusal V command) (ap (λ (o : Option VenueSetup). option_map_or (λ (made : VenueSetup). (state_at made at came).messages) o []) there) ∙ accepts setup there none

  -- ---- One line more
  -- what each unit accepts of some entries beyond the messages that it has
  abbrev Accepts : List UnitCame → List Entry → List UnitCame → Type 0
  Accepts came entries after = (at unit : ℕ) → index_of s unit ≡ Some at
      → accepted_after (messages_at s came at) (commands_for unit entries) ≡ Ok (messages_at s after at)

  record AcceptsAll (said : List (Result Entry TextFault)) (came after : List UnitCame) : Type 0 where
    entries : List Entry
    read : all_of said ≡ Ok entries
    each : Accepts came entries after

  -- the entry of one unit, before others
  with_command : (came : List UnitCame) (to : ℕ) (entry : Entry) (entries : List Entry) (after : List UnitCame) → index_of s entry.1.0 ≡ Some to → refusal_at s to came entry.1.1 ≡ None
      → Accepts (to_unit to (Commanded entry.1.1) ∷ came) entries after → Accepts came (entry ∷ entries) after
  with_command came to entry entries after found none all at unit is = by (entry.1.0 == unit) refl
    where
      its : (setup : VenueSetup) × ((slice_get s to ≡ Some setup) × (setup.unit ≡ entry.1.0))
      its = unit_there s entry.1.0 to found

      by : (b : Bool) → (entry.1.0 == unit) ≡ b → accepted_after (messages_at s came at) (map (λ (e : Entry). command_entry (e.0, e.1.1)) (cond b (entry ∷ filter (λ (e : Entry). e.1.0 == unit) entries) (filter (λ (e : Entry). e.1.0 == unit) entries))) ≡ Ok (messages_at s after at)
      by true same =
          let units : entry.1.0 ≡ unit = eqb-true entry.1.0 unit same in
          let place : to ≡ at = same_Some to at (sym found ∙ ap (λ (u : ℕ). index_of s u) units ∙ is) in
          let gained : messages_at s (to_unit to (Commanded entry.1.1) ∷ came) at ≡ messages_at s came at ++ raw_of entry.1.1 ∷ [] =
          subst (λ (n : ℕ). messages_at s (to_unit to (Commanded entry.1.1) ∷ came) n ≡ messages_at s came n ++ raw_of entry.1.1 ∷ []) place (gains came to entry.1.1 its.0 its.1.0 none) in
          let goes : refusal (messages_at s came at) entry.1.1 ≡ None = subst (λ (n : ℕ). refusal (messages_at s came n) entry.1.1 ≡ None) place (refused_not came to entry.1.1 its.0 its.1.0 none) in
          ap (λ (r : Option VenueError). then_accepted r entry.0 (accepted_after (messages_at s came at ++ raw_of entry.1.1 ∷ []) (commands_for unit entries))) goes
          ∙ ap (λ (V : List Raw). accepted_after V (commands_for unit entries)) (sym gained) ∙ all at unit is
      by false differs =
          let apart : (to == at) ≡ false = other (to == at) refl in
          ap (λ (V : List Raw). accepted_after V (commands_for unit entries)) (sym (others_have came to entry.1.1 at apart)) ∙ all at unit is
        where
          other : (b : Bool) → (to == at) ≡ b → b ≡ false
          other false same = refl
          other true same =
              let place : to ≡ at = eqb-true to at same in
              let those = unit_there s unit at is in
              let setups : its.0 ≡ those.0 = same_Some its.0 those.0 (sym its.1.0 ∙ ap (λ (n : ℕ). slice_get s n) place ∙ those.1.0) in
              let units : entry.1.0 ≡ unit = sym its.1.1 ∙ ap (λ (made : VenueSetup). made.unit) setups ∙ those.1.1 in
              sym (eq-eqb entry.1.0 unit units) ∙ differs

  -- ---- All lines
  abbrev so_far : List UnitCame → Heard
  so_far came = record { came = came; fault = None }

  abbrev Good : List (Result Entry TextFault) → Heard → Type 0
  Good said heard = (all_heard s 0 (map as_item said) heard).fault ≡ None

  absurd_fault : {A : Type 0} (fault : InputFault) (said : List (Result Entry TextFault)) (heard : Heard) → heard.fault ≡ Some fault → Good said heard → A
  absurd_fault fault said heard is good = absurd (none-some fault (sym good ∙ fault_stays fault (map as_item said) heard is))

  all_accepted : (said : List (Result Entry TextFault)) (came : List UnitCame) → Good said (so_far came) → AcceptsAll said came (all_heard s 0 (map as_item said) (so_far came)).came
  all_accepted [] came good = record { entries = []; read = refl; each = λ at unit is. refl }
  all_accepted (Err at ∷ said) came good = absurd_fault _ said _ refl good
  all_accepted (Ok entry ∷ said) came good = by (all_accepted said) (index_of s entry.1.0) refl good
    where
      line : ℕ
      line = told_line 0 entry.0

      accepted : ((c : List UnitCame) → Good said (so_far c) → AcceptsAll said c (all_heard s 0 (map as_item said) (so_far c)).came) → (to : ℕ) → index_of s entry.1.0 ≡ Some to → (r : Option VenueError) → refusal_at s to came entry.1.1 ≡ r → Good said (unless_refused r line to entry.1.1 came) → AcceptsAll (Ok entry ∷ said) came (all_heard s 0 (map as_item said) (unless_refused r line to entry.1.1 came)).came
      accepted others to found None none good =
          let rest = others (to_unit to (Commanded entry.1.1) ∷ came) good in
          record {
            entries = entry ∷ rest.entries;
            read = ap (with_front entry) rest.read;
            each = with_command came to entry rest.entries _ found none rest.each;
          }
      accepted others to found (Some error) refused good = absurd_fault (Refused line error) said (unless_refused (Some error) line to entry.1.1 came) refl good

      by : ((c : List UnitCame) → Good said (so_far c) → AcceptsAll said c (all_heard s 0 (map as_item said) (so_far c)).came) → (found : Option ℕ) → index_of s entry.1.0 ≡ found → Good said (at_index s found line entry.1.1 came) → AcceptsAll (Ok entry ∷ said) came (all_heard s 0 (map as_item said) (at_index s found line entry.1.1 came)).came
      by others None none good = absurd_fault (NoUnit line) said (at_index s None line entry.1.1 came) refl good
      by others (Some to) found good = accepted others to found (refusal_at s to came entry.1.1) refl good

pub texts_are_commands : TextsAreCommands
unfolding items_of entries_of
texts_are_commands s text good =
    let all = all_accepted s (said_of unit_command text) [] good in
    record { entries = all.entries; read = all.read; each = λ at unit is. ap (λ (V : List Raw). accepted_after V (commands_for unit all.entries)) (sym (nothing (slice_get s at) at)) ∙ all.each at unit is }
  where
    nothing : (o : Option VenueSetup) (at : ℕ) → option_map_or (λ (setup : VenueSetup). (state_at setup at []).messages) o [] ≡ []
    nothing None at = refl
    nothing (Some setup) at = refl

-- ---- Of a run
pub runs_have_the_commands : RunsHaveTheCommands
runs_have_the_commands s run now runs good =
    let have = runs_have_the_text s run now runs in
    let all = texts_are_commands s (told_by (is_read run) now.text) (elim have.fault [ inl is ↦ sym is ∙ good | inr long ↦ long.0 ]) in
    record { entries = all.entries; read = all.read; each = λ at unit is. all.each at unit is ∙ ap (λ (V : List Raw). Ok V) (sym (have.messages at)) }
