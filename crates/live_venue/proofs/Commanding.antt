-- The commands of the input, one after another.
use Rattle.std.proofs.Common.{◌≡◌, ◌≢◌, ℕ, ◌+◌, cond, List, [], ◌∷◌, length, is_some, slice_get, refl, sym, ap, ◌∙◌, subst, Option, Some, None, Result, Ok, Err, IfOk}
use Rattle.std.specs.Option.{option_and_then}
use Rattle.pitch_fields.specs.declared.memory.OutOfMemory.{OutOfMemory as NoMemory}
use Rattle.pitch_text.specs.declared.command.Command.{Command}
use Rattle.text_lines.specs.declared.fault.TextError.{TextError}
use Rattle.unit_commands.specs.declared.unit_command.UnitCommandEntry.{UnitCommandEntry}
use Rattle.venue_core.specs.Refusals.{IsAnswer, refusal}
use Rattle.venue_core.specs.declared.error.VenueError.{VenueError}
use Rattle.venue_core.specs.declared.error.VenueError.TheVariants.{OutOfMemory}
use Rattle.venue_end.specs.Came.{Commanded, venue_after}
use Rattle.venue_end.specs.declared.setup.VenueSetup.{VenueSetup}
use Rattle.venue_units.specs.Coming.{UnitCame, state_at}
use Rattle.venue_units.specs.Units.{Comes, IfNoUnit, OfUnit, StandStill, UnitsStand}
use Rattle.venue_units.specs.declared.units.VenueUnits.{VenueUnits}
use Rattle.live_venue.specs.Input.{Heard, all_heard, at_index, index_of, next_heard, refusal_at, said_heard, told_line, unless_refused}
use Rattle.live_venue.specs.Standing.{Hears}
use Rattle.live_venue.specs.declared.fault.InputFault.{InputFault}
use Rattle.live_venue.specs.declared.fault.InputFault.TheVariants.{NoUnit, Refused}

-- what a line says
abbrev pub Said : Type 0
Said = Result UnitCommandEntry TextError

-- ---- A command
none_accepted : (refused : Option VenueError) (wanted given : ℕ) → IsAnswer refused wanted (Ok given) → refused ≡ None
none_accepted None wanted given is = refl
none_accepted (Some error) wanted given is = absurd cc

some_refused : (refused : Option VenueError) (wanted : ℕ) (error : VenueError) → error ≢ OutOfMemory → IsAnswer refused wanted (Err error) → refused ≡ Some error
some_refused None wanted error other is = absurd (other is)
some_refused (Some cause) wanted error other is = let same : error ≡ cause = cc in ap Some (sym same)

module _ (s : List VenueSetup) (came : List UnitCame) (u : VenueUnits) (st : UnitsStand s u came) (unit line : ℕ) (command : Command) where
  -- no unit has this number
  pub hears_no_unit : None ≡ index_of s unit → Hears s u (Some (NoUnit line)) (at_index s (index_of s unit) line command came)
  hears_no_unit none = subst (λ (o : Option ℕ). Hears s u (Some (NoUnit line)) (at_index s o line command came)) none (record { stand = st; fault_is = refl })

  module _ (u' : VenueUnits) (at : ℕ) (found : Some at ≡ index_of s unit) (answer : Result ℕ VenueError) where
    abbrev Answers : Type 0
    Answers = OfUnit u at (λ setup before. IsAnswer (refusal (venue_after setup before).messages command) (length (venue_after setup before).messages + 1) answer)

    abbrev refused_by : Option VenueSetup → Option VenueError
    refused_by setup = option_and_then (λ made. refusal (state_at made at came).messages command) setup

    judged : (fault : Option InputFault) (refused : Option VenueError) → refusal_at s at came command ≡ refused → Hears s u' fault (unless_refused refused line at command came)
        → Hears s u' fault (at_index s (index_of s unit) line command came)
    judged fault refused is hears = subst (λ (o : Option ℕ). Hears s u' fault (at_index s o line command came)) found
        (subst (λ (r : Option VenueError). Hears s u' fault (unless_refused r line at command came)) (sym is) hears)

    -- it was accepted
    pub hears_accepted : (given : ℕ) → answer ≡ Ok given → Answers → Comes u u' at (Commanded command) → Hears s u' None (at_index s (index_of s unit) line command came)
    hears_accepted given is answers comes = judged None None (by (slice_get s at) refl) (record { stand = comes s came st; fault_is = refl })
      where
        by : (o : Option VenueSetup) → slice_get s at ≡ o → refused_by o ≡ None
        by None there = refl
        by (Some setup) there = none_accepted (refusal (state_at setup at came).messages command) (length (state_at setup at came).messages + 1) given
            (subst (λ (a : Result ℕ VenueError). IsAnswer (refusal (state_at setup at came).messages command) (length (state_at setup at came).messages + 1) a) is (answers s came setup st there))

    -- it was refused
    hears_refused : (error : VenueError) → error ≢ OutOfMemory → answer ≡ Err error → Answers → IfNoUnit u at (answer ≡ Ok 0) → UnitsStand s u' came → (fault : Option InputFault) → fault ≡ Some (Refused line error)
        → Hears s u' fault (at_index s (index_of s unit) line command came)
    hears_refused error other is answers no_unit still fault told = judged fault (Some error) (by (slice_get s at) refl) (record { stand = still; fault_is = told })
      where
        by : (o : Option VenueSetup) → slice_get s at ≡ o → refused_by o ≡ Some error
        by None there = let none : answer ≡ Ok 0 = no_unit s came st there in absurd cc
        by (Some setup) there = some_refused (refusal (state_at setup at came).messages command) (length (state_at setup at came).messages + 1) error other
            (subst (λ (a : Result ℕ VenueError). IsAnswer (refusal (state_at setup at came).messages command) (length (state_at setup at came).messages + 1) a) is (answers s came setup st there))

-- whatever came before
pub refuses : (u u' : VenueUnits) (unit line at : ℕ) (command : Command) (answer : Result ℕ VenueError) (error : VenueError) (told : Result (Option InputFault) NoMemory) → ((s : List VenueSetup) (came : List UnitCame) → UnitsStand s u came → Some at ≡ index_of s unit)
    → answer ≡ Err error → OfUnit u at (λ setup before. IsAnswer (refusal (venue_after setup before).messages command) (length (venue_after setup before).messages + 1) answer) → IfNoUnit u at (answer ≡ Ok 0) → StandStill u u'
    → IfOk told (λ fault. (fault ≡ Some (Refused line error)) × (error ≢ OutOfMemory))
    → IfOk told (λ fault. (s : List VenueSetup) (came : List UnitCame) → UnitsStand s u came → Hears s u' fault (at_index s (index_of s unit) line command came))
refuses u u' unit line at command answer error (Err none) found is answers no_unit still tells = tt
refuses u u' unit line at command answer error (Ok fault) found is answers no_unit still tells = λ s came st.
    hears_refused s came u st unit line command u' at (found s came st) answer error tells.1 is answers no_unit (still s came st) fault tells.0

-- ---- A line
-- what its command does, it does
pub hears_said : (before : ℕ) (u u' : VenueUnits) (answer : Result (Option InputFault) NoMemory) (said : Said) (entry : UnitCommandEntry) (line : ℕ) → said ≡ Ok entry → line ≡ told_line before entry.line
    → IfOk answer (λ fault. (s : List VenueSetup) (came : List UnitCame) → UnitsStand s u came → Hears s u' fault (at_index s (index_of s entry.unit) line entry.command came))
    → IfOk answer (λ fault. (s : List VenueSetup) (came : List UnitCame) → UnitsStand s u came → Hears s u' fault (said_heard s before said came))
hears_said before u u' (Err error) said entry line is told hears = tt
hears_said before u u' (Ok fault) said entry line is told hears = λ s came st.
    subst (λ (x : Said). Hears s u' fault (said_heard s before x came)) (sym is)
    (subst (λ (n : ℕ). Hears s u' fault (at_index s (index_of s entry.unit) n entry.command came)) told (hears s came st))

-- ---- Lines
abbrev pub without_fault : List UnitCame → Heard
without_fault came = record { came = came; fault = None }

module _ (s : List VenueSetup) (before : ℕ) where
  -- behind a fault all are passed over
  fault_stays : (fault : InputFault) (items : List Said) (heard : Heard) → heard.fault ≡ Some fault → all_heard s before items heard ≡ heard
  fault_stays fault [] heard is = refl
  fault_stays fault (said ∷ items) heard is =
      let same : next_heard s before said heard ≡ heard = ap (λ (o : Option InputFault). cond (is_some o) heard (said_heard s before said heard.came)) is in
      ap (all_heard s before items) same ∙ fault_stays fault items heard is

  module _ (items : List Said) (came : List UnitCame) where
    -- what the lines that are left say is still to come
    pub record HearsOn (left : List Said) (u : VenueUnits) : Type 0 where
      pub so_far : List UnitCame
      pub stand : UnitsStand s u so_far
      pub same : all_heard s before items (without_fault came) ≡ all_heard s before left (without_fault so_far)

    pub hears_none : (u : VenueUnits) → UnitsStand s u came → HearsOn items u
    hears_none u st = record { so_far = came; stand = st; same = refl }

    module _ (left more : List Said) (said : Said) (u u' : VenueUnits) (first : left ≡ said ∷ more) (on : HearsOn left u) where
      follows : all_heard s before items (without_fault came) ≡ all_heard s before more (said_heard s before said on.so_far)
      follows = on.same ∙ ap (λ (l : List Said). all_heard s before l (without_fault on.so_far)) first

      -- a line more was heard
      pub hears_more : Hears s u' None (said_heard s before said on.so_far) → HearsOn more u'
      hears_more hears = record {
        so_far = (said_heard s before said on.so_far).came;
        stand = hears.stand;
        same = follows ∙ ap (λ (o : Option InputFault). all_heard s before more (record { came = (said_heard s before said on.so_far).came; fault = o })) (sym hears.fault_is);
      }

      -- it has a fault
      pub hears_fault : (fault : InputFault) → Hears s u' (Some fault) (said_heard s before said on.so_far) → Hears s u' (Some fault) (all_heard s before items (without_fault came))
      hears_fault fault hears = subst (Hears s u' (Some fault)) (sym (follows ∙ fault_stays fault more (said_heard s before said on.so_far) (sym hears.fault_is))) hears

    -- no line is left
    pub hears_all : (left : List Said) (u : VenueUnits) → left ≡ [] → HearsOn left u → Hears s u None (all_heard s before items (without_fault came))
    hears_all left u none on = subst (Hears s u None) (sym (on.same ∙ ap (λ (l : List Said). all_heard s before l (without_fault on.so_far)) none)) (record { stand = on.stand; fault_is = refl })
