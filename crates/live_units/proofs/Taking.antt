-- Bytes of a session, and blocks, that come to one of the units and are printed.
use Rattle.std.proofs.Common.{◌≡◌, ℕ, ◌+◌, Bool, true, false, ◌&&◌, cond, List, [], ◌∷◌, ◌++◌, refl, sym, ap, ◌∙◌, subst, Option, Some, None, Result, Ok, Err, IfOk, slice_get, true≢false}
use Rattle.std.specs.Prelude.{is_some}
use Rattle.std.specs.Result.{IsErr, IsOk}
use Rattle.std.proofs.Math.ListN.{set}
use Rattle.std.proofs.lemmas.Bool.{cond-true, cond-false}
use Rattle.unit_packets.specs.Blocks.{Block}
use Rattle.client_end.specs.Came.{Came, EndSetup, Heard, end_after}
use Rattle.sending_end.specs.Waiting.{link_of, took}
use Rattle.sending_end.specs.declared.session.Session.{Session}
use Rattle.sending_end.specs.declared.session.Session.TheVariants.{Proxy, SpinServer}
use Rattle.unit_clients.specs.Tables.{with_place}
use Rattle.stream_print.specs.Page.{Page, Prints}
use Rattle.stream_print.specs.Putting.{PutsSome}
use Rattle.stream_print.specs.declared.putting.PutFailed.{PutFailed}
use Rattle.stream_print.proofs.Printing.{prints_more, puts_then}
use Rattle.live_units.specs.Coming.{LiveSetup, StandsNone, UnitCame, block_count, came_to, end_setup, has_unit, live_lines, stands_at, state_at, to_unit, with_came}
use Rattle.live_units.specs.LiveText.{came_text}
use Rattle.live_units.specs.Places.{HearsAt, IsUnitAt, TakesAt}
use Rattle.live_units.specs.Standing.{ComesTo, IsTaken, OfUnit, UnitStands}
use Rattle.live_units.specs.Units.{LiveStands, OfLive, TakesBytes}
use Rattle.live_units.specs.declared.unit.LiveUnit.{LiveUnit}
use Rattle.live_units.specs.declared.unit.Taken.{Taken}
use Rattle.live_units.specs.declared.unit.Taken.TheVariants.{Whole}
use Rattle.live_units.specs.declared.units.LiveUnits.{LiveUnits}
use Rattle.live_units.proofs.Passing.{comes_so, not_taken}
use Rattle.live_units.proofs.Routing.{places_are, waits_came}
use Rattle.live_units.proofs.Waits.{still_session, waits_elsewhere, waits_everywhere, waits_in}

module _ (s : LiveSetup) (u : ℕ) (came : Came) (all : List UnitCame) where
  passed_over : has_unit s u ≡ false → with_came s (to_unit u came) all ≡ all
  passed_over none = cond-false (has_unit s u) (to_unit u came ∷ all) all none

  came_first : has_unit s u ≡ true → with_came s (to_unit u came) all ≡ to_unit u came ∷ all
  came_first ours = cond-true (has_unit s u) (to_unit u came ∷ all) all ours

  -- where no unit stands in the place, nothing is printed
  pub stands_over : (l : LiveUnits) (page' : Page) (start w v : Option (List ℕ)) → slice_get l.units.places u ≡ Some None → LiveStands s start w l all → v ≡ w → page'.text ≡ l.page.text
      → LiveStands s start v (record l { units = with_place l.units u None; page = page' }) (with_came s (to_unit u came) all)
  stands_over l page' start w v there st same text =
      let none : has_unit s u ≡ false = st.units_are.each u None there in
      record {
        units_are = places_are s u came all l.units.places None None st.units_are there tt;
        number_is = st.number_is ∙ ap block_count (sym (passed_over none));
        printed = subst (λ (n : Option (List ℕ)). Prints start [] n page'.text (live_lines s (with_came s (to_unit u came) all))) (sym same)
            (subst (λ (t : List ℕ). Prints start [] w t (live_lines s (with_came s (to_unit u came) all))) (sym text)
            (subst (λ (x : List UnitCame). Prints start [] w l.page.text (live_lines s x)) (sym (passed_over none)) st.printed));
      }

  -- where one does, what is printed of it
  module _ (l : LiveUnits) (page' : Page) (start w v : Option (List ℕ)) (e e' : LiveUnit) (there : slice_get l.units.places u ≡ Some (Some e)) (st : LiveStands s start w l all) where
    ours : has_unit s u ≡ true
    ours = (st.units_are.each u (Some e) there).0

    pub unit_stands : UnitStands (end_setup s u) e (came_to u all)
    unit_stands = (st.units_are.each u (Some e) there).1

    pub stands_more : (number : ℕ) → ComesTo e e' came → number ≡ block_count (to_unit u came ∷ all) → Prints w l.page.text v page'.text (came_text (end_setup s u) (block_count all + 1) came (came_to u all))
        → LiveStands s start v (record { units = with_place l.units u (Some e'); number = number; page = page' }) (with_came s (to_unit u came) all)
    stands_more number comes count printed = record {
      units_are = places_are s u came all l.units.places (Some e) (Some e') st.units_are there (λ is. comes (end_setup s u) (came_to u all) is);
      number_is = count ∙ ap block_count (sym (came_first ours));
      printed = subst (λ (x : List UnitCame). Prints start [] v page'.text (live_lines s x)) (sym (came_first ours))
          (prints_more start w v [] l.page.text page'.text (live_lines s all) (came_text (end_setup s u) (block_count all + 1) came (came_to u all)) st.printed printed);
    }

    pub puts_more : PutsSome w v (l.page.text ++ came_text (end_setup s u) (block_count all + 1) came (came_to u all)) → PutsSome start v (live_lines s (with_came s (to_unit u came) all))
    puts_more puts = subst (λ (x : List UnitCame). PutsSome start v (live_lines s x)) (sym (came_first ours))
        (puts_then start w v [] l.page.text (live_lines s all) (came_text (end_setup s u) (block_count all + 1) came (came_to u all)) st.printed puts)

-- ---- Bytes
pub takes_at : (l : LiveUnits) (u : ℕ) (session : Session) (piece : List ℕ) (place place' : Option LiveUnit) (result : Result Taken PutFailed) (w v : Option (List ℕ)) (page' : Page)
    → slice_get l.units.places u ≡ Some place → TakesAt session piece place place' result w v l.page.text page'.text → TakesBytes u session piece l (record l { units = with_place l.units u place'; page = page' }) w v result
takes_at l u session piece None None result w v page' there (is, (same, text)) =
    let l' : LiveUnits = record l { units = with_place l.units u None; page = page' } in
    subst (λ (r : Result Taken PutFailed). TakesBytes u session piece l l' w v r) (sym is) (
      took session piece,
      (
        refl,
        λ s start all st. record {
          stands = stands_over s u (took session piece) all l page' start w v there st same text;
          waits = waits_came l u None None there s (took session piece) all l' refl (st.units_are.each u None there) tt;
          others = waits_elsewhere l.units.places u None None there;
        },
      ),
    )
takes_at l u session piece None (Some e') result w v page' there takes = absurd takes
takes_at l u session piece (Some e) None result w v page' there takes = absurd takes
takes_at l u session piece (Some e) (Some e') (Ok taken) w v page' there takes =
    let l' : LiveUnits = record l { units = with_place l.units u (Some e'); page = page' } in (
      takes.came,
      (
        subst (λ (t : Taken). IsTaken t session piece takes.came) (sym takes.answer) takes.is_taken,
        λ s start all st.
            let none = not_taken takes.taken session piece takes.came takes.is_taken in
            record {
              stands = stands_more s u takes.came all l page' start w v e e' there st l.number (comes_so e e' takes.came none takes.passes takes.same)
                  (st.number_is ∙ sym (ap (λ (c : Bool). cond c (block_count all + 1) (block_count all)) none))
                  (takes.prints (end_setup s u) (came_to u all) (unit_stands s u takes.came all l page' start w v e e' there st) (block_count all + 1));
              waits = waits_came l u (Some e) (Some e') there s takes.came all l' refl (st.units_are.each u (Some e) there) takes.passes;
              others = waits_elsewhere l.units.places u (Some e) (Some e') there;
            },
      ),
    )
takes_at l u session piece (Some e) (Some e') (Err error) w v page' there takes = (
  takes.came,
  (
    takes.taken,
    (
      takes.is_taken,
      λ s start all st. puts_more s u takes.came all l page' start w v e e' there st
          (takes.fails (end_setup s u) (came_to u all) (unit_stands s u takes.came all l page' start w v e e' there st) (block_count all + 1)),
    ),
  ),
)

-- the sink failed, whatever the answer's error is
pub takes_untold : (l l' : LiveUnits) (u : ℕ) (session : Session) (piece : List ℕ) (w v : Option (List ℕ)) (error : PutFailed) (result : Result Taken PutFailed) → IsErr result → TakesBytes u session piece l l' w v (Err error) → TakesBytes u session piece l l' w v result
takes_untold l l' u session piece w v error (Ok taken) failed takes = absurd (true≢false (sym failed))
takes_untold l l' u session piece w v error (Err other) failed takes = takes

-- without a connection nothing is lost
no_link : {X : Type 0} (o : Option X) → is_some o ≡ false → o ≡ None
no_link None none = refl
no_link (Some x) none = absurd (true≢false none)

none_stands : (s : LiveSetup) (came : List UnitCame) (unit : ℕ) (e : LiveUnit) (session : Session) → IsUnitAt s came unit (Some e) → stands_at s unit session came ≡ false → link_of session (state_at s unit came) ≡ None
none_stands s came unit e session at unlinked =
    no_link (link_of session (state_at s unit came)) (sym (ap (λ (b : Bool). b && is_some (link_of session (state_at s unit came))) at.0) ∙ unlinked)

module _ (place : Option LiveUnit) (e : LiveUnit) (is : place ≡ Some e) where
  pub none_lost : (session : Session) (result : Result Taken PutFailed) → IfOk result (λ taken. OfUnit e (λ s before. link_of session (end_after s before) ≡ None → taken ≡ Whole))
      → IfOk result (λ taken. (s : LiveSetup) (came : List UnitCame) (unit : ℕ) → IsUnitAt s came unit place → stands_at s unit session came ≡ false → taken ≡ Whole)
  none_lost session (Err error) none = tt
  none_lost session (Ok taken) none = λ s came unit at no.
      let here = subst (IsUnitAt s came unit) is at in
      none (end_setup s unit) (came_to unit came) here.1 (none_stands s came unit e session here no)

  pub none_fails : {E : Type 0} (result : Result (Unit {0}) E) → OfUnit e (λ s before. (end_after s before).grp ≡ None → (end_after s before).spin ≡ None → IsOk result)
      → (s : LiveSetup) (came : List UnitCame) (unit : ℕ) → IsUnitAt s came unit place → StandsNone s unit came → IsOk result
  none_fails result none s came unit at unlinked =
      let here = subst (IsUnitAt s came unit) is at in
      none (end_setup s unit) (came_to unit came) here.1 (none_stands s came unit e Proxy here unlinked.proxy) (none_stands s came unit e SpinServer here unlinked.spin_server)

-- ---- A block
pub hears_at : (l : LiveUnits) (block : Block) (place place' : Option LiveUnit) (w v : Option (List ℕ)) (page' : Page) (heard : Bool) (k m : ℕ) → k ≡ l.number + 1 → m ≡ cond heard k l.number
    → slice_get l.units.places block.unit ≡ Some place → HearsAt k block place place' w v l.page.text page'.text → heard ≡ is_some place
    → OfLive l w (λ s start all. LiveStands s start v (record { units = with_place l.units block.unit place'; number = m; page = page' }) (with_came s (to_unit block.unit (Heard block)) all))
hears_at l block None None w v page' heard k m next number there (same, text) is = λ s start all st.
    subst (λ (n : ℕ). LiveStands s start v (record { units = with_place l.units block.unit None; number = n; page = page' }) (with_came s (to_unit block.unit (Heard block)) all))
    (sym (number ∙ ap (λ (b : Bool). cond b k l.number) is))
    (stands_over s block.unit (Heard block) all l page' start w v there st same text)
hears_at l block None (Some e') w v page' heard k m next number there hears is = absurd hears
hears_at l block (Some e) None w v page' heard k m next number there hears is = absurd hears
hears_at l block (Some e) (Some e') w v page' heard k m next number there (comes, (waits, printed)) is = λ s start all st.
    let at : k ≡ block_count all + 1 = next ∙ ap (λ (n : ℕ). n + 1) st.number_is in
    stands_more s block.unit (Heard block) all l page' start w v e e' there st m comes
    (number ∙ ap (λ (b : Bool). cond b k l.number) is ∙ at)
    (subst (λ (n : ℕ). Prints w l.page.text v page'.text (came_text (end_setup s block.unit) n (Heard block) (came_to block.unit all))) at
    (printed (end_setup s block.unit) (came_to block.unit all) (unit_stands s block.unit (Heard block) all l page' start w v e e' there st)))

-- and what waits stays
pub hears_wait : (places : List (Option LiveUnit)) (block : Block) (number : ℕ) (place place' : Option LiveUnit) (w v : Option (List ℕ)) (page page' : List ℕ) → slice_get places block.unit ≡ Some place
    → HearsAt number block place place' w v page page' → (unit : ℕ) (session : Session) → waits_in (set places block.unit place') unit session ≡ waits_in places unit session
hears_wait places block number None None w v page page' there hears = waits_everywhere places block.unit None None there (λ session. refl)
hears_wait places block number None (Some e') w v page page' there hears = absurd hears
hears_wait places block number (Some e) None w v page page' there hears = absurd hears
hears_wait places block number (Some e) (Some e') w v page page' there (comes, (waits, printed)) = waits_everywhere places block.unit (Some e) (Some e') there (still_session e.end e'.end waits)

-- whether a unit stands there
pub there_is : (s : LiveSetup) (all : List UnitCame) (u : ℕ) (place : Option LiveUnit) → IsUnitAt s all u place → is_some place ≡ has_unit s u
there_is s all u None is = sym is
there_is s all u (Some e) is = sym is.0

-- ---- What is told of a unit, where one stands
module _ (l : LiveUnits) (unit : ℕ) (test : EndSetup → List Came → Bool) (place : Option LiveUnit) (there : slice_get l.units.places unit ≡ Some place) (now : Option (List ℕ)) where
  abbrev Tells : Bool → Type 0
  Tells told = OfLive l now (λ s start came. told ≡ (has_unit s unit && test (end_setup s unit) (came_to unit came)))

  pub tells_none : place ≡ None → Tells false
  tells_none is s start came st =
      let none : has_unit s unit ≡ false = subst (IsUnitAt s came unit) is (st.units_are.each unit place there) in
      sym (ap (λ (b : Bool). b && test (end_setup s unit) (came_to unit came)) none)

  pub tells_some : (e : LiveUnit) (told : Bool) → place ≡ Some e → OfUnit e (λ s before. told ≡ test s before) → Tells told
  tells_some e told is tells s start came st =
      let here = subst (IsUnitAt s came unit) is (st.units_are.each unit place there) in
      tells (end_setup s unit) (came_to unit came) here.1 ∙ sym (ap (λ (b : Bool). b && test (end_setup s unit) (came_to unit came)) here.0)
