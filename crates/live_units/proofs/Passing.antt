-- What comes to a unit.
use Rattle.std.proofs.Common.{◌≡◌, ℕ, Bool, false, ◌||◌, List, ◌∷◌, ◌++◌, refl, sym, ap, ◌∙◌, subst, Option, Result, Ok, Err, true≢false}
use Rattle.std.specs.List.{list_any}
use Rattle.std.specs.Result.{IsErr}
use Rattle.client_end.specs.Came.{Came, EndSetup, GrpCut, SpinCut, Second, end_history}
use Rattle.sending_end.specs.Waiting.{made, ended}
use Rattle.sending_end.specs.Stands.{Passes}
use Rattle.sending_end.specs.declared.session.Session.{Session}
use Rattle.sending_end.specs.declared.session.Session.TheVariants.{Proxy, SpinServer}
use Rattle.stream_print.specs.Putting.{PutsSome}
use Rattle.stream_print.specs.declared.putting.PutFailed.{PutFailed}
use Rattle.live_units.specs.Ended.{ends_of}
use Rattle.live_units.specs.LiveText.{came_text, is_block, moved_text}
use Rattle.live_units.specs.Standing.{ComesTo, IsTaken, OfUnit, TakesPiece, UnitPasses, lowest}
use Rattle.live_units.specs.declared.unit.LiveUnit.{LiveUnit}
use Rattle.live_units.specs.declared.unit.Taken.{Taken}
use Rattle.live_units.specs.declared.unit.Taken.TheVariants.{Whole, Lost}
use Rattle.live_units.proofs.Ends.{ends_stay}

-- ---- What is no block
pub not_made : (session : Session) → is_block (made session) ≡ false
not_made Proxy = refl
not_made SpinServer = refl

pub not_ended : (session : Session) → is_block (ended session) ≡ false
not_ended Proxy = refl
not_ended SpinServer = refl

pub not_taken : (taken : Taken) (session : Session) (piece : List ℕ) (came : Came) → IsTaken taken session piece came → is_block came ≡ false
not_taken Whole Proxy piece came is = ap is_block is
not_taken Whole SpinServer piece came is = ap is_block is
not_taken Lost Proxy piece came is = ap is_block is.1
not_taken Lost SpinServer piece came is = ap is_block is.1

-- what is printed of it
abbrev IsMoved : Came → Type 0
IsMoved came = (s : EndSetup) (k : ℕ) (before : List Came) → came_text s k came before ≡ moved_text s (end_history s before) (end_history s (came ∷ before))

pub taken_text : (taken : Taken) (session : Session) (piece : List ℕ) (came : Came) → IsTaken taken session piece came → IsMoved came
taken_text Whole Proxy piece came is = subst IsMoved (sym is) (λ s k before. refl)
taken_text Whole SpinServer piece came is = subst IsMoved (sym is) (λ s k before. refl)
taken_text Lost Proxy piece came is = subst IsMoved (sym is.1) (λ s k before. refl)
taken_text Lost SpinServer piece came is = subst IsMoved (sym is.1) (λ s k before. refl)

-- ---- It comes
-- all but its end is as before
abbrev pub KeepsRest : LiveUnit → LiveUnit → Type 0
KeepsRest u u' = (u'.unit ≡ u.unit) × ((u'.has_block ≡ u.has_block) × (u'.first_end ≡ u.first_end))

pub comes_so : (u u' : LiveUnit) (came : Came) → is_block came ≡ false → Passes u.end u'.end came → KeepsRest u u' → ComesTo u u' came
comes_so u u' came none passes (unit, (block, first)) = λ s before is. record {
  unit_is = unit ∙ is.unit_is;
  end_is = (passes s before is.end_is).stands;
  blocks_are = block ∙ is.blocks_are ∙ sym (ap (λ (b : Bool). b || list_any is_block before) none);
  ends_are = first ∙ is.ends_are ∙ ap lowest (sym (ends_stay s before came none));
}

pub passes_so : (u u' : LiveUnit) (came : Came) → is_block came ≡ false → Passes u.end u'.end came → KeepsRest u u' → UnitPasses u u' came
passes_so u u' came none passes rest = record { comes = comes_so u u' came none passes rest; waits = passes }

-- it lost both its connections
pub ends_cut : (s : EndSetup) (before : List Came) (first : Option ℕ) → first ≡ lowest (ends_of (end_history s before)) → first ≡ lowest (ends_of (end_history s (SpinCut ∷ GrpCut ∷ before)))
ends_cut s before first is = is ∙ ap lowest (sym (ends_stay s (GrpCut ∷ before) SpinCut refl ∙ ends_stay s before GrpCut refl))

pub ends_second : (s : EndSetup) (before : List Came) (first : Option ℕ) → first ≡ lowest (ends_of (end_history s before)) → first ≡ lowest (ends_of (end_history s (Second ∷ before)))
ends_second s before first is = is ∙ ap lowest (sym (ends_stay s before Second refl))

-- the sink failed as it was told that the reach had moved
pub takes_untold : (u u' : LiveUnit) (session : Session) (piece : List ℕ) (result : Result Taken PutFailed) (w w' : Option (List ℕ)) (page page' : List ℕ) (taken : Taken) (came : Came) → IsErr result → IsTaken taken session piece came
    → Passes u.end u'.end came → KeepsRest u u' → OfUnit u (λ s before. (k : ℕ) → PutsSome w w' (page ++ came_text s k came before)) → TakesPiece u u' session piece result w w' page page'
takes_untold u u' session piece (Ok answer) w w' page page' taken came failed is_taken passes same fails = absurd (true≢false (sym failed))
takes_untold u u' session piece (Err error) w w' page page' taken came failed is_taken passes same fails =
    record { taken = taken; came = came; is_taken = is_taken; answer = tt; passes = passes; same = same; prints = tt; fails = fails }
