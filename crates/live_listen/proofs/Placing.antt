-- A line that has given as many datagrams as are taken.
use Rattle.std.proofs.Common.{◌≡◌, ℕ, ◌+◌, ◌||◌, ◌==◌, Bool, true, cond, nat_lt, List, ◌∷◌, refl, sym, ap, ◌∙◌, subst, arith, Option, Some, None, IfSome}
use Rattle.std.proofs.lemmas.Bool.{eq-eqb, ne_eqb}
use Rattle.live_net.specs.LineCalls.{LineCall, Receive}
use Rattle.live_net.specs.declared.net.Received.TheVariants as received
use Rattle.live_listen.specs.Due.{due, after_line, is_more_left, taken_from, Receives, Waits}
use Rattle.live_listen.specs.Standing.{IsNext, due_at}
use Rattle.live_listen.specs.declared.place.Place.{Place}

module _ (line room n : ℕ) (bytes : List ℕ) (run : List LineCall) where
  abbrev call : LineCall
  call = Receive line room bytes (received.Got n)

  pub one_taken : taken_from line (Receive line room bytes (received.Got n) ∷ run) ≡ taken_from line run + 1
  one_taken = ap (λ (b : Bool). cond b (taken_from line run + 1) 0) (eq-eqb line line refl)

  pub none_taken : taken_from (line + 1) (Receive line room bytes (received.Got n) ∷ run) ≡ 0
  none_taken = ap (λ (b : Bool). cond b (taken_from (line + 1) run + 1) 0) (ne_eqb line (line + 1) (λ is. omega (arith, is)))

  pub turn_over : (lines : ℕ) → taken_from line run ≡ 63 → due lines (Receive line room bytes (received.Got n) ∷ run) ≡ Some (after_line lines line (Receive line room bytes (received.Got n) ∷ run))
  turn_over lines full = ap (λ (k : ℕ). Some (cond (nat_lt k 64) (Receives line 65536) (after_line lines line (call ∷ run)))) (one_taken ∙ ap (λ (k : ℕ). k + 1) full)

  pub more_left : taken_from line run ≡ 63 → true ≡ is_more_left (Receive line room bytes (received.Got n) ∷ run)
  more_left full = sym (ap (λ (k : ℕ). (k == 64) || is_more_left run) (one_taken ∙ ap (λ (k : ℕ). k + 1) full))

pub taken_at : (taken line : ℕ) (at : Option ℕ) (run : List LineCall) → at ≡ Some line → IfSome at (λ l. taken ≡ taken_from l run) → taken ≡ taken_from line run
taken_at taken line at run is so = subst (λ (o : Option ℕ). IfSome o (λ l. taken ≡ taken_from l run)) is so

-- the line that is asked is due, with this room
pub asked_due : (lines line room : ℕ) (place : Place) (run : List LineCall) → IsNext lines place run → place.line ≡ Some line → room ≡ 65536 → due lines run ≡ Some (Receives line room)
asked_due lines line room place run next asked is = next.due_is ∙ ap (λ (at : Option ℕ). Some (due_at place.more at)) asked ∙ ap (λ (r : ℕ). Some (Receives line r)) (sym is)

pub wait_due : (lines : ℕ) (place : Place) (run : List LineCall) → IsNext lines place run → place.line ≡ None → due lines run ≡ Some (Waits place.more)
wait_due lines place run next none = next.due_is ∙ ap (λ (at : Option ℕ). Some (due_at place.more at)) none
