-- Units that are listened to, one after another.
use Rattle.std.proofs.Common.{◌≡◌, ℕ, ◌+◌, ◌<◌, ◌≤◌, List, [], length, refl, sym, subst, arith, Option, Some, None, slice_get}
use Rattle.std.specs.Option.{option_flatten}
use Rattle.std.proofs.Math.ListN.{set}
use Rattle.std.proofs.lemmas.Option.{slice_get_within}
use Rattle.unit_clients.specs.Tables.{AtEach}
use Rattle.unit_clients.proofs.Placing.{each_empty, each_set}
use Rattle.stream_print.specs.Page.{Prints}
use Rattle.stream_print.proofs.Printing.{prints_none}
use Rattle.live_units.specs.Coming.{LiveSetup}
use Rattle.live_units.specs.Places.{IsNewAt, waits_at}
use Rattle.live_units.specs.Units.{LiveStands, NoneWaitAtAll}
use Rattle.live_units.specs.declared.unit.LiveUnit.{LiveUnit}
use Rattle.live_units.specs.declared.units.LiveUnits.{LiveUnits}

-- the places of the units below n were filled, and the others are empty
pub record MadeTo (s : LiveSetup) (n unit : ℕ) (place : Option LiveUnit) : Type 0 where
  pub below : unit < n → IsNewAt s unit place
  pub above : n ≤ unit → place ≡ None

module _ (s : LiveSetup) where
  pub made_none : (places : List (Option LiveUnit)) → AtEach (λ unit place. place ≡ None) places → AtEach (MadeTo s 0) places
  made_none places empty = each_empty (MadeTo s 0) places empty (λ unit. record { below = λ lt. absurd (omega arith); above = λ le. refl })

  pub made_more : (n : ℕ) (places : List (Option LiveUnit)) (place place' : Option LiveUnit) → slice_get places n ≡ Some place → AtEach (MadeTo s n) places → (place ≡ None → IsNewAt s n place') → AtEach (MadeTo s (n + 1)) (set places n place')
  made_more n places place place' there each makes =
      each_set (MadeTo s n) (MadeTo s (n + 1)) places n place' each
      (λ unit other apart made. record { below = λ lt. made.below (omega arith); above = λ le. made.above (omega arith) })
      (record { below = λ lt. makes ((each.each n place there).above (omega arith)); above = λ le. absurd (omega arith) })

  pub made_all : (n : ℕ) (places : List (Option LiveUnit)) → n ≡ 256 → AtEach (MadeTo s n) places → AtEach (IsNewAt s) places
  made_all n places all each = record {
    many = each.many;
    each = λ unit place at.
        let lt : unit < length places = slice_get_within places unit place at in
        let many = each.many in
        (each.each unit place at).below (omega arith);
  }

  -- ---- Units to which nothing came yet
  pub stand_new : (l : LiveUnits) → AtEach (IsNewAt s) l.units.places → l.number ≡ 0 → l.page.text ≡ [] → (start : Option (List ℕ)) → LiveStands s start start l []
  stand_new l new none empty start = record {
    units_are = record { many = new.many; each = λ unit place at. (new.each unit place at).stands };
    number_is = none;
    printed = subst (λ (t : List ℕ). Prints start [] start t []) (sym empty) (prints_none start []);
  }

  pub wait_new : (l : LiveUnits) → AtEach (IsNewAt s) l.units.places → NoneWaitAtAll l
  wait_new l new unit session = by (slice_get l.units.places unit) refl
    where
      by : (o : Option (Option LiveUnit)) → slice_get l.units.places unit ≡ o → waits_at (option_flatten o) session ≡ []
      by None at = refl
      by (Some place) at = (new.each unit place at).waits session
