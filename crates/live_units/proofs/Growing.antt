-- What was written grows.
use Rattle.std.proofs.Common.{◌≡◌, ℕ, List, [], ◌++◌, take, subst, sym, Option, Some, None, Result, Ok, Err, OnOk}
use Rattle.std.specs.Prelude.{OnErr}
use Rattle.pitch_io.specs.Putting.{Grows}
use Rattle.unit_packets.specs.Blocks.{Block}
use Rattle.feed_lines.specs.Follow.{line_at}
use Rattle.client_end.specs.Came.{end_history}
use Rattle.sending_end.specs.declared.session.Session.{Session}
use Rattle.stream_print.specs.Page.{Prints}
use Rattle.stream_print.specs.Putting.{PutsSome}
use Rattle.stream_print.specs.declared.putting.PutFailed.{PutFailed}
use Rattle.stream_print.proofs.Flow.{grows_none, grows_more}
use Rattle.live_units.specs.Coming.{LiveSetup, UnitCame, came_to, end_setup}
use Rattle.live_units.specs.Places.{HearsAt, IsUnitAt, TakesAt}
use Rattle.live_units.specs.Units.{HasGrown}
use Rattle.live_units.specs.declared.unit.LiveUnit.{LiveUnit}
use Rattle.live_units.specs.declared.unit.Taken.{Taken}

pub grown_none : (a : Option (List ℕ)) → HasGrown a a
grown_none a = ([], grows_none a)

grown_same : (a b : Option (List ℕ)) → b ≡ a → HasGrown a b
grown_same a b is = subst (HasGrown a) (sym is) (grown_none a)

pub grown_more : (a b c : Option (List ℕ)) → HasGrown a b → HasGrown b c → HasGrown a c
grown_more a b c x y = (x.0 ++ y.0, grows_more a b c x.0 y.0 x.1 y.1)

pub grown_prints : (a b : Option (List ℕ)) (page page' text : List ℕ) → Prints a page b page' text → HasGrown a b
grown_prints a b page page' text printed = (take printed.count (page ++ text), printed.written)

pub grown_puts : (a b : Option (List ℕ)) (text : List ℕ) → PutsSome a b text → HasGrown a b
grown_puts a b text puts = (take puts.count text, puts.grows)

-- whether it could all be written or not
pub grown_flushed : (a b : Option (List ℕ)) (page : List ℕ) (result : Result (Unit {0}) PutFailed) → OnOk result (Grows a b page) → OnErr result (PutsSome a b page) → HasGrown a b
grown_flushed a b page (Ok done) grows puts = (page, grows)
grown_flushed a b page (Err error) grows puts = grown_puts a b page puts

-- ---- By what came to the unit at a place
module _ (s : LiveSetup) (came : List UnitCame) (unit : ℕ) (w w' : Option (List ℕ)) (page page' : List ℕ) where
  pub grown_hears : (number : ℕ) (block : Block) (place place' : Option LiveUnit) → IsUnitAt s came unit place → HearsAt number block place place' w w' page page' → HasGrown w w'
  grown_hears number block None None at hears = grown_same w w' hears.0
  grown_hears number block None (Some u') at hears = absurd hears
  grown_hears number block (Some u) None at hears = absurd hears
  grown_hears number block (Some u) (Some u') at hears =
      let setup = end_setup s unit in
      let before = came_to unit came in
      grown_prints w w' page page' (line_at setup.hold number block (end_history setup before)) (hears.1.1 setup before at.1)

  pub grown_takes : (session : Session) (piece : List ℕ) (place place' : Option LiveUnit) (result : Result Taken PutFailed) → IsUnitAt s came unit place → TakesAt session piece place place' result w w' page page' → HasGrown w w'
  grown_takes session piece None None result at takes = grown_same w w' takes.1.0
  grown_takes session piece None (Some u') result at takes = absurd takes
  grown_takes session piece (Some u) None result at takes = absurd takes
  grown_takes session piece (Some u) (Some u') (Ok taken) at takes = let printed = takes.prints (end_setup s unit) (came_to unit came) at.1 0 in (_, printed.written)
  grown_takes session piece (Some u) (Some u') (Err error) at takes = let puts = takes.fails (end_setup s unit) (came_to unit came) at.1 0 in (_, puts.grows)
