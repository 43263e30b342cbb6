-- A turn's calls at a place, one after another.
use Rattle.std.proofs.Common.{◌≡◌, ◌+◌, ◌<◌, ◌||◌, true, false, not, eqb, ℕ, List, [], Option, sym, ap, ◌∙◌, subst, arith}
use Rattle.std.proofs.lemmas.Bool.{false≢true}
use Rattle.pitch_io.specs.declared.net.LinkEnd.{LinkEnd}
use Rattle.pitch_io.specs.declared.net.NetTaken.{NetTaken}
use Rattle.pitch_io.specs.Nets.{Call}
use Rattle.venue_end.specs.Came.{VenueState}
use Rattle.net_edge.specs.Acting.{is_group_open}
use Rattle.net_edge.specs.Due.{Setting}
use Rattle.net_edge.specs.Scene.{Scene, is_cut, is_done, is_got}
use Rattle.net_edge.specs.declared.end_set.EndSet.{EndSet}
use Rattle.net_edge.specs.declared.stage.Stage.{Stage}
use Rattle.net_edge.specs.declared.turn.Place.{Place}
use Rattle.net_edge.specs.layers.Ends.{has_end}
use Rattle.net_edge.specs.layers.Playing.{Asks, AsksAll, AsksOnce, DemoAt, IsPlaceOver, MayAsk, answers_of, ended_in, is_place_done}
use Rattle.net_edge.proofs.Asking.{asks_none, asks_then}
use Rattle.net_edge.proofs.Grouping.{Gots, ends_group, full_group, gots_more, gots_none, open_by, open_then}

-- whether an end is asked no more, by the ends that got End
pub done_by : (at : LinkEnd) (now : Scene) (ends : EndSet) → ends ≡ ended_in now → (has_end at ends || is_cut at now.world) ≡ is_done at now
done_by at now ends same = ap (λ (e : EndSet). has_end at e || is_cut at now.world) same ∙ by at
  where
    by : (at : LinkEnd) → (has_end at (ended_in now) || is_cut at now.world) ≡ is_done at now
    by at = grind arith

module _ {V : Type 0} (is : V → VenueState → Type 0) (s : Setting) (base : List Call) where
  -- so many calls were made, each of which got something
  pub record AsksSome (calls : Option (List Call)) (stage : Stage V) (place : Place) (count : ℕ) (now : Scene) : Type 0 where
    pub after : Scene
    pub at : DemoAt is s base calls stage after
    pub asks : Asks place now after
    pub gots : Gots (answers_of place after) count

  pub some_none : (calls : Option (List Call)) (stage : Stage V) (place : Place) (now : Scene) → DemoAt is s base calls stage now → answers_of place now ≡ [] → AsksSome calls stage place 0 now
  some_none calls stage place now at none = record { after = now; at = at; asks = asks_none place now; gots = subst (λ (answers : List NetTaken). Gots answers 0) (sym none) gots_none }

  -- ---- Before a call
  module _ (calls : Option (List Call)) (stage : Stage V) (place : Place) (count : ℕ) (now : Scene) (so : AsksSome calls stage place count now) where
    pub asks_over : IsPlaceOver place so.after → AsksAll is s base calls stage place now
    asks_over over = record { after = so.after; at = so.at; asks = so.asks; over = over }

    pub asks_full : count ≡ 100 → AsksAll is s base calls stage place now
    asks_full all = asks_over (λ opened. absurd (false≢true (sym (full_group (answers_of place so.after) count all so.gots) ∙ opened)))

    pub may_ask : count < 100 → is_place_done place so.after ≡ false → MayAsk place (not (eqb count 99)) so.after
    may_ask few undone = record {
      opened = open_by (answers_of place so.after) count so.gots few;
      undone = undone;
      goes = λ answer. open_then answer (answers_of place so.after) count so.gots few;
    }

  -- ---- After it
  module _ (c0 c1 : Option (List Call)) (old new : Stage V) (place : Place) (answer : NetTaken) (count : ℕ) (now : Scene) (so : AsksSome c0 old place count now) (one : AsksOnce is s base c1 new place answer so.after) where
    pub some_more : is_got answer ≡ true → AsksSome c1 new place (count + 1) now
    some_more got = record {
      after = one.after;
      at = one.at;
      asks = asks_then place now so.after one.after so.asks one.asks;
      gots = subst (λ (answers : List NetTaken). Gots answers (count + 1)) (sym one.answers_are) (gots_more answer (answers_of place so.after) count got so.gots);
    }

    pub asks_last : is_got answer ≡ false → AsksAll is s base c1 new place now
    asks_last nothing = record {
      after = one.after;
      at = one.at;
      asks = asks_then place now so.after one.after so.asks one.asks;
      over = λ opened. absurd (false≢true (sym (ap is_group_open one.answers_are ∙ ends_group answer (answers_of place so.after) nothing) ∙ opened));
    }
