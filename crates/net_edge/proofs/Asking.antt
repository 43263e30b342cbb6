-- One call of `take` or `next` more, and what it leaves.
use Rattle.std.proofs.Common.{◌≡◌, ◌⊎◌, inl, inr, true, cond, ℕ, List, [], ◌∷◌, ◌++◌, length, refl, sym, ap, ◌∙◌, subst, arith}
use Rattle.std.proofs.Math.Seq.{drop-length}
use Rattle.pitch_io.specs.declared.line.Line.{Line}
use Rattle.pitch_io.specs.declared.line.Line.TheVariants.{A, B, Gap}
use Rattle.pitch_io.specs.declared.net.LinkEnd.{LinkEnd}
use Rattle.pitch_io.specs.declared.net.NetTaken.{NetTaken}
use Rattle.world_model.specs.State.{State}
use Rattle.net_edge.specs.Acting.{answered_on, end_took, heard_by, heard_on, is_group_open, put_at, sent_on, taken_at, takes}
use Rattle.net_edge.specs.Scene.{Scene, OnLine, AtEnd, at_end, got_end, waits_at, with_end, with_line}
use Rattle.net_edge.specs.layers.Ends.{and_end}
use Rattle.net_edge.specs.declared.turn.Place.{Place}
use Rattle.net_edge.specs.declared.turn.Place.TheVariants.{Line as TheLine, End as TheEnd}
use Rattle.net_edge.specs.layers.Playing.{Asks, NothingWaits, all_put_at, answers_of, ended_in}
use Rattle.net_edge.proofs.Keeping.{Keeps, heard_keeps, keeps_then, put_keeps, takes_keep}
use Rattle.net_edge.proofs.Scenes.{at_asked, at_here, at_line, at_turn, at_world, done_stays, on_asked, on_sent, on_turn, on_world, same_end}
use Rattle.net_edge.proofs.Waits.{others_wait, waits_left}
use Rattle.net_edge.proofs.Taking.{IsAlone, heard_waits, heard_replayed, put_replayed, takes_wait}

-- ---- One part after another
pub asks_none : (place : Place) (now : Scene) → Asks place now now
asks_none place now = record { turn_is = refl; on_a = refl; on_b = refl; ticked = refl; done = λ at is. is; others = λ other apart. refl }

pub asks_then : (place : Place) (l m n : Scene) → Asks place l m → Asks place m n → Asks place l n
asks_then place l m n one two = record {
  turn_is = two.turn_is ∙ one.turn_is;
  on_a = two.on_a ∙ one.on_a;
  on_b = two.on_b ∙ one.on_b;
  ticked = two.ticked ∙ one.ticked;
  done = λ at is. two.done at (one.done at is);
  others = λ other apart. two.others other apart ∙ one.others other apart;
}

-- ---- A call of `take`, and what is put and sent by that
module _ (at : LinkEnd) (bytes : List ℕ) (answer : NetTaken) (more : List (List ℕ)) (now : Scene) where
  abbrev took : State
  took = takes at bytes answer (is_group_open (answer ∷ (at_end at now).answers)) now.world

  abbrev left : State
  left = put_at at (length (waits_at at took)) took

  abbrev end : AtEnd
  end = record (end_took bytes answer (at_end at now)) { put = (at_end at now).put ++ waits_at at took }

  abbrev beside : Scene
  beside = record now { gap = record now.gap { sent = now.gap.sent ++ more }; world = left }

  abbrev pub answered : Scene
  answered = sent_on Gap more (all_put_at at (taken_at at bytes answer now))

  answered_is : answered ≡ with_end at end beside
  answered_is = grind arith

  pub answered_world : answered.world ≡ left
  answered_world = ap (λ (n : Scene). n.world) answered_is ∙ at_world beside end at

  answered_keeps : Keeps now.world left
  answered_keeps = keeps_then (takes_keep at bytes answer (is_group_open (answer ∷ (at_end at now).answers)) now.world) (put_keeps at (length (waits_at at took)) took)

  asks_beside : Asks (TheEnd at) now (with_end at end beside)
  asks_beside = record {
    turn_is = at_turn beside end at;
    on_a = ap (λ (l : OnLine). l.sent) (at_line beside end at A);
    on_b = ap (λ (l : OnLine). l.sent) (at_line beside end at B);
    ticked = ap (λ (w : State). w.venue.spent.now) (at_world beside end at) ∙ answered_keeps.seconds;
    done = λ other is. done_stays other now (with_end at end beside) (ended other) (subst (Keeps now.world) (sym (at_world beside end at)) answered_keeps) is;
    others = λ other apart. at_asked beside end at other apart ∙ same other;
  }
    where
      same : (other : Place) → answers_of other beside ≡ answers_of other now
      same other = grind arith

      end_same : (other : LinkEnd) → at_end other beside ≡ at_end other now
      end_same other = grind arith

      ended : (other : LinkEnd) → (at_end other now).ended ≡ true → (at_end other (with_end at end beside)).ended ≡ true
      ended other is = grind arith

  pub answered_asks : Asks (TheEnd at) now answered
  answered_asks = subst (Asks (TheEnd at) now) (sym answered_is) asks_beside

  pub answered_answers : answers_of (TheEnd at) answered ≡ answer ∷ answers_of (TheEnd at) now
  answered_answers = ap (λ (n : Scene). (at_end at n).answers) answered_is ∙ ap (λ (e : AtEnd). e.answers) (at_here beside end at)

  pub answered_ended : ended_in answered ≡ cond (got_end answer) (and_end at (ended_in now)) (ended_in now)
  answered_ended = grind arith

  -- nothing waits then
  pub answered_waits : IsAlone now.world → NothingWaits now.world → NothingWaits answered.world
  answered_waits alone none other = subst (λ (w : State). waits_at other w ≡ []) (sym answered_world) (by other (same_end at other))
    where
      by : (other : LinkEnd) → (other ≡ at) ⊎ (other ≡ at → ⊥) → waits_at other left ≡ []
      by other (inl here) = subst (λ (x : LinkEnd). waits_at x left ≡ []) (sym here) (waits_left at (length (waits_at at took)) took ∙ drop-length (waits_at at took))
      by other (inr apart) = others_wait at other (length (waits_at at took)) took apart ∙ takes_wait at other bytes answer (is_group_open (answer ∷ (at_end at now).answers)) now.world alone apart (none other)

  pub answered_replayed : now.gap.sent ≡ now.world.replayed → took.replayed ≡ now.world.replayed ++ more → answered.gap.sent ≡ answered.world.replayed
  answered_replayed before replays =
      ap (λ (n : Scene). n.gap.sent) answered_is ∙ ap (λ (l : OnLine). l.sent) (at_line beside end at Gap)
      ∙ ap (λ (ds : List (List ℕ)). ds ++ more) before ∙ sym replays
      ∙ sym (put_replayed at (length (waits_at at took)) took) ∙ ap (λ (w : State). w.replayed) (sym answered_world)

-- ---- A call of `next`
module _ (line : Line) (bytes : List ℕ) (answer : NetTaken) (now : Scene) where
  abbrev on : OnLine
  on = answered_on line bytes answer now

  abbrev lined : Scene
  lined = with_line line on now

  abbrev heard_world : State
  heard_world = heard_by line bytes answer lined.world

  pub heard_asks : Asks (TheLine line) now (heard_on line bytes answer now)
  heard_asks = record {
    turn_is = on_turn now on line;
    on_a = on_sent now on line A refl;
    on_b = on_sent now on line B refl;
    ticked = keeps.seconds;
    done = λ at is. done_stays at now (heard_on line bytes answer now) (λ got. ap (λ (e : AtEnd). e.ended) (end_same at) ∙ got) keeps is;
    others = λ other apart. same other ∙ on_asked now on line other apart;
  }
    where
      keeps : Keeps now.world heard_world
      keeps = subst (λ (w : State). Keeps w heard_world) (on_world now on line) (heard_keeps line bytes answer lined.world)

      end_same : (at : LinkEnd) → at_end at (heard_on line bytes answer now) ≡ at_end at now
      end_same at = grind arith

      same : (other : Place) → answers_of other (heard_on line bytes answer now) ≡ answers_of other lined
      same other = grind arith

  pub heard_answers : answers_of (TheLine line) (heard_on line bytes answer now) ≡ answer ∷ answers_of (TheLine line) now
  heard_answers = grind arith

  pub heard_ended : ended_in (heard_on line bytes answer now) ≡ ended_in now
  heard_ended = grind arith

  pub heard_none_waits : NothingWaits now.world → NothingWaits (heard_on line bytes answer now).world
  heard_none_waits none at = heard_waits at line bytes answer lined.world ∙ ap (waits_at at) (on_world now on line) ∙ none at

  pub heard_sent : now.gap.sent ≡ now.world.replayed → (heard_on line bytes answer now).gap.sent ≡ (heard_on line bytes answer now).world.replayed
  heard_sent before = on_sent now on line Gap refl ∙ before ∙ sym (heard_replayed line bytes answer lined.world ∙ ap (λ (w : State). w.replayed) (on_world now on line))
