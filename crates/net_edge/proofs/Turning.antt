-- The parts of a turn: what stands before each and after it.
use Rattle.std.proofs.Common.{◌≡◌, inl, inr, ◌≤◌, ◌<◌, ◌+◌, ◌-◌, ℕ, zero, suc, Bool, true, false, cond, List, [], ◌∷◌, ◌++◌, length, get_or, Option, refl, sym, ap, ◌∙◌, subst, arith, append_assoc}
use Rattle.std.proofs.lemmas.List.{append-nil}
use Rattle.std.proofs.Math.Seq.{drop-length}
use Rattle.std.proofs.lemmas.Bool.{cases_eq}
use Rattle.pitch_io.specs.declared.line.Line.{Line}
use Rattle.pitch_io.specs.declared.line.Line.TheVariants.{A, B, Gap}
use Rattle.pitch_io.specs.declared.net.LinkEnd.{LinkEnd}
use Rattle.pitch_io.specs.declared.net.LinkEnd.TheVariants.{GrpClient, GrpServer, SpinClient, SpinServer}
use Rattle.pitch_io.specs.Nets.{Call}
use Rattle.venue_end.specs.Came.{VenueState}
use Rattle.world_model.specs.State.{State}
use Rattle.net_edge.specs.Acting.{all_tick, is_group_open, sent_on}
use Rattle.net_edge.specs.Due.{Setting, beat, beats, copies, due, is_tenth, ticks}
use Rattle.net_edge.specs.Scene.{Scene, line_in, waits_at}
use Rattle.net_edge.specs.declared.stage.Stage.{Stage}
use Rattle.net_edge.specs.declared.turn.Place.{Place}
use Rattle.net_edge.specs.declared.turn.Place.TheVariants.{Line as TheLine, End as TheEnd}
use Rattle.net_edge.specs.layers.Playing.{Asks, AsksAll, DemoAt, IsPlaceOver, IsSentTo, IsUncalled, NothingWaits, TurnEnds, TurnGoes, after_beat, after_due_beat, answers_of}
use Rattle.net_edge.proofs.Emptying.{put_one}
use Rattle.net_edge.proofs.Keeping.{Keeps, keeps_then, put_keeps}
use Rattle.net_edge.proofs.Standing.{tick_keeps}
use Rattle.net_edge.proofs.Waits.{others_wait, waits_left}

-- ---- What a turn adds
due_more : (s : Setting) (line : Line) (turn : ℕ) → 1 ≤ turn → due s line turn ≡ due s line (turn - 1) ++ (copies s line turn ++ beats s turn)
due_more s line zero some = absurd (omega (arith, some))
due_more s line (suc t) some = let e : suc t - 1 ≡ t = omega arith in ap (λ (k : ℕ). due s line k ++ (copies s line (suc t) ++ beats s (suc t))) (sym e)

ticks_more : (turn : ℕ) → 1 ≤ turn → ticks turn ≡ cond (is_tenth turn) (ticks (turn - 1) + 1) (ticks (turn - 1))
ticks_more zero some = absurd (omega (arith, some))
ticks_more (suc t) some = let e : suc t - 1 ≡ t = omega arith in ap (λ (k : ℕ). cond (is_tenth (suc t)) (ticks k + 1) (ticks k)) (sym e)

-- ---- All that waits is put
module _ (w : State) where
  abbrev w1 : State
  w1 = put_one GrpServer w

  abbrev w2 : State
  w2 = put_one SpinServer w1

  abbrev w3 : State
  w3 = put_one GrpClient w2

  abbrev pub all_put_in : State
  all_put_in = put_one SpinClient w3

  none_left : (at : LinkEnd) (v : State) → waits_at at (put_one at v) ≡ []
  none_left at v = waits_left at (length (waits_at at v)) v ∙ drop-length (waits_at at v)

  still_waits : (at other : LinkEnd) (v : State) → (other ≡ at → ⊥) → waits_at other (put_one at v) ≡ waits_at other v
  still_waits at other v apart = others_wait at other (length (waits_at at v)) v apart

  pub none_waits : NothingWaits all_put_in
  none_waits GrpServer = still_waits SpinClient GrpServer w3 (λ e. cc) ∙ still_waits GrpClient GrpServer w2 (λ e. cc) ∙ still_waits SpinServer GrpServer w1 (λ e. cc) ∙ none_left GrpServer w
  none_waits SpinServer = still_waits SpinClient SpinServer w3 (λ e. cc) ∙ still_waits GrpClient SpinServer w2 (λ e. cc) ∙ none_left SpinServer w1
  none_waits GrpClient = still_waits SpinClient GrpClient w3 (λ e. cc) ∙ none_left GrpClient w2
  none_waits SpinClient = none_left SpinClient w3

  put_keeps_all : Keeps w all_put_in
  put_keeps_all = keeps_then (put_keeps GrpServer (length (waits_at GrpServer w)) w) (keeps_then (put_keeps SpinServer (length (waits_at SpinServer w1)) w1)
      (keeps_then (put_keeps GrpClient (length (waits_at GrpClient w2)) w2) (put_keeps SpinClient (length (waits_at SpinClient w3)) w3)))

-- ---- What a turn's first part sent
-- the copies of a turn's message were sent on both lines
abbrev pub copied : Setting → ℕ → Scene → Scene
copied s turn now = sent_on B (copies s B turn) (sent_on A (copies s A turn) now)

-- and then its heartbeat, where there is one
module _ (s : Setting) (now : Scene) (some : 1 ≤ now.turn) (sent : IsSentTo s (now.turn - 1) now) where
  line_due : (line : Line) (xs : List (List ℕ)) → xs ≡ due s line (now.turn - 1) → (xs ++ copies s line now.turn) ++ beats s now.turn ≡ due s line now.turn
  line_due line xs is =
      append_assoc xs (copies s line now.turn) (beats s now.turn)
      ∙ ap (λ (ds : List (List ℕ)). ds ++ (copies s line now.turn ++ beats s now.turn)) is
      ∙ sym (due_more s line now.turn some)

  pub sent_to : IsSentTo s now.turn (after_due_beat s (copied s now.turn now))
  sent_to = by (is_tenth now.turn) refl
    where
      by : (b : Bool) → is_tenth now.turn ≡ b → IsSentTo s now.turn (cond b (after_beat s (copied s now.turn now)) (copied s now.turn now))
      by true tenth = record {
        on_a = ap (λ (bs : List (List ℕ)). (now.a.sent ++ copies s A now.turn) ++ bs) (sym (ap (λ (b : Bool). cond b (beat s now.turn ∷ []) []) tenth)) ∙ line_due A now.a.sent sent.on_a;
        on_b = ap (λ (bs : List (List ℕ)). (now.b.sent ++ copies s B now.turn) ++ bs) (sym (ap (λ (b : Bool). cond b (beat s now.turn ∷ []) []) tenth)) ∙ line_due B now.b.sent sent.on_b;
        ticked = (put_keeps_all (all_tick now.world)).seconds ∙ (tick_keeps now.world).seconds ∙ ap (λ (k : ℕ). k + 1) sent.ticked
            ∙ sym (ticks_more now.turn some ∙ ap (λ (b : Bool). cond b (ticks (now.turn - 1) + 1) (ticks (now.turn - 1))) tenth);
      }
      by false other = record {
        on_a = sym (append-nil (now.a.sent ++ copies s A now.turn)) ∙ ap (λ (bs : List (List ℕ)). (now.a.sent ++ copies s A now.turn) ++ bs) (sym (ap (λ (b : Bool). cond b (beat s now.turn ∷ []) []) other)) ∙ line_due A now.a.sent sent.on_a;
        on_b = sym (append-nil (now.b.sent ++ copies s B now.turn)) ∙ ap (λ (bs : List (List ℕ)). (now.b.sent ++ copies s B now.turn) ++ bs) (sym (ap (λ (b : Bool). cond b (beat s now.turn ∷ []) []) other)) ∙ line_due B now.b.sent sent.on_b;
        ticked = sent.ticked ∙ sym (ticks_more now.turn some ∙ ap (λ (b : Bool). cond b (ticks (now.turn - 1) + 1) (ticks (now.turn - 1))) other);
      }

-- no `next` and no `take` was called
answers_still : (s : Setting) (turn : ℕ) (now : Scene) (place : Place) → answers_of place (after_due_beat s (copied s turn now)) ≡ answers_of place now
answers_still s turn now place = grind arith

pub uncalled_then : (s : Setting) (turn : ℕ) (now : Scene) → IsUncalled now → IsUncalled (after_due_beat s (copied s turn now))
uncalled_then s turn now none place = answers_still s turn now place ∙ none place

pub turn_then : (s : Setting) (turn : ℕ) (now : Scene) → (after_due_beat s (copied s turn now)).turn ≡ now.turn
turn_then s turn now = grind arith

-- ---- What was asked in a turn, and what is still to be
-- the places in the order in which a turn asks them
abbrev pub number_of : Place → ℕ
number_of (TheEnd GrpServer) = 0
number_of (TheEnd SpinServer) = 1
number_of (TheLine A) = 2
number_of (TheLine B) = 3
number_of (TheLine Gap) = 4
number_of (TheEnd GrpClient) = 5
number_of (TheEnd SpinClient) = 6

abbrev places : List Place
places = TheEnd GrpServer ∷ TheEnd SpinServer ∷ TheLine A ∷ TheLine B ∷ TheLine Gap ∷ TheEnd GrpClient ∷ TheEnd SpinClient ∷ []

same_number : (p q : Place) → number_of p ≡ number_of q → p ≡ q
same_number p q same = grind arith

numbered : (k : ℕ) (d : Place) → k < 7 → number_of (get_or places k d) ≡ k
numbered k d few = grind arith

below_seven : (place : Place) → number_of place < 7
below_seven place = grind arith

stays_over : (other place : Place) (now after : Scene) → Asks place now after → (other ≡ place → ⊥) → IsPlaceOver other now → IsPlaceOver other after
stays_over (TheLine line) place now after asks apart over opened = over (ap is_group_open (sym (asks.others (TheLine line) apart)) ∙ opened)
stays_over (TheEnd at) place now after asks apart over opened = asks.done at (over (ap is_group_open (sym (asks.others (TheEnd at) apart)) ∙ opened))

module _ {V : Type 0} (is : V → VenueState → Type 0) (s : Setting) (base : List Call) where
  -- in a turn so many places were asked
  pub record InTurn (calls : Option (List Call)) (stage : Stage V) (turn count : ℕ) : Type 0 where
    pub now : Scene
    pub at : DemoAt is s base calls stage now
    pub turn_is : now.turn ≡ turn
    pub sent : IsSentTo s turn now
    pub over : (place : Place) → number_of place < count → IsPlaceOver place now
    pub uncalled : (place : Place) → count ≤ number_of place → answers_of place now ≡ []

  pub in_turn : (calls : Option (List Call)) (stage : Stage V) (turn : ℕ) → TurnGoes is s base calls stage turn → InTurn calls stage turn 0
  in_turn calls stage turn goes = record {
    now = goes.now;
    at = goes.at;
    turn_is = goes.turn_is;
    sent = goes.sent;
    over = λ place none. absurd (omega (arith, none));
    uncalled = λ place all. goes.uncalled place;
  }

  -- one place more
  module _ (turn k : ℕ) (d : Place) (few : k < 7) (calls : Option (List Call)) (stage : Stage V) (g : InTurn calls stage turn k) where
    abbrev next : Place
    next = get_or places k d

    pub next_uncalled : answers_of next g.now ≡ []
    next_uncalled = let here = numbered k d few in g.uncalled next (omega (arith, here))

    pub asks_next : (calls' : Option (List Call)) (stage' : Stage V) → AsksAll is s base calls' stage' next g.now → InTurn calls' stage' turn (k + 1)
    asks_next calls' stage' then = let here = numbered k d few in record {
      now = then.after;
      at = then.at;
      turn_is = then.asks.turn_is ∙ g.turn_is;
      sent = record { on_a = then.asks.on_a ∙ g.sent.on_a; on_b = then.asks.on_b ∙ g.sent.on_b; ticked = then.asks.ticked ∙ g.sent.ticked };
      over = λ other before. elim (cases_eq (number_of other) k) [
        | inl same ↦ subst (λ (p : Place). IsPlaceOver p then.after) (same_number next other (here ∙ sym same)) then.over
        | inr apart ↦ stays_over other next g.now then.after then.asks (λ e. apart (ap number_of e ∙ here)) (g.over other (omega (arith, before, apart)))
      ];
      uncalled = λ other after. then.asks.others other (λ e. absurd (omega (arith, after, here, ap number_of e))) ∙ g.uncalled other (omega (arith, after));
    }

  -- all were asked
  pub turn_ends : (calls : Option (List Call)) (stage : Stage V) (turn count : ℕ) → count ≡ 7 → InTurn calls stage turn count → TurnEnds is s base calls stage turn
  turn_ends calls stage turn count all g = record {
    now = g.now;
    at = g.at;
    turn_is = g.turn_is;
    over = record {
      lines = λ line. closed (is_group_open (line_in line g.now).answers) (g.over (TheLine line) (omega (arith, all, below_seven (TheLine line))));
      ends = λ at. g.over (TheEnd at) (omega (arith, all, below_seven (TheEnd at)));
      on_a = sent.on_a;
      on_b = sent.on_b;
      ticked = sent.ticked;
      put = g.at.put;
      replayed = g.at.replayed;
    };
  }
    where
      sent : IsSentTo s g.now.turn g.now
      sent = subst (λ (t : ℕ). IsSentTo s t g.now) (sym g.turn_is) g.sent

      closed : (b : Bool) → (b ≡ true → false ≡ true) → b ≡ false
      closed true over = sym (over refl)
      closed false over = refl
