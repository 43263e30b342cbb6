-- A scene with another end or another line.
use Rattle.std.proofs.Common.{◌≡◌, ◌⊎◌, ◌||◌, inl, inr, Bool, true, false, not, refl, ap, arith}
use Rattle.pitch_io.specs.declared.line.Line.{Line}
use Rattle.pitch_io.specs.declared.net.LinkEnd.{LinkEnd}
use Rattle.pitch_io.specs.declared.net.LinkEnd.TheVariants.{GrpClient, GrpServer, SpinClient, SpinServer}
use Rattle.world_model.specs.Ends.{stands}
use Rattle.net_edge.specs.Scene.{Scene, OnLine, AtEnd, at_end, is_done, line_in, session_at, with_end, with_line}
use Rattle.net_edge.specs.declared.turn.Place.{Place}
use Rattle.net_edge.specs.declared.turn.Place.TheVariants.{Line as TheLine, End as TheEnd}
use Rattle.net_edge.specs.layers.Playing.{answers_of}
use Rattle.net_edge.proofs.Keeping.{Keeps}

-- ---- Ends apart
pub same_end : (at other : LinkEnd) → (other ≡ at) ⊎ (other ≡ at → ⊥)
same_end GrpClient GrpClient = inl refl
same_end GrpServer GrpServer = inl refl
same_end SpinClient SpinClient = inl refl
same_end SpinServer SpinServer = inl refl
same_end at other = inr (λ e. cc)

module _ (now : Scene) where
  -- ---- Another end
  module _ (end : AtEnd) (at : LinkEnd) where
    pub at_turn : (with_end at end now).turn ≡ now.turn
    at_turn = grind arith

    pub at_world : (with_end at end now).world ≡ now.world
    at_world = grind arith

    pub at_line : (line : Line) → line_in line (with_end at end now) ≡ line_in line now
    at_line line = grind arith

    pub at_here : at_end at (with_end at end now) ≡ end
    at_here = grind arith

    pub at_other : (other : LinkEnd) → (other ≡ at → ⊥) → at_end other (with_end at end now) ≡ at_end other now
    at_other other apart = grind arith

    pub at_asked : (other : Place) → (other ≡ TheEnd at → ⊥) → answers_of other (with_end at end now) ≡ answers_of other now
    at_asked (TheLine line) apart = ap (λ (l : OnLine). l.answers) (at_line line)
    at_asked (TheEnd other) apart = ap (λ (e : AtEnd). e.answers) (at_other other (λ e. apart (ap TheEnd e)))

  -- ---- Another line
  module _ (on : OnLine) (line : Line) where
    pub on_turn : (with_line line on now).turn ≡ now.turn
    on_turn = grind arith

    pub on_world : (with_line line on now).world ≡ now.world
    on_world = grind arith

    pub on_end : (at : LinkEnd) → at_end at (with_line line on now) ≡ at_end at now
    on_end at = grind arith

    pub on_other : (other : Line) → (other ≡ line → ⊥) → line_in other (with_line line on now) ≡ line_in other now
    on_other other apart = grind arith

    pub on_asked : (other : Place) → (other ≡ TheLine line → ⊥) → answers_of other (with_line line on now) ≡ answers_of other now
    on_asked (TheLine other) apart = ap (λ (l : OnLine). l.answers) (on_other other (λ e. apart (ap TheLine e)))
    on_asked (TheEnd at) apart = ap (λ (e : AtEnd). e.answers) (on_end at)

    -- the datagrams that were sent stay
    pub on_sent : (other : Line) → on.sent ≡ (line_in line now).sent → (line_in other (with_line line on now)).sent ≡ (line_in other now).sent
    on_sent other same = grind arith

-- ---- What is asked no more
either_stays : (a b a' b' : Bool) → (a ≡ true → a' ≡ true) → (b ≡ false → b' ≡ false) → (a || not b) ≡ true → (a' || not b') ≡ true
either_stays true b a' b' ended gone done = grind (arith, ended refl)
either_stays false false a' b' ended gone done = grind (arith, gone refl)
either_stays false true a' b' ended gone done = absurd (cc)

-- an end that got End has got it, and a connection that was cut stays cut
pub done_stays : (at : LinkEnd) (now after : Scene) → ((at_end at now).ended ≡ true → (at_end at after).ended ≡ true) → Keeps now.world after.world → is_done at now ≡ true → is_done at after ≡ true
done_stays at now after ended keeps done = either_stays (at_end at now).ended (stands (session_at at) now.world.client) _ _ ended (keeps.gone (session_at at)) done
