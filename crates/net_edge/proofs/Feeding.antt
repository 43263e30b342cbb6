-- What a run sends on the lines are pieces of the venue's feed.
use Rattle.std.proofs.Common.{◌≡◌, ℕ, ◌+◌, ◌-◌, ◌++◌, List, [], ◌∷◌, length, drop, sym, ap, ◌∙◌, subst, arith}
use Rattle.std.specs.List.{AllByRecursion}
use Rattle.std.proofs.lemmas.List.{take-append-drop}
use Rattle.pitch_fields.proofs.Lists.{all_split}
use Rattle.pitch_io.specs.declared.line.Line.{Line}
use Rattle.pitch_io.specs.declared.line.Line.TheVariants.{A, B, Gap}
use Rattle.pitch_io.specs.declared.net.LinkEnd.TheVariants.{GrpClient}
use Rattle.pitch_io.specs.Nets.{Send, Next, Put, Take}
use Rattle.pitch_messages.specs.Raw.{IsRaw}
use Rattle.pitch_model.specs.History.{Raw}
use Rattle.heard_items.specs.Datagrams.{IsPiece}
use Rattle.heard_items.proofs.Datagrams.{piece_more}
use Rattle.venue_core.specs.Plan.{plan}
use Rattle.venue_core.proofs.PlanBooks.{plan_length}
use Rattle.venue_core.proofs.PlanBytes.{plan_prefix}
use Rattle.grp_session.proofs.Pieces.{Pieces, pieces_append}
use Rattle.net_edge.specs.Acting.{scene_after, scene_of}
use Rattle.net_edge.specs.Demo.{all_messages}
use Rattle.net_edge.specs.Due.{Setting, IsDuePiece, demo_unit, accepted, messages}
use Rattle.net_edge.specs.Scene.{Scene, line_in}
use Rattle.net_edge.specs.Steps.{Step, Did, Beat}
use Rattle.net_edge.specs.Turns.{AreSteps, MayCome}

-- ---- The plan's messages
-- the messages that are accepted after a turn
abbrev pub later_messages : Setting → ℕ → List Raw
later_messages s turn = drop (accepted s turn) (all_messages s)

pub messages_first : (s : Setting) (turn : ℕ) → all_messages s ≡ messages s turn ++ later_messages s turn
messages_first s turn =
    let k : ℕ = accepted s turn in
    let e : k + (s.count - k) ≡ s.count = omega arith in
    subst (λ (n : ℕ). plan s.number demo_unit n ≡ plan s.number demo_unit k ++ drop k (plan s.number demo_unit n)) e
    (sym (take-append-drop k (plan s.number demo_unit (k + (s.count - k)))) ∙ ap (λ (rs : List Raw). rs ++ drop k (plan s.number demo_unit (k + (s.count - k)))) (plan_prefix s.number demo_unit k (s.count - k)))

pub all_many : (s : Setting) → length (all_messages s) ≡ s.count
all_many s = plan_length s.number demo_unit s.count

-- ---- Where they are raws
pub raws_at : (s : Setting) → AllByRecursion IsRaw (all_messages s) → (turn : ℕ) → AllByRecursion IsRaw (messages s turn)
raws_at s raws turn = (all_split IsRaw (messages s turn) (later_messages s turn) (subst (AllByRecursion IsRaw) (messages_first s turn) raws)).0

-- ---- What was sent
module _ (s : Setting) where
  pub piece_of_all : (turn : ℕ) (datagram : List ℕ) → IsDuePiece s turn datagram → IsPiece (all_messages s) demo_unit datagram
  piece_of_all turn datagram piece =
      subst (λ (V : List Raw). IsPiece V demo_unit datagram) (sym (messages_first s turn)) (piece_more (messages s turn) (later_messages s turn) demo_unit datagram piece)

  abbrev AreSentPieces : Scene → Type 0
  AreSentPieces n = Pieces (all_messages s) demo_unit n.a.sent × Pieces (all_messages s) demo_unit n.b.sent × Pieces (all_messages s) demo_unit n.gap.sent

  one_more : (sent : List (List ℕ)) (datagram : List ℕ) (turn : ℕ) → Pieces (all_messages s) demo_unit sent → IsDuePiece s turn datagram → Pieces (all_messages s) demo_unit (sent ++ datagram ∷ [])
  one_more sent datagram turn are piece = pieces_append (all_messages s) demo_unit sent (datagram ∷ []) are (piece_of_all turn datagram piece, tt)

  -- a step sends a piece or nothing
  sends_pieces : (step : Step) (n : Scene) → MayCome s step n → AreSentPieces n → AreSentPieces (scene_after s step n)
  sends_pieces (Did (Send A datagram answer)) n may p = (one_more n.a.sent datagram n.turn p.0 may.1, p.1, p.2)
  sends_pieces (Did (Send B datagram answer)) n may p = (p.0, one_more n.b.sent datagram n.turn p.1 may.1, p.2)
  sends_pieces (Did (Send Gap datagram answer)) n may p = (p.0, p.1, one_more n.gap.sent datagram n.turn p.2 may.1)
  sends_pieces (Beat heartbeat answer) n may p = (p.0, one_more n.b.sent heartbeat n.turn p.1 may.3, p.2)
  sends_pieces (Did (Next A room bytes answer)) n may p = p
  sends_pieces (Did (Put GrpClient piece answer)) n may p = p
  sends_pieces (Did (Take GrpClient room bytes answer)) n may p = p
  sends_pieces step n may p = p

  all_sent : (run : List Step) → AreSteps s run → AreSentPieces (scene_of s run)
  all_sent [] steps = (tt, tt, tt)
  all_sent (step ∷ before) steps = sends_pieces step (scene_of s before) steps.0 (all_sent before steps.1)

  -- what a run sent are pieces
  pub sent_pieces : (run : List Step) → AreSteps s run → (line : Line) → Pieces (all_messages s) demo_unit (line_in line (scene_of s run)).sent
  sent_pieces run steps A = (all_sent run steps).0
  sent_pieces run steps B = (all_sent run steps).1
  sent_pieces run steps Gap = (all_sent run steps).2
