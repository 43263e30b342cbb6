-- Over a net that carried what it was given, what the client heard is of the venue's messages.
use Rattle.std.proofs.Common.{◌≡◌, ◌≤◌, ◌<◌, ◌+◌, ◌==◌, ℕ, suc, Bool, List, [], ◌∷◌, ◌++◌, length, take, drop, refl, sym, ap, ◌∙◌, subst, arith, append_assoc}
use Rattle.std.specs.Prelude.{Contains, nat_le}
use Rattle.std.specs.List.{AllByRecursion}
use Rattle.std.proofs.lemmas.Bool.{cond_both}
use Rattle.std.proofs.lemmas.List.{append-nil, take-append-drop}
use Rattle.std.proofs.lemmas.List.Elements.{All-contains_itself, All-filter, All-from_recursion, recursion_from_All}
use Rattle.std.proofs.Math.Seq.{take-append-add}
use Rattle.pitch_fields.specs.Limits.{last_sequence}
use Rattle.pitch_fields.proofs.Lists.{all_follows, all_split}
use Rattle.pitch_io.specs.declared.line.Line.{Line}
use Rattle.pitch_io.specs.declared.line.Line.TheVariants.{A, B, Gap}
use Rattle.pitch_io.specs.declared.net.LinkEnd.TheVariants.{GrpClient, GrpServer, SpinClient, SpinServer}
use Rattle.pitch_io.specs.declared.net.NetTaken.{NetTaken}
use Rattle.pitch_io.specs.declared.net.NetTaken.TheVariants.{Got, End}
use Rattle.pitch_io.specs.declared.sink.Put.{Put as PutAnswer}
use Rattle.pitch_io.specs.declared.sink.Put.TheVariants as puts
use Rattle.pitch_io.specs.Nets.{Send, Next, Put, Take}
use Rattle.pitch_model.specs.History.{Raw}
use Rattle.pitch_model.specs.Honest.{Honest}
use Rattle.pitch_model.specs.Image.{image}
use Rattle.pitch_text.specs.declared.verb.Session.{Session}
use Rattle.pitch_text.specs.declared.verb.Session.TheVariants.{Grp, Spin}
use Rattle.pitch_text.specs.declared.verb.Verb.TheVariants as verbs
use Rattle.unit_packets.specs.Blocks.{Block}
use Rattle.unit_packets.specs.Cutting.{blocks_of}
use Rattle.heard_items.specs.Datagrams.{IsPiece, IsVenueBlock}
use Rattle.client_end.specs.Came.{Came, EndState, Heard, GrpCut, GrpTook, end_after, end_step}
use Rattle.client_end.specs.Came as client
use Rattle.sending_end.specs.Waiting.{of_unit, took}
use Rattle.grp_session.proofs.Pieces.{Pieces}
use Rattle.venue_core.specs.Plan.{plan_command}
use Rattle.venue_core.proofs.PlanBytes.{plan_bytes}
use Rattle.venue_end.specs.Came.{VenueCame, VenueState, Commanded, Flushed, Advertised, SpinPumped, Second, venue_after, venue_step}
use Rattle.venue_end.specs.Sessions.{session_of, waiting_in}
use Rattle.served_laws.specs.Coming.{ComesFrom, IsSaid, MayCome, spin_bytes}
use Rattle.served_laws.specs.Putting.{put_of}
use Rattle.served_laws.proofs.Beside.{all_contained, prefix_on}
use Rattle.served_laws.proofs.Hearing.{served_is_whole}
use Rattle.served_laws.proofs.Putting.{put_is_said}
use Rattle.world_model.specs.Ends.{at_client, default_limits, server_cut, server_made, server_put, server_took, the_session}
use Rattle.world_model.specs.State.{State}
use Rattle.world_model.specs.Verbs.{client_has, ends, hears, hears_block, seconds, settled}
use Rattle.net_edge.specs.Acting.{bytes_put, came_by, heard_by, is_group_open, link_takes, scene_after, scene_of, server_answers, server_takes}
use Rattle.net_edge.specs.Demo.{IsCarried, all_messages}
use Rattle.net_edge.specs.Due.{Setting, accepted, demo_unit}
use Rattle.net_edge.specs.Scene.{Scene, connected, done_with, line_in, published}
use Rattle.net_edge.specs.Steps.{Step, Did, Beat, Turn}
use Rattle.net_edge.specs.Turns.{AreSteps, MayCome as MayStep}
use Rattle.net_edge.specs.layers.Ends.{demo_client, demo_venue}
use Rattle.net_edge.proofs.Feeding.{all_many, sent_pieces}
use Rattle.net_edge.proofs.Moving.{serves_on, settles}
use Rattle.net_edge.proofs.Standing.{stood}

-- ---- The venue's end
-- it stands for all that came to it, and this was put of what the Spin Server said
pub record VenueCameTo (now : VenueState) (put : List ℕ) : Type 0 where
  pub came : List VenueCame
  pub now_is : now ≡ venue_after demo_venue came
  pub put_is : put_of demo_venue the_session came ≡ put

-- something more came, by which nothing was put
venue_had : (new : VenueCame) {now : VenueState} {put : List ℕ} → ((before : List VenueCame) → put_of demo_venue the_session (new ∷ before) ≡ put_of demo_venue the_session before) → VenueCameTo now put → VenueCameTo (venue_step demo_venue new now) put
venue_had new still is = record { came = new ∷ is.came; now_is = ap (venue_step demo_venue new) is.now_is; put_is = still is.came ∙ is.put_is }

cut_came : (session : Session) {now : VenueState} {put : List ℕ} → VenueCameTo now put → VenueCameTo (venue_step demo_venue (server_cut session) now) put
cut_came Grp is = venue_had (server_cut Grp) (λ b. refl) is
cut_came Spin is = venue_had (server_cut Spin) (λ b. refl) is

-- some of what waits is put
take_written : (answer : PutAnswer) (piece later : List ℕ) → take (length (bytes_put answer piece)) (piece ++ later) ≡ bytes_put answer piece
take_written puts.Failed piece later = refl
take_written (puts.Wrote count) piece later =
    let whole : piece ++ later ≡ take count piece ++ (drop count piece ++ later) = ap (λ (l : List ℕ). l ++ later) (sym (take-append-drop count piece)) ∙ append_assoc (take count piece) (drop count piece) later in
    let sum : length (take count piece) + 0 ≡ length (take count piece) = omega arith in
    ap (take (length (take count piece))) whole ∙ ap (λ (k : ℕ). take k (take count piece ++ (drop count piece ++ later))) (sym sum)
    ∙ take-append-add (take count piece) (drop count piece ++ later) 0 ∙ append-nil (take count piece)

put_came : (answer : PutAnswer) (piece later : List ℕ) (now : VenueState) (put : List ℕ) → waiting_in (session_of the_session now.spins) ≡ piece ++ later → VenueCameTo now put
    → VenueCameTo (venue_step demo_venue (server_put Spin (length (bytes_put answer piece))) now) (put ++ bytes_put answer piece)
put_came answer piece later now put waits is =
    let count : ℕ = length (bytes_put answer piece) in
    let first : VenueState → List ℕ = λ v. take count (waiting_in (session_of the_session v.spins)) in
    let written : first (venue_after demo_venue is.came) ≡ bytes_put answer piece = ap first (sym is.now_is) ∙ ap (take count) waits ∙ take_written answer piece later in
    record {
      came = server_put Spin count ∷ is.came;
      now_is = ap (venue_step demo_venue (server_put Spin count)) is.now_is;
      put_is = ap (λ (l : List ℕ). l ++ first (venue_after demo_venue is.came)) is.put_is ∙ ap (λ (l : List ℕ). put ++ l) written;
    }

-- ---- Both ends, beside a venue of these messages
module _ (M : List Raw) where
  -- the client's end stands for all that came to it, and these bytes came by its session with the
  -- Spin Server; where G holds, all of it is the venue's
  pub record ClientCameTo (G : Type 0) (now : EndState) (bytes : List ℕ) : Type 0 where
    pub came : List Came
    pub now_is : now ≡ end_after demo_client came
    pub bytes_are : spin_bytes came ≡ bytes
    pub from : G → ComesFrom M demo_unit came

  weaker : {G F : Type 0} {now : EndState} {bytes : List ℕ} → (G → F) → ClientCameTo F now bytes → ClientCameTo G now bytes
  weaker back is = record { came = is.came; now_is = is.now_is; bytes_are = is.bytes_are; from = λ g. is.from (back g) }

  -- something more came, by which none of these bytes did
  client_had : (new : Came) {G : Type 0} {now : EndState} {bytes : List ℕ} → ((before : List Came) → spin_bytes (new ∷ before) ≡ spin_bytes before) → ((before : List Came) → G → MayCome M demo_unit new before) → ClientCameTo G now bytes
      → ClientCameTo G (end_step demo_client new now) bytes
  client_had new still may is = record { came = new ∷ is.came; now_is = ap (end_step demo_client new) is.now_is; bytes_are = still is.came ∙ is.bytes_are; from = λ g. (may is.came g, is.from g) }

  abbrev BothCameTo : Type 0 → List ℕ → List ℕ → State → Type 0
  BothCameTo G put bytes w = VenueCameTo w.venue put × ClientCameTo G w.client bytes

  -- where nothing of what was put or came is more
  module _ (G : Type 0) (put bytes : List ℕ) where
    settled_came : (session : Session) (w : State) → BothCameTo G put bytes w → BothCameTo G put bytes (settled demo_unit default_limits session w)
    settled_came session w is = settles (BothCameTo G put bytes) session w is (cut_came session is.0, is.1)

    answers_came : (session : Session) (piece : List ℕ) (answer : NetTaken) (w : State) → BothCameTo G put bytes w → BothCameTo G put bytes (server_answers session piece answer w)
    answers_came Grp piece (Got count) w is = (venue_had (server_took Grp piece) (λ b. refl) is.0, is.1)
    answers_came Spin piece (Got count) w is = (venue_had (server_took Spin piece) (λ b. refl) is.0, is.1)
    answers_came session piece answer w is = is

    serves_came : (piece : List ℕ) (answer : NetTaken) (goes_on : Bool) (w : State) → BothCameTo G put bytes w → BothCameTo G put bytes (server_takes Spin piece answer goes_on w)
    serves_came piece answer goes_on w is = serves_on (BothCameTo G put bytes) (λ v so. (venue_had (SpinPumped the_session) (λ b. refl) so.0, so.1)) piece answer goes_on w (answers_came Spin piece answer w is)

    grp_came : (piece : List ℕ) (answer : NetTaken) (w : State) → BothCameTo G put bytes w → BothCameTo G put bytes (link_takes Grp piece answer w)
    grp_came piece (Got count) w is = settled_came Grp (client_has demo_unit default_limits (took (at_client Grp) piece) w) (is.0, client_had (GrpTook piece) (λ b. refl) (λ b g. tt) is.1)
    grp_came piece End w is = (cut_came Grp is.0, client_had GrpCut (λ b. refl) (λ b g. tt) is.1)
    grp_came piece answer w is = is

    published_came : (s : Setting) (turn : ℕ) (w : State) → BothCameTo G put bytes w → BothCameTo G put bytes (published s turn w)
    published_came s turn w is =
        cond_both (nat_le turn s.count) _ w (BothCameTo G put bytes) (λ e. (venue_had Flushed (λ b. refl) (venue_had (Commanded (plan_command s.number demo_unit turn)) (λ b. refl) is.0), is.1)) (λ e. is)

    hears_came : (line : Line) (blocks : List Block) (w : State) → (G → AllByRecursion (IsVenueBlock M demo_unit) blocks) → BothCameTo G put bytes w → BothCameTo G put bytes (hears demo_unit default_limits line blocks w)
    hears_came line [] w all is = is
    hears_came line (block ∷ blocks) w all is =
        hears_came line blocks (hears_block demo_unit default_limits line block w) (λ g. (all g).1) (is.0, client_had (Heard block) (λ b. refl) (λ b g. (all g).0) is.1)

    -- the blocks of the demo's unit
    ours : (blocks : List Block) → AllByRecursion (IsVenueBlock M demo_unit) blocks → AllByRecursion (IsVenueBlock M demo_unit) (of_unit demo_unit blocks)
    ours blocks all = recursion_from_All (IsVenueBlock M demo_unit) (of_unit demo_unit blocks) (All-filter (λ (block : Block). block.unit == demo_unit) (IsVenueBlock M demo_unit) blocks (All-from_recursion (IsVenueBlock M demo_unit) blocks all))

    heard_came : (F : Type 0) (line : Line) (piece : List ℕ) (answer : NetTaken) (w : State) → (G → F × Pieces M demo_unit (came_by answer piece)) → BothCameTo F put bytes w → BothCameTo G put bytes (heard_by line piece answer w)
    heard_came F line piece (Got count) w parts is = hears_came line (of_unit demo_unit (blocks_of piece)) w (λ g. ours (blocks_of piece) (parts g).1.0.blocks) (is.0, weaker (λ g. (parts g).0) is.1)
    heard_came F line piece answer w parts is = (is.0, weaker (λ g. (parts g).0) is.1)

  -- ---- A run
  -- what came to the client is given to be the venue's
  abbrev GivenOf : List (List ℕ) → List (List ℕ) → List (List ℕ) → List ℕ → Type 0
  GivenOf a b gap bytes = Pieces M demo_unit a × Pieces M demo_unit b × Pieces M demo_unit gap × IsSaid M demo_unit bytes

  abbrev CameTo : Scene → Type 0
  CameTo n = BothCameTo (GivenOf n.a.came n.b.came n.gap.came n.spin_client.came) n.spin_server.put n.spin_client.came n.world

  said_before : (bytes piece : List ℕ) → IsSaid M demo_unit (bytes ++ piece) → IsSaid M demo_unit bytes
  said_before bytes piece said =
      record { setup = said.setup; server = said.server; unit_is = said.unit_is; happened = said.happened; served = said.served; begins = prefix_on bytes (bytes ++ piece) _ (piece, refl) said.begins }

  none_more : (a b gap : List (List ℕ)) (put bytes : List ℕ) (w : State) → BothCameTo (GivenOf a b gap bytes) put bytes w → BothCameTo (GivenOf a b gap (bytes ++ [])) put (bytes ++ []) w
  none_more a b gap put bytes w is = subst (λ (l : List ℕ). BothCameTo (GivenOf a b gap l) put l w) (sym (append-nil bytes)) is

  module _ (s : Setting) where
    came_more : (step : Step) (n : Scene) → MayStep s step n → CameTo n → CameTo (scene_after s step n)
    came_more (Did (Next A room bytes answer)) n may is =
        heard_came _ _ _ _ A bytes answer n.world (λ g. let all = all_split (IsPiece M demo_unit) n.a.came (came_by answer bytes) g.0 in ((all.0, g.1, g.2, g.3), all.1)) is
    came_more (Did (Next B room bytes answer)) n may is =
        heard_came _ _ _ _ B bytes answer n.world (λ g. let all = all_split (IsPiece M demo_unit) n.b.came (came_by answer bytes) g.1 in ((g.0, all.0, g.2, g.3), all.1)) is
    came_more (Did (Next Gap room bytes answer)) n may is =
        heard_came _ _ _ _ Gap bytes answer n.world (λ g. let all = all_split (IsPiece M demo_unit) n.gap.came (came_by answer bytes) g.2 in ((g.0, g.1, all.0, g.3), all.1)) is
    came_more (Did (Put GrpServer piece answer)) n may is = (venue_had (server_put Grp (length (bytes_put answer piece))) (λ b. refl) is.0, is.1)
    came_more (Did (Put SpinServer piece answer)) n may is = (put_came answer piece may.1.0 n.world.venue n.spin_server.put may.1.1 is.0, is.1)
    came_more (Did (Take GrpClient room bytes answer)) n may is = grp_came _ _ _ bytes answer n.world is
    came_more (Did (Take GrpServer room bytes answer)) n may is = answers_came _ _ _ Grp bytes answer n.world is
    came_more (Did (Take SpinServer room bytes answer)) n may is = serves_came _ _ _ bytes answer (is_group_open (answer ∷ n.spin_server.answers)) n.world is
    came_more (Did (Take SpinClient room bytes (Got count))) n may is = settled_came _ _ _ Spin (client_has demo_unit default_limits (took (at_client Spin) bytes) n.world) (
      is.0,
      record {
        came = client.SpinTook bytes ∷ is.1.came;
        now_is = ap (end_step demo_client (client.SpinTook bytes)) is.1.now_is;
        bytes_are = ap (λ (l : List ℕ). l ++ bytes) is.1.bytes_are;
        from = λ g. (subst (λ (l : List ℕ). IsSaid M demo_unit (l ++ bytes)) (sym is.1.bytes_are) g.3, is.1.from (g.0, g.1, g.2, said_before n.spin_client.came bytes g.3));
      },
    )
    came_more (Did (Take SpinClient room bytes End)) n may is =
        none_more n.a.came n.b.came n.gap.came _ n.spin_client.came (ends demo_unit default_limits Spin n.world) (cut_came Spin is.0, client_had client.SpinCut (λ b. refl) (λ b g. tt) is.1)
    came_more (Did (Take SpinClient room bytes answer)) n may is = none_more n.a.came n.b.came n.gap.came _ n.spin_client.came n.world is
    came_more (Beat heartbeat answer) n may is =
        let passed : State = seconds demo_unit default_limits (done_with verbs.Advertise n.world) in
        settled_came _ _ _ Spin (settled demo_unit default_limits Grp passed) (settled_came _ _ _ Grp passed
        (venue_had Second (λ b. refl) (venue_had Advertised (λ b. refl) is.0), client_had client.Second (λ b. refl) (λ b g. tt) is.1))
    came_more Turn n may is = published_came _ _ _ s (suc n.turn) n.world is
    came_more (Did (Send A datagram answer)) n may is = is
    came_more step n may is = is

    came_all : (run : List Step) → AreSteps s run → CameTo (scene_of s run)
    came_all [] steps = published_came _ _ _ s 1 connected
        (record { came = server_made Spin ∷ server_made Grp ∷ []; now_is = refl; put_is = refl }, record { came = client.SpinMade ∷ client.GrpMade ∷ []; now_is = refl; bytes_are = refl; from = λ g. (tt, (tt, tt)) })
    came_all (step ∷ before) steps = came_more step (scene_of s before) steps.0 (came_all before steps.1)

-- ---- So the client was told the truth
pub carried_is_honest : (s : Setting) (run : List Step) → s.count ≤ 1000 → AreSteps s run → s.count < (scene_of s run).turn → IsCarried (scene_of s run) → Honest image (all_messages s) (scene_of s run).world.client.heard
carried_is_honest s run few steps above carried =
    let R : Scene = scene_of s run in
    let M : List Raw = all_messages s in
    let both = came_all M s run steps in
    let every : accepted s R.turn ≡ s.count = omega (arith, above) in
    let all : (venue_after demo_venue both.0.came).messages ≡ M = ap (λ (v : VenueState). v.messages) (sym both.0.now_is) ∙ (stood s few run).sent.accepted ∙ ap (λ (n : ℕ). all_messages (record s { count = n })) every in
    let put : IsSaid M demo_unit R.spin_server.put =
    subst (λ (l : List ℕ). IsSaid M demo_unit l) both.0.put_is (subst (λ (V : List Raw). IsSaid V demo_unit (put_of demo_venue the_session both.0.came)) all (put_is_said demo_venue both.0.came the_session (omega arith))) in
    let pieces : (line : Line) → Pieces M demo_unit (line_in line R).came =
    λ line. let came = (line_in line R).came in
    all_follows (Contains came) (IsPiece M demo_unit) (λ d here. all_contained (IsPiece M demo_unit) (line_in line R).sent d (sent_pieces s run steps line) (carried.lines line d here)) came (recursion_from_All (Contains came) came (All-contains_itself came)) in
    let late = carried.ends SpinClient in
    let said : IsSaid M demo_unit R.spin_client.came = said_before M R.spin_client.came late.0 (subst (λ (l : List ℕ). IsSaid M demo_unit l) late.1 put) in
    let size : length M ≤ last_sequence = (let many = all_many s in omega (arith, many, few)) in
    subst (λ (e : EndState). Honest image M e.heard) (sym both.1.now_is)
    (served_is_whole M demo_client both.1.came (record { bytes = plan_bytes s.number demo_unit s.count (omega (arith, few)); top = size }) (both.1.from (pieces A, pieces B, pieces Gap, said))).honest
