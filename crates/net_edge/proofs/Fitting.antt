-- No datagram that a demo sends is longer than a packer makes one.
use Rattle.std.proofs.Common.{◌≡◌, ℕ, zero, suc, ◌+◌, ◌-◌, ◌≤◌, ◌++◌, eqb, List, [], ◌∷◌, length, drop, arith, length-append, sym, subst}
use Rattle.std.specs.List.{AllByRecursion, concat}
use Rattle.std.proofs.lemmas.Bool.{cond_both}
use Rattle.pitch_fields.proofs.Lists.{all_take, all_drop}
use Rattle.pitch_io.specs.declared.line.Line.{Line}
use Rattle.pitch_io.specs.declared.line.Line.TheVariants.{A}
use Rattle.pitch_io.specs.declared.net.LinkEnd.TheVariants.{GrpClient, GrpServer, SpinClient, SpinServer}
use Rattle.pitch_io.specs.declared.net.NetTaken.TheVariants.{Got}
use Rattle.pitch_io.specs.Nets.{Send, Next, Put, Take}
use Rattle.pitch_messages.specs.Raw.{IsRaw}
use Rattle.unit_packets.specs.Blocks.{Block}
use Rattle.unit_packets.specs.BlockBytes.{block_bytes, header_bytes}
use Rattle.unit_packets.specs.Lending.{header_for}
use Rattle.unit_packets.specs.Packing.{datagram_size, fits_datagram, begun_datagrams, packed_on, packed, sequence_after}
use Rattle.unit_packets.proofs.Packs.{fits_of, one_fits}
use Rattle.pitch_model.specs.History.{Raw}
use Rattle.gap_store.specs.Look.{View, slice_of}
use Rattle.grp_session.specs.Asking.{datagrams_of}
use Rattle.venue_core.specs.Losses.{is_lost}
use Rattle.pitch_text.specs.declared.verb.Session.TheVariants.{Grp, Spin}
use Rattle.venue_end.specs.Sessions.{session_of}
use Rattle.world_model.specs.Ends.{the_session}
use Rattle.net_edge.specs.Acting.{is_group_open, scene_after, scene_of}
use Rattle.net_edge.specs.Demo.{all_messages, AreShort}
use Rattle.net_edge.specs.Due.{Setting, demo_unit, accepted, messages, new_datagrams, copies, line_number, beat, beats, is_tenth, due}
use Rattle.net_edge.specs.Scene.{Scene, connected}
use Rattle.net_edge.specs.Steps.{Step, Did, Beat, Turn}
use Rattle.net_edge.proofs.Feeding.{raws_at}
use Rattle.net_edge.proofs.Proxying.{answers_in_fit}
use Rattle.net_edge.proofs.Standing.{stood}
use Rattle.net_edge.proofs.Starting.{publishes}
use Rattle.net_edge.proofs.Taking.{heard_replayed, link_replayed, served_replayed, ticked_replayed}

short_append : (xs ys : List (List ℕ)) → AreShort xs → AreShort ys → AreShort (xs ++ ys)
short_append [] ys a b = b
short_append (x ∷ xs) ys a b = (a.0, short_append xs ys a.1 b)

-- ---- What a packer makes
block_long : (block : Block) → length (block_bytes block) ≡ 8 + length (concat block.raws)
unfolding block_bytes
block_long block = length-append (header_bytes (header_for block)) (concat block.raws)

begun_short : (unit sequence : ℕ) (begun : List Raw) → 8 + length (concat begun) ≤ datagram_size → AreShort (begun_datagrams unit sequence begun)
begun_short unit sequence [] fits = tt
begun_short unit sequence (raw ∷ raws) fits = let long = block_long (record { unit = unit; sequence = sequence; raws = raw ∷ raws }) in (omega (arith, long, fits), tt)

packed_short : (raws : List Raw) (unit sequence : ℕ) (begun : List Raw) → AllByRecursion IsRaw raws → 8 + length (concat begun) ≤ datagram_size → AreShort (packed_on unit sequence begun raws)
unfolding packed_on
packed_short [] unit sequence begun are fits = begun_short unit sequence begun fits
packed_short (raw ∷ raws) unit sequence begun are fits = cond_both (fits_datagram (begun ++ raw ∷ [])) _ _ AreShort
    (λ is. packed_short raws unit sequence (begun ++ raw ∷ []) are.1 (fits_of (begun ++ raw ∷ []) is).size)
    (λ is. short_append (begun_datagrams unit sequence begun) _ (begun_short unit sequence begun fits) (packed_short raws unit (sequence_after sequence (length begun)) (raw ∷ []) are.1 (fits_of (raw ∷ []) (one_fits raw are.0)).size))

-- ---- What the proxy sends
abbrev AreRawsOf : View → Type 0
AreRawsOf v = AllByRecursion IsRaw v.messages

range_short : (status unit first count : ℕ) (v : View) → AreRawsOf v → AreShort (datagrams_of status unit v first count)
range_short status unit first count v are = cond_both (eqb status 65) (packed unit first (slice_of v first count)) [] AreShort
    (λ e. packed_short (slice_of v first count) unit first [] (all_take IsRaw count (drop (first - 1) v.messages) (all_drop IsRaw (first - 1) v.messages are)) (omega arith)) (λ e. tt)

-- ---- Where the venue's messages are raws
module _ (s : Setting) (raws : AllByRecursion IsRaw (all_messages s)) where
  turn_short : (line : Line) (turn : ℕ) → AreShort (copies s line turn ++ beats s turn)
  turn_short line turn = short_append (copies s line turn) (beats s turn)
      (cond_both (is_lost s.number demo_unit turn (line_number line)) [] (new_datagrams s turn) AreShort (λ e. tt)
      (λ e. packed_short (drop (accepted s (turn - 1)) (messages s turn)) demo_unit (accepted s (turn - 1) + 1) [] (all_drop IsRaw (accepted s (turn - 1)) (messages s turn) (raws_at s raws turn)) (omega arith)))
      (cond_both (is_tenth turn) (beat s turn ∷ []) [] AreShort (λ e. let long = block_long (record { unit = demo_unit; sequence = accepted s turn + 1; raws = [] }) in (omega (arith, long), tt)) (λ e. tt))

  pub due_short : (line : Line) (turn : ℕ) → AreShort (due s line turn)
  due_short line zero = tt
  due_short line (suc turn) = short_append (due s line turn) (copies s line (suc turn) ++ beats s (suc turn)) (due_short line turn) (turn_short line (suc turn))

  -- a step adds short ones to what the proxy has for the gap line
  replies_short : (step : Step) (n : Scene) → n.world.venue.messages ≡ messages s n.turn → AreShort n.world.replayed → AreShort (scene_after s step n).world.replayed
  replies_short (Did (Send A datagram answer)) n same p = p
  replies_short (Did (Put GrpClient piece answer)) n same p = p
  replies_short (Did (Next A room bytes answer)) n same p = subst AreShort (sym (heard_replayed A bytes answer n.world)) p
  replies_short (Did (Next line room bytes answer)) n same p = subst AreShort (sym (heard_replayed line bytes answer n.world)) p
  replies_short (Did (Take GrpServer room bytes (Got count))) n same p = short_append n.world.replayed _ p
      (answers_in_fit AreShort tt short_append AreRawsOf range_short n.world.venue bytes (session_of the_session n.world.venue.proxies) (subst (AllByRecursion IsRaw) (sym same) (raws_at s raws n.turn))).1
  replies_short (Did (Take SpinServer room bytes answer)) n same p = subst AreShort (sym (served_replayed bytes answer (is_group_open (answer ∷ n.spin_server.answers)) n.world)) p
  replies_short (Did (Take GrpClient room bytes answer)) n same p = subst AreShort (sym (link_replayed Grp bytes answer n.world)) p
  replies_short (Did (Take SpinClient room bytes answer)) n same p = subst AreShort (sym (link_replayed Spin bytes answer n.world)) p
  replies_short (Beat heartbeat answer) n same p = subst AreShort (sym (ticked_replayed n.world)) p
  replies_short Turn n same p = subst AreShort (sym (publishes s (suc n.turn) n.world).replayed) p
  replies_short step n same p = p

  pub replied_short : s.count ≤ 1000 → (run : List Step) → AreShort (scene_of s run).world.replayed
  replied_short few [] = subst AreShort (sym (publishes s 1 connected).replayed) tt
  replied_short few (step ∷ run) = replies_short step (scene_of s run) (stood s few run).sent.accepted (replied_short few run)
