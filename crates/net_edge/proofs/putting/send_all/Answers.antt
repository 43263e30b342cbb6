use Rattle.std.proofs.Common.{rules, ◌∷◌, [], length, take, refl, ◌∙◌, arith}
use Rattle.std.proofs.lemmas.List.{take_all}
use Rattle.std.proofs.lemmas.Option.{slice_get_read}
use Rattle.unit_packets.proofs.Packs.{bytes_more, bytes_at}
use Rattle.pitch_model.proofs.Results.{at_exit}
use Rattle.unit_packets.specs.Packing.{bytes_in}
use Rattle.net_edge.specs.Acting.{sent_on}
use Rattle.net_edge.specs.Due.{IsDuePiece}
use Rattle.net_edge.proofs.Runs.{sent_none, sent_both, sent_in_turn}
use Rattle.net_edge.proofs.putting.send_all.Goals as goal

pub sends-init : goal.sends-init
sends-init g c = record {
  plays = λ s base now plays pieces. rw sent_none plays;
  still = refl;
}

pub sends-preserved : goal.sends-preserved
sends-preserved g c =
    let i = c.sends.datagram-index in
    let all = c.args.datagrams.now in
    let item = c.datagram-item.result in
    let at = slice_get_read all (length all) i item refl (search rules) c.datagram-item.is in
    record {
      plays = λ s base now plays pieces.
          let sent = bytes_in (take i all) in
          let piece : IsDuePiece s (sent_on c.args.line sent now).turn c.bytes.result.now = rw (← sent_in_turn c.args.line sent now, c.bytes.ensures) (bytes_at (IsDuePiece s now.turn) all i item at pieces) in
          rw (bytes_more all i item at, ← sent_both c.args.line sent (item.items ∷ []) now, ← c.bytes.ensures)
          (c.in_ok-send.ensures.sent s base (sent_on c.args.line sent now) (c.sends.invariant.plays s base now plays pieces) piece);
      still = c.in_ok-send.ensures.faults.still ∙ c.sends.invariant.still;
    }

pub returns-clause-sent : goal.returns-clause-sent
returns-clause-sent g c = λ s base now plays pieces. rw (take_all c.sends.datagram-index c.args.datagrams.now (omega arith)) at (c.sends.invariant.plays s base now plays pieces)

pub returns-in_err-send-clause-broke : goal.returns-in_err-send-clause-broke
returns-in_err-send-clause-broke g c =
    let i = c.sends.datagram-index in
    let all = c.args.datagrams.now in
    let item = c.datagram-item.result in
    let at = slice_get_read all (length all) i item refl (search rules) c.datagram-item.is in
    at_exit _ c.from_residual.result _ c.from_residual.ensures
    (λ s base now plays pieces.
    let sent = bytes_in (take i all) in
    let piece : IsDuePiece s (sent_on c.args.line sent now).turn c.bytes.result.now = rw (← sent_in_turn c.args.line sent now, c.bytes.ensures) (bytes_at (IsDuePiece s now.turn) all i item at pieces) in
    c.in_err-send.ensures.broke s base (sent_on c.args.line sent now) (c.sends.invariant.plays s base now plays pieces) piece)
