use Rattle.std.proofs.Common.{◌≡◌, ℕ, List, [], ◌∷◌, ◌++◌, ap, ◌∙◌}
use Rattle.pitch_messages.specs.Room.{Roomy}
use Rattle.pitch_model.proofs.Results.{on_ok_map}
use Rattle.unit_packets.specs.Packing.{bytes_in}
use Rattle.live_venue.specs.Standing.{all_outgoing, each_on}
use Rattle.live_venue.proofs.Adding.{beat_serves}
use Rattle.live_venue.proofs.queueing.beat_unit.Goals as goal

pub returns : goal.returns
returns c =
    let datagram : List ℕ = c.beat.result in
    let pushed : bytes_in c.push.new.self.items ≡ datagram ∷ [] =
    ap bytes_in (c.in_ok-push.ensures.ok ∙ ap (λ (l : List (Roomy ℕ)). l ++ c.in_ok-of_bytes.field-0 ∷ []) c.make-datagrams.ensures)
    ∙ ap (λ (bytes : List ℕ). bytes ∷ []) c.in_ok-of_bytes.ensures in
    on_ok_map _ _ c.add.result c.add.ensures (λ added.
    beat_serves c.args.units.now c.args.outbox.now c.add.new.self c.args.at c.both_lines.result datagram
    (added ∙ ap (λ (l : List (List ℕ)). all_outgoing c.args.outbox.now.batches.items ++ each_on c.both_lines.result l) pushed)
    c.both_lines.ensures c.beat.ensures.bytes c.beat.ensures.piece)
