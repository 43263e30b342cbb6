use Rattle.std.proofs.Common.{ℕ, List, ◌++◌, ap, ◌∙◌}
use Rattle.pitch_messages.specs.Room.{Roomy}
use Rattle.pitch_model.proofs.Results.{on_ok_map}
use Rattle.unit_packets.specs.Packing.{bytes_in}
use Rattle.venue_end.specs.Came.{Flushed, on_lines}
use Rattle.venue_units.specs.Coming.{state_at}
use Rattle.live_venue.proofs.Adding.{flush_serves}
use Rattle.live_venue.proofs.queueing.flush_unit.Goals as goal

pub returns : goal.returns
returns c = on_ok_map _ _ c.add.result c.add.ensures (λ added.
    flush_serves c.args.units.now c.flush.new.self c.args.outbox.now c.add.new.self c.args.at c.both_lines.result (bytes_in c.flush.new.lines.items) added c.both_lines.ensures c.in_ok-flush.ensures.stands
    (λ s came setup st is. c.in_ok-flush.ensures.lines s came setup st is ∙ ap (λ (l : List (Roomy ℕ)). bytes_in l ++ on_lines setup Flushed (state_at setup c.args.at came)) c.make-datagrams.ensures)
    c.in_ok-flush.ensures.pieces)
