use Rattle.std.proofs.Common.{inl, inr, ℕ, List, ◌++◌, refl, ap, ◌∙◌}
use Rattle.pitch_messages.specs.Room.{Roomy}
use Rattle.pitch_model.proofs.Results.{on_ok_map}
use Rattle.unit_packets.specs.Packing.{bytes_in}
use Rattle.venue_end.specs.Came.{on_gap_line}
use Rattle.venue_units.specs.Coming.{state_at}
use Rattle.venue_units.specs.Places.{cut_at, took_at, unit_of}
use Rattle.live_venue.specs.Running.{left, took}
use Rattle.live_venue.proofs.Adding.{serves_still, take_serves}
use Rattle.live_venue.proofs.queueing.hear_client.Goals as goal

pub returns-in-Ok : goal.returns-in-Ok
returns-in-Ok c = on_ok_map _ _ c.add.result c.add.ensures (λ added s now serve idle. (
  took s c.args.place c.args.piece.now now,
  (
    inl refl,
    take_serves c.args.units.now c.take.new.self c.args.outbox.now c.add.new.self c.args.place c.args.piece.now c.gap_line_of.result (bytes_in c.take.new.gap_line.items) added c.gap_line_of.ensures c.in-Ok.ensures.stands
        (λ made before setup st is. c.in-Ok.ensures.lines made before setup st is ∙ ap (λ (l : List (Roomy ℕ)). bytes_in l ++ on_gap_line setup (took_at c.args.place c.args.piece.now) (state_at setup (unit_of c.args.place) before)) c.make-ranges.ensures)
        c.in-Ok.ensures.pieces
        (λ made before st none. ap bytes_in (c.in-Ok.ensures.no_unit made before st none ∙ c.make-ranges.ensures))
        s now serve idle,
  ),
))

pub returns-in-Err : goal.returns-in-Err
returns-in-Err c = λ s now serve idle.
    (left c.args.place now, (inr refl, serves_still s c.take.new.self c.args.outbox.now now (unit_of c.args.place) (cut_at c.args.place) serve.queued (c.in-Err.ensures.err s now.came serve.stand)))
