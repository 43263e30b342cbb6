use Rattle.pitch_model.proofs.Results.{on_ok_map, on_err_map}
use Rattle.stream_print.specs.Putting.{PutsSome}
use Rattle.pitch_io.specs.Putting.{Grows}
use Rattle.live_units.specs.Coming.{live_lines}
use Rattle.live_units.specs.Units.{OfLive}
use Rattle.live_units.proofs.Ending.{lines_begun, lines_written, stand_flushed}
use Rattle.live_units.proofs.Growing.{grown_flushed}
use Rattle.live_units.proofs.units.LiveUnits.flush.Goals as goal

pub returns-clause-stand : goal.returns-clause-stand
returns-clause-stand g c = stand_flushed c.args.self.now (g.O.Sink.written c.args.out.now) (g.O.Sink.written c.flush.new.out) c.flush.new.self c.flush.result c.flush.ensures.ok c.flush.ensures.empty

pub returns-clause-written : goal.returns-clause-written
returns-clause-written g c =
    let w = g.O.Sink.written c.args.out.now in
    let v = g.O.Sink.written c.flush.new.out in
    on_ok_map (Grows w v c.args.self.now.page.text) (OfLive c.args.self.now w (λ s start came. Grows start v (live_lines s came))) _ c.flush.ensures.ok
    (λ grows. lines_written c.args.self.now w v c.flush.new.self grows)

pub returns-clause-err : goal.returns-clause-err
returns-clause-err g c =
    let w = g.O.Sink.written c.args.out.now in
    let v = g.O.Sink.written c.flush.new.out in
    on_err_map (PutsSome w v c.args.self.now.page.text) (OfLive c.args.self.now w (λ s start came. PutsSome start v (live_lines s came))) _ c.flush.ensures.err
    (λ puts. lines_begun c.args.self.now w v c.flush.new.self puts)

pub returns-clause-grows : goal.returns-clause-grows
returns-clause-grows g c = λ s start came st. grown_flushed (g.O.Sink.written c.args.out.now) (g.O.Sink.written c.flush.new.out) c.args.self.now.page.text c.flush.result c.flush.ensures.ok c.flush.ensures.err
