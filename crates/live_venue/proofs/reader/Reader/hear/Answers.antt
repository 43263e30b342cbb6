use Rattle.std.proofs.Common.{◌≡◌}
use Rattle.unit_commands.specs.Pieces.{lines_passed, piece_pushed}
use Rattle.live_venue.proofs.Reading.{reads_piece}
use Rattle.live_venue.proofs.reader.Reader.hear.Goals as goal

pub returns-clause-read : goal.returns-clause-read
returns-clause-read c =
    let is : c.pass.new.self ≡ lines_passed (piece_pushed c.args.self.now c.args.piece.now) = cc (c.in-Ok.ensures.ok, c.pass.ensures, c.self.view_is) in
    reads_piece c.hear_lines-heard.result c.args.self.now c.pass.new.self c.args.piece.now is
