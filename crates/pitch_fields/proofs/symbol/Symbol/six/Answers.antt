use Rattle.std.proofs.Common.{sym, ◌∙◌, ap}
use Rattle.pitch_fields.specs.Name.{six_of}
use Rattle.pitch_fields.proofs.Names.{six_left}
use Rattle.pitch_fields.proofs.symbol.Symbol.six.Goals as goal

pub returns : goal.returns
returns c = sym (six_left c.self.inside.bytes c.self.told c.if-g-ne32.false c.if-h-ne32.false) ∙ ap six_of c.self.view_is
