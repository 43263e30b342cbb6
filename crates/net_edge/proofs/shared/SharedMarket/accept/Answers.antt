use Rattle.std.proofs.Common.{◌≡◌, ◌∙◌, sym, ap}
use Rattle.std.specs.Option.{option_copied}
use Rattle.venue_core.specs.Commands.{raw_of}
use Rattle.net_edge.proofs.Sharing.{accepted_is, accepted_there, accepts}
use Rattle.net_edge.proofs.shared.SharedMarket.accept.Goals as goal

pub unreachable-requires : goal.unreachable-requires
unreachable-requires g c =
    accepted_there c.self.inside.writer.history c.accept.new.self.history (raw_of c.args.command.now) c.in-Ok.ensures.history (sym (ap option_copied c.in_default-last_raw.is) ∙ c.last_raw.ensures)

pub returns-clause-raw : goal.returns-clause-raw
returns-clause-raw g c =
    c.copy.ensures
    ∙ accepted_is c.self.inside.writer.history c.accept.new.self.history (raw_of c.args.command.now) c.in-Some-last_raw.raw.now c.in-Ok.ensures.history (sym (ap option_copied c.in-Some-last_raw.is) ∙ c.last_raw.ensures)

pub returns-clause-accepts : goal.returns-clause-accepts
returns-clause-accepts g c = λ j.
    let raw_is : c.in-Some-last_raw.raw.now ≡ raw_of c.args.command.now =
    accepted_is c.self.inside.writer.history c.accept.new.self.history (raw_of c.args.command.now) c.in-Some-last_raw.raw.now c.in-Ok.ensures.history (sym (ap option_copied c.in-Some-last_raw.is) ∙ c.last_raw.ensures) in
    rw (← c.self.view_is) (accepts c.self.inside.writer c.accept.new.self c.args.command.now c.in-Ok.field-0 j (rw c.in-Ok.is at c.accept.ensures.answer)
    c.in-Ok.ensures.reaches c.in-Ok.ensures.history (rw raw_is at c.bytes.ensures.raw) (rw (c.bytes.ensures.bytes, raw_is) at c.are_bytes.ensures))
