use Rattle.std.proofs.Common.{sym, ap, ◌∙◌}
use Rattle.harmed_venue.specs.declared.fate.Fate.{Fate}
use Rattle.harmed_venue.specs.Lines.{LineNow, copies, fate_of, held_back, sendings}
use Rattle.harmed_venue.specs.Venues.{Makes}
use Rattle.harmed_venue.proofs.Calling.{makes_as, makes_more, sendings_more}
use Rattle.harmed_venue.proofs.line.HarmedLine.send.Goals as goal

pub returns-clause-makes : goal.returns-clause-makes
returns-clause-makes g c =
    let line : LineNow = c.args.self.now in
    let datagram = c.args.datagram.now in
    let x = g.N.VenueNet.calls c.args.net.now in
    let y = g.N.VenueNet.calls c.send_copies.new.net in
    let z = g.N.VenueNet.calls c.let_go.new.net in
    let drew = c.choose-fate.ensures.drawn in
    let first : Makes x y (sendings line (copies (fate_of line datagram) datagram)) =
    makes_as x y _ _ (ap (λ (l : LineNow). sendings l (copies c.choose-fate.result datagram)) drew ∙ ap (λ (fate : Fate). sendings line (copies fate datagram)) c.choose-fate.ensures.fate) c.send_copies.ensures.makes in
    let second : Makes y z (sendings line (held_back line.held)) =
    makes_as y z _ _ (ap (λ (l : LineNow). sendings l (held_back l.held)) drew) c.let_go.ensures.makes in
    makes_as x z _ _ (sym (sendings_more line (copies (fate_of line datagram) datagram) (held_back line.held)))
    (makes_more x y z (sendings line (copies (fate_of line datagram) datagram)) (sendings line (held_back line.held)) first second)
