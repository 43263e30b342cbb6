use Rattle.std.proofs.Common.{◌≡◌, ◌+◌, arith, length, take, ◌-◌}
use Rattle.std.proofs.lemmas.List.{length-take-le}
use Rattle.unit_packets.specs.declared.header.Header.{Header}
use Rattle.unit_packets.proofs.Lent.{lent_body}
use Rattle.unit_packets.proofs.view.view_block.Goals as goal

pub returns-clause-found : goal.returns-clause-found
returns-clause-found c =
    let h : Header = c.in_ok-header.header in
    let f = c.in_ok-header.ensures.found in
    let head = f.block.header in
    let size : length (take h.length c.args.bytes.now) ≡ h.length = length-take-le h.length c.args.bytes.now f.fits in
    let whole : 8 + (h.length - 8) ≡ h.length = omega arith in
    lent_body c.args.bytes.now h (h.length - 8) c.of_block-raws.result f c.in_ok-header.ensures.exact whole c.of_block-raws.ensures
