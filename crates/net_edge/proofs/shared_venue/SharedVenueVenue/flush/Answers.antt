use Rattle.std.proofs.Common.{◌≡◌, ℕ, ◌+◌, List, ◌++◌, length, ◌∙◌, ap, inr, subst, arith}
use Rattle.unit_packets.specs.Packing.{IsPacking, bytes_in, packed}
use Rattle.pitch_model.specs.History.{Raw}
use Rattle.net_edge.specs.Due.{demo_unit}
use Rattle.net_edge.proofs.SharedEnds.{flush_comes, flush_hands}
use Rattle.net_edge.proofs.shared_venue.SharedVenueVenue.flush.Goals as goal

pub pack-requires : goal.pack-requires
pack-requires g c =
    let few = c.in-Some.ensures.0 in
    let many = ap (λ (rs : List Raw). length rs) c.raws.ensures in
    inr (inr (omega (arith, few, many)))

pub returns-clause-comes : goal.returns-clause-comes
returns-clause-comes g c = record {
  comes = λ now is.
      flush_comes c.args.self.now.market c.args.self.now.servers c.args.self.now.unsent.items c.args.self.now.next now is c.truncate.new.self.items c.in-Some.next c.truncate.ensures.items
      (c.in-Some.ensures.1 ∙ ap (λ (n : ℕ). c.args.self.now.next + n) (c.in-Ok.ensures.1 ∙ c.len.ensures.length));
}

pub returns-clause-lines : goal.returns-clause-lines
returns-clause-lines g c = λ now is.
    let lines : List (List ℕ) = bytes_in c.args.lines.now.items in
    let next : ℕ = c.args.self.now.next in
    flush_hands c.args.self.now.market c.args.self.now.servers c.args.self.now.unsent.items next now is c.packed_messages_are_pieces.ensures.packed lines (bytes_in c.pack.new.out.items)
    (subst (λ (rs : List Raw). bytes_in c.pack.new.out.items ≡ lines ++ packed demo_unit next rs) c.raws.ensures c.in_ok-pack.ensures.ok)
    (subst (λ (rs : List Raw). IsPacking demo_unit next rs (packed demo_unit next rs)) c.raws.ensures c.in_ok-pack.ensures.packing)
