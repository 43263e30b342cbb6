use Rattle.std.proofs.Common.{◌≡◌, ℕ, List, [], drop, ap, sym, subst}
use Rattle.pitch_messages.proofs.Chains.{no_raws}
use Rattle.unit_packets.specs.Pushing.{Packing, HasPacked}
use Rattle.unit_packets.specs.layers.Packings.{unpacked}
use Rattle.unit_packets.proofs.Beginning.{none_begun, seen}
use Rattle.unit_packets.proofs.Packs.{packed_none}
use Rattle.unit_packets.proofs.packer.Packer.make.Goals as goal

pub invariant_of-result : goal.invariant_of-result
invariant_of-result c = none_begun _ _ c.new.ensures.items

view_is : (unit first : ℕ) (bytes : List ℕ) → seen unit first 0 bytes ≡ unpacked unit first
view_is unit first bytes = ap (λ (rs : List (List ℕ)). record { unit = unit; sequence = first; begun = rs }) (no_raws (drop 8 bytes))

pub returns-clause-new : goal.returns-clause-new
returns-clause-new c = view_is c.args.unit c.args.first c.new.result.items

pub returns-clause-packed : goal.returns-clause-packed
returns-clause-packed c = subst (λ (p : Packing). HasPacked p c.args.unit c.args.first [] []) (sym (view_is c.args.unit c.args.first c.new.result.items)) (packed_none c.args.unit c.args.first)
