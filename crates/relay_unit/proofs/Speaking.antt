-- A venue of which a history speaks after a block is one of which it spoke before.
use Rattle.std.proofs.Common.{ℕ, Bool, true, false, cond, List, [], ◌∷◌, ◌==◌}
use Rattle.unit_packets.specs.Blocks.{Block}
use Rattle.pitch_model.specs.History.{Entry, Raw}
use Rattle.pitch_model.specs.Honest.{Honest}
use Rattle.heard_items.specs.Heard.{heard_sequenced}
use Rattle.heard_items.proofs.Honesty.{honest_before}
use Rattle.relay_unit.specs.Hearing.{heard_session, heard_merged, relay_heard}
use Rattle.client_core.specs.Venues.{IsVenue}
use Rattle.client_core.proofs.Venues.{venue_by}
use Rattle.relay_unit.proofs.Along.{honest_session}

honest_sequenced : (Image : List Raw → ℕ → List Raw) (V : List Raw) (sequence : ℕ) (raws : List Raw) (E : List Entry) → Honest Image V (heard_sequenced sequence raws E) → Honest Image V E
honest_sequenced Image V sequence [] E h = h.1
honest_sequenced Image V sequence (raw ∷ raws) E h = honest_before Image V sequence (raw ∷ raws) E h

honest_merged : (Image : List Raw → ℕ → List Raw) (V : List Raw) (block : Block) (E : List Entry) → Honest Image V (heard_merged block E) → Honest Image V E
honest_merged Image V block E = by (block.sequence == 0)
  where
    by : (b : Bool) → Honest Image V (cond b (heard_session block.raws E) (heard_sequenced block.sequence block.raws E)) → Honest Image V E
    by true h = honest_session Image V block.raws E h
    by false h = honest_sequenced Image V block.sequence block.raws E h

-- before the tick
pub venue_ticked : (H : ℕ) (V : List Raw) (block : Block) (E : List Entry) → IsVenue V (relay_heard H block E) → IsVenue V (heard_merged block E)
venue_ticked H V block E = venue_by V (relay_heard H block E) (heard_merged block E) (λ Image h. h.1)

-- before the block
pub venue_before : (H : ℕ) (V : List Raw) (block : Block) (E : List Entry) → IsVenue V (relay_heard H block E) → IsVenue V E
venue_before H V block E = venue_by V (relay_heard H block E) E (λ Image h. honest_merged Image V block E h.1)
