-- What is to be sent: some of it, and one more.
use Rattle.std.proofs.Common.{◌≡◌, ℕ, ◌+◌, List, [], ◌∷◌, ◌++◌, ap, sym, ◌∙◌, take, Some, slice_get}
use Rattle.std.proofs.lemmas.List.{flat_map_more, map-append, take_more}
use Rattle.std.proofs.lemmas.Option.{get_or_from_slice_get, slice_get_within}
use Rattle.pitch_messages.specs.Room.{Roomy}
use Rattle.unit_packets.specs.Packing.{bytes_in}
use Rattle.live_venue.specs.Standing.{all_outgoing, each_on, on_road, outgoing}
use Rattle.live_venue.specs.declared.outbox.Batch.{Batch}
use Rattle.live_venue.specs.declared.outbox.Road.{Road}

take_one : {A : Type 0} (xs : List A) (i : ℕ) (x : A) → slice_get xs i ≡ Some x → take (i + 1) xs ≡ take i xs ++ x ∷ []
take_one {A} xs i x at = take_more xs i x (slice_get_within xs i x at) ∙ ap (λ (y : A). take i xs ++ y ∷ []) (get_or_from_slice_get xs i x x at)

-- one datagram more
pub each_more : (road : Road) (lists : List (Roomy ℕ)) (i : ℕ) (list : Roomy ℕ) → slice_get lists i ≡ Some list → each_on road (bytes_in (take (i + 1) lists)) ≡ each_on road (bytes_in (take i lists)) ++ on_road road list.items
each_more road lists i list at =
    ap (λ (ls : List (Roomy ℕ)). each_on road (bytes_in ls)) (take_one lists i list at)
    ∙ ap (each_on road) (map-append (λ (l : Roomy ℕ). l.items) (take i lists) (list ∷ []))
    ∙ sym (flat_map_more (on_road road) [] (bytes_in (take i lists)) list.items)

-- one batch more
pub all_more : (batches : List Batch) (i : ℕ) (batch : Batch) → slice_get batches i ≡ Some batch → all_outgoing (take (i + 1) batches) ≡ all_outgoing (take i batches) ++ outgoing batch
all_more batches i batch at = ap all_outgoing (take_one batches i batch at) ∙ sym (flat_map_more outgoing [] (take i batches) batch)
