use Rattle.std.proofs.Common.{rules, ◌≤◌, ◌++◌, ℕ, List, length, take, refl, sym, ap, ◌∙◌, subst}
use Rattle.std.proofs.lemmas.List.{take_all}
use Rattle.std.proofs.lemmas.Option.{slice_get_read}
use Rattle.pitch_messages.specs.Room.{Roomy}
use Rattle.unit_packets.specs.Packing.{bytes_in}
use Rattle.live_venue.specs.Sending.{Sending}
use Rattle.live_venue.specs.Standing.{Sends, all_outgoing, each_on}
use Rattle.live_venue.specs.declared.outbox.Batch.{Batch}
use Rattle.live_venue.proofs.Calls.{sends_more, sends_none}
use Rattle.live_venue.proofs.Outgoing.{all_more}
use Rattle.live_venue.proofs.outbox.send_batches.Goals as goal

pub batches-init : goal.batches-init
batches-init g c = record { sent = sends_none (g.N.VenueNet.calls c.args.net.now); still = refl }

pub batches-preserved : goal.batches-preserved
batches-preserved g c =
    let i : ℕ = c.batches.batch-index in
    let batch : Batch = c.batch-item.result in
    let at = slice_get_read c.args.batches.now (length c.args.batches.now) i batch refl (search rules) c.batch-item.is in
    let x = g.N.VenueNet.calls c.args.net.now in
    let y = g.N.VenueNet.calls c.batches.net in
    let z = g.N.VenueNet.calls c.send_each.new.net in
    let before : List Sending = all_outgoing (take i c.args.batches.now) in
    record {
      sent = subst (λ (all : List Sending). Sends x z all)
          (ap (λ (lists : List (Roomy ℕ)). before ++ each_on batch.road (bytes_in lists)) c.as_slice.ensures ∙ sym (all_more c.args.batches.now i batch at))
          (sends_more x y z before (each_on batch.road (bytes_in c.as_slice.result.now)) c.batches.invariant.sent c.send_each.ensures.sends);
      still = c.send_each.ensures.still ∙ c.batches.invariant.still;
    }

pub returns-clause-sends : goal.returns-clause-sends
returns-clause-sends g c =
    let past : length c.args.batches.now ≤ c.batches.batch-index = search rules in
    subst (λ (batches : List Batch). Sends (g.N.VenueNet.calls c.args.net.now) (g.N.VenueNet.calls c.batches.net) (all_outgoing batches))
    (take_all c.batches.batch-index c.args.batches.now past) c.batches.invariant.sent

pub returns-clause-still : goal.returns-clause-still
returns-clause-still g c = c.batches.invariant.still
