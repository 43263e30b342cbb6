use Rattle.std.proofs.Common.{rules, ◌≤◌, ◌++◌, ℕ, List, length, take, refl, sym, ap, ◌∙◌, subst}
use Rattle.std.proofs.lemmas.List.{take_all}
use Rattle.std.proofs.lemmas.Option.{slice_get_read}
use Rattle.pitch_messages.specs.Room.{Roomy}
use Rattle.unit_packets.specs.Packing.{bytes_in}
use Rattle.live_venue.specs.Sending.{Sending}
use Rattle.live_venue.specs.Standing.{Sends, each_on, on_road}
use Rattle.live_venue.proofs.Calls.{sends_more, sends_none}
use Rattle.live_venue.proofs.Outgoing.{each_more}
use Rattle.live_venue.proofs.outbox.Road.send_each.Goals as goal

pub datagrams-init : goal.datagrams-init
datagrams-init g c = record { sent = sends_none (g.N.VenueNet.calls c.args.net.now); still = refl }

pub datagrams-preserved : goal.datagrams-preserved
datagrams-preserved g c =
    let i : ℕ = c.datagrams.datagram-index in
    let at = slice_get_read c.args.datagrams.now (length c.args.datagrams.now) i c.datagram-item.result refl (search rules) c.datagram-item.is in
    let x = g.N.VenueNet.calls c.args.net.now in
    let y = g.N.VenueNet.calls c.datagrams.net in
    let z = g.N.VenueNet.calls c.send.new.net in
    let before : List Sending = each_on c.args.self (bytes_in (take i c.args.datagrams.now)) in
    record {
      sent = subst (λ (all : List Sending). Sends x z all)
          (ap (λ (bytes : List ℕ). before ++ on_road c.args.self bytes) c.bytes.ensures ∙ sym (each_more c.args.self c.args.datagrams.now i c.datagram-item.result at))
          (sends_more x y z before (on_road c.args.self c.bytes.result.now) c.datagrams.invariant.sent c.send.ensures.sends);
      still = c.send.ensures.still ∙ c.datagrams.invariant.still;
    }

pub returns-clause-sends : goal.returns-clause-sends
returns-clause-sends g c =
    let past : length c.args.datagrams.now ≤ c.datagrams.datagram-index = search rules in
    subst (λ (lists : List (Roomy ℕ)). Sends (g.N.VenueNet.calls c.args.net.now) (g.N.VenueNet.calls c.datagrams.net) (each_on c.args.self (bytes_in lists)))
    (take_all c.datagrams.datagram-index c.args.datagrams.now past) c.datagrams.invariant.sent

pub returns-clause-still : goal.returns-clause-still
returns-clause-still g c = c.datagrams.invariant.still
