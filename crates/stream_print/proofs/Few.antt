-- A capture has no more packets than bytes, nor more datagrams than packets.
use Rattle.std.proofs.Common.{ℕ, zero, suc, ◌≤◌, List, [], ◌∷◌, length, drop, ap, arith, Option, Some, None, Ok, Err, Result, length-append, length-drop}
use Rattle.std.specs.List.{count_by}
use Rattle.std.proofs.lemmas.List.Concat.{flat_map-cons}
use Rattle.std.proofs.lemmas.List.Sums.{count_by-le-length}
use Rattle.pcap_feed.specs.Capture.{Packet, ordered, front_of, packets_on, packets_from, packets_of}
use Rattle.pcap_feed.specs.Datagrams.{span_bytes, payloads_in, payloads_of}
use Rattle.pcap_feed.specs.Payload.{payload}
use Rattle.pcap_feed.specs.Stream.{Front, items_found, items_within_by, items_within}
use Rattle.pcap_feed.specs.declared.fault.ByteOrder.{ByteOrder}
use Rattle.pcap_feed.specs.declared.fault.CaptureError.{CaptureError}
use Rattle.stream_print.specs.Carriers.{is_faulty}

found_few : {I E : Type 0} (more : List ℕ → List I) (n : ℕ) → ((bytes : List ℕ) → length (more bytes) ≤ n) → (bytes : List ℕ) (r : Result (I × ℕ) E) → length (items_found more bytes r) ≤ suc n
found_few more n few bytes (Ok x) = omega (arith, few (drop x.1 bytes))
found_few more n few bytes (Err e) = omega arith

items_few : {I E : Type 0} (front : Front I E) (n : ℕ) (bytes : List ℕ) → length (items_within_by front n bytes) ≤ n
unfolding items_within_by
items_few front zero bytes = omega arith
items_few front (suc n) bytes = found_few (items_within_by front n) n (items_few front n) bytes (front bytes)

packets_few : (bytes : List ℕ) → length (packets_of bytes) ≤ length bytes
unfolding packets_from items_within
packets_few bytes = on (ordered None bytes)
  where
    on : (r : Result ByteOrder CaptureError) → length (packets_on (drop 24 bytes) r) ≤ length bytes
    on (Ok order) = omega (arith, items_few (front_of order) (length (drop 24 bytes)) (drop 24 bytes), length-drop 24 bytes)
    on (Err e) = omega arith

datagrams_few : (port : Option ℕ) (packets : List Packet) → length (payloads_of port packets) ≤ length packets
datagrams_few port [] = omega arith
datagrams_few port (packet ∷ packets) =
    omega (arith, ap length (flat_map-cons (payloads_in port) packet packets), length-append (payloads_in port packet) (payloads_of port packets), one packet.bytes (payload packet port), datagrams_few port packets)
  where
    one : (bytes : List ℕ) (span : Option (ℕ × ℕ)) → length (span_bytes bytes span) ≤ 1
    one bytes None = omega arith
    one bytes (Some span) = omega arith

-- so no count of a stream comes to its end
pub record IsFew (port : Option ℕ) (bytes : List ℕ) : Type 0 where
  pub packets : length (packets_of bytes) ≤ length bytes
  pub used : length (payloads_of port (packets_of bytes)) ≤ length bytes
  pub faulty : count_by is_faulty (payloads_of port (packets_of bytes)) ≤ length bytes

pub counts_few : (port : Option ℕ) (bytes : List ℕ) → IsFew port bytes
counts_few port bytes =
    let packets = packets_few bytes in
    let used = datagrams_few port (packets_of bytes) in
    let faulty = count_by-le-length is_faulty (payloads_of port (packets_of bytes)) in
    record { packets = packets; used = omega (arith, packets, used); faulty = omega (arith, packets, used, faulty) }
