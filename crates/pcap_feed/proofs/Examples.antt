-- Worked examples, computed by the definitions.
use Rattle.std.proofs.Common.{◌≡◌, ℕ, ◌++◌, List, [], ◌∷◌, refl, Some, None}
use Rattle.pcap_feed.specs.Stream.{items_within, items_within_by}
use Rattle.pcap_feed.specs.Capture.{judge_head, judge_record, front_of, packets_from, left_from, order_told_from, packets_of, capture_fault, capture_end_fault}
use Rattle.pcap_feed.specs.Payload.{payload, in_frame, in_ip, in_udp}
use Rattle.pcap_feed.specs.Datagrams.{payloads_of}
use Rattle.pcap_feed.specs.declared.fault.CaptureError.TheVariants.{Truncated, BadMagic}

-- a file of one packet, which carries a block of one time message to port 30,001
abbrev little_head : List ℕ
little_head = 0xd4 ∷ 0xc3 ∷ 0xb2 ∷ 0xa1 ∷ 2 ∷ 0 ∷ 4 ∷ 0 ∷ 0 ∷ 0 ∷ 0 ∷ 0 ∷ 0 ∷ 0 ∷ 0 ∷ 0 ∷ 0 ∷ 0 ∷ 4 ∷ 0 ∷ 1 ∷ 0 ∷ 0 ∷ 0 ∷ []

abbrev record_head : List ℕ
record_head = 0 ∷ 0 ∷ 0 ∷ 0 ∷ 0 ∷ 0 ∷ 0 ∷ 0 ∷ 0x3c ∷ 0 ∷ 0 ∷ 0 ∷ 0x3c ∷ 0 ∷ 0 ∷ 0 ∷ []

abbrev time_block : List ℕ
time_block = 0x0e ∷ 0 ∷ 1 ∷ 1 ∷ 1 ∷ 0 ∷ 0 ∷ 0 ∷ 6 ∷ 0x20 ∷ 0x98 ∷ 0x85 ∷ 0 ∷ 0 ∷ []

abbrev time_frame : List ℕ
time_frame = 1 ∷ 0 ∷ 0x5e ∷ 0 ∷ 0 ∷ 1 ∷ 2 ∷ 0 ∷ 0 ∷ 0 ∷ 0 ∷ 1 ∷ 8 ∷ 0
    ∷ 0x45 ∷ 0 ∷ 0 ∷ 0x2a ∷ 0 ∷ 0 ∷ 0 ∷ 0 ∷ 0x40 ∷ 0x11 ∷ 0 ∷ 0 ∷ 0x0a ∷ 0 ∷ 0 ∷ 1 ∷ 0xe0 ∷ 0 ∷ 0 ∷ 1
    ∷ 0x13 ∷ 0x88 ∷ 0x75 ∷ 0x31 ∷ 0 ∷ 0x16 ∷ 0 ∷ 0 ∷ (time_block ++ 0 ∷ 0 ∷ 0 ∷ 0 ∷ [])

one_packet_stands : packets_of (little_head ++ record_head ++ time_frame) ≡ record { seconds = 0; fraction = 0; original = 60; bytes = time_frame } ∷ []
unfolding packets_from items_within items_within_by front_of judge_record judge_head
one_packet_stands = refl

it_carries_the_block : payloads_of None (record { seconds = 0; fraction = 0; original = 60; bytes = time_frame } ∷ []) ≡ time_block ∷ []
unfolding payload in_frame in_ip in_udp
it_carries_the_block = refl

of_its_port : payloads_of (Some 30001) (record { seconds = 0; fraction = 0; original = 60; bytes = time_frame } ∷ []) ≡ time_block ∷ []
unfolding payload in_frame in_ip in_udp
of_its_port = refl

not_of_another_port : payloads_of (Some 30002) (record { seconds = 0; fraction = 0; original = 60; bytes = time_frame } ∷ []) ≡ []
unfolding payload in_frame in_ip in_udp
not_of_another_port = refl

-- no bytes, and the magic of another format
empty_file_is_cut_off : capture_end_fault [] ≡ Some (record { place = 0; error = Truncated 0 24 })
unfolding judge_head left_from order_told_from
empty_file_is_cut_off = refl

other_magic_is_none : capture_fault (0x0a ∷ 0x0d ∷ 0x0d ∷ 0x0a ∷ 0 ∷ 0 ∷ 0 ∷ 0 ∷ 0 ∷ 0 ∷ 0 ∷ 0 ∷ 0 ∷ 0 ∷ 0 ∷ 0 ∷ 0 ∷ 0 ∷ 0 ∷ 0 ∷ 0 ∷ 0 ∷ 0 ∷ 0 ∷ [])
    ≡ Some (record { place = 0; error = BadMagic (0x0a ∷ 0x0d ∷ 0x0d ∷ 0x0a ∷ []) })
unfolding judge_head left_from order_told_from
other_magic_is_none = refl

-- ---- Frames that carry nothing
-- the same packet with other flags and another protocol, behind other types
abbrev packet_of : ℕ → ℕ → List ℕ
packet_of flags protocol =
    0x45 ∷ 0 ∷ 0 ∷ 0x2a ∷ 0 ∷ 0 ∷ flags ∷ 0 ∷ 0x40 ∷ protocol ∷ 0 ∷ 0 ∷ 0x0a ∷ 0 ∷ 0 ∷ 1 ∷ 0xe0 ∷ 0 ∷ 0 ∷ 1
    ∷ 0x13 ∷ 0x88 ∷ 0x75 ∷ 0x31 ∷ 0 ∷ 0x16 ∷ 0 ∷ 0 ∷ time_block

abbrev frame_of : List ℕ → List ℕ → List ℕ
frame_of types packet = (1 ∷ 0 ∷ 0x5e ∷ 0 ∷ 0 ∷ 1 ∷ 2 ∷ 0 ∷ 0 ∷ 0 ∷ 0 ∷ 1 ∷ []) ++ types ++ packet

abbrev carried_by : ℕ → List ℕ → List (List ℕ)
carried_by original frame = payloads_of None (record { seconds = 0; fraction = 0; original = original; bytes = frame } ∷ [])

a_packet_that_may_not_be_parted : carried_by 56 (frame_of (8 ∷ 0 ∷ []) (packet_of 0x40 17)) ≡ time_block ∷ []
unfolding payload in_frame in_ip in_udp
a_packet_that_may_not_be_parted = refl

not_a_first_fragment : carried_by 56 (frame_of (8 ∷ 0 ∷ []) (packet_of 0x20 17)) ≡ []
unfolding payload in_frame in_ip in_udp
not_a_first_fragment = refl

not_of_another_protocol : carried_by 56 (frame_of (8 ∷ 0 ∷ []) (packet_of 0 6)) ≡ []
unfolding payload in_frame in_ip in_udp
not_of_another_protocol = refl

behind_a_tag : carried_by 60 (frame_of (0x81 ∷ 0 ∷ 0 ∷ 1 ∷ 8 ∷ 0 ∷ []) (packet_of 0 17)) ≡ time_block ∷ []
unfolding payload in_frame in_ip in_udp
behind_a_tag = refl

not_behind_another : carried_by 60 (frame_of (0x88 ∷ 0xa8 ∷ 0 ∷ 1 ∷ 8 ∷ 0 ∷ []) (packet_of 0 17)) ≡ []
unfolding payload in_frame in_ip in_udp
not_behind_another = refl

not_where_it_is_cut_off : carried_by 57 (frame_of (8 ∷ 0 ∷ []) (packet_of 0 17)) ≡ []
unfolding payload in_frame in_ip in_udp
not_where_it_is_cut_off = refl

-- ---- Packets with options, later fragments, and lengths that do not fit
-- the first byte, the total length, the low byte of the fragment offset, the options, and the length
-- of the UDP datagram
abbrev packet_by : ℕ → ℕ → ℕ → List ℕ → ℕ → List ℕ
packet_by first total part options size =
    first ∷ 0 ∷ 0 ∷ total ∷ 0 ∷ 0 ∷ 0 ∷ part ∷ 0x40 ∷ 17 ∷ 0 ∷ 0 ∷ 0x0a ∷ 0 ∷ 0 ∷ 1 ∷ 0xe0 ∷ 0 ∷ 0 ∷ 1 ∷ []
    ++ (options ++ (0x13 ∷ 0x88 ∷ 0x75 ∷ 0x31 ∷ 0 ∷ size ∷ 0 ∷ 0 ∷ time_block))

behind_options : carried_by 60 (frame_of (8 ∷ 0 ∷ []) (packet_by 0x46 0x2e 0 (1 ∷ 1 ∷ 1 ∷ 0 ∷ []) 0x16)) ≡ time_block ∷ []
unfolding payload in_frame in_ip in_udp
behind_options = refl

not_a_last_fragment : carried_by 56 (frame_of (8 ∷ 0 ∷ []) (packet_by 0x45 0x2a 1 [] 0x16)) ≡ []
unfolding payload in_frame in_ip in_udp
not_a_last_fragment = refl

not_of_version_6 : carried_by 56 (frame_of (8 ∷ 0 ∷ []) (packet_by 0x65 0x2a 0 [] 0x16)) ≡ []
unfolding payload in_frame in_ip in_udp
not_of_version_6 = refl

not_behind_a_short_header : carried_by 56 (frame_of (8 ∷ 0 ∷ []) (packet_by 0x44 0x2a 0 [] 0x16)) ≡ []
unfolding payload in_frame in_ip in_udp
not_behind_a_short_header = refl

not_past_its_frame : carried_by 56 (frame_of (8 ∷ 0 ∷ []) (packet_by 0x45 0x2b 0 [] 0x16)) ≡ []
unfolding payload in_frame in_ip in_udp
not_past_its_frame = refl

-- a datagram of a byte more than its packet has, though the frame has one
not_past_its_packet : carried_by 56 (frame_of (8 ∷ 0 ∷ []) (packet_by 0x45 0x29 0 [] 0x16)) ≡ []
unfolding payload in_frame in_ip in_udp
not_past_its_packet = refl

not_shorter_than_its_header : carried_by 56 (frame_of (8 ∷ 0 ∷ []) (packet_by 0x45 0x2a 0 [] 7)) ≡ []
unfolding payload in_frame in_ip in_udp
not_shorter_than_its_header = refl

-- one without bytes is carried all the same
one_without_bytes : carried_by 56 (frame_of (8 ∷ 0 ∷ []) (packet_by 0x45 0x2a 0 [] 8)) ≡ [] ∷ []
unfolding payload in_frame in_ip in_udp
one_without_bytes = refl
