-- What a reader of a stream stands for, whatever carries the blocks.
use Rattle.std.proofs.Common.{◌≡◌, ℕ, ◌+◌, ◌≤◌, Bool, true, false, List, [], ◌++◌, length, drop, refl, sym, ap, ◌∙◌, subst, arith, Option, Some, None, length-append, length-drop}
use Rattle.std.specs.Prelude.{option_map}
use Rattle.std.specs.List.{flat_map, count_by}
use Rattle.std.proofs.lemmas.Grind.{flat_map-append}
use Rattle.std.proofs.lemmas.List.{append-nil}
use Rattle.unit_packets.specs.Blocks.{Block}
use Rattle.unit_packets.specs.Causes.{counted}
use Rattle.unit_packets.specs.Cutting.{blocks_of, rest_of, place_of, fault_in, fault_of}
use Rattle.unit_packets.specs.Judging.{judge}
use Rattle.unit_packets.specs.Reading.{Reading}
use Rattle.unit_packets.specs.Pieces.{unread, loaded, passed}
use Rattle.unit_packets.specs.declared.header.BlockError.TheVariants.{Truncated}
use Rattle.unit_packets.specs.declared.header.BlockFault.{BlockFault}
use Rattle.unit_packets.proofs.Cuts.{none_of, appends, rest_short}
use Rattle.unit_packets.proofs.Streams.{judge_nothing, lasting_of, fault_open, fault_stays}
use Rattle.pcap_feed.specs.Capture.{Packet, packets_of, packets_from, left_from, left_of, order_told, order_told_from, capture_place, capture_fault}
use Rattle.pcap_feed.specs.Datagrams.{payloads_in, payloads_of}
use Rattle.pcap_feed.specs.Feeding.{unfed, held_fault}
use Rattle.pcap_feed.specs.declared.fault.CaptureFault.{CaptureFault}
use Rattle.pcap_feed.proofs.Feeding.{goes_on_fault, stands_unfed, no_packets}
use Rattle.pcap_feed.proofs.Files.{grows, fault_lasts}
use Rattle.stream_print.specs.Carriers.{blocks_in, carried_blocks, is_faulty, counts_of, counts_line, with_counts}
use Rattle.stream_print.specs.Counting.{IsCount}
use Rattle.stream_print.specs.Inputs.{lasting_trouble, end_trouble}
use Rattle.stream_print.specs.Printing.{PrintsWhole, PrintsLoaded}
use Rattle.stream_print.specs.Readers.{IsBehindBlocks, IsBehindPackets, HasRead, blocks_with, packets_text}
use Rattle.stream_print.specs.declared.carrier.Carrier.{Carrier}
use Rattle.stream_print.specs.declared.carrier.Carrier.TheVariants.{Bare, Capture}
use Rattle.stream_print.specs.declared.counts.PacketCounts.{PacketCounts}
use Rattle.stream_print.specs.declared.failure.StreamTrouble.{StreamTrouble}
use Rattle.stream_print.specs.declared.failure.StreamTrouble.TheVariants.{Faulty, BadCapture}
use Rattle.stream_print.specs.declared.packets.PacketReader.{PacketReader}
use Rattle.stream_print.specs.declared.printer.Printer.{Printer}
use Rattle.stream_print.specs.declared.reader.StreamReader.{StreamReader}
use Rattle.stream_print.specs.declared.reader.StreamReader.TheVariants.{Blocks, Packets}
use Rattle.stream_print.proofs.Few.{counts_few}

-- ---- Nothing was read
pub behind_none : (r : Reading) → r ≡ unread → IsBehindBlocks r []
behind_none r is =
    let none = none_of [] (Truncated 0 8) judge_nothing in
    record { rest = ap (λ (q : Reading). q.rest) is ∙ sym none.rest; place = ap (λ (q : Reading). q.place) is ∙ omega (arith, ap length none.rest) }

no_counts : (port : Option ℕ) → IsCount port [] (record { packets = 0; used = 0; faulty = 0 })
no_counts port = record { packets_are = omega arith; used_are = omega arith; faulty_are = omega arith }

pub behind_no_packets : (r : PacketReader) (port : Option ℕ) → r ≡ record { reader = unfed; port = port; counts = record { packets = 0; used = 0; faulty = 0 } } → HasRead (Capture port) (Packets r) []
behind_no_packets r port is = subst (λ (q : PacketReader). HasRead (Capture port) (Packets q) []) (sym is) (
  refl,
  record {
    goes_on = stands_unfed.goes_on refl;
    sound = refl;
    counts = subst (λ (ps : List Packet). IsCount port ps (record { packets = 0; used = 0; faulty = 0 })) (sym no_packets) (no_counts port);
  },
)

pub no_blocks : (carrier : Carrier) → carried_blocks carrier [] ≡ []
no_blocks Bare = (none_of [] (Truncated 0 8) judge_nothing).blocks
no_blocks (Capture port) = ap (blocks_in port) no_packets

pub no_trouble : (carrier : Carrier) → lasting_trouble carrier [] ≡ None
no_trouble Bare = ap (option_map Faulty) (fault_open [] (Truncated 0 8) (ap judge (none_of [] (Truncated 0 8) judge_nothing).rest ∙ judge_nothing) refl)
no_trouble (Capture port) = ap (option_map BadCapture) (sym stands_unfed.fault_is)

-- ---- A piece more
pub blocks_append : (port : Option ℕ) (xs ys : List Packet) → blocks_in port (xs ++ ys) ≡ blocks_in port xs ++ blocks_in port ys
blocks_append port xs ys =
    ap (flat_map blocks_of) (flat_map-append (payloads_in port) xs ys) ∙ flat_map-append blocks_of (payloads_of port xs) (payloads_of port ys)

more_packets : (r : PacketReader) (bytes piece : List ℕ) → IsBehindPackets r bytes → packets_from (order_told bytes) (left_of bytes ++ piece) ≡ packets_from r.reader.told (r.reader.rest ++ piece)
more_packets r bytes piece behind =
    ap (λ (t : Option _). packets_from t (left_of bytes ++ piece)) (sym behind.goes_on.told_is)
    ∙ ap (λ (l : List ℕ). packets_from r.reader.told (l ++ piece)) (sym behind.goes_on.rest_is)

-- the blocks that a piece more completes follow those that were complete
pub blocks_split : (carrier : Carrier) (r : StreamReader) (bytes piece : List ℕ) → HasRead carrier r bytes → carried_blocks carrier (bytes ++ piece) ≡ carried_blocks carrier bytes ++ blocks_with r piece
blocks_split Bare (Blocks r) bytes piece read = (appends bytes piece).blocks ∙ ap (λ (l : List ℕ). blocks_of bytes ++ blocks_of (l ++ piece)) (sym read.rest)
blocks_split Bare (Packets r) bytes piece read = absurd read
blocks_split (Capture port) (Blocks r) bytes piece read = absurd read
blocks_split (Capture port) (Packets r) bytes piece (is, behind) =
    let more : List Packet = packets_from r.reader.told (r.reader.rest ++ piece) in
    ap (blocks_in port) ((grows bytes piece).packets ∙ ap (λ (ps : List Packet). packets_of bytes ++ ps) (more_packets r bytes piece behind))
    ∙ blocks_append port (packets_of bytes) more
    ∙ ap (λ (p : Option ℕ). blocks_in port (packets_of bytes) ++ blocks_in p more) (sym is)

-- more bytes carry more blocks behind those of fewer
pub blocks_longer : (carrier : Carrier) (bytes more : List ℕ) → (added : List Block) × (carried_blocks carrier (bytes ++ more) ≡ carried_blocks carrier bytes ++ added)
blocks_longer Bare bytes more = (blocks_of (rest_of bytes ++ more), (appends bytes more).blocks)
blocks_longer (Capture port) bytes more =
    let added : List Packet = packets_from (order_told bytes) (left_of bytes ++ more) in
    (blocks_in port added, ap (blocks_in port) ((grows bytes more).packets) ∙ blocks_append port (packets_of bytes) added)

pub bare_more : (carrier : Carrier) (p p' : Printer) (r t : Reading) (n : ℕ) (w w' : Option (List ℕ)) (bytes piece : List ℕ) → HasRead carrier (Blocks r) bytes → PrintsWhole p p' (r.rest ++ piece) n w w' → t ≡ passed (loaded r piece) n
    → HasRead carrier (Blocks t) (bytes ++ piece)
bare_more (Capture port) p p' r t n w w' bytes piece read whole pass = absurd read
bare_more Bare p p' r t n w w' bytes piece read whole pass =
    let a = appends bytes piece in
    let all : r.rest ++ piece ≡ rest_of bytes ++ piece = ap (λ (l : List ℕ). l ++ piece) read.rest in
    let left : rest_of (bytes ++ piece) ≡ drop n (r.rest ++ piece) = a.rest ∙ ap rest_of (sym all) ∙ whole.rest in
    let place : t.place ≡ counted (r.place + n) = ap (λ (q : Reading). q.place) pass in
    let before = read.place in
    let within = whole.within in
    record {
      rest = ap (λ (q : Reading). q.rest) pass ∙ sym left;
      place = omega (arith, place, before, rest_short bytes, ap length left, length-drop n (r.rest ++ piece), ap length all, length-append (rest_of bytes) piece, length-append bytes piece, within);
    }

-- the same reader with a piece more loaded
abbrev pub with_piece : PacketReader → List ℕ → PacketReader
with_piece r piece = record r { reader = record { told = r.reader.told; place = r.reader.place; rest = r.reader.rest ++ piece; fault = r.reader.fault } }

pub packets_more : (carrier : Carrier) (p p' : Printer) (r t : PacketReader) (w w' : Option (List ℕ)) (bytes piece : List ℕ) → HasRead carrier (Packets r) bytes → PrintsLoaded p p' (with_piece r piece) t w w'
    → HasRead carrier (Packets t) (bytes ++ piece)
packets_more Bare p p' r t w w' bytes piece read all = absurd read
packets_more (Capture port) p p' r t w w' bytes piece (is, behind) all =
    let g = grows bytes piece in
    let on = behind.goes_on in
    let told : order_told (bytes ++ piece) ≡ t.reader.told =
    g.told ∙ ap (λ (o : Option _). order_told_from o (left_of bytes ++ piece)) (sym on.told_is) ∙ ap (λ (l : List ℕ). order_told_from r.reader.told (l ++ piece)) (sym on.rest_is) ∙ sym all.told in
    let left : left_of (bytes ++ piece) ≡ t.reader.rest =
    g.left ∙ ap (λ (o : Option _). left_from o (left_of bytes ++ piece)) (sym on.told_is) ∙ ap (λ (l : List ℕ). left_from r.reader.told (l ++ piece)) (sym on.rest_is) ∙ sym all.rest in
    let packets : packets_of (bytes ++ piece) ≡ packets_of bytes ++ packets_from r.reader.told (r.reader.rest ++ piece) =
    g.packets ∙ ap (λ (ps : List Packet). packets_of bytes ++ ps) (more_packets r bytes piece behind) in
    let counts : IsCount r.port (packets_of bytes ++ packets_from r.reader.told (r.reader.rest ++ piece)) t.counts = all.counts_are (packets_of bytes) behind.counts in
    let place = all.place (capture_place bytes) on.place_is in
    let within = all.within in (
      all.port ∙ is,
      record {
        goes_on = record {
          told_is = sym told;
          rest_is = sym left;
          place_is = omega (arith, place, g.short, ap length on.rest_is, ap length left, within, length-append r.reader.rest piece, length-append bytes piece);
        };
        sound = all.fault ∙ behind.sound;
        counts = subst (λ (ps : List Packet). IsCount t.port ps t.counts) (sym packets) (subst (λ (q : Option ℕ). IsCount q (packets_of bytes ++ packets_from r.reader.told (r.reader.rest ++ piece)) t.counts) (sym all.port) counts);
      },
    )

-- ---- Trouble
bare_lasts : (bytes more : List ℕ) (trouble : StreamTrouble) (o : Option BlockFault) → fault_of bytes ≡ o → option_map Faulty o ≡ Some trouble
    → (lasting_trouble Bare (bytes ++ more) ≡ Some trouble) × (blocks_of (bytes ++ more) ≡ blocks_of bytes)
bare_lasts bytes more trouble None at is = cc
bare_lasts bytes more trouble (Some fault) at is =
    let l = lasting_of (place_of bytes) (rest_of bytes) fault at in
    let s = fault_stays bytes more l.error l.judged l.lasts in
    (ap (option_map Faulty) (s.fault ∙ ap (λ (f : BlockFault). Some f) (sym l.is)) ∙ is, s.blocks)

capture_lasts : (port : Option ℕ) (bytes more : List ℕ) (trouble : StreamTrouble) (o : Option CaptureFault) → capture_fault bytes ≡ o → option_map BadCapture o ≡ Some trouble
    → (lasting_trouble (Capture port) (bytes ++ more) ≡ Some trouble) × (carried_blocks (Capture port) (bytes ++ more) ≡ carried_blocks (Capture port) bytes)
capture_lasts port bytes more trouble None at is = cc
capture_lasts port bytes more trouble (Some fault) at is =
    let l = fault_lasts bytes more fault at in
    (ap (option_map BadCapture) l.fault_is ∙ is, ap (blocks_in port) l.packets)

-- behind a trouble that lasts, more bytes carry no more blocks, and the trouble stays
pub trouble_lasts : (carrier : Carrier) (bytes more : List ℕ) (trouble : StreamTrouble) → lasting_trouble carrier bytes ≡ Some trouble
    → (lasting_trouble carrier (bytes ++ more) ≡ Some trouble) × (carried_blocks carrier (bytes ++ more) ≡ carried_blocks carrier bytes)
trouble_lasts Bare bytes more trouble is = bare_lasts bytes more trouble (fault_of bytes) refl is
trouble_lasts (Capture port) bytes more trouble is = capture_lasts port bytes more trouble (capture_fault bytes) refl is

bare_fault : (ended : Bool) (r : Reading) (bytes : List ℕ) → length bytes ≤ 1073741824 → IsBehindBlocks r bytes → fault_in ended r.place r.rest ≡ fault_in ended (place_of bytes) (rest_of bytes)
bare_fault ended r bytes small behind =
    let place = behind.place in
    let same : r.place ≡ place_of bytes = omega (arith, place, small) in
    ap (λ (p : ℕ). fault_in ended p r.rest) same ∙ ap (fault_in ended (place_of bytes)) behind.rest

pub bare_lasting : (carrier : Carrier) (r : Reading) (bytes : List ℕ) → length bytes ≤ 1073741824 → HasRead carrier (Blocks r) bytes → option_map Faulty (fault_in false r.place r.rest) ≡ lasting_trouble carrier bytes
bare_lasting Bare r bytes small read = ap (option_map Faulty) (bare_fault false r bytes small read)
bare_lasting (Capture port) r bytes small read = absurd read

pub bare_ended : (carrier : Carrier) (r : Reading) (bytes : List ℕ) → length bytes ≤ 1073741824 → HasRead carrier (Blocks r) bytes → option_map Faulty (fault_in true r.place r.rest) ≡ end_trouble carrier bytes
bare_ended Bare r bytes small read = ap (option_map Faulty) (bare_fault true r bytes small read)
bare_ended (Capture port) r bytes small read = absurd read

pub packets_lasting : (carrier : Carrier) (r : PacketReader) (bytes : List ℕ) → HasRead carrier (Packets r) bytes → option_map BadCapture (held_fault false r.reader) ≡ lasting_trouble carrier bytes
packets_lasting Bare r bytes read = absurd read
packets_lasting (Capture port) r bytes (is, behind) = ap (option_map BadCapture) (goes_on_fault false r.reader bytes behind.sound behind.goes_on)

pub packets_ended : (carrier : Carrier) (r : PacketReader) (bytes : List ℕ) → HasRead carrier (Packets r) bytes → option_map BadCapture (held_fault true r.reader) ≡ end_trouble carrier bytes
packets_ended Bare r bytes read = absurd read
packets_ended (Capture port) r bytes (is, behind) = ap (option_map BadCapture) (goes_on_fault true r.reader bytes behind.sound behind.goes_on)

-- ---- The counts
same_counts : (a b : PacketCounts) → a.packets ≡ b.packets → a.used ≡ b.used → a.faulty ≡ b.faulty → a ≡ b
same_counts a b packets used faulty =
    ap (λ (n : ℕ). record { packets = n; used = a.used; faulty = a.faulty }) packets
    ∙ ap (λ (n : ℕ). record { packets = b.packets; used = n; faulty = a.faulty }) used
    ∙ ap (λ (n : ℕ). record { packets = b.packets; used = b.used; faulty = n }) faulty

counted_few : (n m k : ℕ) → n ≡ counted m → m ≤ k → k ≤ 1073741824 → m ≡ n
counted_few n m k is le small = omega (arith, is, le, small)

-- what was counted is the line behind the text
pub counts_are : (carrier : Carrier) (r : StreamReader) (bytes text : List ℕ) → length bytes ≤ 1073741824 → HasRead carrier r bytes → with_counts carrier bytes text ≡ text ++ packets_text r
counts_are Bare (Blocks r) bytes text small read = sym (append-nil text)
counts_are Bare (Packets r) bytes text small read = absurd read
counts_are (Capture port) (Blocks r) bytes text small read = absurd read
counts_are (Capture port) (Packets r) bytes text small (is, behind) =
    let few = counts_few port bytes in
    let counts = subst (λ (q : Option ℕ). IsCount q (packets_of bytes) r.counts) is behind.counts in
    ap (λ (c : PacketCounts). text ++ counts_line c) (same_counts (counts_of port (packets_of bytes)) r.counts
    (counted_few r.counts.packets (length (packets_of bytes)) (length bytes) counts.packets_are few.packets small)
    (counted_few r.counts.used (length (payloads_of port (packets_of bytes))) (length bytes) counts.used_are few.used small)
    (counted_few r.counts.faulty (count_by is_faulty (payloads_of port (packets_of bytes))) (length bytes) counts.faulty_are few.faulty small))

-- something may follow a text
pub counts_behind : (carrier : Carrier) (bytes text : List ℕ) → (more : List ℕ) × (with_counts carrier bytes text ≡ text ++ more)
counts_behind Bare bytes text = ([], sym (append-nil text))
counts_behind (Capture port) bytes text = (counts_line (counts_of port (packets_of bytes)), refl)
