-- The words for what is wrong with a capture file.
use Rattle.std.specs.Prelude.{ℕ, ◌/◌, ◌%◌, false, List, ◌++◌, slice_index, codes, decimal}
use Rattle.std.specs.Fmt.{digits}
use Rattle.pcap_feed.specs.declared.fault.CaptureError.{CaptureError}
use Rattle.pcap_feed.specs.declared.fault.CaptureError.TheVariants.{Truncated, BadMagic, BadVersion}
use Rattle.pcap_feed.specs.declared.fault.CaptureError.TheVariants.{BadLink, LongRecord}
use Rattle.pcap_feed.specs.declared.fault.CaptureFault.{CaptureFault}

-- a byte by two hexadecimal digits, in lower case
abbrev pub byte_in_hex : ℕ → List ℕ
byte_in_hex byte = digits 16 false (byte / 16) ++ digits 16 false (byte % 16)

abbrev pub capture_cause_text : CaptureError → List ℕ
capture_cause_text (Truncated has needs) =
    codes "truncated, has " ++ (decimal has ++ (codes " of " ++ decimal needs))
capture_cause_text (BadMagic magic) =
    codes "magic " ++ (byte_in_hex (slice_index magic 0)
    ++ (byte_in_hex (slice_index magic 1) ++ (byte_in_hex (slice_index magic 2)
    ++ (byte_in_hex (slice_index magic 3) ++ codes " is no classic capture"))))
capture_cause_text (BadVersion major) = codes "version " ++ decimal major
capture_cause_text (BadLink link) = codes "link type " ++ decimal link
capture_cause_text (LongRecord length) = codes "record of length " ++ decimal length

abbrev pub capture_fault_text : CaptureFault → List ℕ
capture_fault_text fault =
    codes "byte " ++ (decimal fault.place ++ (codes ": " ++ capture_cause_text fault.error))
