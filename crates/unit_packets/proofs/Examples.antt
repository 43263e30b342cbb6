-- Worked examples of the definitions, computed.
use Rattle.std.proofs.Common.{◌≡◌, [], ◌∷◌, codes, Ok, Err, refl}
use Rattle.std.specs.Fmt.{digits}
use Rattle.pitch_messages.specs.Raw.{raws_of}
use Rattle.unit_packets.specs.declared.header.BlockError.TheVariants.{Truncated, LengthBelowHeader, SequencePast, TinyMessage, MessageOverrun, Spare}
use Rattle.unit_packets.specs.Causes.{fault_text}
use Rattle.unit_packets.specs.Judging.{judge, messages_end}

-- ---- The order of judgement: headers that are wrong in two ways
-- a length of 7, and a second message past the last sequence
length_comes_before_sequence : judge (7 ∷ 0 ∷ 2 ∷ 1 ∷ 0xfe ∷ 0xff ∷ 0xff ∷ 0xff ∷ []) ≡ Err (LengthBelowHeader 7)
unfolding judge
length_comes_before_sequence = refl

-- that message, and a length of 32 where 8 bytes stand
sequence_comes_before_what_is_missing : judge (0x20 ∷ 0 ∷ 2 ∷ 1 ∷ 0xfe ∷ 0xff ∷ 0xff ∷ 0xff ∷ []) ≡ Err (SequencePast 4294967294 2)
unfolding judge
sequence_comes_before_what_is_missing = refl

-- one message has the last sequence, and of a heartbeat none is past it
the_last_sequence : judge (0x0a ∷ 0 ∷ 1 ∷ 1 ∷ 0xfe ∷ 0xff ∷ 0xff ∷ 0xff ∷ 2 ∷ 0x99 ∷ []) ≡ Ok (record { length = 10; count = 1; unit = 1; sequence = 4294967294 })
unfolding judge messages_end raws_of
the_last_sequence = refl

a_heartbeat_after_it : judge (8 ∷ 0 ∷ 0 ∷ 1 ∷ 0xff ∷ 0xff ∷ 0xff ∷ 0xff ∷ []) ≡ Ok (record { length = 8; count = 0; unit = 1; sequence = 4294967295 })
unfolding judge messages_end raws_of
a_heartbeat_after_it = refl

-- no byte is left for the second message
nothing_is_left : judge (0x0a ∷ 0 ∷ 2 ∷ 1 ∷ 1 ∷ 0 ∷ 0 ∷ 0 ∷ 2 ∷ 0x99 ∷ []) ≡ Err (MessageOverrun 10)
unfolding judge messages_end raws_of
nothing_is_left = refl

-- ---- The words of faults, at the block's place and the place inside it
truncated_text : fault_text (record { place = 14; error = Truncated 3 8 }) ≡ codes "byte 14: truncated, has 3 of 8"
unfolding digits
truncated_text = refl

length_text : fault_text (record { place = 14; error = LengthBelowHeader 7 }) ≡ codes "byte 14: length 7 below header"
unfolding digits
length_text = refl

sequence_text : fault_text (record { place = 0; error = SequencePast 4294967294 2 }) ≡ codes "byte 0: sequence 4294967294 count 2 past the last"
unfolding digits
sequence_text = refl

tiny_text : fault_text (record { place = 14; error = TinyMessage 8 1 }) ≡ codes "byte 22: tiny message of length 1"
unfolding digits
tiny_text = refl

overrun_text : fault_text (record { place = 14; error = MessageOverrun 10 }) ≡ codes "byte 24: message overrun"
unfolding digits
overrun_text = refl

spare_text : fault_text (record { place = 14; error = Spare 10 }) ≡ codes "byte 24: spare bytes"
unfolding digits
spare_text = refl
